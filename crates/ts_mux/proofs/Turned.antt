-- Services in rotation: which has its turn, and what it leaves.
use Rattle.std.proofs.Common.{◌≡◌, ℕ, zero, suc, ◌+◌, ◌-◌, ◌<◌, ◌≤◌, Bool, true, false, cond, ltb, List, [], ◌∷◌, length, map, get_or, refl, sym, ap, ◌∙◌, arith, Option, Some, None, subst}
use Rattle.std.specs.Prelude.{find, slice_index, slice_index_or, is_some, IsSome}
use Rattle.std.specs.List.{range_with_len}
use Rattle.std.specs.Option.{option_or}
use Rattle.std.proofs.lemmas.List.{length-map}
use Rattle.std.proofs.lemmas.List.Folds.{find-append}
use Rattle.ts_spec.specs.Packet.{PacketFields}
use Rattle.slice_spec.specs.Windows.{OwnedWindow}
use Rattle.stream_spec.specs.Slots.{asked, Turns}
use Rattle.stream_spec.specs.Parts.{packet_counts}
use Rattle.stream_law.proofs.Next.{has_turn, none_has_turn}
use Rattle.stream_law.proofs.Carrying.{count_of}
use Rattle.ts_mux.specs.Services.{turns_in_service, packet_total, has_packets, Serving, serving_of, turn_of}
use Rattle.ts_mux.specs.declared.service_packets.ServicePackets.{ServicePackets}

-- the first of some numbers is asked
pub find_next : (p : ℕ → Bool) (k to : ℕ) → k < to → p k ≡ false → find p (range_with_len k (to - k)) ≡ find p (range_with_len (k + 1) (to - (k + 1)))
find_next p k to less none =
    let size : to - k ≡ suc (to - (k + 1)) = omega (arith, less) in
    ap (λ (n : ℕ). find p (range_with_len k n)) size ∙ ap (λ (b : Bool). cond b (Some k) (find p (range_with_len (k + 1) (to - (k + 1))))) none

pub find_here : (p : ℕ → Bool) (k to : ℕ) → k < to → p k ≡ true → find p (range_with_len k (to - k)) ≡ Some k
find_here p k to less is =
    let size : to - k ≡ suc (to - (k + 1)) = omega (arith, less) in
    ap (λ (n : ℕ). find p (range_with_len k n)) size ∙ ap (λ (b : Bool). cond b (Some k) (find p (range_with_len (k + 1) (to - (k + 1))))) is

-- the packets of the service at a place
pub service_at : (services : List ServicePackets) (k : ℕ) (service : ServicePackets) → k < length services → service ≡ get_or services k service → slice_index_or (map turns_in_service services) k [] ≡ turns_in_service service
service_at [] k service less is = absurd (omega (arith, less))
service_at (first ∷ services) zero service less is = ap turns_in_service (sym is)
service_at (first ∷ services) (suc k) service less is = service_at services k service (omega (arith, less)) is

pub has_there : (services : List ServicePackets) (k : ℕ) (service : ServicePackets) → k < length services → service ≡ get_or services k service → has_packets (map turns_in_service services) k ≡ ltb 0 (length (turns_in_service service))
has_there services k service less is =
    ap (λ (n : ℕ). ltb 0 n) (count_of (map turns_in_service services) k ∙ ap (λ (ps : List PacketFields). length ps) (service_at services k service less is))

-- one service has no more packets than all
pub total_at : (services : List (List PacketFields)) (k : ℕ) → length (slice_index_or services k []) ≤ packet_total services
total_at [] k = omega arith
total_at (packets ∷ services) zero = omega arith
total_at (packets ∷ services) (suc k) = omega (arith, total_at services k)

module _ (services : List (List PacketFields)) (first : ℕ) (le : first ≤ length services) where
  abbrev counts : List ℕ
  counts = packet_counts services

  abbrev as_turns : Turns
  as_turns = record { sent = []; first = first }

  sized : first ≤ length counts
  sized = omega (arith, le, length-map services (λ (packets : List PacketFields). length packets))

  -- those asked first, and then the others
  pub asked_in_two : find (has_packets services) (asked (length counts) first)
      ≡ option_or (find (has_packets services) (range_with_len first (length services - first))) (find (has_packets services) (range_with_len 0 first))
  asked_in_two =
      find-append (has_packets services) (range_with_len first (length counts - first)) (range_with_len 0 first)
      ∙ ap (λ (n : ℕ). option_or (find (has_packets services) (range_with_len first (n - first))) (find (has_packets services) (range_with_len 0 first)))
      (length-map services (λ (packets : List PacketFields). length packets))

  pub found_has : (k : ℕ) → find (has_packets services) (asked (length counts) first) ≡ Some k → (k < length services) × (0 < length (slice_index_or services k []))
  found_has k e =
      let found : (0 < slice_index counts k) × (k < length counts) = has_turn counts as_turns k sized e in
      (omega (arith, found.1, length-map services (λ (packets : List PacketFields). length packets)), omega (arith, found.0, count_of services k))

  -- where none has packets left, none are left
  pub some_asked : 0 < packet_total services → IsSome (find (has_packets services) (asked (length counts) first))
  some_asked some = by_turn (find (has_packets services) (asked (length counts) first)) refl
    where
      none_left : (lists : List (List PacketFields)) → ((k : ℕ) → k < length (packet_counts lists) → slice_index (packet_counts lists) k ≤ 0) → packet_total lists ≡ 0
      none_left [] none = refl
      none_left (packets ∷ lists) none = omega (arith, none 0 (omega arith), none_left lists (λ k less. none (suc k) (omega (arith, less))))

      by_turn : (turn : Option ℕ) → find (has_packets services) (asked (length counts) first) ≡ turn → IsSome turn
      by_turn (Some k) e = refl
      by_turn None e = absurd (omega (arith, some, none_left services (λ k less. none_has_turn counts as_turns k sized e less)))

-- whose turn it is, of services whose first and whose others were looked through
pub turn_two : (items seen : List ServicePackets) (windows : List OwnedWindow) (first count : ℕ) (found rest : Option ℕ) → seen ≡ items → count ≡ length items → first ≤ length items
    → found ≡ find (has_packets (map turns_in_service seen)) (range_with_len first (count - first))
    → rest ≡ find (has_packets (map turns_in_service items)) (range_with_len 0 first)
    → turn_of (serving_of items windows first) ≡ option_or found rest
turn_two items seen windows first count found rest same size le found_is rest_is =
    asked_in_two (map turns_in_service items) first (omega (arith, le, length-map items turns_in_service))
    ∙ ap (λ (n : ℕ). option_or (find (has_packets (map turns_in_service items)) (range_with_len first (n - first))) (find (has_packets (map turns_in_service items)) (range_with_len 0 first)))
    (length-map items turns_in_service ∙ sym size)
    ∙ ap (λ (o : Option ℕ). option_or o (find (has_packets (map turns_in_service items)) (range_with_len 0 first)))
    (ap (λ (ls : List ServicePackets). find (has_packets (map turns_in_service ls)) (range_with_len first (count - first))) (sym same) ∙ sym found_is)
    ∙ ap (λ (o : Option ℕ). option_or found o) (sym rest_is)

-- what is known of the turn
pub record IsTurn (serving : Serving) (turn : Option ℕ) : Type 0 where
  pub read : turn ≡ turn_of serving
  pub left : ltb 0 (packet_total serving.turns) ≡ is_some turn

pub is_turn : (serving : Serving) (turn : Option ℕ) → serving.first ≤ length serving.turns → turn_of serving ≡ turn → IsTurn serving turn
is_turn serving turn le e = record { read = sym e; left = by_turn turn e }
  where
    total : ℕ
    total = packet_total serving.turns

    some_so : (n : ℕ) → 0 < n → ltb 0 n ≡ true
    some_so n less = grind (arith, less)

    so_some : (n : ℕ) → ltb 0 n ≡ true → 0 < n
    so_some n e2 = grind (arith, e2)

    by_turn : (o : Option ℕ) → turn_of serving ≡ o → ltb 0 total ≡ is_some o
    by_turn (Some k) e2 = some_so total (omega (arith, (found_has serving.turns serving.first le k e2).1, total_at serving.turns k))
    by_turn None e2 = by_left (ltb 0 total) refl
      where
        nothing : Option ℕ
        nothing = None

        none_found : IsSome nothing → ⊥
        none_found e3 = cc

        by_left : (left : Bool) → ltb 0 total ≡ left → left ≡ false
        by_left false e3 = refl
        by_left true e3 = absurd (none_found (subst (λ (o : Option ℕ). IsSome o) e2 (some_asked serving.turns serving.first le (so_some total e3))))

-- the service whose turn it is has packets left
pub turn_has : (serving : Serving) (turn : ℕ) → serving.first ≤ length serving.turns → turn_of serving ≡ Some turn → (turn < length serving.turns) × (0 < length (slice_index_or serving.turns turn []))
turn_has serving turn le e = found_has serving.turns serving.first le turn e
