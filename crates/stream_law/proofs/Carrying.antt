-- What the slots of a part carry: packets that its services have.
use Rattle.std.proofs.Common.{◌≡◌, ◌⊎◌, inl, inr, ℕ, zero, suc, ◌+◌, ◌*◌, ◌/◌, ◌%◌, ◌<◌, ◌≤◌, Bool, true, false, cond, ltb, get_or, List, [], ◌∷◌, length, map, take, sum, refl, sym, ap, ap₂, ◌∙◌, arith, Option, Some, None}
use Rattle.std.specs.Prelude.{slice_index, slice_index_or, is_some, sum_by}
use Rattle.std.specs.List.{range_with_len}
use Rattle.std.specs.Option.{option_or}
use Rattle.std.proofs.lemmas.Bool.{cases_lt}
use Rattle.std.proofs.lemmas.Nat.{div-mul-add, mod-mul-add}
use Rattle.std.proofs.lemmas.List.{length-map, get_or_past}
use Rattle.std.proofs.lemmas.List.Sums.{sum_by-cons}
use Rattle.ts_spec.specs.Packet.{PacketFields}
use Rattle.slice_spec.specs.Windows.{owner_of}
use Rattle.slice_law.specs.Kept.{AreWithin}
use Rattle.slice_law.proofs.After.{leaves, keeps_none}
use Rattle.plan_spec.specs.Plan.{KindFields, mpe, ServiceFields, kinds, sliced_of}
use Rattle.plan_spec.specs.Signalling.{table_packets}
use Rattle.stream_spec.specs.Services.{kind_at}
use Rattle.stream_spec.specs.Slots.{Slot, of_table, of_service, empty}
use Rattle.stream_spec.specs.Windows.{windows_of, out_before, of_owner}
use Rattle.stream_spec.specs.Units.{FrameSchedule, burst_sizes}
use Rattle.stream_spec.specs.Parts.{PartFields, packets_from, service_packets, packet_counts, turn_count, turn_counts, sizes_in, kept_in, slot_in}
use Rattle.stream_law.proofs.Ranges.{sum_next}
use Rattle.stream_law.proofs.Next.{true_ltb}
use Rattle.stream_law.proofs.Turns.{carried_there}
use Rattle.stream_law.proofs.Ends.{LeavesSlots}
use Rattle.stream_law.proofs.Sent.{packets_at}
use Rattle.stream_law.proofs.KindPackets.{bursts_within}
use Rattle.stream_spec.proofs.Over.{KeepsNoneFrom}

pub length-packets_from : (before : ℕ → ℕ) (schedules : ℕ → FrameSchedule) (datagrams : ℕ → List (List ℕ)) (i : ℕ) (services : List ServiceFields)
    → length (packets_from i services before schedules datagrams) ≡ length services
length-packets_from before schedules datagrams i [] = refl
length-packets_from before schedules datagrams i (service ∷ services) = ap suc (length-packets_from before schedules datagrams (i + 1) services)

-- how many packets a service has
pub count_of : (lists : List (List PacketFields)) (j : ℕ) → slice_index (packet_counts lists) j ≡ length (slice_index_or lists j [])
count_of [] j = refl
count_of (list ∷ lists) zero = refl
count_of (list ∷ lists) (suc j) = count_of lists j

-- and how many of them go out in rotation
pub turn_at : (all : List KindFields) (lists : List (List PacketFields)) (j : ℕ) → length all ≡ length lists
    → slice_index (turn_counts all lists) j ≡ turn_count (is_some (sliced_of (get_or all j (mpe 0)))) (slice_index_or lists j [])
turn_at [] [] j same = refl
turn_at [] (list ∷ lists) j same = absurd (omega (arith, same))
turn_at (kind ∷ all) [] j same = absurd (omega (arith, same))
turn_at (kind ∷ all) (list ∷ lists) zero same = refl
turn_at (kind ∷ all) (list ∷ lists) (suc j) same = turn_at all lists j (omega (arith, same))

pub length-turns : (all : List KindFields) (lists : List (List PacketFields)) → length all ≡ length lists → length (turn_counts all lists) ≡ length lists
length-turns [] [] same = refl
length-turns [] (list ∷ lists) same = absurd (omega (arith, same))
length-turns (kind ∷ all) [] same = absurd (omega (arith, same))
length-turns (kind ∷ all) (list ∷ lists) same = ap suc (length-turns all lists (omega (arith, same)))

turns_within : (is_sliced : Bool) (packets : List PacketFields) → turn_count is_sliced packets ≤ length packets
turns_within true packets = omega arith
turns_within false packets = omega arith

-- a packet of a burst is one of all bursts
pub out_below : (sizes : List ℕ) (c n : ℕ) → n < slice_index sizes c → out_before sizes c + n < sum sizes
out_below [] c n less = absurd (omega (arith, less))
out_below (x ∷ xs) zero n less = omega (arith, sum_by-cons (λ (m : ℕ). m) x xs, less)
out_below (x ∷ xs) (suc c) n less =
    omega (arith, sum_by-cons (λ (m : ℕ). m) x xs, sum_by-cons (λ (m : ℕ). m) x (take c xs), out_below xs c n less)

-- one of several numbers is not more than their sum
sum_has : (f : ℕ → ℕ) (n k : ℕ) → k < n → f k ≤ sum_by f (range_with_len 0 n)
sum_has f zero k less = absurd (omega (arith, less))
sum_has f (suc n) k less = by_place (cases_lt k n) (λ low. sum_has f n k low)
  where
    one : suc n ≡ n + 1
    one = omega arith

    by_place : (k < n) ⊎ (n ≤ k) → (k < n → f k ≤ sum_by f (range_with_len 0 n)) → f k ≤ sum_by f (range_with_len 0 (suc n))
    by_place (inl low) later = omega (arith, later low, sum_next f n, ap (λ (m : ℕ). sum_by f (range_with_len 0 m)) one)
    by_place (inr high) later =
        let here : k ≡ n = omega (arith, high, less) in
        omega (arith, ap f here, sum_next f n, ap (λ (m : ℕ). sum_by f (range_with_len 0 m)) one)

module _ (part : PartFields) where
  abbrev services : List (List PacketFields)
  services = service_packets part

  pub same_length : length (kinds part.plan) ≡ length (service_packets part)
  same_length =
      length-map part.plan.services (λ (service : ServiceFields). service.kind)
      ∙ sym (length-packets_from part.packets_before part.schedules part.datagrams 0 part.plan.services)

  -- a service that is not there has no bursts
  pub no_sizes : (j : ℕ) → length part.plan.services ≤ j → sizes_in part j ≡ []
  no_sizes j past = ap (λ (kind : KindFields). burst_sizes kind (part.datagrams j)) (get_or_past (kinds part.plan) j (mpe 0) (omega (arith, past, length-map part.plan.services (λ (service : ServiceFields). service.kind))))

  -- the slots of a part are kept for the INT, and for bursts in so many cycles
  abbrev pub cycles_of : ℕ
  cycles_of = sum_by (λ k. length (sizes_in part k)) (range_with_len 0 (length part.plan.services))

  pub within_cycles : AreWithin cycles_of (sizes_in part)
  within_cycles k = by_place (cases_lt k (length part.plan.services))
    where
      by_place : (k < length part.plan.services) ⊎ (length part.plan.services ≤ k) → length (sizes_in part k) ≤ cycles_of
      by_place (inl known) = sum_has (λ j. length (sizes_in part j)) (length part.plan.services) k known
      by_place (inr past) = omega (arith, ap (λ (l : List ℕ). length l) (no_sizes k past))

  module _ (less : table_packets part.plan < part.plan.cycle) where
    pub leaves_slots : LeavesSlots (kept_in part)
    leaves_slots = leaves part.plan.cycle (table_packets part.plan) (windows_of part.plan) (sizes_in part) cycles_of within_cycles less

    -- after them only the slots of the INT are kept
    pub free_after : (c o : ℕ) → cycles_of ≤ c → table_packets part.plan ≤ o → o < part.plan.cycle → kept_in part (c * part.plan.cycle + o) ≡ None
    free_after c o late from below =
        ap₂ (λ (q r : ℕ). option_or (cond (ltb r (table_packets part.plan)) (Some (of_table r)) None) (of_owner (sizes_in part) q (owner_of (windows_of part.plan) r)))
        (div-mul-add c part.plan.cycle o below) (mod-mul-add c part.plan.cycle o below)
        ∙ ap (λ (b : Bool). option_or (cond b (Some (of_table o)) None) (of_owner (sizes_in part) c (owner_of (windows_of part.plan) o))) past
        ∙ none_in (owner_of (windows_of part.plan) o)
      where
        past : ltb o (table_packets part.plan) ≡ false
        past = grind (arith, from)

        no_burst : (k n : ℕ) → ltb n (slice_index (sizes_in part k) c) ≡ false
        no_burst k n = not_less n (slice_index (sizes_in part k) c) (get_or_past (sizes_in part k) c 0 (omega (arith, within_cycles k, late)))
          where
            not_less : (a b : ℕ) → b ≡ 0 → ltb a b ≡ false
            not_less a b e = grind (arith, e)

        none_in : (owner : Option (ℕ × ℕ)) → of_owner (sizes_in part) c owner ≡ None
        none_in None = refl
        none_in (Some owner) =
            ap (λ (b : Bool). cond b (Some (of_service owner.0 (out_before (sizes_in part owner.0) c + owner.1))) None) (no_burst owner.0 owner.1)

    pub keeps_none_from : KeepsNoneFrom (cycles_of * part.plan.cycle) (kept_in part)
    keeps_none_from s slot late e = keeps_none part.plan.cycle (table_packets part.plan) (windows_of part.plan) (sizes_in part) cycles_of within_cycles less s slot late e

  -- a packet that a slot is kept for is one of the bursts of its service
  pub record IsOfBurst (s j n : ℕ) : Type 0 where
    pub place : ℕ
    pub owner : owner_of (windows_of part.plan) (s % part.plan.cycle) ≡ Some (j, place)
    pub below : place < slice_index (sizes_in part j) (s / part.plan.cycle)
    pub number : n ≡ out_before (sizes_in part j) (s / part.plan.cycle) + place

  pub kept_of_burst : (s j n : ℕ) → kept_in part s ≡ Some (of_service j n) → IsOfBurst s j n
  kept_of_burst s j n e = by_table (ltb (s % part.plan.cycle) (table_packets part.plan)) (owner_of (windows_of part.plan) (s % part.plan.cycle)) refl e
    where
      service_in : Option Slot → ℕ
      service_in None = 0
      service_in (Some (of_table m)) = 0
      service_in (Some (of_service i m)) = i
      service_in (Some empty) = 0

      number_in : Option Slot → ℕ
      number_in None = 0
      number_in (Some (of_table m)) = 0
      number_in (Some (of_service i m)) = m
      number_in (Some empty) = 0

      by_held : (i m : ℕ) → owner_of (windows_of part.plan) (s % part.plan.cycle) ≡ Some (i, m) → (more : Bool) → ltb m (slice_index (sizes_in part i) (s / part.plan.cycle)) ≡ more
          → cond more (Some (of_service i (out_before (sizes_in part i) (s / part.plan.cycle) + m))) None ≡ Some (of_service j n) → IsOfBurst s j n
      by_held i m is false e2 e3 = absurd (cc)
      by_held i m is true e2 e3 =
          let same : i ≡ j = ap service_in e3 in
          let number_is : out_before (sizes_in part i) (s / part.plan.cycle) + m ≡ n = ap number_in e3 in
          record {
            place = m;
            owner = is ∙ ap (λ (k : ℕ). Some (k, m)) same;
            below = true_ltb m (slice_index (sizes_in part j) (s / part.plan.cycle)) (ap (λ (k : ℕ). ltb m (slice_index (sizes_in part k) (s / part.plan.cycle))) (sym same) ∙ e2);
            number = sym number_is ∙ ap (λ (k : ℕ). out_before (sizes_in part k) (s / part.plan.cycle) + m) same;
          }

      by_table : (early : Bool) (owner : Option (ℕ × ℕ)) → owner_of (windows_of part.plan) (s % part.plan.cycle) ≡ owner
          → option_or (cond early (Some (of_table (s % part.plan.cycle))) None) (of_owner (sizes_in part) (s / part.plan.cycle) owner) ≡ Some (of_service j n) → IsOfBurst s j n
      by_table true owner is e2 = absurd (cc)
      by_table false None is e2 = absurd (cc)
      by_table false (Some owner) is e2 = by_held owner.0 owner.1 is (ltb owner.1 (slice_index (sizes_in part owner.0) (s / part.plan.cycle))) refl e2

  -- which has them
  pub burst_within : (s j n : ℕ) → IsOfBurst s j n → (j < length part.plan.services) × (n < length (slice_index_or (service_packets part) j []))
  burst_within s j n it = by_place (cases_lt j (length part.plan.services))
    where
      by_place : (j < length part.plan.services) ⊎ (length part.plan.services ≤ j) → (j < length part.plan.services) × (n < length (slice_index_or (service_packets part) j []))
      by_place (inl known) = (
        known,
        omega (
          arith,
          it.number,
          out_below (sizes_in part j) (s / part.plan.cycle) it.place it.below,
          bursts_within (kind_at part.plan j) (get_or (map (λ (service : ServiceFields). service.unicast) part.plan.services) j []) (part.packets_before j % 16) (part.schedules j) (part.datagrams j),
          ap (λ (l : List PacketFields). length l) (packets_at part.packets_before part.schedules part.datagrams part.plan.services 0 j j (omega arith) known),
        ),
      )
      by_place (inr past) = absurd (omega (arith, it.below, ap (λ (l : List ℕ). slice_index l (s / part.plan.cycle)) (no_sizes j past)))

  -- a packet that a slot carries is one that its service has
  pub carried : (s j n : ℕ) → slot_in part s ≡ of_service j n → (j < length part.plan.services) × (n < length (slice_index_or (service_packets part) j []))
  carried s j n e = by_place (carried_there (kept_in part) (turn_counts (kinds part.plan) services) s j n e)
    where
      by_place : (kept_in part s ≡ Some (of_service j n)) ⊎ ((j < length (turn_counts (kinds part.plan) services)) × (n < slice_index (turn_counts (kinds part.plan) services) j))
          → (j < length part.plan.services) × (n < length (slice_index_or (service_packets part) j []))
      by_place (inl kept) = burst_within s j n (kept_of_burst s j n kept)
      by_place (inr turn) = (
        omega (arith, turn.0, length-turns (kinds part.plan) services same_length, length-packets_from part.packets_before part.schedules part.datagrams 0 part.plan.services),
        omega (
          arith,
          turn.1,
          turn_at (kinds part.plan) services j same_length,
          turns_within (is_some (sliced_of (get_or (kinds part.plan) j (mpe 0)))) (slice_index_or services j []),
        ),
      )
