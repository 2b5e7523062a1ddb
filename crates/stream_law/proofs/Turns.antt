-- How far the services are, and which packets are out.
use Rattle.std.proofs.Common.{◌≡◌, ◌⊎◌, inl, inr, ℕ, zero, suc, ◌+◌, ◌<◌, ◌≤◌, Bool, true, false, cond, eqb, List, [], ◌∷◌, ◌++◌, length, map, set, refl, sym, ap, ◌∙◌, arith, Option, Some, None}
use Rattle.std.specs.Prelude.{slice_index, is_some}
use Rattle.std.specs.List.{range_with_len, filter_map}
use Rattle.std.specs.Option.{unwrap_or}
use Rattle.std.proofs.lemmas.List.{length-set, length-replicate, get_or-replicate, get_or-set_same, get_or-set_other, append-nil}
use Rattle.std.proofs.lemmas.List.Elements.{filter_map-append}
use Rattle.std.proofs.lemmas.List.FromFn.{map-range_with_len_more}
use Rattle.stream_spec.specs.Slots.{Slot, of_table, of_service, empty, is_of_service, Turns, next_service, served, turns_at, slot_of_service, slot_at}
use Rattle.stream_spec.proofs.Over.{KeepsNone}
use Rattle.stream_law.specs.Words.{number_of}
use Rattle.stream_law.proofs.Next.{has_turn}

-- no service has more packets out than it has in all
pub record IsWithin (packets : List ℕ) (turns : Turns) : Type 0 where
  pub size : length turns.sent ≡ length packets
  pub first : turns.first ≤ length packets
  pub most : (k : ℕ) → k < length packets → slice_index turns.sent k ≤ slice_index packets k

within_served : (packets : List ℕ) (turns : Turns) → IsWithin packets turns → (next : Option ℕ) → next_service packets turns ≡ next → IsWithin packets (served turns next)
within_served packets turns within None e = within
within_served packets turns within (Some j) e = record {
  size = length-set turns.sent j (slice_index turns.sent j + 1) ∙ within.size;
  first = omega (arith, turn.1);
  most = λ k less. at_place k less (eqb k j) refl;
}
  where
    turn : (slice_index turns.sent j < slice_index packets j) × (j < length packets)
    turn = has_turn packets turns j within.first e

    at_place : (k : ℕ) → k < length packets → (same : Bool) → eqb k j ≡ same → slice_index (set turns.sent j (slice_index turns.sent j + 1)) k ≤ slice_index packets k
    at_place k less true is =
        let at : k ≡ j = grind (arith, is) in
        let now : slice_index (set turns.sent j (slice_index turns.sent j + 1)) j ≡ slice_index turns.sent j + 1
        = get_or-set_same turns.sent j (slice_index turns.sent j + 1) 0 (omega (arith, turn.1, within.size)) in
        rw at (omega (arith, now, turn.0))
    at_place k less false is =
        let other : slice_index (set turns.sent j (slice_index turns.sent j + 1)) k ≡ slice_index turns.sent k
        = get_or-set_other turns.sent j k (slice_index turns.sent j + 1) 0 (λ at. absurd (grind (arith, is, at))) in
        omega (arith, other, within.most k less)

-- one number more
range_snoc : (a n j : ℕ) → j ≡ a + n → range_with_len a n ++ j ∷ [] ≡ range_with_len a (suc n)
range_snoc a zero j e = let same : j ≡ a = omega (arith, e) in ap (λ (i : ℕ). i ∷ []) same
range_snoc a (suc n) j e = ap (λ (l : List ℕ). a ∷ l) (range_snoc (a + 1) n j (omega (arith, e)))

-- no slot is kept for this service
abbrev pub KeepsNoneOf : ℕ → (ℕ → Option Slot) → Type 0
KeepsNoneOf k kept = (s : ℕ) (slot : Slot) → kept s ≡ Some slot → number_of k slot ≡ None

pub none_of : (k : ℕ) (slot : Slot) → is_of_service slot ≡ false → number_of k slot ≡ None
none_of k (of_table n) e = refl
none_of k (of_service j n) e = absurd (cc)
none_of k empty e = refl

module _ (kept : ℕ → Option Slot) (packets : List ℕ) where
  pub within_at : (s : ℕ) → IsWithin packets (turns_at kept packets s)
  unfolding turns_at
  within_at zero = record {
    size = length-replicate {A = ℕ} (length packets) 0;
    first = omega arith;
    most = λ k less. omega (arith, get_or-replicate {A = ℕ} (length packets) k 0 0 less);
  }
  within_at (suc s) = by_kept (is_some (kept s)) (within_at s)
    where
      by_kept : (is_kept : Bool) → IsWithin packets (turns_at kept packets s)
          → IsWithin packets (cond is_kept (turns_at kept packets s) (served (turns_at kept packets s) (next_service packets (turns_at kept packets s))))
      by_kept true within = within
      by_kept false within = within_served packets (turns_at kept packets s) within (next_service packets (turns_at kept packets s)) refl

  -- a slot without a packet of a service leaves the services as they are
  pub turns_pass : (s : ℕ) → is_of_service (slot_at kept packets s) ≡ false → turns_at kept packets (suc s) ≡ turns_at kept packets s
  unfolding turns_at
  turns_pass s none = by_kept (kept s) none
    where
      by_turn : (next : Option ℕ) → is_of_service (slot_of_service (turns_at kept packets s) next) ≡ false → served (turns_at kept packets s) next ≡ turns_at kept packets s
      by_turn None e = refl
      by_turn (Some j) e = absurd (cc)

      by_kept : (is : Option Slot) → is_of_service (unwrap_or is (slot_of_service (turns_at kept packets s) (next_service packets (turns_at kept packets s)))) ≡ false
          → cond (is_some is) (turns_at kept packets s) (served (turns_at kept packets s) (next_service packets (turns_at kept packets s))) ≡ turns_at kept packets s
      by_kept None e = by_turn (next_service packets (turns_at kept packets s)) e
      by_kept (Some slot) e = refl

  -- the packets that are out before slot s, in the order of the slots
  module _ (k : ℕ) (keeps : KeepsNoneOf k kept) (below : k < length packets) where
    abbrev out : ℕ → List ℕ
    out s = filter_map (number_of k) (map (slot_at kept packets) (range_with_len 0 s))

    abbrev sent : ℕ → ℕ
    sent s = slice_index (turns_at kept packets s).sent k

    more : (s : ℕ) → out (suc s) ≡ out s ++ filter_map (number_of k) (slot_at kept packets s ∷ [])
    more s =
        let next : suc s ≡ s + 1 = omega arith in
        ap out next ∙ ap (filter_map (number_of k)) (map-range_with_len_more (slot_at kept packets) 0 s s (omega arith))
        ∙ filter_map-append (number_of k) (map (slot_at kept packets) (range_with_len 0 s)) (slot_at kept packets s ∷ [])

    pub out_of : (s : ℕ) → out s ≡ range_with_len 0 (sent s)
    unfolding turns_at
    out_of zero = sym (ap (range_with_len 0) (get_or-replicate {A = ℕ} (length packets) k 0 0 below))
    out_of (suc s) = more s ∙ by_kept (kept s) refl (within_at s) (out_of s)
      where
        turns : Turns
        turns = turns_at kept packets s

        by_same : (j : ℕ) → j < length turns.sent → out s ≡ range_with_len 0 (sent s) → (same : Bool) → eqb j k ≡ same
            → out s ++ filter_map (λ (o : Option ℕ). o) (cond same (Some (slice_index turns.sent j)) None ∷ []) ≡ range_with_len 0 (slice_index (set turns.sent j (slice_index turns.sent j + 1)) k)
        by_same j less so_far true is =
            let at : j ≡ k = grind (arith, is) in
            let now : slice_index (set turns.sent j (slice_index turns.sent j + 1)) j ≡ slice_index turns.sent j + 1
            = get_or-set_same turns.sent j (slice_index turns.sent j + 1) 0 less in
            let after : slice_index (set turns.sent j (slice_index turns.sent j + 1)) k ≡ suc (sent s)
            = ap (λ (i : ℕ). slice_index (set turns.sent j (slice_index turns.sent j + 1)) i) (sym at) ∙ now ∙ omega (arith, ap (slice_index turns.sent) at) in
            ap (λ (t : List ℕ). t ++ slice_index turns.sent j ∷ []) so_far
            ∙ range_snoc 0 (sent s) (slice_index turns.sent j) (omega (arith, ap (slice_index turns.sent) at))
            ∙ ap (range_with_len 0) (sym after)
        by_same j less so_far false is =
            append-nil (out s) ∙ so_far
            ∙ ap (range_with_len 0) (sym (get_or-set_other turns.sent j k (slice_index turns.sent j + 1) 0 (λ at. absurd (grind (arith, is, at)))))

        by_turn : (next : Option ℕ) → next_service packets turns ≡ next → IsWithin packets turns → out s ≡ range_with_len 0 (sent s)
            → out s ++ filter_map (number_of k) (slot_of_service turns next ∷ []) ≡ range_with_len 0 (slice_index (served turns next).sent k)
        by_turn None e within so_far = append-nil (out s) ∙ so_far
        by_turn (Some j) e within so_far = by_same j (omega (arith, (has_turn packets turns j within.first e).1, within.size)) so_far (eqb j k) refl

        by_kept : (is : Option Slot) → kept s ≡ is → IsWithin packets turns → out s ≡ range_with_len 0 (sent s)
            → out s ++ filter_map (number_of k) (unwrap_or is (slot_of_service turns (next_service packets turns)) ∷ [])
            ≡ range_with_len 0 (slice_index (cond (is_some is) turns (served turns (next_service packets turns))).sent k)
        by_kept None e within so_far = by_turn (next_service packets turns) refl within so_far
        by_kept (Some slot) e within so_far =
            ap (λ (o : Option ℕ). out s ++ filter_map (λ (p : Option ℕ). p) (o ∷ [])) (keeps s slot e) ∙ append-nil (out s) ∙ so_far

  pub out_is : (keeps : KeepsNone kept) (k : ℕ) (below : k < length packets) (s : ℕ)
      → filter_map (number_of k) (map (slot_at kept packets) (range_with_len 0 s)) ≡ range_with_len 0 (slice_index (turns_at kept packets s).sent k)
  out_is keeps k below s = out_of k (λ s2 slot e. none_of k slot (keeps s2 slot e)) below s

  -- a packet of a service that a slot carries is kept for it, or one of those that go out in rotation
  pub carried_there : (s j n : ℕ) → slot_at kept packets s ≡ of_service j n → (kept s ≡ Some (of_service j n)) ⊎ ((j < length packets) × (n < slice_index packets j))
  carried_there s j n e = by_kept (kept s) refl e
    where
      turns : Turns
      turns = turns_at kept packets s

      service_in : Slot → ℕ
      service_in (of_table m) = 0
      service_in (of_service i m) = i
      service_in empty = 0

      number_in : Slot → ℕ
      number_in (of_table m) = 0
      number_in (of_service i m) = m
      number_in empty = 0

      by_turn : (next : Option ℕ) → next_service packets turns ≡ next → slot_of_service turns next ≡ of_service j n → (j < length packets) × (n < slice_index packets j)
      by_turn None none e2 = absurd (cc)
      by_turn (Some i) turn e2 =
          let service : i ≡ j = ap service_in e2 in
          let number : slice_index turns.sent i ≡ n = ap number_in e2 in
          let left : (slice_index turns.sent i < slice_index packets i) × (i < length packets) = has_turn packets turns i (within_at s).first turn in
          let of_packets : slice_index packets i ≡ slice_index packets j = ap (slice_index packets) service in
          (omega (arith, service, left.1), omega (arith, number, left.0, of_packets))

      by_kept : (is : Option Slot) → kept s ≡ is → unwrap_or is (slot_of_service turns (next_service packets turns)) ≡ of_service j n
          → (kept s ≡ Some (of_service j n)) ⊎ ((j < length packets) × (n < slice_index packets j))
      by_kept None none e2 = inr (by_turn (next_service packets turns) refl e2)
      by_kept (Some slot) is e2 = inl (is ∙ ap (λ (it : Slot). Some it) e2)

  -- so it is one that the service has, where no slot is kept for one
  pub carried_within : KeepsNone kept → (s j n : ℕ) → slot_at kept packets s ≡ of_service j n → (j < length packets) × (n < slice_index packets j)
  carried_within keeps s j n e = by_place (carried_there s j n e)
    where
      by_place : (kept s ≡ Some (of_service j n)) ⊎ ((j < length packets) × (n < slice_index packets j)) → (j < length packets) × (n < slice_index packets j)
      by_place (inl is) =
          let not_kept : is_of_service (of_service j n) ≡ false = keeps s (of_service j n) is in
          absurd (cc)
      by_place (inr of_turn) = of_turn
