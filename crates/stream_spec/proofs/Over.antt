-- From slot to slot; where no service has packets left, none has its turn any more.
use Rattle.std.proofs.Common.{◌≡◌, ℕ, zero, suc, ◌+◌, ◌-◌, ◌≤◌, Bool, true, false, cond, List, refl, ap, ◌∙◌, arith, Option, Some, None}
use Rattle.std.specs.Prelude.{is_some}
use Rattle.std.specs.Option.{unwrap_or}
use Rattle.stream_spec.specs.Slots.{Slot, is_of_service, Turns, next_service, served, turns_at, slot_of_service, slot_at}

-- no slot is kept for a service
abbrev pub KeepsNone : (ℕ → Option Slot) → Type 0
KeepsNone kept = (s : ℕ) (slot : Slot) → kept s ≡ Some slot → is_of_service slot ≡ false

-- from this slot on, none is
abbrev pub KeepsNoneFrom : ℕ → (ℕ → Option Slot) → Type 0
KeepsNoneFrom from kept = (s : ℕ) (slot : Slot) → from ≤ s → kept s ≡ Some slot → is_of_service slot ≡ false

module _ (kept : ℕ → Option Slot) (packets : List ℕ) where
  -- a kept slot leaves the services as they are; in another one the next of them has its turn
  pub turns_kept : (s : ℕ) (slot : Slot) → kept s ≡ Some slot → turns_at kept packets (suc s) ≡ turns_at kept packets s
  unfolding turns_at
  turns_kept s slot e = ap (λ (is : Option Slot). cond (is_some is) (turns_at kept packets s) (served (turns_at kept packets s) (next_service packets (turns_at kept packets s)))) e

  pub turns_served : (s : ℕ) → kept s ≡ None → turns_at kept packets (suc s) ≡ served (turns_at kept packets s) (next_service packets (turns_at kept packets s))
  unfolding turns_at
  turns_served s e = ap (λ (is : Option Slot). cond (is_some is) (turns_at kept packets s) (served (turns_at kept packets s) (next_service packets (turns_at kept packets s)))) e

  pub turns_stay : (d s later : ℕ) → later ≡ d + s → next_service packets (turns_at kept packets s) ≡ None → turns_at kept packets later ≡ turns_at kept packets s
  unfolding turns_at
  turns_stay zero s later is none = ap (λ (n : ℕ). turns_at kept packets n) (zero_add is)
    where
      zero_add : later ≡ 0 + s → later ≡ s
      zero_add e = omega (arith, e)
  turns_stay (suc d) s zero is none = absurd (omega (arith, is))
  turns_stay (suc d) s (suc later) is none = by_kept (is_some (kept later)) (turns_stay d s later (omega (arith, is)) none)
    where
      by_kept : (is_kept : Bool) → turns_at kept packets later ≡ turns_at kept packets s
          → cond is_kept (turns_at kept packets later) (served (turns_at kept packets later) (next_service packets (turns_at kept packets later))) ≡ turns_at kept packets s
      by_kept true e = e
      by_kept false e = ap (λ (t : Turns). served t (next_service packets t)) e ∙ ap (λ (o : Option ℕ). served (turns_at kept packets s) o) none

  none_of_service : (s : ℕ) → ((slot : Slot) → kept s ≡ Some slot → is_of_service slot ≡ false) → next_service packets (turns_at kept packets s) ≡ None
      → is_of_service (slot_at kept packets s) ≡ false
  none_of_service s keeps none = by_kept (kept s) refl
    where
      by_kept : (is : Option Slot) → kept s ≡ is → is_of_service (unwrap_or is (slot_of_service (turns_at kept packets s) (next_service packets (turns_at kept packets s)))) ≡ false
      by_kept None e = ap (λ (o : Option ℕ). is_of_service (slot_of_service (turns_at kept packets s) o)) none
      by_kept (Some slot) e = keeps slot e

  -- and none of the slots from there on is a service's, where none is kept for one any more
  pub over_later : (from : ℕ) → KeepsNoneFrom from kept → (s : ℕ) → next_service packets (turns_at kept packets s) ≡ None
      → (later : ℕ) → s ≤ later → from ≤ later → is_of_service (slot_at kept packets later) ≡ false
  over_later from keeps s none later le behind =
      let stays : turns_at kept packets later ≡ turns_at kept packets s = turns_stay (later - s) s later (omega (arith, le)) none in
      none_of_service later (λ slot. keeps later slot behind) (ap (λ (t : Turns). next_service packets t) stays ∙ none)

  pub over_from : KeepsNone kept → (s : ℕ) → next_service packets (turns_at kept packets s) ≡ None → (later : ℕ) → s ≤ later → is_of_service (slot_at kept packets later) ≡ false
  over_from keeps s none later le = over_later 0 (λ s2 slot from. keeps s2 slot) s none later le (omega arith)
