use Rattle.std.proofs.Common.{[], ◌∷◌, ℕ, ◌+◌, ◌%◌, ◌≡◌, Bool, true, false, cond, refl, arith, Some, None}
use Rattle.std.specs.Prelude.{nat_lt}
use Rattle.stream_spec.specs.Slots.{of_table, is_of_service, turns_at, kept_for_table}
use Rattle.stream_spec.specs.Examples.{small_packets}
use Rattle.stream_spec.proofs.Over.{KeepsNone, over_from}
use Rattle.stream_spec.proofs.small_transmissions.Goals as goal

keeps : KeepsNone (kept_for_table 5 1)
keeps s slot e = by_test (nat_lt (s % 5) 1) e
  where
    by_test : (early : Bool) → cond early (Some (of_table (s % 5))) None ≡ Some slot → is_of_service slot ≡ false
    by_test true kept = let same : of_table (s % 5) ≡ slot = cc in rw (← same) refl
    by_test false kept = absurd (cc)

-- slot 4 is the last
last_is : (s : ℕ) → 5 ≡ s + 1 → s ≡ 4
last_is s e = omega (arith, e)

pub returns-clause-slots : goal.returns-clause-slots
unfolding turns_at
returns-clause-slots c = refl

pub returns-clause-count : goal.returns-clause-count
unfolding turns_at
returns-clause-count c = record {
  last = λ s e. rw (last_is s e) refl;
  over = over_from (kept_for_table 5 1) small_packets keeps 5 refl;
}

pub returns-clause-nothing : goal.returns-clause-nothing
unfolding turns_at
returns-clause-nothing c = record {
  last = λ s e. absurd (omega (arith, e));
  over = over_from (kept_for_table 5 1) (0 ∷ []) keeps 0 refl;
}
