use Rattle.std.proofs.Common.{[], ◌∷◌, ℕ, ◌+◌, ◌%◌, ◌≡◌, Bool, true, false, cond, refl, arith, Some, None}
use Rattle.std.specs.Prelude.{nat_lt, List}
use Rattle.std.specs.Option.{option_or}
use Rattle.plan_spec.specs.Changes.{pid_in}
use Rattle.plan_spec.specs.Signalling.{table_packets}
use Rattle.stream_spec.specs.Slots.{of_table, is_of_service, turns_at}
use Rattle.stream_spec.specs.Windows.{kept_for_bursts}
use Rattle.stream_spec.proofs.Over.{KeepsNone, over_from}
use Rattle.stream_spec.proofs.parts_of_a_stream.Goals as goal

keeps : (sizes : ℕ → List ℕ) → KeepsNone (kept_for_bursts 100 1 [] sizes)
keeps sizes s slot e = by_test (nat_lt (s % 100) 1) e
  where
    by_test : (early : Bool) → option_or (cond early (Some (of_table (s % 100))) None) None ≡ Some slot → is_of_service slot ≡ false
    by_test true kept = let same : of_table (s % 100) ≡ slot = cc in rw (← same) refl
    by_test false kept = absurd (cc)

-- slot 2 is the last
last_is : (s : ℕ) → 3 ≡ s + 1 → s ≡ 2
last_is s e = omega (arith, e)

pub returns-clause-first : goal.returns-clause-first
unfolding turns_at table_packets
returns-clause-first c = record {
  least = 3;
  count = record {
    last = λ s e. rw (last_is s e) refl;
    over = over_from (kept_for_bursts 100 1 [] (λ k. [])) (2 ∷ []) (keeps (λ k. [])) 3 refl;
  };
  slots_are = refl;
}

pub returns-clause-second : goal.returns-clause-second
unfolding turns_at table_packets
returns-clause-second c = record {
  least = 3;
  count = record {
    last = λ s e. rw (last_is s e) refl;
    over = over_from (kept_for_bursts 100 1 [] (λ k. [])) (2 ∷ []) (keeps (λ k. [])) 3 refl;
  };
  slots_are = refl;
}

pub returns-clause-table : goal.returns-clause-table
unfolding table_packets
returns-clause-table c = refl

pub returns-clause-counter : goal.returns-clause-counter
unfolding pid_in
returns-clause-counter c = refl
