-- What a switch of the plan gives, and what the end does.
use Rattle.std.proofs.Common.{◌≡◌, ℕ, zero, suc, ◌+◌, ◌<◌, Bool, true, false, cond, Option, None, Some, List, [], ◌∷◌, ◌++◌, length, map, flat_map, refl, ap, ap₂, ◌∙◌, arith}
use Rattle.std.specs.Prelude.{◌==◌, not}
use Rattle.std.specs.List.{range_with_len}
use Rattle.ts_spec.specs.Recording.{Record}
use Rattle.plan_spec.specs.Plan.{IntFields, PlanFields}
use Rattle.plan_spec.specs.Changes.{has_pid}
use Rattle.outlet_spec.specs.Pairs.{pairs_of_all}
use Rattle.reception_spec.specs.Packets.{is_on}
use Rattle.reception_spec.specs.Spans.{version_at_end}
use Rattle.reception_spec.specs.Delivered.{pairs_of_record, pairs_of_end}
use Rattle.reception_law.specs.Words.{closed_on}
use Rattle.reception_law.specs.InForce.{pid_in_force, closed_by_move, closed_by_record_on, closed_by_record, closed_at_end_on, closed_at_end}
use Rattle.reception_law.proofs.WhatIsTold.{closed_stays}
use Rattle.demux_core.specs.Moving.{where_left, closed_from, closed_by_switch, closed_on_pid, closed_at}
use Rattle.demux_core.proofs.Laws.{Laws}
use Rattle.demux_core.proofs.One.{never_none}

-- services that give the same
same_from : {X : Type 0} (f g : ℕ → List X) (from count : ℕ) → ((k : ℕ) → k < from + count → f k ≡ g k) → flat_map f (range_with_len from count) ≡ flat_map g (range_with_len from count)
same_from f g from zero same = refl
same_from f g from (suc count) same =
    ap₂ (λ x y. x ++ y) (same from (omega arith)) (same_from f g (from + 1) count (λ k less. same k (omega (arith, less))))

pub same_pairs : (plan : PlanFields) (f g : ℕ → List (List ℕ)) → ((k : ℕ) → k < length plan.services → f k ≡ g k) → pairs_of_all (length plan.services) f ≡ pairs_of_all (length plan.services) g
same_pairs plan f g same =
    same_from (λ k. map (λ datagram. (k, datagram)) (f k)) (λ k. map (λ datagram. (k, datagram)) (g k)) 0 (length plan.services)
    (λ k less. ap (map (λ datagram. (k, datagram))) (same k (omega (arith, less))))

turned : (b : Bool) (datagrams : List (List ℕ)) → cond (not b) datagrams [] ≡ cond b [] datagrams
turned true datagrams = refl
turned false datagrams = refl

module _ (plan : PlanFields) (laws : Laws plan) (records : List Record) (r : Record) where
  abbrev after : List Record
  after = records ++ r ∷ []

  -- what a record closes of a service is what the switch closes, where it is no packet of the PID that is left
  closed_is : (k : ℕ) → ((pid : ℕ) → pid_in_force plan k records ≡ Some pid → is_on pid r ≡ false)
      → closed_by_record plan k records r ≡ closed_by_switch plan (version_at_end plan records) (version_at_end plan after) records k
  closed_is k off = by_pid (pid_in_force plan k records) refl
    where
      by_pid : (o : Option ℕ) → pid_in_force plan k records ≡ o → closed_by_record_on o plan k records r ≡ closed_from o plan (version_at_end plan after) k records
      by_pid None none = refl
      by_pid (Some pid) is = by_next (pid_in_force plan k after) refl
        where
          by_next : (o : Option ℕ) → pid_in_force plan k after ≡ o → closed_by_move plan k pid records r ≡ where_left o pid (closed_on plan k pid records)
          by_next None none = absurd (never_none plan (version_at_end plan records) (version_at_end plan after) k pid is none)
          by_next (Some next) goes =
              ap (λ (o : Option ℕ). cond (not (has_pid o pid)) (closed_on plan k pid after) []) goes
              ∙ turned (next == pid) (closed_on plan k pid after)
              ∙ ap (λ (datagrams : List (List ℕ)). cond (next == pid) [] datagrams) (closed_stays plan k pid records r (off pid is))

  pub switch_pairs : (int : IntFields) → plan.table ≡ Some int → is_on int.pid r ≡ true
      → ((k pid : ℕ) → k < length plan.services → pid_in_force plan k records ≡ Some pid → is_on pid r ≡ false)
      → pairs_of_record plan after (length records) ≡ pairs_of_all (length plan.services) (closed_by_switch plan (version_at_end plan records) (version_at_end plan after) records)
  switch_pairs int is own off =
      laws.pairs_int int records r is own
      ∙ same_pairs plan (λ k. closed_by_record plan k records r) (closed_by_switch plan (version_at_end plan records) (version_at_end plan after) records)
      (λ k less. closed_is k (λ pid in_force. off k pid less in_force))

pub end_pairs : (plan : PlanFields) (laws : Laws plan) (records : List Record) → pairs_of_end plan records ≡ pairs_of_all (length plan.services) (closed_at plan (version_at_end plan records) records)
end_pairs plan laws records =
    laws.pairs_end records
    ∙ same_pairs plan (λ k. closed_at_end plan k records) (closed_at plan (version_at_end plan records) records) (λ k less. same k (pid_in_force plan k records))
  where
    same : (k : ℕ) (o : Option ℕ) → closed_at_end_on o plan k records ≡ closed_on_pid o plan k records
    same k None = refl
    same k (Some pid) = refl
