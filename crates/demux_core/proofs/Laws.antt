-- The laws over spans that a receiver stands on, of one plan.
use Rattle.std.specs.Prelude.{◌≡◌, ◌≢◌, ℕ, ◌+◌, ◌*◌, ◌^◌, ◌<◌, ◌≤◌, Bool, true, false, List, [], ◌∷◌, ◌++◌, length, map, slice_index_or, if◌then◌else◌, None, Some}
use Rattle.ts_spec.specs.Recording.{Record}
use Rattle.plan_spec.specs.Plan.{IntFields, PlanFields, pid_of}
use Rattle.plan_spec.specs.Changes.{no_service, plan_in, pid_in, has_wrong_change}
use Rattle.plan_spec.specs.InForce.{version_behind}
use Rattle.outlet_spec.specs.Pairs.{pairs_of_all}
use Rattle.reception_spec.specs.Packets.{is_on, is_other}
use Rattle.reception_spec.specs.Table.{table_sections}
use Rattle.reception_spec.specs.Spans.{version_at_end, span_of}
use Rattle.reception_spec.specs.Frames.{rows_of, sum_of_frames}
use Rattle.reception_spec.specs.Delivered.{service_on, pairs_of_record, pairs_of_end}
use Rattle.reception_spec.specs.Sums.{others_from, sum_of_numbers, numbers_on, numbers_of, unit_numbers_of, frame_numbers_on, frame_numbers_of, told_frame_numbers}
use Rattle.reception_law.specs.Words.{added_on}
use Rattle.reception_law.specs.InForce.{pid_in_force, closed_by_record, closed_at_end, IsBlank}
use Rattle.reception_law.specs.Sums.{sum_of_units, unit_numbers_on, numbers_before, unit_numbers_before, frame_numbers_before, AreAtMost, UnitsAreAtMost, FramesAreAtMost}
use Rattle.reception_law.proofs.OtherPid.{pid_on}
use Rattle.reception_law.proofs.ServiceSpans.{span_heard}
use Rattle.reception_law.proofs.WhatIsTold.{moved_blank}
use Rattle.reception_law.proofs.Sums.{before_stays, units_before_stay, frames_before_stay, numbers_move, units_move, frames_move, numbers_are, units_are, frames_are, told_frames_are}
use Rattle.reception_law.proofs.Few.{few_numbers, few_unit_numbers, few_frame_numbers, few_before, few_units_before, few_frames_before}
use Rattle.reception_law.proofs.Others.{others_more}
use Rattle.reception_law.proofs.VersionInForce.{at_end, most, without_table, version_stays}
use Rattle.reception_law.proofs.DeliveredPairs.{one_given, none_given, int_closes, end_closes}

pub record Laws (plan : PlanFields) : Type 0 where
  -- the span on the PID in force grows by the record; where a record moves a service, the span on the new PID is blank
  pub heard : (k pid : ℕ) (records : List Record) (r : Record) → pid_in_force plan k records ≡ Some pid
      → span_of plan k pid (records ++ r ∷ []) ≡ span_of plan k pid records ++ r ∷ []
  pub blank : (k old new : ℕ) (records : List Record) (r : Record) → pid_in_force plan k records ≡ Some old
      → pid_in_force plan k (records ++ r ∷ []) ≡ Some new → new ≢ old → IsBlank plan k new (records ++ r ∷ [])
  pub on_pid : (version k pid : ℕ) → pid_in plan version k ≡ Some pid → pid_of (service_on plan k pid).kind ≡ Some pid
  -- the numbers of the other PIDs stay, and go on where a record moves a service
  pub numbers_stay : (k pid : ℕ) (records : List Record) (r : Record) → pid_in_force plan k records ≡ Some pid
      → numbers_before plan k pid (records ++ r ∷ []) ≡ numbers_before plan k pid records
  pub units_stay : (k pid : ℕ) (records : List Record) (r : Record) → pid_in_force plan k records ≡ Some pid
      → unit_numbers_before plan k pid (records ++ r ∷ []) ≡ unit_numbers_before plan k pid records
  pub frames_stay : (k pid : ℕ) (records : List Record) (r : Record) → pid_in_force plan k records ≡ Some pid
      → frame_numbers_before plan k pid (records ++ r ∷ []) ≡ frame_numbers_before plan k pid records
  pub numbers_go_on : (k old new : ℕ) (records : List Record) (r : Record) → pid_in_force plan k records ≡ Some old
      → pid_in_force plan k (records ++ r ∷ []) ≡ Some new → new ≢ old
      → numbers_before plan k new (records ++ r ∷ []) ≡ sum_of_numbers (numbers_before plan k old records) (numbers_on plan k (records ++ r ∷ []) old)
  pub units_go_on : (k old new : ℕ) (records : List Record) (r : Record) → pid_in_force plan k records ≡ Some old
      → pid_in_force plan k (records ++ r ∷ []) ≡ Some new → new ≢ old
      → unit_numbers_before plan k new (records ++ r ∷ []) ≡ sum_of_units (unit_numbers_before plan k old records) (unit_numbers_on plan k (records ++ r ∷ []) old)
  pub frames_go_on : (k old new : ℕ) (records : List Record) (r : Record) → pid_in_force plan k records ≡ Some old
      → pid_in_force plan k (records ++ r ∷ []) ≡ Some new → new ≢ old
      → frame_numbers_before plan k new (records ++ r ∷ []) ≡ sum_of_frames (frame_numbers_before plan k old records) (frame_numbers_on true plan k (records ++ r ∷ []) old)
  -- all numbers of a service, and how many there are at most
  pub numbers_sum : (k pid version : ℕ) (records : List Record) → version ≤ length plan.changes → pid_in plan version k ≡ Some pid
      → numbers_of plan k records ≡ sum_of_numbers (numbers_before plan k pid records) (numbers_on plan k records pid)
  pub units_sum : (k pid version : ℕ) (records : List Record) → version ≤ length plan.changes → pid_in plan version k ≡ Some pid
      → unit_numbers_of plan k records ≡ sum_of_units (unit_numbers_before plan k pid records) (unit_numbers_on plan k records pid)
  pub frames_sum : (k pid version : ℕ) (records : List Record) → version ≤ length plan.changes → pid_in plan version k ≡ Some pid
      → frame_numbers_of plan k records ≡ sum_of_frames (frame_numbers_before plan k pid records) (frame_numbers_on true plan k records pid)
  pub told_frames_sum : (k pid : ℕ) (records : List Record) → pid_in_force plan k records ≡ Some pid
      → told_frame_numbers plan k records ≡ sum_of_frames (frame_numbers_before plan k pid records) (frame_numbers_on false plan k records pid)
  pub most_on : (k pid : ℕ) (records : List Record) → AreAtMost (189 * length records) (numbers_on plan k records pid)
  pub most_units_on : (k pid : ℕ) (records : List Record) → UnitsAreAtMost (189 * length records) (unit_numbers_on plan k records pid)
  pub most_before : (k pid : ℕ) (records : List Record) → length plan.changes ≤ 31 → length records ≤ 2 ^ 32
      → AreAtMost (2 ^ 45) (numbers_before plan k pid records)
  pub most_units_before : (k pid : ℕ) (records : List Record) → length plan.changes ≤ 31 → length records ≤ 2 ^ 32
      → UnitsAreAtMost (2 ^ 45) (unit_numbers_before plan k pid records)
  -- those of frames with 1,024 rows at most
  pub most_frames_on : (ended : Bool) (k pid : ℕ) (records : List Record) → rows_of (slice_index_or plan.services k no_service).kind ≤ 1024
      → FramesAreAtMost (36965565 * length records) (frame_numbers_on ended plan k records pid)
  pub most_frames_before : (k pid : ℕ) (records : List Record) → rows_of (slice_index_or plan.services k no_service).kind ≤ 1024
      → length plan.changes ≤ 31 → length records ≤ 2 ^ 32 → FramesAreAtMost (2 ^ 63) (frame_numbers_before plan k pid records)
  -- the packets of no service
  pub other_more : (records : List Record) (r : Record) → others_from plan (records ++ r ∷ []) 0 (records ++ r ∷ [])
      ≡ others_from plan records 0 records + (if is_other (plan_in plan (version_at_end plan records)) r then 1 else 0)
  -- the version in force
  pub in_force : (records : List Record) → version_at_end plan records ≡ version_behind plan (table_sections plan records)
  pub most_version : (records : List Record) → version_at_end plan records ≤ length plan.changes
  pub without_table : (records : List Record) → plan.table ≡ None → version_at_end plan records ≡ 0
  pub version_stays : (int : IntFields) (records : List Record) (r : Record) → plan.table ≡ Some int → is_on int.pid r ≡ false
      → version_at_end plan (records ++ r ∷ []) ≡ version_at_end plan records
  -- the pairs of a record, and of the end
  pub pairs_one : (k pid : ℕ) (records : List Record) (r : Record) → k < length plan.services → pid_in_force plan k records ≡ Some pid → is_on pid r ≡ true
      → pairs_of_record plan (records ++ r ∷ []) (length records) ≡ map (λ (datagram : List ℕ). (k, datagram)) (added_on plan k pid records r)
  pub pairs_none : (records : List Record) (r : Record) → ((k pid : ℕ) → k < length plan.services → pid_in_force plan k records ≡ Some pid → is_on pid r ≡ false)
      → ((k : ℕ) → k < length plan.services → pid_in_force plan k (records ++ r ∷ []) ≡ pid_in_force plan k records)
      → pairs_of_record plan (records ++ r ∷ []) (length records) ≡ []
  pub pairs_int : (int : IntFields) (records : List Record) (r : Record) → plan.table ≡ Some int → is_on int.pid r ≡ true
      → pairs_of_record plan (records ++ r ∷ []) (length records) ≡ pairs_of_all (length plan.services) (λ k. closed_by_record plan k records r)
  pub pairs_end : (records : List Record) → pairs_of_end plan records ≡ pairs_of_all (length plan.services) (λ k. closed_at_end plan k records)

pub laws_of : (plan : PlanFields) → has_wrong_change plan ≡ false → Laws plan
laws_of plan right = record {
  heard = λ k pid records r in_force. span_heard plan k pid records r in_force;
  blank = λ k old new records r was is apart. moved_blank plan k old new records r right was is apart;
  on_pid = λ version k pid is. pid_on plan version k pid is;
  numbers_stay = λ k pid records r in_force. before_stays plan k pid records r in_force;
  units_stay = λ k pid records r in_force. units_before_stay plan k pid records r in_force;
  frames_stay = λ k pid records r in_force. frames_before_stay plan k pid records r in_force;
  numbers_go_on = λ k old new records r was is apart. numbers_move plan k old new records r right was is apart;
  units_go_on = λ k old new records r was is apart. units_move plan k old new records r right was is apart;
  frames_go_on = λ k old new records r was is apart. frames_move plan k old new records r right was is apart;
  numbers_sum = λ k pid version records within is. numbers_are plan k pid version records right within is;
  units_sum = λ k pid version records within is. units_are plan k pid version records right within is;
  frames_sum = λ k pid version records within is. frames_are plan k pid version records right within is;
  told_frames_sum = λ k pid records in_force. told_frames_are plan k pid records right in_force;
  most_on = λ k pid records. few_numbers plan k pid records;
  most_units_on = λ k pid records. few_unit_numbers plan k pid records;
  most_before = λ k pid records few_changes few_records. few_before plan k pid records few_changes few_records;
  most_units_before = λ k pid records few_changes few_records. few_units_before plan k pid records few_changes few_records;
  most_frames_on = λ ended k pid records few_rows. few_frame_numbers ended plan k pid records few_rows;
  most_frames_before = λ k pid records few_rows few_changes few_records. few_frames_before plan k pid records few_rows few_changes few_records;
  other_more = λ records r. others_more plan records r;
  in_force = λ records. at_end plan records;
  most_version = λ records. most plan records (length records);
  without_table = λ records none. without_table plan records (length records) none;
  version_stays = λ int records r is off. version_stays plan int records r is off;
  pairs_one = λ k pid records r known in_force on. one_given plan k pid records r right known in_force on;
  pairs_none = λ records r off stays. none_given plan records r off stays;
  pairs_int = λ int records r is on. int_closes plan int records r right is on;
  pairs_end = λ records. end_closes plan records right;
}
