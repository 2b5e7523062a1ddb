-- The numbers of a service by its PIDs: those of one PID, and the sums over all others.
use Rattle.std.specs.Prelude.{ℕ, ◌+◌, ◌≤◌, true, not, List, ◌==◌, map, fold, filter}
use Rattle.ts_spec.specs.Recording.{Record}
use Rattle.plan_spec.specs.Plan.{PlanFields}
use Rattle.plan_spec.specs.Changes.{pids_in}
use Rattle.reception_spec.specs.Numbers.{PidNumbers, no_numbers, UnitNumbers, units_of, unit_numbers}
use Rattle.reception_spec.specs.Spans.{span_of}
use Rattle.reception_spec.specs.Delivered.{service_on}
use Rattle.reception_spec.specs.Frames.{FrameNumbers, no_frames, sum_of_frames}
use Rattle.reception_spec.specs.Sums.{sum_of_numbers, numbers_on, frame_numbers_on}

abbrev pub no_units : UnitNumbers
no_units = record { unread = 0; filtered = 0; datagrams = 0 }

abbrev pub sum_of_units : UnitNumbers → UnitNumbers → UnitNumbers
sum_of_units a b = record { unread = a.unread + b.unread; filtered = a.filtered + b.filtered; datagrams = a.datagrams + b.datagrams }

-- what the units of service k on a PID give
abbrev pub unit_numbers_on : PlanFields → ℕ → List Record → ℕ → UnitNumbers
unit_numbers_on plan k records pid = unit_numbers (service_on plan k pid) (units_of (service_on plan k pid) (span_of plan k pid records))

-- the PIDs of service k but this one
abbrev pub other_pids : PlanFields → ℕ → ℕ → List ℕ
other_pids plan k pid = filter (λ other. not (other == pid)) (pids_in plan k)

-- the sums over them: where service k is on the PID, the numbers of its spans before
abbrev pub numbers_before : PlanFields → ℕ → ℕ → List Record → PidNumbers
numbers_before plan k pid records = fold sum_of_numbers no_numbers (map (numbers_on plan k records) (other_pids plan k pid))

abbrev pub unit_numbers_before : PlanFields → ℕ → ℕ → List Record → UnitNumbers
unit_numbers_before plan k pid records = fold sum_of_units no_units (map (unit_numbers_on plan k records) (other_pids plan k pid))

-- all frames of the spans before are closed
abbrev pub frame_numbers_before : PlanFields → ℕ → ℕ → List Record → FrameNumbers
frame_numbers_before plan k pid records = fold sum_of_frames no_frames (map (frame_numbers_on true plan k records) (other_pids plan k pid))

-- none of the numbers is above this one
pub record AreAtMost (most : ℕ) (numbers : PidNumbers) : Type 0 where
  pub heard : numbers.heard ≤ most
  pub repeats : numbers.repeats ≤ most
  pub gaps : numbers.gaps ≤ most
  pub units : numbers.units ≤ most
  pub bad_check : numbers.bad_check ≤ most
  pub delimited : numbers.delimited ≤ most
  pub bad_length : numbers.bad_length ≤ most

pub record UnitsAreAtMost (most : ℕ) (numbers : UnitNumbers) : Type 0 where
  pub unread : numbers.unread ≤ most
  pub filtered : numbers.filtered ≤ most
  pub datagrams : numbers.datagrams ≤ most

pub record FramesAreAtMost (most : ℕ) (numbers : FrameNumbers) : Type 0 where
  pub frames : numbers.frames ≤ most
  pub rows_mended : numbers.rows_mended ≤ most
  pub rows_left : numbers.rows_left ≤ most
  pub datagrams : numbers.datagrams ≤ most
