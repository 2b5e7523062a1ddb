-- The packets and frames that services have, and those of the INT.
use Rattle.std.specs.Prelude.{ℕ, ◌+◌, List, length, sum_by, Option, None, Some}
use Rattle.std.specs.List.{range_with_len}
use Rattle.ts_spec.specs.Recording.{Record}
use Rattle.ts_spec.specs.Received.{arrivals}
use Rattle.plan_spec.specs.Plan.{IntFields, PlanFields}
use Rattle.reception_spec.specs.Sums.{numbers_of}
use Rattle.bb_reception_spec.specs.Numbers.{numbers_of as numbers_in_frames}

-- received packets of a service, and duplicates among them, in all its spans
abbrev pub packets_of_service : PlanFields → List Record → ℕ → ℕ
packets_of_service plan records k = (numbers_of plan k records).heard + (numbers_of plan k records).repeats

-- those of all services
abbrev pub packets_of_services : PlanFields → List Record → ℕ
packets_of_services plan records = sum_by (packets_of_service plan records) (range_with_len 0 (length plan.services))

-- the readable packets of the INT's PID, duplicates among them: a report counts the sections in them alone
abbrev pub packets_of_table : Option IntFields → List Record → ℕ
packets_of_table None records = 0
packets_of_table (Some int) records = length (arrivals int.pid records)

-- the received frames of all services
abbrev pub frames_of_services : PlanFields → List (List ℕ) → ℕ
frames_of_services plan frames = sum_by (λ k. (numbers_in_frames plan k frames).heard) (range_with_len 0 (length plan.services))
