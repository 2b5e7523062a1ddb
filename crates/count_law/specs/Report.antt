-- The same sums over the numbers of a report, whatever carries the services.
use Rattle.std.specs.Prelude.{ℕ, ◌+◌, Bool, ◌||◌, List, length, sum_by}
use Rattle.std.specs.List.{range_with_len}
use Rattle.plan_spec.specs.Plan.{KindFields, PlanFields}
use Rattle.plan_spec.specs.Checks.{is_gse}
use Rattle.stream_law.specs.Words.{is_single}
use Rattle.recording_spec.specs.Pieces.{by_carrier, records_in}
use Rattle.receive_command.specs.Report.{counts_of_service_in}
use Rattle.count_law.specs.Packets.{packets_of_table}

-- what services have of a recording in pieces: received packets and duplicates, or received frames
abbrev pub pieces_of_service : PlanFields → List (List ℕ) → ℕ → ℕ
pieces_of_service plan pieces k = (counts_of_service_in plan pieces k).heard + (counts_of_service_in plan pieces k).repeats

abbrev pub pieces_of_services : PlanFields → List (List ℕ) → ℕ
pieces_of_services plan pieces = sum_by (pieces_of_service plan pieces) (range_with_len 0 (length plan.services))

-- the readable packets of the INT's PID. Baseband frames carry no INT
abbrev pub pieces_of_table : PlanFields → List (List ℕ) → ℕ
pieces_of_table plan pieces = by_carrier plan.frame_bytes (packets_of_table plan.table (records_in plan pieces)) 0

-- of a kind whose units give a datagram each, or none: all but MPE-FEC, where frames give them
abbrev pub gives_by_units : KindFields → Bool
gives_by_units kind = is_single kind || is_gse kind
