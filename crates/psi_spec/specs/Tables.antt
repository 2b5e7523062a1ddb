-- The tables that name the services of a plan: a PAT, the PMT of each program, and the INT. Profile: all of it.
use Rattle.std.specs.Prelude.{ℕ, zero, suc, Bool, List, [], ◌∷◌, ◌++◌, map, flat_map, filter, zip, fold, true, ◌==◌, nat_lt, if◌then◌else◌, Option, None, Some}
use Rattle.std.specs.List.{filter_map, list_any}
use Rattle.section_spec.specs.Section.{section_form}
use Rattle.unit_stream.specs.Packing.{packetized}
use Rattle.unit_stream.specs.Packers.{written}
use Rattle.int_spec.specs.Table.{table_bytes}
use Rattle.plan_spec.specs.Plan.{ServiceFields, IntFields, MovedFields, ChangeFields, PlanFields, pid_of, table_pids, service_pids}
use Rattle.plan_spec.specs.Signalling.{table_of}
use Rattle.psi_spec.specs.Pat.{ProgramFields, PatFields, pat_bytes}
use Rattle.psi_spec.specs.Pmt.{StreamFields, PmtFields, pmt_bytes}

-- The programs are the distinct service_ids above 0, in rising order.

-- a number put among rising ones, where it is not there
abbrev pub with_number : List ℕ → ℕ → List ℕ
with_number [] n = n ∷ []
with_number (m ∷ numbers) n = if n == m then m ∷ numbers else if nat_lt n m then n ∷ m ∷ numbers else m ∷ with_number numbers n

-- the service_ids of a plan above 0, each once, rising
abbrev pub numbers_of : List ServiceFields → List ℕ
numbers_of services = fold with_number [] (filter (nat_lt 0) (map (λ (s : ServiceFields). s.service_id) services))

-- The PIDs of the PMTs go down from 8190, past each PID that the INT or a service has, before changes of the plan or after.

-- the PIDs to which a change moves services
abbrev pub moved_pids : ChangeFields → List ℕ
moved_pids change = map (λ (m : MovedFields). m.pid) change.moved

-- the PIDs that the INT or a service has, before changes of the plan or after
abbrev pub used_pids : PlanFields → List ℕ
used_pids plan = table_pids plan.table ++ service_pids plan ++ flat_map moved_pids plan.changes

-- the number is one of these
abbrev pub is_among : List ℕ → ℕ → Bool
is_among numbers n = list_any (λ m. m == n) numbers

-- the numbers below one, falling, except those that are used
abbrev pub unused_below : ℕ → List ℕ → List ℕ
unused_below zero used = []
unused_below (suc n) used = if is_among used n then unused_below n used else n ∷ unused_below n used

-- a program of this number, with this PID of its PMT
abbrev pub program_of : ℕ × ℕ → ProgramFields
program_of pair = record { number = pair.0; pid = pair.1 }

-- the programs of a plan, each with a PID counted down from 8190 past all that the plan uses
abbrev pub programs_of : PlanFields → List ProgramFields
programs_of plan = map program_of (zip (numbers_of plan.services) (unused_below 8191 (used_pids plan)))

-- The streams of a program are the services with its number as service_id, in order, each with its component_tag.

-- a stream on a PID, where there is one, with this component_tag
abbrev pub stream_on : Option ℕ → ℕ → Option StreamFields
stream_on None tag = None
stream_on (Some pid) tag = Some (record { pid = pid; tag = Some tag })

-- a service as a stream of the program of a number, where it is one
abbrev pub stream_in : ℕ → ServiceFields → Option StreamFields
stream_in number service = if service.service_id == number then stream_on (pid_of service.kind) service.component_tag else None

-- the PMT of a program: its streams are the services with its number as service_id, in order
abbrev pub pmt_of : PlanFields → ℕ → PmtFields
pmt_of plan number = record { number = number; streams = filter_map (stream_in number) plan.services }

-- the PAT of a plan
abbrev pub pat_of_plan : PlanFields → IntFields → PatFields
pat_of_plan plan int = record { transport_stream_id = int.transport_stream_id; programs = programs_of plan }

-- Each section is packetized by itself, from counter 0 on.

-- the packets of a section by itself, from counter 0 on
abbrev pub laid : ℕ → List ℕ → List (List ℕ)
laid pid section = map written (packetized section_form true pid 0 (section ∷ []))

-- the packets of the PMT of a program
abbrev pub laid_pmt : PlanFields → ProgramFields → List (List ℕ)
laid_pmt plan program = laid program.pid (pmt_bytes (pmt_of plan program.number))

-- the packets of PAT, PMTs and INT of a plan before any change: none without an INT
abbrev pub tables_with : PlanFields → Option IntFields → List (List ℕ)
tables_with plan None = []
tables_with plan (Some int) =
    laid 0 (pat_bytes (pat_of_plan plan int)) ++ flat_map (laid_pmt plan) (programs_of plan) ++ laid int.pid (table_bytes (table_of plan int))

abbrev pub table_packets_of : PlanFields → List (List ℕ)
table_packets_of plan = tables_with plan plan.table
