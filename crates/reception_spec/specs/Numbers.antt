-- The numbers of one PID and of the units on it: each is the count of packets, starts or units with a property.
use Rattle.std.specs.Prelude.{ℕ, ◌+◌, ◌-◌, Bool, true, false, List, [], ◌∷◌, length, count_by, flat_map, map, if◌then◌else◌, Option, Some, None}
use Rattle.ts_spec.specs.Form.{UnitForm}
use Rattle.ts_spec.specs.Packet.{PacketFields, continues}
use Rattle.ts_spec.specs.Recording.{Record}
use Rattle.ts_spec.specs.Received.{Arrival, packet_of, arrivals, received_packets}
use Rattle.ts_spec.specs.Reassembly.{PlacedUnit, accepted_units}
use Rattle.ts_spec.specs.Events.{Event, unit_event, bad_check_event, delimit_event, bad_length_event, events_of}
use Rattle.plan_spec.specs.Plan.{ServiceFields, pid_of}
use Rattle.stream_spec.specs.Services.{form_of_kind}
use Rattle.reception_spec.specs.Units.{is_unread, is_filtered, delivered_by_unit}

-- Of one PID.

-- the received packets that do not continue the one before them, where there is one (ISO/IEC 13818-1 clause 2.4.3.3)
abbrev pub gaps_behind : PacketFields → List Arrival → ℕ
gaps_behind before [] = 0
gaps_behind before (arrival ∷ behind) =
    (if continues before (packet_of arrival) then 0 else 1) + gaps_behind (packet_of arrival) behind

abbrev pub gaps_in : List Arrival → ℕ
gaps_in [] = 0
gaps_in (arrival ∷ behind) = gaps_behind (packet_of arrival) behind

-- the kinds of event
abbrev pub is_unit : Event → Bool
is_unit (unit_event moment unit) = true
is_unit bad_check_event = false
is_unit delimit_event = false
is_unit bad_length_event = false

abbrev pub is_bad_check : Event → Bool
is_bad_check (unit_event moment unit) = false
is_bad_check bad_check_event = true
is_bad_check delimit_event = false
is_bad_check bad_length_event = false

abbrev pub is_delimit : Event → Bool
is_delimit (unit_event moment unit) = false
is_delimit bad_check_event = false
is_delimit delimit_event = true
is_delimit bad_length_event = false

abbrev pub is_bad_length : Event → Bool
is_bad_length (unit_event moment unit) = false
is_bad_length bad_check_event = false
is_bad_length delimit_event = false
is_bad_length bad_length_event = true

-- received packets, duplicates and gaps of a PID; what became of the units that start in them
pub record PidNumbers : Type 0 where
  pub heard : ℕ
  pub repeats : ℕ
  pub gaps : ℕ
  pub units : ℕ
  pub bad_check : ℕ
  pub delimited : ℕ
  pub bad_length : ℕ

-- the numbers of no packets
abbrev pub no_numbers : PidNumbers
no_numbers = record { heard = 0; repeats = 0; gaps = 0; units = 0; bad_check = 0; delimited = 0; bad_length = 0 }

-- the numbers of a PID in a recording
abbrev pub pid_numbers : UnitForm → ℕ → List Record → PidNumbers
pid_numbers form pid records = record {
  heard = length (received_packets pid records);
  repeats = length (arrivals pid records) - length (received_packets pid records);
  gaps = gaps_in (received_packets pid records);
  units = count_by is_unit (events_of form (received_packets pid records));
  bad_check = count_by is_bad_check (events_of form (received_packets pid records));
  delimited = count_by is_delimit (events_of form (received_packets pid records));
  bad_length = count_by is_bad_length (events_of form (received_packets pid records));
}

-- the numbers of a PID, where there is one
abbrev pub numbers_if_on : UnitForm → Option ℕ → List Record → PidNumbers
numbers_if_on form None records = no_numbers
numbers_if_on form (Some pid) records = pid_numbers form pid records

-- Of one service: what its accepted units give.

-- the accepted units of a kind on a PID
abbrev pub units_on : UnitForm → Option ℕ → List Record → List (List ℕ)
units_on form None records = []
units_on form (Some pid) records = map (λ (accepted : PlacedUnit). accepted.unit) (accepted_units form pid records)

-- the accepted units of a service
abbrev pub units_of : ServiceFields → List Record → List (List ℕ)
units_of service records = units_on (form_of_kind service.kind) (pid_of service.kind) records

-- units that are not read; units that are and are not wanted; the datagrams that units give by themselves
pub record UnitNumbers : Type 0 where
  pub unread : ℕ
  pub filtered : ℕ
  pub datagrams : ℕ

abbrev pub unit_numbers : ServiceFields → List (List ℕ) → UnitNumbers
unit_numbers service units = record {
  unread = count_by (is_unread service) units;
  filtered = count_by (is_filtered service) units;
  datagrams = length (flat_map (delivered_by_unit service) units);
}

-- the numbers of a service: of its PID, and of its units
abbrev pub service_pid_numbers : ServiceFields → List Record → PidNumbers
service_pid_numbers service records = numbers_if_on (form_of_kind service.kind) (pid_of service.kind) records
