-- What a reception of one service stands for.
use Rattle.std.specs.Prelude.{◌≡◌, ℕ, ◌^◌, ◌<◌, List, [], ◌∷◌, ◌++◌, drop, length, Option, Some, None}
use Rattle.ts_spec.specs.Recording.{Record}
use Rattle.ts_spec.specs.Received.{received_packets}
use Rattle.reassembly_law.specs.Records.{last_bytes}
use Rattle.plan_spec.specs.Plan.{KindFields, ServiceFields, pid_of}
use Rattle.stream_spec.specs.Services.{form_of_kind}
use Rattle.reception_spec.specs.Numbers.{PidNumbers, UnitNumbers, service_pid_numbers, unit_numbers, units_of}
use Rattle.reception_spec.specs.Delivered.{delivered_datagrams}
use Rattle.unit_stream.specs.Joining.{JoinerState, Stands}
use Rattle.service_reception.specs.Services.{IsServed}

-- the packet received last, the unit under way, and all numbers
pub record ReceptionState : Type 0 where
  pub last : Option (List ℕ)
  pub joiner : JoinerState
  pub on_pid : PidNumbers
  pub of_units : UnitNumbers

-- these records were received of a service
pub record HasTaken (service : ServiceFields) (state : ReceptionState) (records : List Record) : Type 0 where
  pub pid : ℕ
  pub pid_is : pid_of service.kind ≡ Some pid
  pub last_is : state.last ≡ last_bytes None (received_packets pid records)
  pub stands : Stands (form_of_kind service.kind) state.joiner (received_packets pid records)
  pub on_pid_are : state.on_pid ≡ service_pid_numbers service records
  pub of_units_are : state.of_units ≡ unit_numbers service (units_of service records)

-- the same, fewer than 2^32 of them, where one more packet of this PID is to be taken
pub record IsReceiving (IsOfKind : KindFields → Type 0) (filter : List (List ℕ)) (pid : ℕ) (service : ServiceFields) (state : ReceptionState) (records : List Record) : Type 0 where
  pub served : IsServed IsOfKind filter service
  pub of_pid : pid_of service.kind ≡ Some pid
  pub few : length records < 2 ^ 32
  pub received : HasTaken service state records

-- the record of a packet
abbrev pub packet_record : ℕ → List ℕ → Record
packet_record moment bytes = record { moment = Some moment; bytes = bytes }

-- the datagrams that one record more delivers
abbrev pub added_by : ServiceFields → List Record → Record → List (List ℕ)
added_by service records r = drop (length (delivered_datagrams service records)) (delivered_datagrams service (records ++ r ∷ []))
