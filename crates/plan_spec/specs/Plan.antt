-- Plans: what the settings of a transmission say.
use Rattle.std.specs.Prelude.{ℕ, Bool, List, [], ◌∷◌, ◌++◌, map, Option, Some, None, is_some}
use Rattle.std.specs.List.{filter_map}
use Rattle.ts_spec.specs.Recording.{RecordingForm}
use Rattle.addr_rules.specs.declared.rules.Rule.{Rule}

-- the slots of each cycle that a sliced service has: from a start on, so many
pub record WindowFields : Type 0 where
  pub start : ℕ
  pub length : ℕ

-- what carries the datagrams of a service: SNDUs, MPE sections, MPE-FEC frames, or GSE packets; a sliced service has a window
pub data KindFields : Type 0 where
  ule : (pid : ℕ) (address packing : Bool) → KindFields
  mpe : (pid : ℕ) → KindFields
  fec : (pid rows parity : ℕ) (window : Option WindowFields) → KindFields
  gse : (isi : ℕ) (address : Bool) → KindFields

-- a service. Of one in GSE packets, a short datagram that an urgent rule matches need not wait for the rest of a long one
pub record ServiceFields : Type 0 where
  pub name : List ℕ
  pub kind : KindFields
  pub rules : List Rule
  pub urgent : List Rule
  pub filter : List (List ℕ)
  pub unicast : List ℕ
  pub service_id : ℕ
  pub component_tag : ℕ

-- where the INT stands, and what it says of the stream (EN 301 192 clause 8.4)
pub record IntFields : Type 0 where
  pub pid : ℕ
  pub platform_id : ℕ
  pub network_id : ℕ
  pub original_network_id : ℕ
  pub transport_stream_id : ℕ

-- a service that a change moves: its place in the list, its PID and its rules from then on
pub record MovedFields : Type 0 where
  pub service : ℕ
  pub pid : ℕ
  pub rules : List Rule

-- a change: it holds from the capture's record of this number on, counted from 1, and moves these services
pub record ChangeFields : Type 0 where
  pub at : ℕ
  pub moved : List MovedFields

-- a plan; the bytes of a baseband frame are there exactly where these carry it, and not transport packets.
-- The services are those of its version, which its INT says; what changes them later makes the versions after it
pub record PlanFields : Type 0 where
  pub recording : RecordingForm
  pub packet_rate : ℕ
  pub cycle : ℕ
  pub frame_bytes : Option ℕ
  pub table : Option IntFields
  pub services : List ServiceFields
  pub version : ℕ
  pub changes : List ChangeFields

-- the plan is of baseband frames
abbrev pub is_baseband : PlanFields → Bool
is_baseband plan = is_some plan.frame_bytes

-- the kinds and the names of all services
abbrev pub kinds : PlanFields → List KindFields
kinds plan = map (λ (service : ServiceFields). service.kind) plan.services

abbrev pub names : PlanFields → List (List ℕ)
names plan = map (λ (service : ServiceFields). service.name) plan.services

-- the PID of a service in transport packets, the ISI of one in baseband frames
abbrev pub pid_of : KindFields → Option ℕ
pid_of (ule pid address packing) = Some pid
pid_of (mpe pid) = Some pid
pid_of (fec pid rows parity window) = Some pid
pid_of (gse isi address) = None

abbrev pub isi_of : KindFields → Option ℕ
isi_of (ule pid address packing) = None
isi_of (mpe pid) = None
isi_of (fec pid rows parity window) = None
isi_of (gse isi address) = Some isi

-- the INT's PID and those of all services; the ISIs of all services
abbrev pub table_pids : Option IntFields → List ℕ
table_pids None = []
table_pids (Some table) = table.pid ∷ []

abbrev pub service_pids : PlanFields → List ℕ
service_pids plan = filter_map pid_of (kinds plan)

abbrev pub isis : PlanFields → List ℕ
isis plan = filter_map isi_of (kinds plan)

-- a sliced service: its frames and its window
pub record SlicedFields : Type 0 where
  pub rows : ℕ
  pub parity : ℕ
  pub start : ℕ
  pub length : ℕ

abbrev pub sliced_of : KindFields → Option SlicedFields
sliced_of (ule pid address packing) = None
sliced_of (mpe pid) = None
sliced_of (fec pid rows parity None) = None
sliced_of (fec pid rows parity (Some window)) =
    Some (record { rows = rows; parity = parity; start = window.start; length = window.length })
sliced_of (gse isi address) = None

abbrev pub sliced : PlanFields → List SlicedFields
sliced plan = filter_map sliced_of (kinds plan)

-- the rules of all services
abbrev pub rule_lists : PlanFields → List (List Rule)
rule_lists plan = map (λ (service : ServiceFields). service.rules) plan.services

-- the same, and with those of each service its urgent ones
abbrev pub all_rule_lists : PlanFields → List (List Rule)
all_rule_lists plan = map (λ (service : ServiceFields). service.rules ++ service.urgent) plan.services

-- the rules of a service, or their texts: those by which it takes datagrams, and those by which these are urgent
pub record ServiceRules (R : Type 0) : Type 0 where
  pub rules : List R
  pub urgent : List R

abbrev pub own_rules : ServiceFields → ServiceRules Rule
own_rules service = record { rules = service.rules; urgent = service.urgent }

abbrev pub service_rules : PlanFields → List (ServiceRules Rule)
service_rules plan = map own_rules plan.services

-- services and a plan with these rules, those of one service after another
abbrev pub services_with : List ServiceFields → List (ServiceRules Rule) → List ServiceFields
services_with [] lists = []
services_with (service ∷ services) [] = service ∷ services
services_with (service ∷ services) (own ∷ lists) = (record service { rules = own.rules; urgent = own.urgent }) ∷ services_with services lists

abbrev pub with_rules : PlanFields → List (ServiceRules Rule) → PlanFields
with_rules plan lists = record plan { services = services_with plan.services lists }
