-- What the units of a service carry, and how a stream carries the datagrams of a plan's services.
use Rattle.std.specs.Prelude.{◌≡◌, ℕ, ◌<◌, List, [], length, slice_index_or, flat_map, option_to_list, option_map, if◌then◌else◌, Contains, is_some, true}
use Rattle.ts_spec.specs.Form.{UnitForm}
use Rattle.ts_spec.specs.Recording.{RecordingForm, Record}
use Rattle.ts_spec.specs.Received.{arrival_at, arrivals}
use Rattle.ts_spec.specs.Packetized.{IsIn, Packetizes}
use Rattle.ts_spec.specs.Sndu.{sndu_form}
use Rattle.section_spec.specs.Section.{section_form, section_fields}
use Rattle.section_spec.specs.Mpe.{MpeFields, mpe_of}
use Rattle.fec_frame_spec.specs.Groups.{timing_in}
use Rattle.fec_frame_spec.specs.Carried.{CarriesInFrames}
use Rattle.channel_spec.specs.Carried.{packets_sent}
use Rattle.channel_spec.specs.Delivered.{carried_by_sndu}
use Rattle.plan_spec.specs.Plan.{KindFields, ule, mpe, fec, gse, pid_of, PlanFields, kinds}
use Rattle.plan_spec.specs.Changes.{pid_in, pids_in, has_pid, versions}

-- the datagram that a section carries, as a list of at most one (EN 301 192 clause 7)
abbrev pub carried_by_section : List ℕ → List (List ℕ)
carried_by_section unit = option_to_list (option_map (λ (m : MpeFields). m.datagram) (mpe_of (section_fields unit)))

-- the kind of a service
abbrev pub kind_at : PlanFields → ℕ → KindFields
kind_at plan k = slice_index_or (kinds plan) k (mpe 0)

-- the kind of unit of a service
abbrev pub form_of_kind : KindFields → UnitForm
form_of_kind (ule pid address packing) = sndu_form
form_of_kind (mpe pid) = section_form
form_of_kind (fec pid rows parity window) = section_form
form_of_kind (gse isi address) = section_form

-- the datagram that a unit of a kind carries by itself, as a list of at most one; none of one with frames
abbrev pub carried_by_unit : KindFields → List ℕ → List (List ℕ)
carried_by_unit (ule pid address packing) unit = carried_by_sndu unit
carried_by_unit (mpe pid) unit = carried_by_section unit
carried_by_unit (fec pid rows parity window) unit = []
carried_by_unit (gse isi address) unit = []

-- service k has this PID in a version
pub record IsPidOf (plan : PlanFields) (k pid : ℕ) : Type 0 where
  pub service : k < length plan.services
  pub own : Contains (pids_in plan k) pid

-- the datagrams of service k on a PID: those of the versions that give it this PID, where they are given by version and service
abbrev pub datagrams_on : PlanFields → (ℕ → ℕ → List (List ℕ)) → ℕ → ℕ → List (List ℕ)
datagrams_on plan datagrams k pid =
    flat_map (λ version. if has_pid (pid_in plan version k) pid then datagrams version k else []) (versions plan)

-- How units on a PID carry datagrams, by kind: each one by itself, or in MPE-FEC frames, which without time slicing are numbered from `before` on, and with it
-- timed by the moments of the packets in which units begin (EN 301 192 clause 9). moments n is the moment of the packet in which unit n begins. Services of GSE
-- packets have no PID.
abbrev pub AreCarried : RecordingForm → KindFields → ℕ → List (List ℕ) → (ℕ → ℕ) → List (List ℕ) → Type 0
AreCarried form (ule pid address packing) before units moments datagrams =
    datagrams ≡ flat_map (carried_by_unit (ule pid address packing)) units
AreCarried form (mpe pid) before units moments datagrams = datagrams ≡ flat_map (carried_by_unit (mpe pid)) units
AreCarried form (fec pid rows parity window) before units moments datagrams =
    CarriesInFrames (timing_in form (is_some window)) rows before units moments datagrams
AreCarried form (gse isi address) before units moments datagrams = ⊥

-- the stream carries these datagrams, by service and PID: each service has PIDs, and on each of them the readable packets carry units of
-- its kind, and these the datagrams; begin k pid n is the place of unit n among the joined payloads. Frames may be numbered from any number
-- on: so many come before them on other PIDs, where the stream is a sender's, and what is received doesn't depend on it
pub record Carries (plan : PlanFields) (sent : List Record) (datagrams : ℕ → ℕ → List (List ℕ)) : Type 0 where
  pub on_pids : (k : ℕ) → k < length plan.services → is_some (pid_of (kind_at plan k)) ≡ true
  pub units : ℕ → ℕ → List (List ℕ)
  pub begin : ℕ → ℕ → ℕ → ℕ
  pub moments : ℕ → ℕ → ℕ → ℕ
  pub before : ℕ → ℕ → ℕ
  pub packetized : (k pid : ℕ) → IsPidOf plan k pid → Packetizes (form_of_kind (kind_at plan k)) (units k pid) (packets_sent pid sent) (begin k pid)
  pub begun : (k pid n m : ℕ) → IsPidOf plan k pid → n < length (units k pid) → IsIn (packets_sent pid sent) m (begin k pid n)
      → (arrival_at (arrivals pid sent) m).moment ≡ moments k pid n
  pub carried : (k pid : ℕ) → IsPidOf plan k pid
      → AreCarried plan.recording (kind_at plan k) (before k pid) (units k pid) (moments k pid) (datagrams k pid)
