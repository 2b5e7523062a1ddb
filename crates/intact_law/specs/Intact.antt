-- Units that arrived intact, and the datagrams that need no other unit.
use Rattle.std.specs.Prelude.{ℕ, ◌<◌, List, [], length, flat_map, Contains}
use Rattle.wire_spec.specs.Lists.{IsSubsequence}
use Rattle.ts_spec.specs.Recording.{Record}
use Rattle.ts_spec.specs.Packetized.{unit_at, Packetizes}
use Rattle.channel_spec.specs.Channel.{Channel}
use Rattle.channel_spec.specs.Carried.{packets_sent, ArrivedIntact, IsRising}
use Rattle.plan_spec.specs.Plan.{KindFields, ule, mpe, fec, gse, ServiceFields, PlanFields}
use Rattle.plan_spec.specs.Changes.{pids_in}
use Rattle.stream_spec.specs.Services.{kind_at, form_of_kind, IsPidOf}
use Rattle.reception_spec.specs.Units.{delivered_by_unit}
use Rattle.reception_spec.specs.Spans.{span_of}
use Rattle.reception_spec.specs.Delivered.{service_on}
use Rattle.gse_spec.specs.Received.{carried_by_pdu, received_pdus, delivered_by_pdu}
use Rattle.gse_spec.specs.Channel.{FrameChannel}
use Rattle.gse_spec.specs.Carried.{ArrivedIntact as ArrivedIntactInFrames, sent_pdu}
use Rattle.bb_reception_spec.specs.Delivered.{service_at}
use Rattle.bb_loss_law.specs.Plans.{IsIsiOf, isis_of}
use Rattle.loss_law.specs.Frames.{own_of_unit}

-- numbers of units that arrived intact in a span, any of them, in the order in which they were sent
pub record AreIntact {pids : List ℕ} {sent recorded : List Record} (channel : Channel pids sent recorded) (span : List Record)
    (pid : ℕ) (units : List (List ℕ)) (begin : ℕ → ℕ) (numbers : List ℕ) : Type 0 where
  pub rising : IsRising 0 numbers
  pub each : (n : ℕ) → Contains numbers n → (n < length units) × ArrivedIntact channel span pid units begin n

-- the wanted datagram of a unit by itself, as a list of at most one: of an SNDU or a datagram_section what the service delivers of it; of a
-- datagram_section of an MPE-FEC frame its datagram
abbrev pub own_by_kind : KindFields → ServiceFields → List ℕ → List (List ℕ)
own_by_kind (ule own address packing) service unit = delivered_by_unit service unit
own_by_kind (mpe own) service unit = delivered_by_unit service unit
own_by_kind (fec own rows parity window) service unit = own_of_unit rows unit
own_by_kind (gse isi address) service unit = []

-- those of the units of these numbers on one PID of service k, in order
abbrev pub own_on : PlanFields → ℕ → ℕ → List (List ℕ) → List ℕ → List (List ℕ)
own_on plan k pid units numbers = flat_map (λ n. own_by_kind (kind_at plan k) (service_on plan k pid) (unit_at units n)) numbers

-- all that is asked of what was sent: the readable packets of each PID of service k carry units of its kind. What the units carry, and when
-- they were sent, may be any
abbrev pub CarriesUnitsFor : (plan : PlanFields) (k : ℕ) (sent : List Record) (units : ℕ → List (List ℕ)) (begin : ℕ → ℕ → ℕ) → Type 0
CarriesUnitsFor plan k sent units begin = (pid : ℕ) → IsPidOf plan k pid → Packetizes (form_of_kind (kind_at plan k)) (units pid) (packets_sent pid sent) (begin pid)

-- Whatever errors go undetected, and whatever moments records have: of any units of service k that arrived intact, each in the span of its PID, the
-- wanted datagrams of their own are a subsequence of what the service delivers, one PID after another, each as often as such units carry it
abbrev pub DeliversIntactUnits : (plan : PlanFields) (k : ℕ) (sent : List Record) (units : ℕ → List (List ℕ)) (begin : ℕ → ℕ → ℕ)
    → (recorded : List Record) → Channel (pids_in plan k) sent recorded → List (List ℕ) → Type 0
DeliversIntactUnits plan k sent units begin recorded channel delivered = (intact : ℕ → List ℕ)
    → ((pid : ℕ) → IsPidOf plan k pid → AreIntact channel (span_of plan k pid recorded) pid (units pid) (begin pid) (intact pid))
    → IsSubsequence (flat_map (λ pid. own_on plan k pid (units pid) (intact pid)) (pids_in plan k)) delivered

-- each unit of service k arrived intact in the span of its PID
abbrev pub AllUnitsArrivedIntact : (plan : PlanFields) (k : ℕ) (sent : List Record) (units : ℕ → List (List ℕ)) (begin : ℕ → ℕ → ℕ)
    → (recorded : List Record) → Channel (pids_in plan k) sent recorded → Type 0
AllUnitsArrivedIntact plan k sent units begin recorded channel = (pid n : ℕ) → IsPidOf plan k pid → n < length (units pid)
    → ArrivedIntact channel (span_of plan k pid recorded) pid (units pid) (begin pid) n

-- the wanted datagrams of all units of service k, each by itself, one PID after another
abbrev pub own_of_all : PlanFields → ℕ → (units : ℕ → List (List ℕ)) → List (List ℕ)
own_of_all plan k units = flat_map (λ pid. flat_map (own_by_kind (kind_at plan k) (service_on plan k pid)) (units pid)) (pids_in plan k)

-- Baseband frames.

-- numbers of PDUs that arrived intact, any of them, in the order in which they end
pub record AreIntactPdus {isis : List ℕ} {sent recorded : List (List ℕ)} (channel : FrameChannel isis sent recorded) (isi : ℕ) (numbers : List ℕ) : Type 0 where
  pub rising : IsRising 0 numbers
  pub each : (n : ℕ) → Contains numbers n → (n < length (received_pdus isi sent)) × ArrivedIntactInFrames channel isi n

-- whatever errors go undetected: of any PDUs on the ISI of service k that arrived intact the wanted datagrams are a subsequence of what the service delivers
abbrev pub DeliversIntactPdus : (plan : PlanFields) (k : ℕ) (sent recorded : List (List ℕ)) → FrameChannel (isis_of plan k) sent recorded → List (List ℕ) → Type 0
DeliversIntactPdus plan k sent recorded channel delivered = (isi : ℕ) → IsIsiOf plan k isi → (intact : List ℕ) → AreIntactPdus channel isi intact
    → IsSubsequence (flat_map (λ n. delivered_by_pdu carried_by_pdu (service_at plan k).filter (sent_pdu isi sent n)) intact) delivered
