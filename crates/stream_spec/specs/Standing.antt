-- Where the packets of a stream stand among its parts, one for each version of the plan.
use Rattle.std.specs.Prelude.{◌≡◌, ℕ, ◌+◌, ◌<◌, ◌≤◌, List, length, Contains, Some}
use Rattle.ts_spec.specs.Recording.{Record}
use Rattle.ts_spec.specs.Received.{Arrival, arrival_at, arrivals}
use Rattle.ts_spec.specs.Packetized.{unit_at, Packetizes}
use Rattle.section_spec.specs.Section.{section_form}
use Rattle.channel_spec.specs.Carried.{packets_sent, HoldsPart}
use Rattle.plan_spec.specs.Plan.{IntFields, PlanFields}
use Rattle.plan_spec.specs.Changes.{pid_in}
use Rattle.plan_spec.specs.InForce.{version_in}
use Rattle.stream_spec.specs.Services.{IsPidOf}

-- part v of what was sent goes from place begin v up to begin (v + 1)
pub record AreParts (plan : PlanFields) (sent : List Record) (begin : ℕ → ℕ) : Type 0 where
  pub first : begin 0 ≡ 0
  pub in_order : (version : ℕ) → version ≤ length plan.changes → begin version ≤ begin (version + 1)
  pub last : begin (length plan.changes + 1) ≡ length sent

-- a place lies in the part of a version
pub record IsInPart (begin : ℕ → ℕ) (version place : ℕ) : Type 0 where
  pub from : begin version ≤ place
  pub below : place < begin (version + 1)

-- a packet of service k stands in the part of a version that gives it the packet's PID
pub record IsInOwnPart (plan : PlanFields) (begin : ℕ → ℕ) (k pid place : ℕ) : Type 0 where
  pub version : ℕ
  pub within : version ≤ length plan.changes
  pub part : IsInPart begin version place
  pub own : pid_in plan version k ≡ Some pid

-- the INT's packets carry sections, and one that says a version above 0 of the plan stands whole in the part of that version (EN 301 192 clause 8.4)
pub record Signals (plan : PlanFields) (int : IntFields) (sent : List Record) (begin : ℕ → ℕ) : Type 0 where
  pub sections : List (List ℕ)
  pub starts : ℕ → ℕ
  pub packetized : Packetizes section_form sections (packets_sent int.pid sent) starts
  pub whole : (n version m : ℕ) → n < length sections → version_in plan (unit_at sections n) ≡ Some version → 0 < version
      → HoldsPart sections (packets_sent int.pid sent) starts n m → IsInPart begin version (arrival_at (arrivals int.pid sent) m).place

-- all packets of services and of the INT stand where they should
pub record StandInParts (plan : PlanFields) (sent : List Record) (begin : ℕ → ℕ) : Type 0 where
  pub parts : AreParts plan sent begin
  pub services : (k pid : ℕ) (a : Arrival) → IsPidOf plan k pid → Contains (arrivals pid sent) a → IsInOwnPart plan begin k pid a.place
  pub table : (int : IntFields) → plan.table ≡ Some int → Signals plan int sent begin
