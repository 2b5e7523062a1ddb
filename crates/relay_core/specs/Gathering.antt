-- What is offered of delivered datagrams, and when no more are. Profile: as many as a capture may have.
use Rattle.std.specs.Prelude.{◌≡◌, ◌⊎◌, ℕ, ◌+◌, ◌<◌, ◌≤◌, List, [], length, map, All, Option, Some, None, ◌==◌, if◌then◌else◌}
use Rattle.ts_spec.specs.Recording.{plain}
use Rattle.wire_spec.specs.Bytes.{AreBytes}
use Rattle.wire_spec.specs.Datagram.{front_length}
use Rattle.pcap_file.specs.Reading.{most_records, most_bytes}
use Rattle.pcap_file.specs.Told.{bytes_in}
use Rattle.plan_spec.specs.Plan.{PlanFields}
use Rattle.plan_spec.specs.Offered.{Records}
use Rattle.datagram_routing.specs.Offering.{IsOffered}
use Rattle.datagram_routing.specs.declared.offered.Offered.{Offered}
use Rattle.relay_core.specs.declared.gather.GatherFault.{GatherFault}
use Rattle.relay_core.specs.declared.gather.GatherFault.TheVariants as fault

-- bytes that begin with a datagram of this length, as a record: one without a datagram, where they are not that alone
abbrev pub record_with : Option ℕ → List ℕ → Option (List ℕ)
record_with None bytes = None
record_with (Some size) bytes = if size == length bytes then Some bytes else None

-- delivered bytes as a record: one datagram and nothing after it, or a record without a datagram
abbrev pub record_of : List ℕ → Option (List ℕ)
record_of bytes = record_with (front_length bytes) bytes

-- delivered datagrams as records, one after another
abbrev pub delivered_records : List (List ℕ) → Records
delivered_records datagrams = map record_of datagrams

-- what was offered, how many datagrams and bytes were delivered for it, why the last refused datagram was refused, and how often one was
pub record GatherState : Type 0 where
  pub offered : Offered
  pub count : ℕ
  pub size : ℕ
  pub cause : GatherFault
  pub faults : ℕ

-- no more datagrams, and no more bytes, than a capture has
pub record FitsCapture (datagrams : List (List ℕ)) : Type 0 where
  pub count : length datagrams ≤ most_records
  pub size : bytes_in datagrams ≤ most_bytes

-- these datagrams were offered under the plan, in order; they are as many, of as many bytes, within the limits, and bytes
pub record HasOffered (plan : PlanFields) (offer : Offered) (count size : ℕ) (datagrams : List (List ℕ)) : Type 0 where
  pub offers : IsOffered plan (delivered_records datagrams) offer
  pub count_is : count ≡ length datagrams
  pub size_is : size ≡ bytes_in datagrams
  pub fits : FitsCapture datagrams
  pub of_bytes : All AreBytes datagrams

-- some datagrams were
pub record HasOfferedSome (plan : PlanFields) (offer : Offered) (count size : ℕ) : Type 0 where
  pub datagrams : List (List ℕ)
  pub from : HasOffered plan offer count size datagrams

-- what gathers was given these datagrams
abbrev pub HasGathered : PlanFields → GatherState → List (List ℕ) → Type 0
HasGathered plan gather datagrams = HasOffered plan gather.offered gather.count gather.size datagrams

-- the datagrams of these pairs were gathered, in order, within the limits
abbrev pub IsGathered : PlanFields → GatherState → List (ℕ × List ℕ) → Type 0
IsGathered plan gather pairs = HasGathered plan gather (map (λ (pair : ℕ × List ℕ). pair.1) pairs)

-- with this datagram more there would be more than a capture has
abbrev pub IsPast : GatherState → List ℕ → Type 0
IsPast gather datagram = (most_records ≤ gather.count) ⊎ (most_bytes < gather.size + length datagram)

-- why a datagram was refused after these
abbrev pub IsCauseOf : GatherState → List ℕ → GatherFault → Type 0
IsCauseOf gather datagram fault.None = ⊥
IsCauseOf gather datagram fault.OutOfMemory = ¬ IsPast gather datagram
IsCauseOf gather datagram fault.Full = IsPast gather datagram

-- a plan without services
abbrev pub no_services : PlanFields
no_services = record {
  recording = plain;
  packet_rate = 0;
  cycle = 0;
  frame_bytes = None;
  table = None;
  services = [];
  version = 0;
  changes = [];
}
