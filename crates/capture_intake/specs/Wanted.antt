-- What a capture tells where only captures of some link types are wanted: one of another type has the fault Link in its head.
use Rattle.std.specs.Prelude.{◌≡◌, ℕ, Bool, true, false, not, ◌&&◌, List, [], is_none, if◌then◌else◌, Option, Some, None, MatchOption}
use Rattle.pcap_file.specs.Reading.{head_fault, link_at}
use Rattle.pcap_file.specs.Told.{Tells, place_of_fault}
use Rattle.pcap_file.specs.Reader.{is_cut}
use Rattle.pcap_file.specs.declared.captured.LinkType.{LinkType}
use Rattle.pcap_file.specs.declared.captured.LinkType.TheVariants.{Ethernet, Raw}
use Rattle.pcap_file.specs.declared.faults.CaptureFault.{CaptureFault}
use Rattle.pcap_file.specs.declared.faults.CaptureFault.TheVariants as fault

-- captures of every link type
abbrev pub every_link : LinkType → Bool
every_link link = true

-- captures of Ethernet frames alone
abbrev pub is_ethernet : LinkType → Bool
is_ethernet Ethernet = true
is_ethernet Raw = false

-- a link type that is told is one of those that are wanted
abbrev pub is_wanted : (LinkType → Bool) → Option LinkType → Bool
is_wanted wants None = true
is_wanted wants (Some link) = wants link

-- the head of a capture can be read, and tells a link type that is not wanted
abbrev pub is_refused : (LinkType → Bool) → List ℕ → Bool
is_refused wants bytes = is_none (head_fault bytes) && not (is_wanted wants (link_at bytes))

-- the fault of such a head
abbrev pub refusal : (LinkType → Bool) → List ℕ → Option CaptureFault
refusal wants bytes = if is_refused wants bytes then Some fault.Link else None

-- what bytes tell: of a capture that is refused no record and that fault, of any other its records and its fault
abbrev pub TellsWanted : (LinkType → Bool) → List ℕ → List (List ℕ) → Option CaptureFault → Type 0
TellsWanted wants bytes captured found =
    MatchOption (refusal wants bytes) (Tells bytes captured found) (λ at_head. (captured ≡ []) × (found ≡ Some at_head))

-- the number of the record that has the fault, from 1; 0 for a fault of the head
abbrev pub place_in_wanted : (LinkType → Bool) → List ℕ → List (List ℕ) → ℕ
place_in_wanted wants bytes captured = if is_refused wants bytes then 0 else place_of_fault bytes captured

-- the bytes tell this fault, and it is that of the record with this number
pub record ShowsFault (wants : LinkType → Bool) (bytes : List ℕ) (fault : CaptureFault) (place : ℕ) : Type 0 where
  pub captured : List (List ℕ)
  pub told : TellsWanted wants bytes captured (Some fault)
  pub place_is : place ≡ place_in_wanted wants bytes captured

-- the bytes show no fault, or none but that they are cut
abbrev pub ShowsNoFault : (LinkType → Bool) → List ℕ → Type 0
ShowsNoFault wants bytes = (captured : List (List ℕ)) (fault : CaptureFault) → TellsWanted wants bytes captured (Some fault) → is_cut fault ≡ true
