-- What was read of a capture, and what a taker was given of it: its records, in order.
use Rattle.std.specs.Prelude.{◌≡◌, ◌⊎◌, ℕ, ◌≤◌, Bool, true, false, List, [], length, option_map, Option, None, Some, Result, Ok, Err, IfOk, IfSome, IsErrOf}
use Rattle.wire_spec.specs.Causes.{Rose}
use Rattle.ipe_io.specs.Told.{InputTold}
use Rattle.pcap_file.specs.Reading.{head_fault, link_at, most_records}
use Rattle.pcap_file.specs.Reader.{IsReadAhead, Takes, is_cut}
use Rattle.pcap_file.specs.declared.captured.LinkType.{LinkType}
use Rattle.capture_intake.specs.Wanted.{TellsWanted, place_in_wanted, ShowsFault, ShowsNoFault}
use Rattle.capture_intake.specs.declared.faults.PlacedFault.{PlacedFault}
use Rattle.capture_intake.specs.declared.faults.CaptureReadFault.{CaptureReadFault}
use Rattle.capture_intake.specs.declared.faults.CaptureReadFault.TheVariants as read

-- the bytes tell these records and this fault at its place; where there are records, the capture is of this link type
pub record IsToldBy (wants : LinkType → Bool) (bytes : List ℕ) (link : LinkType) (captured : List (List ℕ)) (found : Option PlacedFault) : Type 0 where
  pub told : TellsWanted wants bytes captured (option_map (λ found. found.fault) found)
  pub link_is : (captured ≡ []) ⊎ (link_at bytes ≡ Some link)
  pub place_is : IfSome found (λ found. found.place ≡ place_in_wanted wants bytes captured)

-- a taker has taken these records, no more than a capture may have; where the input tells its bytes, they are those that the bytes tell
pub record HasTaken (wants : LinkType → Bool) (found : Option PlacedFault) (left : Option (List ℕ)) (Took : LinkType → List (List ℕ) → Type 0) : Type 0 where
  pub link : LinkType
  pub captured : List (List ℕ)
  pub took : Took link captured
  pub few : length captured ≤ most_records
  pub told : IfSome left (λ bytes. IsToldBy wants bytes link captured found)

-- what the bytes that were read show, by the answer: its fault, where it has one; at a fault of the input none but that they are cut; out of
-- memory that the head has none
abbrev pub ShowsRead : (LinkType → Bool) → Result (Option PlacedFault) CaptureReadFault → List ℕ → Type 0
ShowsRead wants (Ok found) bytes = IfSome found (λ found. ShowsFault wants bytes found.fault found.place)
ShowsRead wants (Err read.Source) bytes = ShowsNoFault wants bytes
ShowsRead wants (Err read.OutOfMemory) bytes = head_fault bytes ≡ None

-- the bytes that were read, and what they show. After the record that was read last no more was read than a reader holds
pub record ReadsBytes (wants : LinkType → Bool) (result : Result (Option PlacedFault) CaptureReadFault) (before now : InputTold) : Type 0 where
  pub bytes : List ℕ
  pub takes : Takes before now bytes
  pub ahead : IsReadAhead bytes
  pub shows : ShowsRead wants result bytes

-- A capture was read to its end or its fault, and a taker was given its records.
pub record Intakes (wants : LinkType → Bool) (result : Result (Option PlacedFault) CaptureReadFault) (before now : InputTold)
    (Took : LinkType → List (List ℕ) → Type 0) : Type 0 where
  -- what was taken
  pub taken : IfOk result (λ found. HasTaken wants found before.left Took)
  -- what was read
  pub reads : ReadsBytes wants result before now
  -- the input has ended where there is no fault, or one that comes only there
  pub ended : result ≡ Ok None → now.ended ≡ true
  pub cut : IfOk result (λ found. IfSome found (λ found. is_cut found.fault ≡ true → now.ended ≡ true))
  -- at its fault it has not
  pub goes_on : IsErrOf result read.Source → before.ended ≡ false → now.ended ≡ false
  -- it failed exactly where the answer says so
  pub source : IsErrOf result read.Source → Rose before.faults now.faults
  pub kept : ¬ IsErrOf result read.Source → now.faults ≡ before.faults
