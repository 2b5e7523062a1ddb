-- A reading record by record.
use Rattle.std.specs.Prelude.{◌≡◌, ℕ, ◌≤◌, Bool, true, List, [], ◌∷◌, ◌++◌, Some, Result, Ok, Err, IsErrOf, ⊤}
use Rattle.std.specs.Io.KnownBytes.{Consumes}
use Rattle.wire_spec.specs.Causes.{Rose}
use Rattle.ipe_io.specs.Told.{InputTold}
use Rattle.pcap_file.specs.Told.{Tells}
use Rattle.pcap_file.specs.Known.{ReaderState}
use Rattle.pcap_file.specs.Reader.{HasReadRecords, IsReadAhead, ShowsNoFault, Takes, rest_of}
use Rattle.pcap_file.specs.declared.captured.LinkType.{LinkType}
use Rattle.capture_intake.specs.declared.reading.Next.{Next}
use Rattle.capture_intake.specs.declared.reading.Next.TheVariants as next
use Rattle.capture_intake.specs.declared.faults.CaptureReadFault.{CaptureReadFault}
use Rattle.capture_intake.specs.declared.faults.CaptureReadFault.TheVariants as read

-- these bytes were read, a capture of these records, of a link type that is wanted, and the records were taken
pub record IsGoing (wants : LinkType → Bool) (reader : ReaderState) (Took : LinkType → List (List ℕ) → Type 0) (front : List ℕ) (captured : List (List ℕ)) : Type 0 where
  pub has_read : HasReadRecords reader front captured
  pub is_open : reader.is_open ≡ true
  pub wanted : wants reader.link ≡ true
  pub took : Took reader.link captured

-- a fault of the source has its cause in the source's count, which never falls, and which every other answer leaves
pub record HasReadCause {T : Type 0} (before now : ℕ) (result : Result T CaptureReadFault) : Type 0 where
  pub later : before ≤ now
  pub failed : IsErrOf result read.Source → Rose before now
  pub kept : ¬ IsErrOf result read.Source → now ≡ before

-- one record more was read and taken
pub record TakesIn (wants : LinkType → Bool) (old new : ReaderState) (Took : LinkType → List (List ℕ) → Type 0) (front : List ℕ) (captured : List (List ℕ))
    (before now : InputTold) : Type 0 where
  pub piece : List ℕ
  pub bytes : List ℕ
  pub more : List ℕ
  pub consumed : Consumes (rest_of old.held before.left) (rest_of new.held now.left) piece
  pub going : IsGoing wants new Took (front ++ piece) (captured ++ bytes ∷ [])
  pub takes : Takes before now more
  pub moved : old.held ++ more ≡ piece ++ new.held

-- what the bytes that were read show, by what stood next after the records
abbrev pub ShowsStop : List (List ℕ) → Result Next CaptureReadFault → List ℕ → Type 0
ShowsStop captured (Ok next.Record) bytes = ⊤
ShowsStop captured (Ok next.End) bytes = ⊤
ShowsStop captured (Ok (next.Fault fault)) bytes = Tells bytes captured (Some fault)
ShowsStop captured (Err read.Source) bytes = ShowsNoFault bytes
ShowsStop captured (Err read.OutOfMemory) bytes = ⊤

-- the bytes that were read after those of the front, and what all of them show
pub record ReadsNext (held front : List ℕ) (captured : List (List ℕ)) (result : Result Next CaptureReadFault) (old new : InputTold) : Type 0 where
  pub more : List ℕ
  pub takes : Takes old new more
  pub ahead : IsReadAhead (front ++ (held ++ more))
  pub shows : ShowsStop captured result (front ++ (held ++ more))
