-- The files of services: a capture for each, in the order of the services. Texts are told by the numbers of services.
use Rattle.std.specs.Prelude.{◌≡◌, ◌⊎◌, ℕ, ◌+◌, ◌<◌, Bool, true, false, List, [], ◌∷◌, ◌++◌, length, take, drop, slice_get, codes, if◌then◌else◌, Option, None, Some, ⊤}
use Rattle.wire_spec.specs.Content.{File, AddsFile, Stays}
use Rattle.plan_spec.specs.Plan.{ServiceFields}
use Rattle.pcap_file.specs.Capture.{capture_head}
use Rattle.capture_files.specs.Growth.{records_at, records_and}

-- the name of the file of a service
abbrev pub file_name : List ℕ → List ℕ
file_name name = name ++ codes ".pcap"

-- the file of a service of this name, with a text, all of it flushed or nothing
abbrev pub file_with : Bool → List ℕ → List ℕ → File
file_with is_flushed name text = record {
  name = file_name name;
  bytes = text;
  flushed = if is_flushed then length text else 0;
}

-- What the file of service k has.

-- what the file of service k has before any record: the head alone
abbrev pub head_of : ℕ → List ℕ
head_of k = capture_head

-- the capture of service k of its datagrams among these pairs of service and datagram
abbrev pub capture_of_pairs : List (ℕ × List ℕ) → ℕ → List ℕ
capture_of_pairs pairs k = capture_head ++ records_at 0 pairs k

-- of pairs, and after it, in the file of one service alone, a text
abbrev pub capture_and : ℕ → List ℕ → List (ℕ × List ℕ) → ℕ → List ℕ
capture_and service text pairs k = capture_head ++ records_and 0 service text pairs k

-- The files of all services.

-- the files of services in order, the first of them with this number: each with the text of its number, flushed or not
abbrev pub files_from : Bool → ℕ → (ℕ → List ℕ) → List ServiceFields → List File
files_from is_flushed k text [] = []
files_from is_flushed k text (service ∷ services) = file_with is_flushed service.name (text k) ∷ files_from is_flushed (k + 1) text services

-- these files stand after those that were there
abbrev pub AddsFiles : Option (List File) → Option (List File) → List File → Type 0
AddsFiles None new files = ⊤
AddsFiles (Some old) None files = ⊥
AddsFiles (Some old) (Some new) files = new ≡ old ++ files

-- the files of all services were added, each with its text
abbrev pub AddsCaptures : Bool → (ℕ → List ℕ) → List ServiceFields → Option (List File) → Option (List File) → Type 0
AddsCaptures is_flushed text services old new = AddsFiles old new (files_from is_flushed 0 text services)

-- the files of all services were added, and the first of them, so many, are flushed
abbrev pub AddsFlushed : ℕ → (ℕ → List ℕ) → List ServiceFields → Option (List File) → Option (List File) → Type 0
AddsFlushed count text services old new =
    AddsFiles old new (take count (files_from true 0 text services) ++ drop count (files_from false 0 text services))

-- The files of the first services.

-- files of the first services were added, fewer than all, with their heads
pub record AddsHeads (services : List ServiceFields) (old new : Option (List File)) : Type 0 where
  pub count : ℕ
  pub fewer : count < length services
  pub files : AddsCaptures false head_of (take count services) old new

-- no file was added, or one of that name with less than a head
abbrev pub AddsPartOf : List ℕ → List ℕ → Option (List File) → Option (List File) → Type 0
AddsPartOf head name old new = Stays old new ⊎ ((n : ℕ) × (n < length head) × AddsFile old new (file_with false name (take n head)))

-- with less than that of a capture of datagrams
abbrev pub AddsPart : List ℕ → Option (List File) → Option (List File) → Type 0
AddsPart name old new = AddsPartOf capture_head name old new

-- files of so many first services were added, with their heads, and after them no file or that of the next service with less than its head
pub record AddsHeadsPart (services : List ServiceFields) (count : ℕ) (old new : Option (List File)) : Type 0 where
  pub service : ServiceFields
  pub next : slice_get services count ≡ Some service
  pub files : AddsCaptures false head_of (take count services) old new
      ⊎ ((n : ℕ) × (n < length capture_head)
      × AddsFiles old new (files_from false 0 head_of (take count services) ++ file_with false service.name (take n capture_head) ∷ []))

-- a file of a service of this name, with a prefix of a text
pub record IsPart (text name : List ℕ) (file : File) : Type 0 where
  pub name_is : file.name ≡ file_name name
  pub count : ℕ
  pub bytes : file.bytes ≡ take count text

-- such files of the first services, in order, the first of them with this number
abbrev pub AreParts : ℕ → (ℕ → List ℕ) → List ServiceFields → List File → Type 0
AreParts k text services [] = ⊤
AreParts k text [] (file ∷ files) = ⊥
AreParts k text (service ∷ services) (file ∷ files) = IsPart (text k) service.name file × AreParts (k + 1) text services files

-- files were added: those of the first services, each with a prefix of its text
pub record AddsParts (text : ℕ → List ℕ) (services : List ServiceFields) (old new : Option (List File)) : Type 0 where
  pub files : List File
  pub parts : AreParts 0 text services files
  pub added : AddsFiles old new files
