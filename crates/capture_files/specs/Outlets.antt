-- An outlet over a rack: what it began with, what it stands for, and what it refused.
use Rattle.std.specs.Prelude.{◌≡◌, ℕ, ◌+◌, ◌<◌, ◌≤◌, List, [], ◌∷◌, length, take, Option, ⊤}
use Rattle.wire_spec.specs.Causes.{Rose}
use Rattle.wire_spec.specs.Content.{File}
use Rattle.ipe_io.specs.Told.{RackTold}
use Rattle.pcap_file.specs.Capture.{capture_record}
use Rattle.capture_files.specs.declared.outlet.Progress.{Progress}
use Rattle.capture_files.specs.declared.outlet.Progress.TheVariants.{Whole, Stopped, Passed}
use Rattle.capture_files.specs.Growth.{Grow, EndsWith, records_at, records_and}

-- a rack as an outlet has it: the place of the file of service 0, how many files there are, how often it has failed, its files
pub record RackSeen : Type 0 where
  pub first : ℕ
  pub count : ℕ
  pub faults : ℕ
  pub files : Option (List File)

-- the files grew by the records of the pairs; where the outlet stopped, that of one service also by so many bytes;
-- one that was asked again after that says nothing of them
abbrev pub Writes : Progress → RackSeen → RackSeen → List (ℕ × List ℕ) → Type 0
Writes Whole began now pairs = (now.faults ≡ began.faults) × Grow began.files now.files (records_at began.first pairs)
Writes (Stopped service put) began now pairs =
    Rose began.faults now.faults × ((text : List ℕ) × (length text ≡ put) × Grow began.files now.files (records_and began.first service text pairs))
Writes Passed began now pairs = ⊤

-- the pairs were given to an outlet that began with this rack
pub record WasGiven (began now : RackSeen) (progress : Progress) (pairs : List (ℕ × List ℕ)) : Type 0 where
  pub first : now.first ≡ began.first
  pub count : now.count ≡ began.count
  pub later : began.faults ≤ now.faults
  pub files : Writes progress began now pairs

-- what an outlet is told to stand for: the first pair names the borrow of the rack that it holds, as a number, and the others
-- were given to it
abbrev pub StandsFor : RackSeen → RackSeen → Progress → ℕ → List (ℕ × List ℕ) → Type 0
StandsFor began now progress borrow [] = ⊥
StandsFor began now progress borrow (name ∷ pairs) = (name.0 ≡ borrow) × WasGiven began now progress pairs

-- the outlet stopped at the record of this datagram: the file of its service ends with so many bytes of it, fewer than all
abbrev pub Refuses : RackSeen → RackSeen → Progress → ℕ → List ℕ → Type 0
Refuses began now Whole service datagram = ⊥
Refuses began now (Stopped at put) service datagram =
    (at ≡ service) × (put < length (capture_record datagram)) × EndsWith began.files now.files (now.first + service) (take put (capture_record datagram))
Refuses began now Passed service datagram = ⊥

-- how often an outlet has failed
abbrev pub failures : Progress → ℕ
failures Whole = 0
failures (Stopped service put) = 1
failures Passed = 1

-- A rack after an outlet over it, the first of its files at a place.

-- the records of all pairs were written
pub record WritesAll (first : ℕ) (rack now : RackTold) (pairs : List (ℕ × List ℕ)) : Type 0 where
  pub files : Grow rack.files now.files (records_at first pairs)
  pub count : now.count ≡ rack.count
  pub kept : now.faults ≡ rack.faults

-- the rack failed at the record of this datagram, after those of the pairs: so many bytes of it were written, fewer than all
pub record WritesPartOf (first : ℕ) (rack now : RackTold) (pairs : List (ℕ × List ℕ)) (service : ℕ) (datagram : List ℕ) : Type 0 where
  pub count : ℕ
  pub less : count < length (capture_record datagram)
  pub files : Grow rack.files now.files (records_and first service (take count (capture_record datagram)) pairs)
  pub places : now.count ≡ rack.count
  pub rose : Rose rack.faults now.faults
