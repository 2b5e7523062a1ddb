-- What the objects in memory are seen as, and which of their calls fail.
use Rattle.std.specs.Prelude.{ℕ, ◌+◌, ◌-◌, ◌^◌, ◌<◌, ◌≤◌, Bool, List, length, map, min, Contains, Option, Some, None}
use Rattle.std.specs.Prelude.{bytes_eq, if◌then◌else◌, option_map, is_some}
use Rattle.wire_spec.specs.Causes.{raised}
use Rattle.wire_spec.specs.Content.{File}

-- the numbers, from 0, of the calls that are to fail, and the number of the next call,
-- which stands still at 2^32: no listed number is that large
pub record Calls : Type 0 where
  pub failing : List ℕ
  pub next : ℕ

-- no call was made yet
abbrev pub first_call : List ℕ → Calls
first_call failing = record { failing = failing; next = 0 }

-- the next call is one of those that are to fail
abbrev pub IsListed : Calls → Type 0
IsListed calls = Contains calls.failing calls.next

-- one call more was made
abbrev pub next_call : Calls → Calls
next_call calls = record { failing = calls.failing; next = min (calls.next + 1) (2 ^ 32) }

-- a source: the bytes left, how many were taken, whether it has ended, and the most that one read gives
pub record SourceState : Type 0 where
  pub left : List ℕ
  pub taken : ℕ
  pub ended : Bool
  pub chunk : ℕ
  pub calls : Calls
  pub faults : ℕ

-- a file, and how many bytes it takes in all
pub record Stored : Type 0 where
  pub file : File
  pub room : ℕ

-- the bytes would find no room
abbrev pub IsFull : ℕ → List ℕ → List ℕ → Type 0
IsFull room held piece = (0 < length piece) × (room ≤ length held)

-- as many of the bytes as there is room for
abbrev pub fitting : ℕ → List ℕ → List ℕ → ℕ
fitting room held piece = min (length piece) (room - length held)

-- a sink: its bytes, how many were flushed, how many have room, the calls so far, and how often it has failed
pub record SinkState : Type 0 where
  pub bytes : List ℕ
  pub flushed : ℕ
  pub room : ℕ
  pub calls : Calls
  pub faults : ℕ

-- a rack: its files, how many it may have, and the room of each
pub record RackState : Type 0 where
  pub files : List File
  pub places : ℕ
  pub room : ℕ
  pub calls : Calls
  pub faults : ℕ

abbrev pub files_of : List Stored → List File
files_of stored = map (λ s. s.file) stored

-- a file on a shelf: its name, its bytes, and how often it has failed
pub record Shelved : Type 0 where
  pub name : List ℕ
  pub bytes : List ℕ
  pub faults : ℕ

-- a shelf: its one or two files, and how often all other names have failed
pub record ShelfState : Type 0 where
  pub first : Shelved
  pub second : Option Shelved
  pub others : ℕ
  pub calls : Calls

-- a file with a name, bytes, and faults
abbrev pub shelved : List ℕ → List ℕ → ℕ → Shelved
shelved name bytes faults = record { name = name; bytes = bytes; faults = faults }

-- the file, failed once more
abbrev pub failed_once : Shelved → Shelved
failed_once file = record { name = file.name; bytes = file.bytes; faults = raised file.faults 1 }

-- the file, where that is its name
abbrev pub named : List ℕ → Option Shelved → Option Shelved
named name None = None
named name (Some file) = if bytes_eq file.name name then Some file else None

-- the file of a name
abbrev pub file_of : ShelfState → List ℕ → Option Shelved
file_of shelf name = if bytes_eq shelf.first.name name then Some shelf.first else named name shelf.second

-- the bytes of the file of a name
abbrev pub bytes_of : ShelfState → List ℕ → Option (List ℕ)
bytes_of shelf name = option_map (λ file. file.bytes) (file_of shelf name)

-- how often the file has failed, or all other names where there is none
abbrev pub faults_or : ℕ → Option Shelved → ℕ
faults_or others None = others
faults_or others (Some file) = file.faults

-- how often a name has failed: its file, or all other names together
abbrev pub faults_of : ShelfState → List ℕ → ℕ
faults_of shelf name = faults_or shelf.others (file_of shelf name)

-- the shelf, called once more
abbrev pub called : ShelfState → ShelfState
called shelf = record { first = shelf.first; second = shelf.second; others = shelf.others; calls = next_call shelf.calls }

-- the file, failed once more where that is its name
abbrev pub failed_as : List ℕ → Shelved → Shelved
failed_as name file = if bytes_eq file.name name then failed_once file else file

-- the shelf after a fault of a name, which counts for that name's file, or with those of all other names
abbrev pub failed_for : List ℕ → ShelfState → ShelfState
failed_for name shelf = record {
  first = failed_as name shelf.first;
  second = if bytes_eq shelf.first.name name then shelf.second else option_map (failed_as name) shelf.second;
  others = if is_some (file_of shelf name) then shelf.others else raised shelf.others 1;
  calls = shelf.calls;
}
