-- What the real objects are seen as: their counts, the bytes that a reader still gives and those that a writer has, where these tell them,
-- and the bytes that are held back in front of a writer.
use Rattle.std.specs.Prelude.{◌≡◌, ◌<◌, ℕ, Bool, not, ⊤, List, [], ◌∷◌, ◌++◌, length, get_or, filter, map, unwrap_or, Option, None, Some, IfSome, drop, ◌==◌, bytes_eq, if◌then◌else◌}
use Rattle.std.specs.Io.KnownBytes.{Keeps, prepend_known, append_known}
use Rattle.std.specs.Io.Buffered.{reader_buffer, reader_capacity, reader_inner}
use Rattle.std.specs.declared.io.buffered.BufReader.{BufReader}
use Rattle.wire_spec.specs.Content.{File}
use Rattle.ipe_io.specs.Memory.{Shelved}

-- what comes after the first `lent` bytes of the buffer in front of a reader
abbrev pub left_after : {R A : Type 0} → (R → Option (List ℕ)) → ℕ → BufReader R A → Option (List ℕ)
left_after remaining lent reader =
    if reader_capacity reader == 0 then None else prepend_known (drop lent (reader_buffer reader)) (remaining (reader_inner reader))

-- a source: the bytes that are left; how many were taken, whether it has ended, and how often it has failed
pub record InputState : Type 0 where
  pub left : Option (List ℕ)
  pub taken : ℕ
  pub ended : Bool
  pub faults : ℕ

-- a writer behind a buffer: the bytes that the writer has, those that wait in front of it, and how many may wait
pub record WriterState : Type 0 where
  pub down : Option (List ℕ)
  pub waiting : List ℕ
  pub room : ℕ

-- all that was put: what the writer has, and then what waits
abbrev pub all_put : WriterState → Option (List ℕ)
all_put writer = append_known writer.down writer.waiting

-- a sink: its writer, and how often it has failed
pub record OutputState : Type 0 where
  pub writer : WriterState
  pub faults : ℕ

-- a file of a rack: its name, its writer, and how many of its bytes were flushed
pub record FileState : Type 0 where
  pub name : List ℕ
  pub writer : WriterState
  pub flushed : ℕ

-- a rack: its files, in order, and how often it has failed
pub record FilesState : Type 0 where
  pub files : List FileState
  pub faults : ℕ

abbrev pub no_file_state : FileState
no_file_state = record { name = []; writer = record { down = None; waiting = []; room = 0 }; flushed = 0 }

-- so many bytes are known
abbrev pub HasBytes : Option (List ℕ) → ℕ → Type 0
HasBytes None n = ⊥
HasBytes (Some xs) n = n ≡ length xs

-- the file, of a writer that tells its bytes
abbrev pub told_file : FileState → File
told_file file = record { name = file.name; bytes = unwrap_or (all_put file.writer) []; flushed = file.flushed }

-- the files, where their writers tell their bytes
abbrev pub told_files : Bool → List FileState → Option (List File)
told_files tells files = if tells then Some (map told_file files) else None

-- a file of that name that was created, with a buffer of 65,536 bytes
pub record IsNewFile (called : List ℕ) (Created : Option (List ℕ) → Type 0) (file : FileState) : Type 0 where
  pub name : file.name ≡ called
  pub created : Created file.writer.down
  pub empty : file.writer.waiting ≡ []
  pub room : file.writer.room ≡ 65536
  pub flushed : file.flushed ≡ 0

-- one more file of that name was created
abbrev pub AddsNewFile : List ℕ → (Option (List ℕ) → Type 0) → List FileState → List FileState → Type 0
AddsNewFile name Created files now = (file : FileState) × IsNewFile name Created file × (now ≡ files ++ file ∷ [])

-- the files are as many, in the same order, and have their names and all that was put
pub record AreKept (files now : List FileState) : Type 0 where
  pub count : length now ≡ length files
  pub names : (at : ℕ) → (get_or now at no_file_state).name ≡ (get_or files at no_file_state).name
  pub put : (at : ℕ) → Keeps (all_put (get_or files at no_file_state).writer) (all_put (get_or now at no_file_state).writer)

-- something waits to be written
abbrev pub waits : FileState → Bool
waits file = not (length file.writer.waiting == 0)

-- of how many files something waits
abbrev pub unwritten : List FileState → ℕ
unwritten files = length (filter waits files)

-- a shelf: the files that were loaded, in order, and how often it has failed
pub record LoadedState : Type 0 where
  pub loaded : List Shelved
  pub faults : ℕ

-- the bytes of the first file of a name
abbrev pub bytes_in : List Shelved → List ℕ → Option (List ℕ)
bytes_in [] name = None
bytes_in (file ∷ files) name = if bytes_eq file.name name then Some file.bytes else bytes_in files name

-- a file was opened that may have these bytes, and they are all that it has, where its reader tells that
abbrev pub IsAllOf : (Option (List ℕ) → Type 0) → List ℕ → Type 0
IsAllOf May bytes = (all : Option (List ℕ)) × May all × IfSome all (λ told. bytes ≡ told)

-- a file was opened that may have more than n bytes, and has, where its reader tells that
abbrev pub IsLonger : (Option (List ℕ) → Type 0) → ℕ → Type 0
IsLonger May n = (all : Option (List ℕ)) × May all × IfSome all (λ told. n < length told)

-- each loaded file is all of one that was opened under its name
abbrev pub AreOpened : (List ℕ → Option (List ℕ) → Type 0) → List Shelved → Type 0
AreOpened Opened [] = ⊤
AreOpened Opened (file ∷ files) = IsAllOf (Opened file.name) file.bytes × AreOpened Opened files
