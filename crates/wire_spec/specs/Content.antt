-- What an object of the outside may tell of its content, and what a call does to that.
-- An object that tells nothing has None, and then each of these facts holds of it.
use Rattle.std.specs.Prelude.{◌≡◌, ℕ, ◌<◌, List, [], ◌∷◌, ◌++◌, length, get_or, take, set, Option, None, Some, Result, MatchResult, ⊤}
use Rattle.std.specs.Io.KnownBytes.{Appends}

-- what an object reports is as it was
abbrev pub Stays : {X : Type 0} → Option X → Option X → Type 0
Stays None new = ⊤
Stays (Some x) None = ⊥
Stays (Some x) (Some y) = y ≡ x

-- a call appended the bytes: all of them at Ok, a prefix of them at Err
abbrev pub Puts : {T E : Type 0} → Result T E → Option (List ℕ) → Option (List ℕ) → List ℕ → Type 0
Puts result old new bytes = MatchResult result (λ _. Appends old new bytes) (λ _. (n : ℕ) × Appends old new (take n bytes))

-- a written file: its name, its bytes, and how many of them were flushed
pub record File : Type 0 where
  pub name : List ℕ
  pub bytes : List ℕ
  pub flushed : ℕ

abbrev pub no_file : File
no_file = record { name = []; bytes = []; flushed = 0 }

-- a new file of a name
abbrev pub empty_file : List ℕ → File
empty_file name = record { name = name; bytes = []; flushed = 0 }

-- the file with these bytes after its own
abbrev pub grown : File → List ℕ → File
grown file bytes = record { name = file.name; bytes = file.bytes ++ bytes; flushed = file.flushed }

-- the file, all of it flushed
abbrev pub flushed_file : File → File
flushed_file file = record { name = file.name; bytes = file.bytes; flushed = length file.bytes }

-- one more file follows those that were there
abbrev pub AddsFile : Option (List File) → Option (List File) → File → Type 0
AddsFile None new file = ⊤
AddsFile (Some files) None file = ⊥
AddsFile (Some files) (Some now) file = now ≡ files ++ file ∷ []

-- the file at a place changed, and the others stayed as they were
abbrev pub ChangesFile : Option (List File) → Option (List File) → ℕ → (File → File) → Type 0
ChangesFile None new at change = ⊤
ChangesFile (Some files) None at change = ⊥
ChangesFile (Some files) (Some now) at change = now ≡ set files at (change (get_or files at no_file))

-- a call appended the bytes to the file at a place: all of them at Ok, fewer of them at Err
abbrev pub PutsInFile : {T E : Type 0} → Result T E → Option (List File) → Option (List File) → ℕ → List ℕ → Type 0
PutsInFile result old new at bytes =
    MatchResult result (λ _. ChangesFile old new at (λ file. grown file bytes)) (λ _. (n : ℕ) × (n < length bytes) × ChangesFile old new at (λ file. grown file (take n bytes)))
