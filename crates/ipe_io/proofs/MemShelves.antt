-- The counts of a shelf in memory.
use Rattle.std.proofs.Common.{◌≡◌, ℕ, ◌≤◌, List, Option, None, Some, arith, ap, subst, ◌∙◌, bytes_eq, if◌then◌else◌}
use Rattle.wire_spec.specs.Causes.{raised}
use Rattle.ipe_io.specs.Memory.{ShelfState, Shelved, Calls, named, file_of, bytes_of, faults_or, faults_of, failed_for}

faults_or-later : (before now : ℕ) (file : Option Shelved) → before ≤ now → faults_or before file ≤ faults_or now file
faults_or-later before now None later = later
faults_or-later before now (Some file) later = omega arith

-- where the count of all other names rises, no name's count falls
pub others_later : (old : ShelfState) (first : Shelved) (second : Option Shelved) (now : ℕ) (calls : Calls) (other : List ℕ)
    → old.first ≡ first → old.second ≡ second → old.others ≤ now
    → let new : ShelfState = record { first = first; second = second; others = now; calls = calls } in faults_of old other ≤ faults_of new other
others_later old first second now calls other one two later =
    let new : ShelfState = record { first = first; second = second; others = now; calls = calls } in
    let same : file_of old other ≡ file_of new other =
    ap (λ (f : Shelved). if bytes_eq f.name other then Some f else named other old.second) one
    ∙ ap (λ s. if bytes_eq first.name other then Some first else named other s) two in
    subst (λ f. faults_or old.others (file_of old other) ≤ faults_or now f) same (faults_or-later old.others now (file_of old other) later)

-- a fault changes no file's bytes
pub bytes_of-failed_for : (name : List ℕ) (shelf : ShelfState) (other : List ℕ) → bytes_of (failed_for name shelf) other ≡ bytes_of shelf other
bytes_of-failed_for name shelf other = grind arith

-- a fault of a name raises its count
pub faults_of-failed_for : (name : List ℕ) (shelf : ShelfState) → faults_of (failed_for name shelf) name ≡ raised (faults_of shelf name) 1
faults_of-failed_for name shelf = grind arith
