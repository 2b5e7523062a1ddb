-- Items put one after another.
use Rattle.std.proofs.Common.{◌≡◌, ℕ, ◌+◌, ◌≤◌, List, [], ◌++◌, length, drop, Some, ap, ◌∙◌, flat_map}
use Rattle.std.specs.Prelude.{slice_get}
use Rattle.std.proofs.lemmas.List.{drop_all}
use Rattle.std.proofs.lemmas.List.Concat.{flat_map-cons}
use Rattle.psi_tables.proofs.Programs.{drop_first}

-- those from a place on are the one there and those after it
pub bytes_from : {A : Type 0} (bytes : A → List ℕ) (items : List A) (place : ℕ) (item : A) → slice_get items place ≡ Some item
    → flat_map bytes (drop place items) ≡ bytes item ++ flat_map bytes (drop (place + 1) items)
bytes_from {A} bytes items place item there =
    ap (λ (l : List A). flat_map bytes l) (drop_first items place item there) ∙ flat_map-cons bytes item (drop (place + 1) items)

pub none_from : {A : Type 0} (bytes : A → List ℕ) (items : List A) (place : ℕ) → length items ≤ place → flat_map bytes (drop place items) ≡ []
none_from {A} bytes items place all = ap (λ (l : List A). flat_map bytes l) (drop_all place items all)
