-- Bytes on their way to the sink: some are appended, the others held back until there are many.
use Rattle.std.specs.Prelude.{◌≡◌, ℕ, List, ◌++◌, take, Option, Result, MatchResult}
use Rattle.std.specs.Io.KnownBytes.{Appends}

-- the bytes with which a batch is full
abbrev pub full_batch : ℕ
full_batch = 192512

-- the bytes for which a batch has room: those, and the longest piece
abbrev pub batch_room : ℕ
batch_room = 199786

-- bytes that were held back were appended: at Ok a front of them, and the others are still held back; at Err a prefix
abbrev pub Hands : {T E : Type 0} → Result T E → Option (List ℕ) → Option (List ℕ) → List ℕ → List ℕ → Type 0
Hands result old new before after =
    MatchResult result (λ _. (front : List ℕ) × Appends old new front × (before ≡ front ++ after)) (λ _. (n : ℕ) × Appends old new (take n before))
