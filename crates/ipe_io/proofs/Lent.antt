-- What a reader with a buffer in front still gives, before and after a piece of the buffer was lent.
use Rattle.std.proofs.Common.{◌≡◌, ◌==◌, if◌then◌else◌, Bool, true, false, ℕ, List, ◌++◌, take, drop, Option, None, Some, ap, sym, ◌∙◌, append_assoc}
use Rattle.std.proofs.lemmas.List.{take-append-drop}
use Rattle.std.specs.Io.KnownBytes.{Consumes, prepend_known}

-- the front of what is held is taken, whatever comes behind
front_taken : (held : List ℕ) (rest : Option (List ℕ)) (size : ℕ) → Consumes (prepend_known held rest) (prepend_known (drop size held) rest) (take size held)
front_taken held None size = tt
front_taken held (Some rest) size = ap (λ s. s ++ rest) (sym (take-append-drop size held)) ∙ append_assoc (take size held) (drop size held) rest

-- where neither is known, nothing is said
unless_unknown : (unknown : Bool) (before now : Option (List ℕ)) (piece : List ℕ) → Consumes before now piece
    → Consumes (if unknown then None else before) (if unknown then None else now) piece
unless_unknown true before now piece p = tt
unless_unknown false before now piece p = p

-- the front of the buffer was lent, and is taken
pub lent_taken : {R : Type 0} (remaining : R → Option (List ℕ)) (left : Option (List ℕ)) (before now : R) (old_room room : ℕ) (old_held held piece : List ℕ) (size : ℕ)
    → (if old_room == 0 then None else prepend_known old_held (remaining before)) ≡ left → now ≡ before → room ≡ old_room → held ≡ old_held → piece ≡ held
    → Consumes left (if room == 0 then None else prepend_known (drop size held) (remaining now)) (take size piece)
lent_taken remaining left before now old_room room old_held held piece size is inner capacity buffer shown =
    rw (sym is, inner, capacity, shown, buffer)
    (unless_unknown (old_room == 0) (prepend_known old_held (remaining before)) (prepend_known (drop size old_held) (remaining before)) (take size old_held)
    (front_taken old_held (remaining before) size))
