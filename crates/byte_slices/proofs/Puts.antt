-- Pieces put into a list one after another.
use Rattle.std.proofs.Common.{◌≡◌, ℕ, ◌+◌, List, ◌++◌, length, take, drop, ap, ap₂, sym, ◌∙◌, append_assoc, arith}
use Rattle.std.proofs.lemmas.List.{take_at}
use Rattle.std.proofs.lemmas.Slice.{drop-append-drop}

-- a front was written before, and one more piece is put after it
pub put_behind : (front piece old before after : List ℕ) (at end : ℕ) → length front ≡ at → at + length piece ≡ end
    → before ≡ front ++ drop at old
    → after ≡ take at before ++ (piece ++ drop (at + length piece) before)
    → after ≡ (front ++ piece) ++ drop end old
put_behind front piece old before after at end size up_to begun put =
    put
    ∙ ap₂ (λ (x y : List ℕ). x ++ (piece ++ y))
    (ap (λ (l : List ℕ). take at l) begun ∙ take_at front (drop at old) at size)
    (ap (λ (l : List ℕ). drop (at + length piece) l) begun ∙ drop-append-drop at old front (at + length piece) (omega arith) size)
    ∙ sym (append_assoc front piece (drop (at + length piece) old))
    ∙ ap (λ (n : ℕ). (front ++ piece) ++ drop n old) up_to
