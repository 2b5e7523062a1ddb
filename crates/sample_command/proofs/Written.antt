-- A text that was written, and what a flush leaves of it.
use Rattle.std.proofs.Common.{ℕ, List, length, take, Option, sym, subst, arith}
use Rattle.std.specs.Io.KnownBytes.{Appends, Keeps}
use Rattle.std.proofs.KnownBytes.{Appends-kept}
use Rattle.std.proofs.Math.Seq.{take_all}

-- the flush failed: all of it is a prefix
pub written_unflushed : (a b c : Option (List ℕ)) (text : List ℕ) → Appends a b text → Keeps b c → (n : ℕ) × Appends a c (take n text)
written_unflushed a b c text written kept =
    (length text, subst (λ (t : List ℕ). Appends a c t) (sym (take_all (length text) text (omega arith))) (Appends-kept a b c text written kept))
