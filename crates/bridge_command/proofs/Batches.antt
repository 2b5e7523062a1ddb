-- Pieces that are written one after another to a batch, and what was put of them.
use Rattle.std.proofs.Common.{◌≡◌, ℕ, ◌+◌, List, ◌∷◌, ◌++◌, length, take, ap, sym, ◌∙◌, subst, append_assoc, arith}
use Rattle.std.specs.Io.KnownBytes.{Appends, Keeps}
use Rattle.std.proofs.KnownBytes.{Appends-kept}
use Rattle.std.proofs.Math.Seq.{take_all, take-append_seam}
use Rattle.std.proofs.lemmas.List.{length-append}
use Rattle.wire_spec.specs.Lists.{joined}
use Rattle.wire_spec.specs.Content.{Stays}
use Rattle.wire_spec.specs.Causes.{Rose}
use Rattle.ipe_io.specs.Told.{OutputTold}
use Rattle.bridge_command.specs.Writing.{WritesFront}

-- what stands in front of a place, after a piece more
piece_taken : (front piece behind new : List ℕ) (at size : ℕ) → length front ≡ at → length piece ≡ size → new ≡ front ++ (piece ++ behind) → take (at + size) new ≡ front ++ piece
piece_taken front piece behind new at size sized piece_sized is =
    let long : at + size ≡ length (front ++ piece) = sym (length-append front piece ∙ (ap (λ n. n + length piece) sized ∙ ap (λ n. at + n) piece_sized)) in
    ap (λ n. take n new) long ∙ (ap (λ l. take (length (front ++ piece)) l) (is ∙ sym (append_assoc front piece behind)) ∙ take-append_seam (front ++ piece) behind)

pub piece_more : (front piece behind new all : List ℕ) (old left : List (List ℕ)) (at size : ℕ) → length front ≡ at → length piece ≡ size → new ≡ front ++ (piece ++ behind)
    → old ≡ piece ∷ left → all ≡ front ++ joined old → all ≡ take (at + size) new ++ joined left
piece_more front piece behind new all old left at size sized piece_sized is next whole =
    whole ∙ (ap (λ (l : List (List ℕ)). front ++ joined l) next
    ∙ (sym (append_assoc front piece (joined left)) ∙ ap (λ l. l ++ joined left) (sym (piece_taken front piece behind new at size sized piece_sized is))))

-- the flush failed: all is a front
pub wrote_unflushed : (stream : List ℕ) (a b c : OutputTold) → Appends a.held b.held stream → Keeps b.held c.held → Stays a.flushed c.flushed → Rose a.faults c.faults
    → WritesFront stream a c
wrote_unflushed stream a b c written kept stays rose = record {
  count = length stream;
  written = subst (λ (t : List ℕ). Appends a.held c.held t) (sym (take_all (length stream) stream (omega arith))) (Appends-kept a.held b.held c.held stream written kept);
  unflushed = stays;
  rose = rose;
}
