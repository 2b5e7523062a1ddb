-- Buffers that are filled, and pieces that are written, in several steps.
use Rattle.std.proofs.Common.{◌≡◌, ℕ, ◌+◌, ◌-◌, ◌<◌, ◌≤◌, List, [], ◌++◌, length, take, drop, min, ap, sym, ◌∙◌, arith}
use Rattle.std.proofs.lemmas.List.{drop_at, length-take-le, take-append-le, take_rest, take_at, take-append-drop, drop-drop, drop_all, length-drop}
use Rattle.std.proofs.lemmas.Slice.{take-put_mid_below}
use Rattle.std.proofs.Math.Seq.{take-add}
use borrow.Rule.Slice.PartMut.{put_mid, post_of}

-- what a read into the rest of a buffer leaves at the buffer's front
pub take-put_mid : (buf new : List ℕ) (got k count : ℕ) → got ≤ length buf → count ≤ length new
    → take (got + count) (put_mid got k buf new) ≡ take got buf ++ take count new
take-put_mid buf new got k count within enough =
    take-add got count (put_mid got k buf new)
    ∙ ap (λ s. s ++ take count (drop got (put_mid got k buf new))) (take-put_mid_below got k buf new got (omega arith) within)
    ∙ ap (λ s. take got buf ++ take count s) (drop_at (take got buf) (new ++ post_of got k buf) got (length-take-le got buf within))
    ∙ ap (λ s. take got buf ++ s) (take-append-le count new (post_of got k buf) enough)

-- the front of a piece, and n bytes more out of the rest
pub take-more : (piece : List ℕ) (done n : ℕ) → n ≤ length (take (length piece - done) (drop done piece))
    → take (done + n) piece ≡ take done piece ++ take n (take (length piece - done) (drop done piece))
take-more piece done n le =
    take-add done n piece ∙ ap (λ s. take done piece ++ take n s) (sym (take_rest piece done))

-- what a read from memory gives, and what it leaves
pub read_from_memory : (left all lent copied behind : List ℕ) (at n : ℕ) → drop at all ≡ left → lent ≡ all → copied ≡ take (at + n - at) (drop at lent)
    → at + n ≤ length all → left ≡ take n (copied ++ behind) ++ drop (at + n) all
read_from_memory left all lent copied behind at n is same from within =
    let same_count : at + n - at ≡ n = omega arith in
    let part : copied ≡ take n (drop at all) = from ∙ ap (λ k. take k (drop at lent)) same_count ∙ ap (λ s. take n (drop at s)) same in
    let size : length copied ≡ n = ap length part ∙ length-take-le n (drop at all) (simp length-drop (omega arith)) in
    sym is
    ∙ sym (take-append-drop n (drop at all))
    ∙ ap (λ s. s ++ drop n (drop at all)) (sym part ∙ sym (take_at copied behind n size))
    ∙ ap (λ s. take n (copied ++ behind) ++ s) (drop-drop n at all)

-- a read with room that gives nothing is at the end
pub read_at_end : (all : List ℕ) (at n chunk room len : ℕ) → n ≡ 0 → n ≡ min chunk (min room (len - at)) → len ≡ length all → 0 < chunk → 0 < room
    → drop (at + n) all ≡ []
read_at_end all at n chunk room len none is size some roomy = drop_all (at + n) all (omega arith)
