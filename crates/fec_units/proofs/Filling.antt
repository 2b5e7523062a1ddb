-- The bytes of a frame's datagrams, copied piece by piece into columns.
use Rattle.std.proofs.Common.{◌≡◌, ◌⊎◌, inl, inr, ℕ, ◌+◌, ◌-◌, ◌*◌, ◌<◌, ◌≤◌, List, [], ◌++◌, length, get_or, take, drop, replicate, ap, ap₂, sym, ◌∙◌, arith, append_assoc, length-append, length-drop}
use Rattle.std.proofs.lemmas.List.{append-nil, drop-append-le, drop-drop, drop_all, drop_at, take_all, take-append-drop, take-append-le, length-take-le}
use Rattle.std.proofs.Math.Seq.{take-append-add}
use borrow.Rule.Slice.PartMut.{put_mid}
use Rattle.wire_spec.specs.Lists.{joined}
use Rattle.fec_units.specs.Parts.{padded, part_of}
use Rattle.fec_units.proofs.Padded.{padded-add, padded-append, padded_front}
use Rattle.fec_units.proofs.Parts.{part_first}

module _ (list : List (List ℕ)) (end p out : ℕ) (d : List ℕ) (less : p < end) (within : end ≤ length list) (is : get_or list p [] ≡ d) where
  -- what is left begins with the rest of the datagram
  left_is : out ≤ length d → drop out (joined (part_of p end list)) ≡ drop out d ++ joined (part_of (p + 1) end list)
  left_is le =
      ap (λ (ds : List (List ℕ)). drop out (joined ds)) (part_first p end list less within)
      ∙ ap (λ (x : List ℕ). drop out (x ++ joined (part_of (p + 1) end list))) is
      ∙ drop-append-le out d (joined (part_of (p + 1) end list)) le

  -- all of it is copied
  pub copied_all : (count : ℕ) (piece : List ℕ) → out + count ≡ length d → piece ≡ take count (drop out d)
      → drop out (joined (part_of p end list)) ≡ piece ++ drop 0 (joined (part_of (p + 1) end list))
  copied_all count piece size copied =
      left_is (omega (arith, size))
      ∙ ap (λ (x : List ℕ). x ++ joined (part_of (p + 1) end list))
      (sym (take_all count (drop out d) (omega (arith, length-drop out d, size))) ∙ sym copied)

  -- a part of it is copied
  pub copied_some : (count : ℕ) (piece : List ℕ) → out + count ≤ length d → piece ≡ take count (drop out d)
      → drop out (joined (part_of p end list)) ≡ piece ++ drop (out + count) (joined (part_of p end list))
  copied_some count piece le copied =
      sym (take-append-drop count (drop out all))
      ∙ ap₂ (λ (x y : List ℕ). x ++ y)
      (ap (λ (x : List ℕ). take count x) (left_is (omega (arith, le))) ∙ front ∙ sym copied)
      (drop-drop count out all)
    where
      all : List ℕ
      all = joined (part_of p end list)

      front : take count (drop out d ++ joined (part_of (p + 1) end list)) ≡ take count (drop out d)
      front = take-append-le count (drop out d) (joined (part_of (p + 1) end list)) (omega (arith, length-drop out d, le))

-- nothing is left at the end
pub none_left : (list : List (List ℕ)) (end out : ℕ) → drop out (joined (part_of end end list)) ≡ []
none_left list end out =
    let e : end - end ≡ 0 = omega arith in
    ap (λ (n : ℕ). drop out (joined (take n (drop end list)))) e ∙ drop_all out [] (omega arith)

-- A column is full, or nothing is left for it.

pub column_is : (left into rest : List ℕ) (done size : ℕ) → length into ≡ size → done ≤ size → left ≡ take done into ++ rest → (size ≤ done) ⊎ (rest ≡ [])
    → take done into ++ replicate (size - done) 0 ≡ padded size left
column_is left into rest done size long le is (inl full) =
    let same : done ≡ size = omega (arith, le, full) in
    let none : size - done ≡ 0 = omega (arith, same) in
    let front : length (take done into) ≡ size = length-take-le done into (omega (arith, long, le)) ∙ same in
    ap (λ (n : ℕ). take done into ++ replicate n 0) none ∙ append-nil (take done into)
    ∙ sym (padded_front (take done into) rest) ∙ ap₂ (λ (n : ℕ) (l : List ℕ). padded n l) front (sym is)
column_is left into rest done size long le is (inr ended) =
    let front : length (take done into) ≡ done = length-take-le done into (omega (arith, long, le)) in
    let all : left ≡ take done into = is ∙ ap (λ (l : List ℕ). take done into ++ l) ended ∙ append-nil (take done into) in
    sym (
    ap (λ (l : List ℕ). padded size l) all
    ∙ padded-append size (take done into) (omega (arith, front, le))
    ∙ ap (λ (n : ℕ). take done into ++ replicate (size - n) 0) front
    )

pub column_rest : (left into rest : List ℕ) (done size : ℕ) → length into ≡ size → done ≤ size → left ≡ take done into ++ rest → (size ≤ done) ⊎ (rest ≡ [])
    → rest ≡ drop size left
column_rest left into rest done size long le is (inl full) =
    let same : done ≡ size = omega (arith, le, full) in
    sym (ap (λ (l : List ℕ). drop size l) is ∙ drop_at (take done into) rest size (length-take-le done into (omega (arith, long, le)) ∙ same))
column_rest left into rest done size long le is (inr ended) =
    let front : length (take done into) ≡ done = length-take-le done into (omega (arith, long, le)) in
    ended ∙ sym (drop_all size left (omega (arith, ap length is, length-append (take done into) rest, ap length ended, front, le)))

-- a piece more after those that are done
pub piece_within : (into new : List ℕ) (done k n : ℕ) → done ≤ length into → n ≤ length new → done + n ≤ length (put_mid done k into new)
piece_within into new done k n within count =
    omega (
      arith,
      length-append (take done into) (new ++ drop k (drop done into)),
      length-append new (drop k (drop done into)),
      length-take-le done into within,
      count,
    )

pub piece_more : (left into new rest next : List ℕ) (done k n : ℕ) → done ≤ length into → n ≤ length new → left ≡ take done into ++ rest → rest ≡ take n new ++ next
    → left ≡ take (done + n) (put_mid done k into new) ++ next
piece_more left into new rest next done k n le some is more =
    is ∙ ap (λ (l : List ℕ). take done into ++ l) more ∙ sym (append_assoc (take done into) (take n new) next)
    ∙ ap (λ (l : List ℕ). l ++ next) (sym taken)
  where
    front : length (take done into) ≡ done
    front = length-take-le done into le

    taken : take (done + n) (put_mid done k into new) ≡ take done into ++ take n new
    taken =
        ap (λ (m : ℕ). take (m + n) (put_mid done k into new)) (sym front)
        ∙ take-append-add (take done into) (new ++ drop k (drop done into)) n
        ∙ ap (λ (t : List ℕ). take done into ++ t) (take-append-le n new (drop k (drop done into)) some)

-- all that is not done is put at once
pub put_rest : (into new : List ℕ) (done size : ℕ) → length into ≡ size → done ≤ size → new ≡ replicate (size - done) 0
    → put_mid done (size - done) into new ≡ take done into ++ replicate (size - done) 0
put_rest into new done size long le is =
    let none : drop (size - done) (drop done into) ≡ [] = drop_all (size - done) (drop done into) (omega (arith, length-drop done into, long)) in
    ap₂ (λ (x y : List ℕ). take done into ++ (x ++ y)) is none ∙ ap (λ (l : List ℕ). take done into ++ l) (append-nil (replicate (size - done) 0))

-- Columns one after another.

pub columns_more : (rows n : ℕ) (bytes : List ℕ) → padded (n * rows) bytes ++ padded rows (drop (n * rows) bytes) ≡ padded ((n + 1) * rows) bytes
columns_more rows n bytes =
    let e : n * rows + rows ≡ (n + 1) * rows = omega arith in
    sym (padded-add (n * rows) rows bytes) ∙ ap (λ (k : ℕ). padded k bytes) e

pub left_more : (rows n : ℕ) (bytes : List ℕ) → drop rows (drop (n * rows) bytes) ≡ drop ((n + 1) * rows) bytes
left_more rows n bytes =
    let e : n * rows + rows ≡ (n + 1) * rows = omega arith in
    drop-drop rows (n * rows) bytes ∙ ap (λ (k : ℕ). drop k bytes) e
