-- Bytes of units that are copied to where packets carry them.
use Rattle.std.proofs.Common.{◌≡◌, ℕ, zero, suc, ◌+◌, ◌-◌, ◌≤◌, List, [], ◌∷◌, ◌++◌, length, take, drop, slice_index, replicate, refl, sym, ap, ap₂, ◌∙◌, arith, append_assoc}
use Rattle.std.proofs.lemmas.List.{length-append, length-replicate, length-take-le, take_at, drop_at, take-append-le, drop-drop, take-append-drop}
use Rattle.std.proofs.Math.Seq.{take-append-add}
use borrow.Rule.Slice.PartMut.{put_mid}
use Rattle.ts_spec.specs.Form.{UnitForm}
use Rattle.unit_stream.specs.Packing.{byte_count, numbered, pieces}
use Rattle.unit_stream.specs.Packers.{AreRising, IsOnWay, PackerState, between, end_of, packets_left, units_from, with_bytes}

-- More bytes were copied.

pub taken : (into new : List ℕ) (done k n : ℕ) → done ≤ length into → n ≤ length new → take (done + n) (put_mid done k into new) ≡ take done into ++ take n new
taken into new done k n within count =
    let front : length (take done into) ≡ done = length-take-le done into within in
    ap (λ (m : ℕ). take (m + n) (put_mid done k into new)) (sym front)
    ∙ take-append-add (take done into) (new ++ drop k (drop done into)) n
    ∙ ap (λ (t : List ℕ). take done into ++ t) (take-append-le n new (drop k (drop done into)) count)

pub within_put : (into new : List ℕ) (done k n : ℕ) → done ≤ length into → n ≤ length new → done + n ≤ length (put_mid done k into new)
within_put into new done k n within count =
    omega (
      arith,
      length-append (take done into) (new ++ drop k (drop done into)),
      length-append new (drop k (drop done into)),
      length-take-le done into within,
      count,
    )

-- bytes were copied from a place on
pub piece_out : (bytes later into : List ℕ) (from n : ℕ) → take n into ≡ take n (drop from bytes) → drop from bytes ++ later ≡ take n into ++ (drop (from + n) bytes ++ later)
piece_out bytes later into from n same =
    ap (λ (t : List ℕ). t ++ later)
    (sym (take-append-drop n (drop from bytes)) ∙ ap₂ (λ (s t : List ℕ). s ++ t) (sym same) (drop-drop n from bytes))
    ∙ append_assoc (take n into) (drop (from + n) bytes) later

-- What a packer writes.

-- they were put to their place
pub put_is : (packet piece : List ℕ) (from to size : ℕ) → to ≡ from + size → length piece ≡ size → put_mid from (to - from) packet piece ≡ with_bytes from piece packet
put_is packet piece from to size end size_is =
    let k : to - from ≡ length piece = omega (arith, end, size_is) in
    ap (λ (n : ℕ). take from packet ++ (piece ++ drop n (drop from packet))) k
    ∙ ap (λ (t : List ℕ). take from packet ++ (piece ++ t)) (drop-drop (length piece) from packet)

-- the bytes that a packet carries
pub front_bytes : (piece left : List ℕ) (at to : ℕ) → to ≡ at + length piece → between (replicate at 0 ++ (piece ++ left)) at to ≡ piece
front_bytes piece left at to is =
    let size : to - at ≡ length piece = omega (arith, is) in
    ap₂ (λ (n : ℕ) (t : List ℕ). take n t) size (drop_at (replicate at 0) (piece ++ left) at (length-replicate {A = ℕ} at 0))
    ∙ take_at piece left (length piece) refl

-- those behind them
pub behind_bytes : (piece left : List ℕ) (at to : ℕ) → to ≡ at + length piece → drop to (replicate at 0 ++ (piece ++ left)) ≡ drop to (replicate to 0 ++ left)
behind_bytes piece left at to is =
    let front : length (replicate at 0 ++ piece) ≡ to = omega (arith, length-append (replicate at 0) piece, length-replicate {A = ℕ} at 0, is) in
    ap (drop to) (sym (append_assoc (replicate at 0) piece left))
    ∙ drop_at (replicate at 0 ++ piece) left to front
    ∙ sym (drop_at (replicate to 0) left to (length-replicate {A = ℕ} to 0))

-- Only bytes that are not out say which packets are to come.

module _ (a b : List ℕ) (at : ℕ) (same : drop at a ≡ drop at b) where
  same_from : (from : ℕ) → at ≤ from → drop from a ≡ drop from b
  same_from from le =
      let there : from ≡ at + (from - at) = omega (arith, le) in
      ap (λ (n : ℕ). drop n a) there ∙ sym (drop-drop (from - at) at a) ∙ ap (drop (from - at)) same ∙ drop-drop (from - at) at b ∙ ap (λ (n : ℕ). drop n b) (sym there)

  same_units : (start from : ℕ) (ends : List ℕ) → at ≤ from → AreRising start from ends → units_from from a ends ≡ units_from from b ends
  same_units start from [] le rising = refl
  same_units start from (end ∷ ends) le rising =
      ap₂ (λ (x : List ℕ) (xs : List (List ℕ)). x ∷ xs) (ap (take (end - from)) (same_from from le)) (same_units start end ends (omega (arith, le, rising.0)) rising.1)

  pub same_packets : (form : UnitForm) (start : ℕ) (packer : PackerState) (ends : List ℕ) → at ≡ packer.at → AreRising start 0 ends → IsOnWay packer ends
      → packets_left form packer a ends ≡ packets_left form packer b ends
  same_packets form start packer ends at_is rising way =
      let le : at ≤ end_of ends packer.begun = omega (arith, at_is, way.at) in
      let piece : between a packer.at (end_of ends packer.begun) ≡ between b packer.at (end_of ends packer.begun)
      = ap (take (end_of ends packer.begun - packer.at)) (ap (λ (n : ℕ). drop n a) (sym at_is) ∙ same ∙ ap (λ (n : ℕ). drop n b) at_is) in
      let units : units_from (end_of ends packer.begun) a (drop packer.begun ends) ≡ units_from (end_of ends packer.begun) b (drop packer.begun ends)
      = same_units start (end_of ends packer.begun) (drop packer.begun ends) le (rising_drop start 0 ends packer.begun rising way.begun) in
      ap₂ (λ (rest : List ℕ) (us : List (List ℕ)). numbered packer.pid packer.counter (pieces (length rest + byte_count us) form.start packer.packing rest us)) piece units
    where
      rising_drop : (start from : ℕ) (ends : List ℕ) (begun : ℕ) → AreRising start from ends → begun ≤ length ends → AreRising start (slice_index (from ∷ ends) begun) (drop begun ends)
      rising_drop start from ends zero rising le = rising
      rising_drop start from [] (suc begun) rising le = absurd (omega (arith, le))
      rising_drop start from (end ∷ ends) (suc begun) rising le = rising_drop start end ends begun rising.1 (omega (arith, le))
