-- Bytes put after others in a buffer.
use Rattle.std.proofs.Common.{◌≡◌, ℕ, ◌+◌, ◌-◌, ◌≤◌, min, true, List, [], ◌∷◌, ◌++◌, length, take, drop, replicate, append_assoc, length-drop, ap, sym, ◌∙◌, arith}
use Rattle.std.proofs.Math.ListN.{set}
use Rattle.std.proofs.lemmas.List.{append-nil, length-set, length-take-le, take_min, take_at, take_more_set, drop_at, drop_all, drop-drop, take_all}
use Rattle.std.proofs.lemmas.Slice.{take-put_mid, take-put_mid_below}
use Rattle.std.proofs.Math.Seq.{take-append-add}
use borrow.Rule.Slice.PartMut.{put_mid, mid_of}
use Rattle.unit_stream.specs.Packers.{with_bytes}
use Rattle.unit_stream.specs.Parts.{payload_with}

-- the front of a buffer, with as much of a piece after it as there is room for
pub append_is : (buffer piece put : List ℕ) (size count k : ℕ) → size ≤ length buffer → count ≡ min (length piece) (length buffer - size)
    → put ≡ take count piece → take (size + count) (put_mid size k buffer put) ≡ take (length buffer) (take size buffer ++ piece)
append_is buffer piece put size count k fits is put_is =
    let put_size : length put ≡ count = ap length put_is ∙ length-take-le count piece (omega arith) in
    let front : length (take size buffer) ≡ size = length-take-le size buffer fits in
    let turned : count ≡ min (length buffer - size) (length piece) = omega arith in
    let same : take count piece ≡ take (length buffer - size) piece = ap (λ (t : ℕ). take t piece) turned ∙ take_min (length buffer - size) piece in
    let room : length buffer ≡ length (take size buffer) + (length buffer - size) = omega arith in
    take-put_mid size k buffer put (size + count) (omega arith) fits
    ∙ ap (λ (t : List ℕ). take size buffer ++ t) (put_is ∙ same)
    ∙ sym (ap (λ (t : ℕ). take t (take size buffer ++ piece)) room ∙ take-append-add (take size buffer) piece (length buffer - size))

-- the front of a buffer into which bytes were copied
pub copy_is : (put bytes behind : List ℕ) → put ≡ bytes → take (length bytes) (put ++ behind) ≡ bytes
copy_is put bytes behind same = take_at put behind (length bytes) (ap length same) ∙ same

-- what stands in a packet before a place and after so many bytes there, where the rest is filled
pub around : (packet put bytes : List ℕ) (from size k : ℕ) → from + size ≤ length packet → length packet ≤ from + size + k
    → put ≡ replicate (length (mid_of (from + size) k packet)) 0xFF → length bytes ≡ size
    → with_bytes from bytes (put_mid (from + size) k packet put) ≡ take from packet ++ (bytes ++ replicate (length packet - (from + size)) 0xFF)
around packet put bytes from size k within whole put_is size_is =
    let room : length (mid_of (from + size) k packet) ≡ length packet - (from + size) =
    ap length (take_all k (drop (from + size) packet) (omega (arith, whole, length-drop (from + size) packet))) ∙ length-drop (from + size) packet in
    let none : drop k (drop (from + size) packet) ≡ [] = drop_all k (drop (from + size) packet) (omega (arith, whole, length-drop (from + size) packet)) in
    ap (λ (t : List ℕ). t ++ (bytes ++ drop (from + length bytes) (put_mid (from + size) k packet put)))
    (take-put_mid_below (from + size) k packet put from (omega arith) within)
    ∙ ap (λ (n : ℕ). take from packet ++ (bytes ++ drop (from + n) (put_mid (from + size) k packet put))) size_is
    ∙ ap (λ (t : List ℕ). take from packet ++ (bytes ++ t))
    (drop_at (take (from + size) packet) (put ++ drop k (drop (from + size) packet)) (from + size) (length-take-le (from + size) packet within)
    ∙ ap (λ (t : List ℕ). put ++ t) none ∙ append-nil put ∙ put_is ∙ ap (λ (n : ℕ). replicate n 0xFF) room)

-- the same after a pointer that was written before
pub around_pointer : (packet put bytes : List ℕ) (pointer size k : ℕ) → length packet ≡ 188 → size ≤ 183 → 188 ≤ 5 + size + k
    → put ≡ replicate (length (mid_of (5 + size) k (set packet 4 pointer))) 0xFF → length bytes ≡ size
    → with_bytes 5 bytes (put_mid (5 + size) k (set packet 4 pointer) put) ≡ take 4 packet ++ payload_with true pointer bytes
around_pointer packet put bytes pointer size k whole within end put_is size_is =
    let same : length (set packet 4 pointer) ≡ 188 = length-set packet 4 pointer ∙ whole in
    let left : length (set packet 4 pointer) - (5 + size) ≡ 183 - length bytes = omega (arith, same, size_is) in
    around (set packet 4 pointer) put bytes 5 size k (omega (arith, same)) (omega (arith, same)) put_is size_is
    ∙ ap (λ (n : ℕ). take 5 (set packet 4 pointer) ++ (bytes ++ replicate n 0xFF)) left
    ∙ ap (λ (t : List ℕ). t ++ (bytes ++ replicate (183 - length bytes) 0xFF)) (take_more_set packet 4 pointer (omega (arith, whole)))
    ∙ append_assoc (take 4 packet) (pointer ∷ []) (bytes ++ replicate (183 - length bytes) 0xFF)

-- bytes put to a place of a packet stand there
pub put_is : (packet put bytes : List ℕ) (from k : ℕ) → put ≡ bytes → length bytes ≡ k → put_mid from k packet put ≡ with_bytes from bytes packet
put_is packet put bytes from k same size_is =
    ap (λ (t : List ℕ). take from packet ++ (t ++ drop k (drop from packet))) same
    ∙ ap (λ (t : List ℕ). take from packet ++ (bytes ++ t)) (drop-drop k from packet ∙ ap (λ (n : ℕ). drop (from + n) packet) (sym size_is))
