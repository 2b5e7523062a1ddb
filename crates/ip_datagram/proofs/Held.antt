-- Pieces of a buffer.
use Rattle.std.proofs.Common.{◌≡◌, ℕ, zero, suc, ◌+◌, ◌-◌, ◌<◌, ◌≤◌, List, [], ◌∷◌, ◌++◌, length, take, drop, slice_get, slice_index, Some, refl, ap, sym, ◌∙◌, subst, arith}
use Rattle.std.proofs.lemmas.List.{drop_at, drop-append-le, take-append-le, take_all, length-drop, length-append}
use Rattle.ip_datagram.specs.Held.{pieces_from, AreEndsFrom}

-- as many pieces as ends
pub pieces_count : (from : ℕ) (bytes ends : List ℕ) → length (pieces_from from bytes ends) ≡ length ends
pieces_count from bytes [] = refl
pieces_count from bytes (end ∷ ends) = ap (λ n. suc n) (pieces_count end bytes ends)

-- the ends lie within the bytes
ends_within : (from size : ℕ) (ends : List ℕ) → AreEndsFrom from size ends → from ≤ size
ends_within from size [] are = omega (arith, are)
ends_within from size (end ∷ ends) are = omega (arith, are.0, ends_within end size ends are.1)

-- one piece more after the last
pub ends_more : (from size count : ℕ) (ends : List ℕ) → AreEndsFrom from size ends → AreEndsFrom from (size + count) (ends ++ (size + count) ∷ [])
ends_more from size count [] are = (omega (arith, are), refl)
ends_more from size count (end ∷ ends) are = (are.0, ends_more end size count ends are.1)

last_piece : (bytes piece : List ℕ) → take (length bytes + length piece - length bytes) (drop (length bytes) (bytes ++ piece)) ≡ piece
last_piece bytes piece =
    ap (take (length bytes + length piece - length bytes)) (drop_at bytes piece (length bytes) refl)
    ∙ take_all (length bytes + length piece - length bytes) piece (omega arith)

front_piece : (from end : ℕ) (bytes piece : List ℕ) → from ≤ end → end ≤ length bytes
    → take (end - from) (drop from (bytes ++ piece)) ≡ take (end - from) (drop from bytes)
front_piece from end bytes piece le within =
    ap (take (end - from)) (drop-append-le from bytes piece (omega (arith, le, within)))
    ∙ take-append-le (end - from) (drop from bytes) piece (omega (arith, length-drop from bytes, le, within))

pub pieces_more : (from : ℕ) (bytes piece ends : List ℕ) → AreEndsFrom from (length bytes) ends
    → pieces_from from (bytes ++ piece) (ends ++ (length bytes + length piece) ∷ []) ≡ pieces_from from bytes ends ++ piece ∷ []
pieces_more from bytes piece [] are =
    ap (λ (n : ℕ). take (length bytes + length piece - n) (drop n (bytes ++ piece)) ∷ []) are
    ∙ ap (λ (p : List ℕ). p ∷ []) (last_piece bytes piece)
pieces_more from bytes piece (end ∷ ends) are =
    ap (λ (p : List ℕ). p ∷ pieces_from end (bytes ++ piece) (ends ++ (length bytes + length piece) ∷ []))
    (front_piece from end bytes piece are.0 (ends_within end (length bytes) ends are.1))
    ∙ ap (λ (ps : List (List ℕ)). take (end - from) (drop from bytes) ∷ ps) (pieces_more end bytes piece ends are.1)

-- the piece at a place
pub piece_is : (from : ℕ) (bytes ends : List ℕ) (place : ℕ) → place < length ends
    → slice_get (pieces_from from bytes ends) place
    ≡ Some (take (slice_index ends place - slice_index (from ∷ ends) place) (drop (slice_index (from ∷ ends) place) bytes))
piece_is from bytes [] place there = absurd (omega (arith, there))
piece_is from bytes (end ∷ ends) zero there = refl
piece_is from bytes (end ∷ ends) (suc place) there = piece_is end bytes ends place (omega (arith, there))

-- lies within the bytes
pub piece_ordered : (from size : ℕ) (ends : List ℕ) (place : ℕ) → AreEndsFrom from size ends → place < length ends → slice_index (from ∷ ends) place ≤ slice_index ends place
piece_ordered from size [] place are there = absurd (omega (arith, there))
piece_ordered from size (end ∷ ends) zero are there = are.0
piece_ordered from size (end ∷ ends) (suc place) are there = piece_ordered end size ends place are.1 (omega (arith, there))

pub piece_within : (from size : ℕ) (ends : List ℕ) (place : ℕ) → AreEndsFrom from size ends → place < length ends → slice_index ends place ≤ size
piece_within from size [] place are there = absurd (omega (arith, there))
piece_within from size (end ∷ ends) zero are there = ends_within end size ends are.1
piece_within from size (end ∷ ends) (suc place) are there = piece_within end size ends place are.1 (omega (arith, there))

-- a buffer with one piece more
pub held_ends : (bytes piece ends new_bytes new_ends : List ℕ) (end : ℕ) → new_bytes ≡ bytes ++ piece → end ≡ length new_bytes → new_ends ≡ ends ++ end ∷ []
    → AreEndsFrom 0 (length bytes) ends → AreEndsFrom 0 (length new_bytes) new_ends
held_ends bytes piece ends new_bytes new_ends end grown there more are =
    let size : length new_bytes ≡ length bytes + length piece = ap length grown ∙ length-append bytes piece in
    subst (λ (t : List ℕ). AreEndsFrom 0 (length new_bytes) t) (sym (more ∙ ap (λ (n : ℕ). ends ++ n ∷ []) (there ∙ size)))
    (subst (λ (n : ℕ). AreEndsFrom 0 n (ends ++ (length bytes + length piece) ∷ [])) (sym size) (ends_more 0 (length bytes) (length piece) ends are))

pub held_pieces : (bytes piece ends new_bytes new_ends : List ℕ) (end : ℕ) → new_bytes ≡ bytes ++ piece → end ≡ length new_bytes → new_ends ≡ ends ++ end ∷ []
    → AreEndsFrom 0 (length bytes) ends → pieces_from 0 new_bytes new_ends ≡ pieces_from 0 bytes ends ++ piece ∷ []
held_pieces bytes piece ends new_bytes new_ends end grown there more are =
    let size : length new_bytes ≡ length bytes + length piece = ap length grown ∙ length-append bytes piece in
    ap (λ (t : List ℕ). pieces_from 0 t new_ends) grown
    ∙ ap (pieces_from 0 (bytes ++ piece)) (more ∙ ap (λ (n : ℕ). ends ++ n ∷ []) (there ∙ size))
    ∙ pieces_more 0 bytes piece ends are
