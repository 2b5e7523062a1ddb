-- Units that stand one after another in a buffer.
use Rattle.std.proofs.Common.{◌≡◌, ℕ, ◌+◌, ◌-◌, ◌<◌, List, [], ◌∷◌, ◌++◌, length, take, drop, slice_index, refl, ap, sym, ◌∙◌, subst, arith}
use Rattle.std.proofs.lemmas.List.{length-append, drop_all, drop-drop, take-append-drop}
use Rattle.wire_spec.specs.Lists.{joined}
use Rattle.ip_datagram.specs.Held.{pieces_from, AreEndsFrom}
use Rattle.ip_datagram.proofs.Held.{held_pieces}
use Rattle.unit_stream.specs.Packers.{AreRising, AreEnds, units_from, units_of}

-- they are pieces of the buffer
units_are : (from : ℕ) (bytes ends : List ℕ) → units_from from bytes ends ≡ pieces_from from bytes ends
units_are from bytes [] = refl
units_are from bytes (end ∷ ends) = ap (λ (us : List (List ℕ)). take (end - from) (drop from bytes) ∷ us) (units_are end bytes ends)

rising_more : (from size count : ℕ) (ends : List ℕ) → 0 < count → AreEndsFrom from size ends → AreRising 1 from ends → AreRising 1 from (ends ++ (size + count) ∷ [])
rising_more from size count [] some are rising = (omega (arith, some, are), tt)
rising_more from size count (end ∷ ends) some are rising = (rising.0, rising_more end size count ends some are.1 rising.1)

-- where one more ends
pub grown_end : (bytes piece new_bytes : List ℕ) (end : ℕ) → new_bytes ≡ bytes ++ piece → end ≡ length bytes + length piece → end ≡ length new_bytes
grown_end bytes piece new_bytes end grown sum = sum ∙ sym (ap length grown ∙ length-append bytes piece)

-- one more
pub held_rising : (bytes piece ends new_bytes new_ends : List ℕ) (end : ℕ) → 0 < length piece → new_bytes ≡ bytes ++ piece → end ≡ length new_bytes → new_ends ≡ ends ++ end ∷ []
    → AreEndsFrom 0 (length bytes) ends → AreRising 1 0 ends → AreRising 1 0 new_ends
held_rising bytes piece ends new_bytes new_ends end some grown there more are rising =
    let size : length new_bytes ≡ length bytes + length piece = ap length grown ∙ length-append bytes piece in
    subst (λ (t : List ℕ). AreRising 1 0 t) (sym (more ∙ ap (λ (n : ℕ). ends ++ n ∷ []) (there ∙ size)))
    (rising_more 0 (length bytes) (length piece) ends some are rising)

pub held_units : (bytes piece ends new_bytes new_ends : List ℕ) (end : ℕ) → new_bytes ≡ bytes ++ piece → end ≡ length new_bytes → new_ends ≡ ends ++ end ∷ []
    → AreEndsFrom 0 (length bytes) ends → units_of new_bytes new_ends ≡ units_of bytes ends ++ piece ∷ []
held_units bytes piece ends new_bytes new_ends end grown there more are =
    units_are 0 new_bytes new_ends ∙ held_pieces bytes piece ends new_bytes new_ends end grown there more are
    ∙ ap (λ (us : List (List ℕ)). us ++ piece ∷ []) (sym (units_are 0 bytes ends))

-- The buffer as a whole.

end_is : (from size : ℕ) (ends : List ℕ) → AreEndsFrom from size ends → slice_index (from ∷ ends) (length ends) ≡ size
end_is from size [] are = are
end_is from size (end ∷ ends) are = end_is end size ends are.1

joined_from : (from : ℕ) (bytes ends : List ℕ) → AreEndsFrom from (length bytes) ends → joined (units_from from bytes ends) ≡ drop from bytes
joined_from from bytes [] are = sym (drop_all from bytes (omega (arith, are)))
joined_from from bytes (end ∷ ends) are =
    let on : from + (end - from) ≡ end = omega (arith, are.0) in
    ap (λ (t : List ℕ). take (end - from) (drop from bytes) ++ t)
    (joined_from end bytes ends are.1 ∙ ap (λ (n : ℕ). drop n bytes) (sym on) ∙ sym (drop-drop (end - from) from bytes))
    ∙ take-append-drop (end - from) (drop from bytes)

pub held_whole : (bytes ends : List ℕ) → AreEndsFrom 0 (length bytes) ends → bytes ≡ joined (units_of bytes ends)
held_whole bytes ends are = sym (joined_from 0 bytes ends are)

pub held_ends_are : (bytes ends : List ℕ) → AreEndsFrom 0 (length bytes) ends → AreRising 1 0 ends → AreEnds 1 (length bytes) ends
held_ends_are bytes ends are rising = record { rising = rising; within = omega (arith, end_is 0 (length bytes) ends are) }
