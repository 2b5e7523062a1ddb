-- What there is room for.
use Rattle.std.proofs.Common.{◌≡◌, ℕ, ◌≤◌, Bool, true, false, cond, leb, ◌&&◌, List, [], ◌∷◌, refl}
use Rattle.std.specs.Prelude.{filter}
use Rattle.std.proofs.lemmas.Bool.{leb-true}
use Rattle.bridge_spec.specs.Frames.{BridgeCarrier}
use Rattle.bridge_spec.specs.Sending.{has_room, frames_to_carry}
use Rattle.bridge_law.specs.Rooms.{HaveRoom}

-- the two bounds of a length
pub bounds : (least most n : ℕ) → (leb least n && leb n most) ≡ true → (least ≤ n) × (n ≤ most)
bounds least most n room = (by_first (leb least n) refl room, by_second (leb least n) (leb n most) refl room)
  where
    by_first : (b : Bool) → leb least n ≡ b → (b && leb n most) ≡ true → least ≤ n
    by_first true e is = leb-true least n e
    by_first false e is = absurd (cc)

    by_second : (a b : Bool) → leb n most ≡ b → (a && b) ≡ true → n ≤ most
    by_second true true e is = leb-true n most e
    by_second true false e is = absurd (cc)
    by_second false b e is = absurd (cc)

pub carried_have_room : (carrier : BridgeCarrier) (captured : List (List ℕ)) → HaveRoom carrier (frames_to_carry carrier captured)
carried_have_room carrier [] = tt
carried_have_room carrier (frame ∷ captured) = by_test (has_room carrier frame) refl (carried_have_room carrier captured)
  where
    by_test : (b : Bool) → has_room carrier frame ≡ b → HaveRoom carrier (frames_to_carry carrier captured)
        → HaveRoom carrier (cond b (frame ∷ filter (has_room carrier) captured) (filter (has_room carrier) captured))
    by_test true e rest = (e, rest)
    by_test false e rest = rest
