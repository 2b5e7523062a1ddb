-- A chain of headers ends in an Ethernet frame or in a datagram, not in both.
use Rattle.std.proofs.Common.{◌≡◌, ℕ, Bool, true, false, cond, eqb, leb, ◌&&◌, List, [], ◌∷◌, length, option_to_list, refl, ap, eqb-true, Option, Some, None}
use Rattle.wire_spec.specs.Datagram.{datagram_of_type}
use Rattle.ts_spec.specs.Chain.{ChainEnd, ended, cut, datagram_at, frame_at}

pub not_both : (e : ChainEnd) (frame : List ℕ) → option_to_list (frame_at e) ≡ frame ∷ [] → option_to_list (datagram_at e) ≡ []
not_both cut frame is = refl
not_both (ended last_type behind) frame is = by_test (eqb last_type 1) refl is
  where
    by_test : (b : Bool) → eqb last_type 1 ≡ b → option_to_list (cond {A = Option (List ℕ)} (b && leb 14 (length behind)) (Some behind) None) ≡ frame ∷ []
        → option_to_list (datagram_of_type last_type behind) ≡ []
    by_test true e one = ap (λ (t : ℕ). option_to_list (datagram_of_type t behind)) (eqb-true last_type 1 e)
    by_test false e one = absurd (cc)
