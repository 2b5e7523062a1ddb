-- Packets of one frame, one more after some.
use Rattle.std.proofs.Common.{◌≡◌, ℕ, suc, ◌+◌, List, [], ◌∷◌, ◌++◌, length, refl, ap, ◌∙◌, arith}
use Rattle.gse_spec.specs.Packet.{GsePacket}
use Rattle.gse_spec.specs.Reassembly.{PlacedPacket, latest_first}
use Rattle.gse_spec.specs.Received.{placed}

abbrev pub placed_one : ℕ → ℕ → ℕ → GsePacket → PlacedPacket
placed_one place h i p = record { place = place; frame_number = h; index = i; packet = p }

pub placed_more : (place h i : ℕ) (done : List GsePacket) (p : GsePacket) → placed place h i (done ++ p ∷ []) ≡ placed place h i done ++ placed_one place h (i + length done) p ∷ []
placed_more place h i [] p = let same : i ≡ i + 0 = omega arith in ap (λ (n : ℕ). placed_one place h n p ∷ []) same
placed_more place h i (q ∷ done) p =
    let same : i + 1 + length done ≡ i + suc (length done) = omega arith in
    ap (λ (t : List PlacedPacket). placed_one place h i q ∷ t) (placed_more place h (i + 1) done p)
    ∙ ap (λ (n : ℕ). placed_one place h i q ∷ (placed place h (i + 1) done ++ placed_one place h n p ∷ [])) same

pub latest_both : (before ps qs : List PlacedPacket) → latest_first before (ps ++ qs) ≡ latest_first (latest_first before ps) qs
latest_both before [] qs = refl
latest_both before (p ∷ ps) qs = latest_both (p ∷ before) ps qs
