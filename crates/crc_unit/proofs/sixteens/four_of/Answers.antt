use Rattle.std.proofs.Common.{ℕ, zero, suc, ◌+◌, ◌<◌, ◌∷◌, [], lit<, get_or, refl, ◌∙◌}
use Rattle.std.proofs.lemmas.Nat.{le_bytes_4}
use Rattle.wire_spec.specs.Bytes.{four_at}
use Rattle.crc_unit.proofs.sixteens.four_of.Goals as goal

-- what is read of four bytes is a byte, after them too
four_fit : (b0 b1 b2 b3 : ℕ) → b0 < 256 → b1 < 256 → b2 < 256 → b3 < 256 → (i : ℕ) → get_or (b0 ∷ b1 ∷ b2 ∷ b3 ∷ []) i 0 < 256
four_fit b0 b1 b2 b3 f0 f1 f2 f3 zero = f0
four_fit b0 b1 b2 b3 f0 f1 f2 f3 (suc zero) = f1
four_fit b0 b1 b2 b3 f0 f1 f2 f3 (suc (suc zero)) = f2
four_fit b0 b1 b2 b3 f0 f1 f2 f3 (suc (suc (suc zero))) = f3
four_fit b0 b1 b2 b3 f0 f1 f2 f3 (suc (suc (suc (suc i)))) = lit< tt

pub returns : goal.returns
returns c =
    let at : ℕ = c.args.at in
    c.to_le_bytes.ensures
    ∙ le_bytes_4 (four_at c.args.sixteen.now at) c.from_le_bytes-word.result refl
    (four_fit _ _ _ _ (c.fits-sixteen at) (c.fits-sixteen (at + 1)) (c.fits-sixteen (at + 2)) (c.fits-sixteen (at + 3)))
    c.from_le_bytes-word.ensures
