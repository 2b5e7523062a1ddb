use Rattle.std.proofs.Common.{◌≡◌, ℕ, ◌+◌, ◌*◌, ◌/◌, ◌≤◌, inl, inr, List, [], length, replicate, refl, sym, ap, ◌∙◌, subst, arith}
use Rattle.std.proofs.lemmas.List.{length-replicate}
use Rattle.section_spec.specs.Mpe.{IsRows}
use Rattle.fec_units.specs.Timed.{UnitRoom}
use Rattle.fec_units.specs.Bursts.{HoldsUnits}
use Rattle.fec_units.proofs.burst_buffer.BurstBuffer.new.Goals as goal

rows_most : (rows : ℕ) → IsRows rows → rows ≤ 1024
rows_most rows (inl e) = omega arith
rows_most rows (inr (inl e)) = omega arith
rows_most rows (inr (inr (inl e))) = omega arith
rows_most rows (inr (inr (inr e))) = omega arith

-- the bytes and the units that there is room for
bytes_are : (height width size rows columns : ℕ) → height ≡ rows → width ≡ columns → size ≡ height + 16
    → 191 * height + 16 * ((191 * height) / 20) + width * size ≡ 191 * rows + 16 * ((191 * rows) / 20) + columns * (rows + 16)
bytes_are height width size rows columns high wide size_is = cc

units_are : (height width rows columns : ℕ) → height ≡ rows → width ≡ columns → (191 * height) / 20 + width ≡ (191 * rows) / 20 + columns
units_are height width rows columns high wide = cc

zeros_are : (bytes : List ℕ) (count size : ℕ) → bytes ≡ replicate count 0 → count ≡ size → length bytes ≡ size
zeros_are bytes count size are same = ap length are ∙ length-replicate count 0 ∙ same

pub fec_size-requires : goal.fec_size-requires
fec_size-requires c = omega (arith, rows_most c.args.rows c.requires.rows)

pub invariant_of-result : goal.invariant_of-result
invariant_of-result c = record {
  rows_are = c.requires.rows;
  columns_most = c.requires.columns.1;
  bytes_most = ap (λ (u : UnitRoom). u.bytes_most) c.in_ok-units.ensures.none
      ∙ bytes_are c.from-height.result c.from-width.result c.fec_size.result c.args.rows c.args.columns c.from-height.ensures c.from-width.ensures c.fec_size.ensures.sum;
  units_most = ap (λ (u : UnitRoom). u.units_most) c.in_ok-units.ensures.none
      ∙ units_are c.from-height.result c.from-width.result c.args.rows c.args.columns c.from-height.ensures c.from-width.ensures;
  column_size = zeros_are c.in_ok-column.column.items c.from-height.result c.args.rows c.in_ok-column.ensures.zeros c.from-height.ensures;
  parity_size = zeros_are c.in_ok-parity.parity.items (64 * c.from-height.result) (64 * c.args.rows) c.in_ok-parity.ensures.zeros (ap (λ (n : ℕ). 64 * n) c.from-height.ensures);
  section_size = zeros_are c.in_ok-section.section.items 4096 4096 c.in_ok-section.ensures.zeros refl;
}

pub returns : goal.returns
returns c = record {
  none = subst (λ (u : UnitRoom). HoldsUnits (record { rows = c.args.rows; columns = c.args.columns; bytes = u.bytes; ends = u.ends }) []) (sym c.in_ok-units.ensures.none)
      (record { units_are = refl; whole = refl; ends_are = record { rising = tt; within = omega arith } });
  rows = refl;
  columns = refl;
}
