use Rattle.std.proofs.Common.{ℕ, ◌+◌, List, length, ap, arith}
use Rattle.fec_units.proofs.Parts.{got, part_bytes_more, part_grows}
use Rattle.fec_units.proofs.frames.data_bytes.Goals as goal

pub overflow_add-size : goal.overflow_add-size
overflow_add-size c =
    let is = got c.args.list.now c.loop-place.place c.at.result.now c.at.ensures.read in
    omega (
      arith,
      c.loop-place.invariant,
      part_bytes_more c.args.from c.loop-place.place c.args.list.now (omega arith) is.0,
      part_grows c.args.from (c.loop-place.place + 1) c.args.end c.args.list.now (omega arith),
      ap (λ (l : List ℕ). length l) is.1,
    )

pub loop-place-preserved : goal.loop-place-preserved
loop-place-preserved c =
    let is = got c.args.list.now c.loop-place.place c.at.result.now c.at.ensures.read in
    omega (arith, c.loop-place.invariant, part_bytes_more c.args.from c.loop-place.place c.args.list.now (omega arith) is.0, ap (λ (l : List ℕ). length l) is.1)
