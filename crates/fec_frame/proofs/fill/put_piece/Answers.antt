use Rattle.std.proofs.Common.{◌+◌, ◌-◌, ℕ, List, length, get_or, ap, arith}
use Rattle.fec_frame.proofs.Filling.{part_put}
use Rattle.fec_frame.proofs.fill.put_piece.Goals as goal

pub returns : goal.returns
returns c = record {
  put =
      part_put c.args.from (c.args.from + length c.args.piece.now) (c.args.from + length c.args.piece.now - c.args.from) (λ (place : ℕ). get_or c.args.piece.now (place - c.args.from) 0) c.args.bytes.now c.copy_from_slice.new.self
      (omega arith) c.requires.within (omega arith)
      (λ place order low. ap (λ (l : List ℕ). get_or l (place - c.args.from) 0) c.copy_from_slice.ensures.after);
}
