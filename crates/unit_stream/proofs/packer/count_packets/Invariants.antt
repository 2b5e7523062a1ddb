use Rattle.std.proofs.Common.{◌≡◌, ◌≤◌, ℕ, ◌+◌, ◌-◌, List, length}
use Rattle.unit_stream.specs.Packers.{end_of, pieces_left}
use Rattle.unit_stream.proofs.packer.count_packets.Given as goal

abbrev pub invariant-loop-part : goal.invariant-loop-part
invariant-loop-part g l = record {
  begun : l.begun ≤ length l.ends;
  at : l.at ≤ end_of l.ends l.begun;
  count : l.count ≤ l.at;
  rest : (bytes : List ℕ) → end_of l.ends (length l.ends) ≤ length bytes
      → l.count + length (pieces_left g.F.UnitForm.form.start l.packing bytes l.ends l.begun l.at) ≡ length (pieces_left g.F.UnitForm.form.start l.packing bytes l.ends 0 0);
}

abbrev pub decreases-loop-part : goal.decreases-loop-part
decreases-loop-part g l = end_of l.ends (length l.ends) - l.at
