use Rattle.std.proofs.Common.{◌≤◌, ℕ, ◌+◌, ◌-◌, ◌%◌, List, drop, length, true, ap, ◌∙◌, subst, arith}
use Rattle.ts_spec.specs.Packet.{packet_bytes}
use Rattle.unit_stream.specs.Packers.{PackerState, between, with_bytes, Writes}
use Rattle.unit_stream.specs.Parts.{payload_with}
use Rattle.unit_stream.proofs.Between.{below_last, length-between}
use Rattle.unit_stream.proofs.Written.{payload_put, writes_part}
use Rattle.unit_stream.proofs.packer.Packer.next_around.Goals as goal

pub returns-in_err-part-clause-within : goal.returns-in_err-part-clause-within
returns-in_err-part-clause-within g c =
    omega (arith, below_last g.F.UnitForm.START c.args.ends.now c.args.self.now.begun c.requires.rising c.requires.on_way.begun, c.requires.on_way.at)

pub returns-clause-writes : goal.returns-clause-writes
returns-clause-writes g c = λ bytes within.
    let old : PackerState = record { pid = c.self.inside.pid; packing = c.self.inside.packing; counter = c.self.inside.counter; begun = c.self.inside.begun; at = c.self.inside.at } in
    let new : PackerState = record { pid = c.self.inside.pid; packing = c.self.inside.packing; counter = (c.self.inside.counter + 1) % 16; begun = c.in_ok-part.part.begun; at = c.in_ok-part.part.at } in
    let piece : List ℕ = between bytes c.self.inside.at c.in_ok-part.part.at in
    let reach : c.in_ok-part.part.at ≤ length bytes = omega (arith, within, c.in_ok-part.ensures.part.to, below_last g.F.UnitForm.START c.args.ends.now c.in_ok-part.part.begun c.requires.rising c.in_ok-part.ensures.part.count) in
    subst (λ (s : PackerState). Writes g.F.UnitForm.form s new bytes c.args.ends.now (with_bytes c.write_around-from.result (between bytes s.at c.in_ok-part.part.at) c.write_around-from.new.into) true) c.self.view_is
    (writes_part g.F.UnitForm.form old bytes c.args.ends.now (with_bytes c.write_around-from.result piece c.write_around-from.new.into) c.in_ok-part.part
    (c.in_ok-part.ensures.next bytes within)
    (c.write_around-from.ensures.written piece (length-between bytes c.self.inside.at c.in_ok-part.part.at reach)
    ∙ payload_put c.self.inside.pid c.self.inside.counter c.in_ok-part.part.starts c.write_header.new.into (payload_with c.in_ok-part.part.starts (c.end_of_unit.result - c.self.inside.at) piece) (drop 4 c.args.into.now) c.write_header.ensures.written
    ∙ ap (λ (end : ℕ). packet_bytes c.self.inside.pid c.in_ok-part.part.starts c.self.inside.counter (payload_with c.in_ok-part.part.starts (end - c.self.inside.at) piece)) c.end_of_unit.ensures))

pub returns-clause-within : goal.returns-clause-within
returns-clause-within g c =
    omega (arith, c.in_ok-part.ensures.part.to, below_last g.F.UnitForm.START c.args.ends.now c.in_ok-part.part.begun c.requires.rising c.in_ok-part.ensures.part.count)
