use Rattle.std.proofs.Common.{ℕ, ◌+◌, List, ◌++◌, take, ap, ◌∙◌, arith}
use Rattle.plan.specs.Parts.{kind_seen}
use Rattle.ts_mux.proofs.Reading.{left_copied, left_next, more_left}
use Rattle.ts_mux.proofs.unit_bytes.UnitBytes.read_piece.Goals as goal

pub overflow_add-self-then-self-datagram : goal.overflow_add-self-then-self-datagram
overflow_add-self-then-self-datagram c =
    omega (arith, c.requires.reading.few, c.begin.ensures.kept.0, more_left (kind_seen c.args.service.now.kind) c.args.service.now.unicast c.args.datagrams.now c.args.self.now c.requires.left)

pub returns-then-self-datagram-clause-read : goal.returns-then-self-datagram-clause-read
returns-then-self-datagram-clause-read c =
    left_copied (kind_seen c.args.service.now.kind) c.args.service.now.unicast c.args.datagrams.now c.args.self.now c.at-datagram.result.now c.at-datagram.ensures.read
    c.begin.new.self c.begin.ensures.begun c.begin.ensures.kept.0 c.begin.ensures.kept.1 c.copy_piece-count.new.into c.copy_piece-count.result c.copy_piece-count.ensures.within c.copy_piece-count.ensures.read
    ∙ ap (λ (t : List ℕ). take c.copy_piece-count.result c.copy_piece-count.new.into ++ t)
    (left_next (kind_seen c.args.service.now.kind) c.args.service.now.unicast c.args.datagrams.now c.args.self.now c.at-datagram.result.now c.at-datagram.ensures.read
    c.begin.new.self c.begin.ensures.begun c.begin.ensures.kept.0 c.begin.ensures.kept.1 (c.begin.new.self.out + c.copy_piece-count.result) c.if-self-datagram.true)

pub returns-else-self-datagram-clause-read : goal.returns-else-self-datagram-clause-read
returns-else-self-datagram-clause-read c =
    left_copied (kind_seen c.args.service.now.kind) c.args.service.now.unicast c.args.datagrams.now c.args.self.now c.at-datagram.result.now c.at-datagram.ensures.read
    c.begin.new.self c.begin.ensures.begun c.begin.ensures.kept.0 c.begin.ensures.kept.1 c.copy_piece-count.new.into c.copy_piece-count.result c.copy_piece-count.ensures.within c.copy_piece-count.ensures.read
