use Rattle.std.proofs.Common.{◌∙◌, map, sym, arith}
use Rattle.ts_mux.specs.Services.{turns_in_service, has_packets}
use Rattle.ts_mux.proofs.Turned.{find_next, find_here, has_there}
use Rattle.ts_mux.proofs.services.find_from.Goals as goal

pub loop-k-preserved : goal.loop-k-preserved
loop-k-preserved c =
    c.loop-k.invariant
    ∙ find_next (has_packets (map turns_in_service c.args.services.now)) c.loop-k.k c.args.to (omega arith)
    (has_there c.args.services.now c.loop-k.k c.index-services-k.result (omega arith) c.index-services-k.is ∙ sym c.has_turn.ensures.read ∙ c.if-has_turn.false)

pub returns-then-has_turn : goal.returns-then-has_turn
returns-then-has_turn c =
    sym
    (c.loop-k.invariant
    ∙ find_here (has_packets (map turns_in_service c.args.services.now)) c.loop-k.k c.args.to (omega arith)
    (has_there c.args.services.now c.loop-k.k c.index-services-k.result (omega arith) c.index-services-k.is ∙ sym c.has_turn.ensures.read ∙ c.if-has_turn.true))
