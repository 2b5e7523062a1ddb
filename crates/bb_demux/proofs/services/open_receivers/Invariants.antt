use Rattle.std.proofs.Common.{map, take}
use Rattle.plan.specs.Parts.{service_seen}
use Rattle.bb_demux.specs.Finding.{AreFresh}
use Rattle.bb_demux.proofs.services.open_receivers.Given as goal

-- those of the services before the place were opened
abbrev pub invariant-loop-at : goal.invariant-loop-at
invariant-loop-at l = AreFresh (map service_seen (take l.at l.list)) l.receivers.items
