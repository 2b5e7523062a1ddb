use Rattle.std.proofs.Common.{map, take}
use Rattle.plan.specs.Parts.{form_of, service_seen}
use Rattle.demux_core.specs.Opening.{AreOpened}
use Rattle.demux_core.proofs.services.open_receivers.Given as goal

abbrev pub invariant-loop-at : goal.invariant-loop-at
invariant-loop-at l = AreOpened (form_of l.recording) (map service_seen (take l.at l.list)) l.receivers.items
