-- The watches before the place have taken the packet, and the others stay.
use Rattle.std.proofs.Common.{◌≡◌, ◌≤◌, length}
use Rattle.psi_tables.proofs.Places.{AreSet, AreLeft}
use Rattle.psi_tables.proofs.Seen.{HasTaken}
use Rattle.service_reception.specs.Reception.{packet_record}
use Rattle.psi_tables.proofs.finder.take_all.Given as goal

abbrev pub invariant-loop-at : goal.invariant-loop-at
invariant-loop-at l =
    (length l.watches.items ≡ length l.initial.watches.items)
    × (l.at ≤ length l.initial.watches.items)
    × AreSet (HasTaken (packet_record l.moment l.bytes)) l.at l.initial.watches.items l.watches.items
    × AreLeft l.at l.initial.watches.items l.watches.items
