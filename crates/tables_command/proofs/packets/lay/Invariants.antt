use Rattle.std.proofs.Common.{◌≡◌, ◌++◌, length, map}
use Rattle.wire_spec.specs.Lists.{joined}
use Rattle.section_spec.specs.Section.{section_form}
use Rattle.unit_stream.specs.Packers.{packets_left, written, IsOnWay}
use Rattle.psi_spec.specs.Tables.{laid}
use Rattle.tables_command.proofs.packets.lay.Given as goal

abbrev pub invariant-loop-ends : goal.invariant-loop-ends
invariant-loop-ends l =
    (l.packets.items ++ joined (map written (packets_left section_form l.packer l.section l.ends)) ≡ l.initial.packets.items ++ joined (laid l.pid l.section))
    × IsOnWay l.packer l.ends × (l.ends ≡ l.initial.ends)

abbrev pub decreases-loop-ends : goal.decreases-loop-ends
decreases-loop-ends l = length (packets_left section_form l.packer l.section l.ends)
