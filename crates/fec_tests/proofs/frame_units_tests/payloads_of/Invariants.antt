-- A packet less is to come.
use Rattle.std.proofs.Common.{length}
use Rattle.fec_tests.proofs.frame_units_tests.payloads_of.Given as goal

abbrev pub decreases-loop-packet : goal.decreases-loop-packet
decreases-loop-packet l = length l.packets.packets
