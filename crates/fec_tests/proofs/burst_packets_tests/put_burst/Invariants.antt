-- The packets that are not out of the burst grow fewer.
use Rattle.fec_tests.proofs.burst_packets_tests.put_burst.Given as goal

abbrev pub decreases-loop-packet : goal.decreases-loop-packet
decreases-loop-packet l = l.bursts.under_way
