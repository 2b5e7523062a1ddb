use Rattle.std.specs.Prelude.{None}
use Rattle.ts_spec.specs.Received.{arrivals}
use Rattle.channel_law.proofs.Words.{differing}
use Rattle.channel_law.proofs.restated.received_packets_differ_from_the_last_received.Goals as goal

pub returns : goal.returns
returns c = record { received = λ pid records. differing None (arrivals pid records) }
