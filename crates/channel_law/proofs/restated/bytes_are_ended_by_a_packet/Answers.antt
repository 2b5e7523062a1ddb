use Rattle.channel_law.proofs.Ends.{ended}
use Rattle.channel_law.proofs.restated.bytes_are_ended_by_a_packet.Goals as goal

pub returns : goal.returns
returns c = record { ended = λ start packet behind. ended packet behind }
