use Rattle.stream_law.proofs.Captured.{capture_gives}
use Rattle.stream_law.proofs.captures.a_capture_gives_datagrams.Goals as goal

pub returns-clause-are : goal.returns-clause-are
returns-clause-are c = λ capture told fault all tells. (capture_gives c.a_front_is_one_datagram.ensures.front capture told fault all tells).0

pub returns-clause-limits : goal.returns-clause-limits
returns-clause-limits c = λ capture told fault all tells. (capture_gives c.a_front_is_one_datagram.ensures.front capture told fault all tells).1
