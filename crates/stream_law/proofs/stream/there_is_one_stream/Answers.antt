use Rattle.stream_law.proofs.Streams.{there_is, is_one}
use Rattle.stream_law.proofs.stream.there_is_one_stream.Goals as goal

pub returns-clause-is : goal.returns-clause-is
returns-clause-is c = λ plan datagrams whole defined. there_is plan datagrams whole defined

pub returns-clause-one : goal.returns-clause-one
returns-clause-one c = λ plan datagrams a b one other. is_one plan datagrams a b one other
