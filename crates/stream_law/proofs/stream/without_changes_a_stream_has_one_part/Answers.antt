use Rattle.stream_law.proofs.Streams.{one_count_of, one_part}
use Rattle.stream_law.proofs.stream.without_changes_a_stream_has_one_part.Goals as goal

pub returns-clause-count : goal.returns-clause-count
returns-clause-count c = λ plan datagrams records first none stream. one_count_of plan datagrams records first none stream

pub returns-clause-records : goal.returns-clause-records
returns-clause-records c = λ plan datagrams records first none stream. one_part plan datagrams records first none stream
