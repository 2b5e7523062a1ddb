use Rattle.stream_law.proofs.TableWritten.{table_is_writable}
use Rattle.stream_law.proofs.table.the_table_of_a_plan_can_be_written.Goals as goal

pub returns : goal.returns
returns c = record { writable = λ plan int accepted of_bytes is. table_is_writable plan int accepted of_bytes is }
