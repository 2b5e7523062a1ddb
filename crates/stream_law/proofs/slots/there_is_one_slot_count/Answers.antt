use Rattle.stream_spec.specs.Slots.{kept_for_table}
use Rattle.stream_law.proofs.Ends.{one_count, ends, table_keeps_none, table_leaves_slots}
use Rattle.stream_law.proofs.slots.there_is_one_slot_count.Goals as goal

pub returns-clause-ends : goal.returns-clause-ends
returns-clause-ends c = λ cycle table packets less. ends (kept_for_table cycle table) packets (table_leaves_slots cycle table less) (table_keeps_none cycle table)

pub returns-clause-one : goal.returns-clause-one
returns-clause-one c = one_count
