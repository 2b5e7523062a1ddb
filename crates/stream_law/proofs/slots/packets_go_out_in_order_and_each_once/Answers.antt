use Rattle.std.proofs.Common.{ap, ◌∙◌}
use Rattle.std.specs.List.{range_with_len}
use Rattle.stream_spec.specs.Slots.{kept_for_table}
use Rattle.stream_law.proofs.Turns.{out_is}
use Rattle.stream_law.proofs.Ends.{all_out, table_keeps_none, table_leaves_slots}
use Rattle.stream_law.proofs.slots.packets_go_out_in_order_and_each_once.Goals as goal

pub returns : goal.returns
returns c = record {
  order = λ cycle table packets slots less count k below.
      out_is (kept_for_table cycle table) packets (table_keeps_none cycle table) k below slots
      ∙ ap (range_with_len 0) (all_out (kept_for_table cycle table) packets (table_leaves_slots cycle table less) slots count k below);
}
