use Rattle.std.proofs.Common.{ℕ, zero, suc, ◌+◌, ◌*◌, ◌%◌, ◌<◌, true, List, [], ◌∷◌, length, arith}
use Rattle.ts_spec.specs.Form.{UnitForm, IsUnit}
use Rattle.ts_spec.specs.Packetized.{unit_at}
use Rattle.section_spec.specs.Section.{section_form}
use Rattle.int_spec.specs.Table.{table_body, table_bytes}
use Rattle.plan_spec.specs.Signalling.{table_of, table_packets}
use Rattle.stream_law.proofs.TableWritten.{section_is_writable}
use Rattle.stream_law.proofs.table.a_cycle_carries_the_table.Goals as goal

one_unit : (form : UnitForm) (unit : List ℕ) → IsUnit form unit → (n : ℕ) → n < length (unit ∷ []) → IsUnit form (unit_at (unit ∷ []) n)
one_unit form unit is zero less = is
one_unit form unit is (suc n) less = absurd (omega (arith, less))

pub returns : goal.returns
returns c = record {
  carried = λ part int accepted of_bytes cycle.
      c.packetized_units_are_carried.ensures section_form true int.pid ((part.table_before + cycle * table_packets part.plan) % 16) (table_bytes (table_of part.plan int) ∷ [])
      c.sections_are_lawful.ensures.lawful
      (one_unit section_form (table_bytes (table_of part.plan int))
      (c.a_written_section_reads_back.ensures.unit 0x4C 0xF0 (table_body (table_of part.plan int)) (section_is_writable part.plan int accepted of_bytes)));
}
