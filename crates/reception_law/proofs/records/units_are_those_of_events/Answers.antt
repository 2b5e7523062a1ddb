use Rattle.std.proofs.Common.{ap, ◌∙◌, Option}
use Rattle.section_spec.specs.Section.{section_form}
use Rattle.plan_spec.specs.Plan.{IntFields}
use Rattle.stream_spec.specs.Services.{form_of_kind}
use Rattle.reception_spec.specs.Table.{table_pid}
use Rattle.reception_spec.specs.Numbers.{units_on}
use Rattle.reception_law.proofs.Fronts.{units_on_pid, units_are}
use Rattle.reception_law.proofs.Frames.{sections_are}
use Rattle.reception_law.proofs.records.units_are_those_of_events.Goals as goal

pub returns : goal.returns
returns c = record {
  units = λ service pid records on. units_on_pid service pid records on ∙ units_are (form_of_kind service.kind) pid records;
  sections = λ plan int records is. ap (λ (table : Option IntFields). units_on section_form (table_pid table) records) is ∙ units_are section_form int.pid records;
  frames = sections_are;
}
