use Rattle.std.proofs.Common.{rules, ap, sym, ◌∙◌}
use Rattle.section_spec.specs.Mpe.{mpe_of}
use Rattle.mpe_section.specs.Views.{mpe_in}
use Rattle.service_reception.proofs.Readable.{mpe_is_read}
use Rattle.service_reception.proofs.carried.read_section.Goals as goal

pub returns-in-Ok : goal.returns-in-Ok
returns-in-Ok c = record {
  read = λ kind of_kind is_unit. (
    mpe_is_read kind of_kind c.args.unit.now (mpe_in c.in-Ok.mpe) (sym (ap mpe_of c.in-Some.ensures.read) ∙ c.in-Ok.ensures.read),
    search rules,
    search rules,
  );
}
