use Rattle.std.proofs.Common.{refl}
use Rattle.reception_law.proofs.ShownSection.{shown_is, shown_raised, shown_stays, shown_first}
use Rattle.reception_law.proofs.versions.the_shown_section_comes_section_by_section.Goals as goal

pub returns : goal.returns
returns c = record {
  at_end = shown_is;
  none = λ plan. refl;
  raised = shown_raised;
  stays = shown_stays;
  first = shown_first;
}
