use Rattle.reception_law.proofs.VersionInForce.{at_end, before, sections_more, ended_is, behind_both, version_more, rises, rises_at_end, most}
use Rattle.reception_law.proofs.versions.the_version_in_force_never_falls.Goals as goal

pub returns : goal.returns
returns c = record {
  at_end = at_end;
  before = before;
  sections = sections_more;
  ended = ended_is;
  behind = behind_both;
  more = version_more;
  rises = rises;
  rises_at_end = rises_at_end;
  most = most;
}
