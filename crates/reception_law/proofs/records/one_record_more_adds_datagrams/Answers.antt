use Rattle.std.proofs.Common.{inl}
use Rattle.reception_law.proofs.Frames.{told_nothing, told_more, added_is, none_added, told_end, closed_is}
use Rattle.reception_law.proofs.records.one_record_more_adds_datagrams.Goals as goal

pub returns : goal.returns
returns c = record {
  none = told_nothing;
  more = told_more;
  added = added_is;
  others = λ form service pid records r on off. none_added form service pid (inl on) records r off;
  end = told_end;
  closed = closed_is;
}
