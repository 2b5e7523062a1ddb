use Rattle.slice_law.proofs.Stamped.{microseconds-written, m2ts_stamp-written}
use Rattle.slice_law.proofs.moments.stamps_are_read_as_written.Goals as goal

pub returns-clause-stamped : goal.returns-clause-stamped
returns-clause-stamped c = microseconds-written

pub returns-clause-m2ts : goal.returns-clause-m2ts
returns-clause-m2ts c = m2ts_stamp-written
