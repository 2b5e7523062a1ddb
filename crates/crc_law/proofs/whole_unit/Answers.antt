use Rattle.crc_law.proofs.CheckSum.{crc32_below, short_has_no_crc, written_crc_is_right}
use Rattle.crc_law.proofs.Whole.{remainder-append, whole_zero, whole_only}
use Rattle.crc_law.proofs.whole_unit.Goals as goal

pub returns : goal.returns
returns c = record {
  pieces = remainder-append;
  zero = whole_zero;
  only = whole_only;
  fits = crc32_below;
  compared = written_crc_is_right;
  short = short_has_no_crc;
}
