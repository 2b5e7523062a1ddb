-- Sums of the numbers of a service, which stand still at the last value of a u64.
use Rattle.std.specs.Prelude.{ℕ}
use Rattle.wire_spec.specs.Causes.{raised}
use Rattle.service_counts.specs.declared.counts.ServiceCounts.{ServiceCounts}

-- the sums of the numbers of a service, which stay at 2^64 - 1 once they are there
abbrev pub raised_counts : ServiceCounts → ServiceCounts → ServiceCounts
raised_counts a b = record {
  heard = raised a.heard b.heard;
  repeats = raised a.repeats b.repeats;
  gaps = raised a.gaps b.gaps;
  units = raised a.units b.units;
  bad_check = raised a.bad_check b.bad_check;
  delimited = raised a.delimited b.delimited;
  bad_length = raised a.bad_length b.bad_length;
  unread = raised a.unread b.unread;
  filtered = raised a.filtered b.filtered;
  frames = raised a.frames b.frames;
  rows_mended = raised a.rows_mended b.rows_mended;
  rows_left = raised a.rows_left b.rows_left;
  datagrams = raised a.datagrams b.datagrams;
}
