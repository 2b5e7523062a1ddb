use Rattle.std.proofs.Common.{◌+◌, ◌∙◌, arith}
use Rattle.ipe_io.proofs.Told.{is_there}
use Rattle.capture_files.proofs.Flushed.{flush_next}
use Rattle.capture_files.proofs.files.flush_files.Goals as goal

pub loop-k-preserved : goal.loop-k-preserved
loop-k-preserved g c = record {
  count = c.in_ok-flush.ensures.count ∙ c.loop-k.invariant.count;
  within = omega arith;
  flushed = flush_next (g.R.Rack.told c.args.rack.now).files (g.R.Rack.told c.loop-k.rack).files (g.R.Rack.told c.flush.new.self).files c.args.first c.loop-k.k
      (is_there (g.R.Rack.told c.loop-k.rack).files (c.args.first + c.loop-k.k) (g.R.Rack.told c.loop-k.rack).count (g.met.R.Rack.as_many c.loop-k.rack) (omega (arith, c.requires.there, c.loop-k.invariant.count)))
      c.loop-k.invariant.flushed c.in_ok-flush.ensures.flushed;
  faults = c.in_ok-flush.ensures.cause.kept ∙ c.loop-k.invariant.faults;
}
