use Rattle.std.proofs.Common.{◌+◌, ◌-◌, length, take, drop, rules, ◌∙◌}
use Rattle.ipe_io.proofs.Told.{changes-trans, is_there}
use Rattle.ipe_io.proofs.Buffers.{take-more}
use Rattle.capture_files.proofs.records.put_piece.Goals as goal

pub loop-put-preserved : goal.loop-put-preserved
loop-put-preserved g c = record {
  within = search rules;
  count = c.in-Ok.ensures.count ∙ c.loop-put.invariant.count;
  written = changes-trans (g.R.Rack.told c.args.rack.now).files (g.R.Rack.told c.loop-put.rack).files (g.R.Rack.told c.write.new.self).files c.args.at
      (take c.loop-put.put c.args.piece.now) (take c.in-Ok.count (take (length c.args.piece.now - c.loop-put.put) (drop c.loop-put.put c.args.piece.now))) (take (c.loop-put.put + c.in-Ok.count) c.args.piece.now)
      (take-more c.args.piece.now c.loop-put.put c.in-Ok.count c.in-Ok.ensures.bound)
      (is_there (g.R.Rack.told c.args.rack.now).files c.args.at (g.R.Rack.told c.args.rack.now).count (g.met.R.Rack.as_many c.args.rack.now) c.requires) c.loop-put.invariant.written c.in-Ok.ensures.written;
  same = c.in-Ok.ensures.cause.kept ∙ c.loop-put.invariant.same;
}
