use Rattle.std.proofs.Common.{rules, sym, subst}
use Rattle.std.specs.Io.KnownBytes.{Appends}
use Rattle.std.proofs.KnownBytes.{Appends-trans}
use Rattle.ipe_io.proofs.Buffers.{take-more}
use Rattle.ipe_io.proofs.write_behind.write_front.Goals as goal

pub loop-written-preserved : goal.loop-written-preserved
loop-written-preserved g c = record {
  within = search rules;
  appended = subst (Appends _ _) (sym (take-more c.args.bytes.now c.loop-written.written c.in-Ok.count c.in-Ok.ensures.bound))
      (Appends-trans _ _ _ _ _ c.loop-written.invariant.appended c.in-Ok.ensures.written);
}
