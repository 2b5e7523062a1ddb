use Rattle.std.proofs.Common.{◌-◌, length, take, rules, ap, ◌∙◌}
use Rattle.std.proofs.KnownBytes.{Consumes-trans}
use Rattle.wire_spec.specs.Causes.{raised}
use Rattle.ipe_io.proofs.Told.{raised-raised, goes_on}
use Rattle.ipe_io.proofs.Buffers.{take-put_mid}
use Rattle.ipe_io.proofs.helpers.fill.Goals as goal

pub loop-got-preserved : goal.loop-got-preserved
loop-got-preserved g c = record {
  within = search rules;
  read = rw (take-put_mid c.loop-got.buf c.read.new.into c.loop-got.got (length c.loop-got.buf - c.loop-got.got) c.in_ok-count.count c.loop-got.invariant.within c.in_ok-count.ensures.bound.0)
      (Consumes-trans (g.S.Source.told c.args.source.now).left (g.S.Source.told c.loop-got.source).left (g.S.Source.told c.read.new.self).left (take c.loop-got.got c.loop-got.buf) (take c.in_ok-count.count c.read.new.into) c.loop-got.invariant.read c.in_ok-count.ensures.read.0);
  taken = c.in_ok-count.ensures.taken ∙ ap (λ k. raised k c.in_ok-count.count) c.loop-got.invariant.taken ∙ raised-raised (g.S.Source.told c.args.source.now).taken c.loop-got.got c.in_ok-count.count;
  unended = λ e. goes_on (g.S.Source.told c.loop-got.source).ended (g.S.Source.told c.read.new.self).ended (length c.read.new.into) c.in_ok-count.count c.if-count-eq0.false (c.loop-got.invariant.unended e) c.in_ok-count.ensures.ended;
  same = c.in_ok-count.ensures.cause.kept ∙ c.loop-got.invariant.same;
}
