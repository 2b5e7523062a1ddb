use Rattle.std.proofs.Common.{◌≡◌, ℕ, refl, subst, ◌∙◌}
use Rattle.std.proofs.KnownBytes.{Appends-kept}
use Rattle.wire_spec.specs.Causes.{Rose}
use Rattle.ipe_io.proofs.Told.{stays-trans}
use Rattle.plan.specs.PlanView.{plan_fields}
use Rattle.tables_command.proofs.Ends.{written_unflushed, lacks_memory, wrote_part, wrote_all}
use Rattle.tables_command.proofs.writing.write_tables.Goals as goal

pub returns-in_default : goal.returns-in_default
returns-in_default g c = record {
  writes = lacks_memory (plan_fields c.args.plan.now) (g.O.Sink.told c.args.output.now) (c.args.output.now ≡ c.args.output.now) refl;
}

pub returns-in-Err : goal.returns-in-Err
returns-in-Err g c = record {
  writes = wrote_part (plan_fields c.args.plan.now) (g.O.Sink.told c.args.output.now) (g.O.Sink.told c.put_all.new.sink) (c.put_all.new.sink ≡ c.args.output.now)
      c.deref.result.now (c.deref.ensures.value ∙ c.in-Ok.ensures) c.in-Err.ensures.written c.in-Err.ensures.flushed c.in-Err.ensures.cause.failed;
}

pub returns-in-Ok-flush : goal.returns-in-Ok-flush
returns-in-Ok-flush g c = record {
  writes = wrote_all (plan_fields c.args.plan.now) (g.O.Sink.told c.args.output.now) (g.O.Sink.told c.flush.new.self) (c.flush.new.self ≡ c.args.output.now) tt
      c.deref.result.now (c.deref.ensures.value ∙ c.in-Ok.ensures)
      (Appends-kept (g.O.Sink.told c.args.output.now).held (g.O.Sink.told c.put_all.new.sink).held (g.O.Sink.told c.flush.new.self).held c.deref.result.now
      c.in-Ok-put_all.ensures.written c.in-Ok-flush.ensures.kept)
      c.in-Ok-flush.ensures.flushed (c.in-Ok-flush.ensures.cause.kept ∙ c.in-Ok-put_all.ensures.cause.kept);
}

pub returns : goal.returns
returns g c = record {
  writes = wrote_part (plan_fields c.args.plan.now) (g.O.Sink.told c.args.output.now) (g.O.Sink.told c.flush.new.self) (c.flush.new.self ≡ c.args.output.now)
      c.deref.result.now (c.deref.ensures.value ∙ c.in-Ok.ensures)
      (written_unflushed (g.O.Sink.told c.args.output.now).held (g.O.Sink.told c.put_all.new.sink).held (g.O.Sink.told c.flush.new.self).held c.deref.result.now
      c.in-Ok-put_all.ensures.written c.in-Err-flush.ensures.kept)
      (stays-trans (g.O.Sink.told c.args.output.now).flushed (g.O.Sink.told c.put_all.new.sink).flushed (g.O.Sink.told c.flush.new.self).flushed
      c.in-Ok-put_all.ensures.flushed c.in-Err-flush.ensures.unchanged)
      (subst (λ (n : ℕ). Rose n (g.O.Sink.told c.flush.new.self).faults) c.in-Ok-put_all.ensures.cause.kept c.in-Err-flush.ensures.cause.failed);
}
