use Rattle.std.proofs.Common.{List, ℕ, refl, sym, subst}
use Rattle.std.proofs.KnownBytes.{Appends-kept}
use Rattle.ipe_io.proofs.Told.{stays-trans}
use Rattle.sample_spec.specs.Summary.{IsSummary}
use Rattle.sample_command.proofs.Written.{written_unflushed}
use Rattle.sample_command.proofs.command.sample.Goals as goal

pub returns-in_default-clause-written : goal.returns-in_default-clause-written
returns-in_default-clause-written g c = λ other. absurd (other refl)

pub returns-in-Err-clause-written : goal.returns-in-Err-clause-written
returns-in-Err-clause-written g c = λ other.
    let summary = subst (λ (t : List ℕ). IsSummary c.args.number t) (sym c.deref.ensures.value) c.in-Ok.ensures.summary in
    (c.deref.result.now, summary, c.in-Err.ensures.written)

pub returns-in-Ok-flush-clause-written : goal.returns-in-Ok-flush-clause-written
returns-in-Ok-flush-clause-written g c = λ other.
    let summary = subst (λ (t : List ℕ). IsSummary c.args.number t) (sym c.deref.ensures.value) c.in-Ok.ensures.summary in
    let written = Appends-kept (g.K.Sink.told c.args.output.now).held (g.K.Sink.told c.put_all.new.sink).held (g.K.Sink.told c.flush.new.self).held c.deref.result.now
    c.in-Ok-put_all.ensures.written c.in-Ok-flush.ensures.kept in
    (c.deref.result.now, summary, written)

pub returns-clause-written : goal.returns-clause-written
returns-clause-written g c = λ other.
    let summary = subst (λ (t : List ℕ). IsSummary c.args.number t) (sym c.deref.ensures.value) c.in-Ok.ensures.summary in
    let written = written_unflushed (g.K.Sink.told c.args.output.now).held (g.K.Sink.told c.put_all.new.sink).held (g.K.Sink.told c.flush.new.self).held c.deref.result.now
    c.in-Ok-put_all.ensures.written c.in-Err-flush.ensures.kept in
    (c.deref.result.now, summary, written)

pub returns-clause-unflushed : goal.returns-clause-unflushed
returns-clause-unflushed g c =
    stays-trans (g.K.Sink.told c.args.output.now).flushed (g.K.Sink.told c.put_all.new.sink).flushed (g.K.Sink.told c.flush.new.self).flushed c.in-Ok-put_all.ensures.flushed c.in-Err-flush.ensures.unchanged
