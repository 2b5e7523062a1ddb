use Rattle.std.proofs.Common.{◌≡◌, ◌+◌, ◌∙◌, ap, length, arith, rules}
use Rattle.std.proofs.lemmas.Result.{err_from_is_err_and}
use Rattle.wire_spec.specs.Causes.{raised}
use Rattle.ipe_io.proofs.Told.{raised-raised}
use Rattle.ts_record.proofs.Fronts.{consumes_both}
use Rattle.ts_record.proofs.pieces.fill_both.Goals as goal

pub returns-clause-read : goal.returns-clause-read
returns-clause-read g c =
    let all : c.in_ok-front.front ≡ length c.fill.new.buf = omega (arith, c.in_ok-front.ensures.bound) in
    consumes_both _ _ _ c.fill.new.buf c.fill-2.new.buf c.in_ok-front.front c.in_ok-fill.field-0 all c.in_ok-front.ensures.read c.in_ok-fill.ensures.read

pub returns-in_err-fill-clause-failed : goal.returns-in_err-fill-clause-failed
returns-in_err-fill-clause-failed g c =
    let all : c.in_ok-front.front ≡ length c.fill.new.buf = omega (arith, c.in_ok-front.ensures.bound) in
    let size : length c.fill-2.new.buf ≡ 188 = search rules in
    let some = c.in_err-fill.ensures.failed in
    let failed = err_from_is_err_and c.from_residual-in_err-fill.result c.from_residual-in_err-fill.ensures.1 in
    rw failed.1 (
      c.in_ok-front.front + some.0,
      omega (arith, size, all, some.1),
      some.2 ∙ ap (λ taken. raised taken some.0) c.in_ok-front.ensures.taken ∙ raised-raised _ c.in_ok-front.front some.0,
      consumes_both _ _ _ c.fill.new.buf c.fill-2.new.buf c.in_ok-front.front some.0 all c.in_ok-front.ensures.read some.3,
    )
