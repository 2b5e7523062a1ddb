use Rattle.std.proofs.Common.{◌-◌, ◌≤◌, ℕ, List, length, take, drop, length-drop, refl, ap, arith}
use Rattle.std.proofs.lemmas.List.{length-take-le}
use Rattle.plan_spec.specs.Plan.{PlanFields}
use Rattle.plan.specs.PlanView.{plan_fields}
use Rattle.ts_mux.proofs.Recorded.{record_added, record_kept, rest_written}
use Rattle.ts_mux.proofs.records.add_record.Goals as goal

pub returns-clause-added : goal.returns-clause-added
returns-clause-added c = λ part place stand.
    let plan : PlanFields = plan_fields c.args.plan.now in
    let items : List ℕ = c.batch.inside.buffer.items in
    let fill : ℕ = c.batch.inside.fill in
    let seen : List ℕ = c.deref_mut.result.now in
    let rest : List ℕ = take (length seen - fill) (drop fill seen) in
    let wrote = c.write_record.ensures.written part place stand in
    let room : c.write_record.result ≤ length rest = omega (
      arith,
      c.write_record.ensures.most,
      length-take-le (length seen - fill) (drop fill seen) (omega (arith, length-drop fill seen)),
      length-drop fill seen,
      ap length c.deref_mut.ensures.value,
      c.batch.invariant.1,
      c.requires.room,
      ap length c.batch.view_is,
      length-take-le fill items c.batch.invariant.0,
    ) in
    record_added plan part place c.args.slot c.write_record.new.services c.write_record.new.table items rest c.write_record.new.into fill c.write_record.result c.args.batch.now c.batch.view_is c.batch.invariant.0 wrote _
    (rest_written items seen rest c.write_record.new.into c.batch.inside.buffer.len fill c.deref_mut.ensures.value c.batch.inside.buffer.ok.0 c.batch.invariant.0 refl
    (record_kept plan part place c.args.slot c.write_record.new.services c.write_record.new.table rest c.write_record.new.into c.write_record.result wrote room))
