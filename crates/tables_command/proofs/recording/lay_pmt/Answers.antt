use Rattle.std.proofs.Common.{◌≡◌, ℕ, List, ◌++◌, take, length, ap, ◌∙◌, subst, OnOk, arith}
use Rattle.wire_spec.specs.Lists.{joined}
use Rattle.plan.specs.PlanView.{plan_fields}
use Rattle.psi_spec.specs.Pmt.{PmtFields, pmt_bytes}
use Rattle.psi_spec.specs.Tables.{laid, pmt_of}
use Rattle.tables_command.proofs.Streams.{few_streams, streams_most, same_pmt}
use Rattle.tables_command.proofs.Recorded.{front_is}
use Rattle.tables_command.proofs.recording.lay_pmt.Goals as goal

pub write_pmt-size-requires-clause-most : goal.write_pmt-size-requires-clause-most
write_pmt-size-requires-clause-most c =
    let few = few_streams (plan_fields c.args.plan.now) c.args.program.now.number c.args.plan.now.valid in
    omega (arith, few, ap length (rw c.items.ensures.read at c.in-Ok.ensures.streams))

pub write_pmt-size-requires-clause-pids : goal.write_pmt-size-requires-clause-pids
write_pmt-size-requires-clause-pids c =
    rw (c.in-Ok.ensures.streams, c.items.ensures.read) (streams_most (plan_fields c.args.plan.now) c.args.program.now.number c.args.plan.now.valid)

pub returns : goal.returns
returns c =
    let plan = plan_fields c.args.plan.now in
    let number = c.args.program.now.number in
    let pmt : c.in-Ok.pmt ≡ pmt_of plan number
    = same_pmt plan number c.in-Ok.pmt c.in-Ok.ensures.number (rw c.items.ensures.read at c.in-Ok.ensures.streams) in
    let section : take c.write_pmt-size.result c.write_pmt-size.new.into ≡ pmt_bytes (pmt_of plan number)
    = front_is c.write_pmt-size.result (pmt_bytes c.in-Ok.pmt) _ c.write_pmt-size.new.into c.write_pmt-size.ensures.size c.write_pmt-size.ensures.written
    ∙ ap (λ (p : PmtFields). pmt_bytes p) pmt in
    subst (λ (b : List ℕ). OnOk c.lay.result (c.lay.new.packets.items ≡ c.args.packets.now.items ++ joined (laid c.args.program.now.pid b))) section c.lay.ensures
