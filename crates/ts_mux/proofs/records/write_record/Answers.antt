use Rattle.std.proofs.Common.{◌∙◌, ℕ, List, length, drop, ◌++◌, ap, refl, arith}
use Rattle.stream_law.proofs.Plans.{ranges, at_least}
use Rattle.plan.specs.PlanView.{plan_fields}
use Rattle.ts_mux.proofs.Recorded.{record_written, stamp_is}
use Rattle.ts_mux.proofs.records.write_record.Goals as goal

pub write_stamp-stamp-requires-clause-rate : goal.write_stamp-stamp-requires-clause-rate
write_stamp-stamp-requires-clause-rate c = omega (arith, at_least 1 1000000 (plan_fields c.args.plan.now).packet_rate (ranges (plan_fields c.args.plan.now) c.args.plan.now.valid).rate)

pub returns-clause-written : goal.returns-clause-written
returns-clause-written c = λ part place stand.
    let same = stamp_is (plan_fields c.args.plan.now) part stand.of_plan place c.args.slot stand.place in
    record_written (plan_fields c.args.plan.now) part place c.args.slot c.put_packet.new.services c.put_packet.new.table c.args.into.now c.write_stamp-stamp.new.into _ c.put_packet.new.into c.write_stamp-stamp.result
    (c.write_stamp-stamp.ensures.size ∙ ap (λ (stamp : List ℕ). length stamp) same) c.write_stamp-stamp.ensures.most
    (c.write_stamp-stamp.ensures.written ∙ ap (λ (stamp : List ℕ). stamp ++ drop c.write_stamp-stamp.result c.args.into.now) same) c.requires.room refl c.put_packet.ensures.after c.put_packet.ensures.size
    (c.put_packet.ensures.taken part place stand)
