use Rattle.std.proofs.Common.{[], List, ℕ, length, false, ap, subst, ◌∙◌, arith}
use Rattle.wire_spec.specs.Causes.{raised}
use Rattle.plan_spec.specs.Plan.{PlanFields}
use Rattle.plan_spec.specs.Given.{sample_plan}
use Rattle.reception_law.proofs.DeliveredPairs.{part_is}
use Rattle.demux_core.specs.Receiving.{HasReceived}
use Rattle.sample_command.specs.Taking.{kept_records}
use Rattle.sample_command.proofs.Taking.{none_taken, no_wrong_change}
use Rattle.sample_command.proofs.losses.receive_rest.Goals as goal

pub returns : goal.returns
returns c = record {
  received = λ number pieces each is drawn.
      let fresh = subst (λ (p : PlanFields). HasReceived false p [] c.in_ok-receiver.receiver) c.requires.plan c.in_ok-receiver.ensures.received in
      let begun = none_taken number c.args.draws.now c.in_ok-receiver.receiver c.new-delivered.result drawn fresh c.new-delivered.ensures in
      let taken = c.take_packets-dropped.ensures.taken number pieces each is begun in
      let told = c.end_reception.ensures.told (kept_records number pieces) taken.received taken.told in
      record {
        dropped = taken.dropped_is;
        lecture = told.lecture ∙ ap (λ (t : List (List ℕ)). raised 0 (length t)) (part_is sample_plan (kept_records number pieces) 0 no_wrong_change (omega arith));
        files = told.files ∙ ap (λ (t : List (List ℕ)). raised 0 (length t)) (part_is sample_plan (kept_records number pieces) 1 no_wrong_change (omega arith));
      };
}
