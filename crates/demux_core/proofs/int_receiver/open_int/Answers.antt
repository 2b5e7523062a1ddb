use Rattle.std.proofs.Common.{◌≡◌, ◌∙◌, [], Option, Some, refl, ap, sym, subst}
use Rattle.std.specs.Prelude.{option_map}
use Rattle.plan_spec.specs.Plan.{IntFields}
use Rattle.plan.specs.Parts.{int_seen}
use Rattle.demux_core.specs.Services.{HasReceivedBy}
use Rattle.demux_core.proofs.int_receiver.open_int.Goals as goal

pub returns : goal.returns
returns c = record {
  received = λ plan table_is changes.
      let int : IntFields = int_seen c.in-Some.int in
      let is : plan.table ≡ Some int = table_is ∙ ap (option_map int_seen) c.in-Some.is in
      subst (λ (t : Option IntFields). HasReceivedBy plan t (Some (record { pid = c.in-Some.int.pid; reception = c.over-reception.result })) []) (sym is)
      (refl, c.over-reception.ensures.received plan int c.in-Some.int.pid is refl changes);
  last = λ plan changes. c.over-reception.ensures.last ∙ sym changes;
}
