use Rattle.std.proofs.Common.{◌∙◌, List, length, [], ◌∷◌, ap, arith}
use Rattle.std.proofs.lemmas.List.{length-map, length-append}
use Rattle.time_slice.specs.Views.{windows_in}
use Rattle.plan.specs.Parts.{service_seen}
use Rattle.plan.specs.PlanView.{plan_fields}
use Rattle.stream_law.proofs.Plans.{few_services}
use Rattle.ts_mux.specs.Services.{BeginsIn}
use Rattle.ts_mux.specs.declared.service_packets.ServicePackets.{ServicePackets}
use Rattle.ts_mux.proofs.Items.{each_pushed}
use Rattle.ts_mux.proofs.Made.{made_begin, made_few}
use Rattle.ts_mux.proofs.services.Services.new.Goals as goal

pub loop-k-preserved : goal.loop-k-preserved
loop-k-preserved c = record {
  size = ap (λ (l : List ServicePackets). length l) c.in_ok-push.ensures.items ∙ length-append c.loop-k.services.items (c.in_ok-packets.packets ∷ []) ∙ omega (arith, c.loop-k.invariant.size);
  each = λ k it there.
      each_pushed (λ j (s : ServicePackets). BeginsIn (plan_fields c.args.plan.now) 0 j c.args.lists.now 0 0 s) c.loop-k.services.items c.push.new.self.items c.in_ok-packets.packets c.loop-k.k c.loop-k.invariant.size
      c.in_ok-push.ensures.items (λ j s is. c.loop-k.invariant.each j s is) c.in_ok-packets.ensures.begun k it there;
}

pub returns-clause-begun : goal.returns-clause-begun
returns-clause-begun c = λ part has.
    made_begin (plan_fields c.args.plan.now) 0 c.args.lists.now (λ k. 0) 0 c.loop-k.services.items
    (omega (arith, c.loop-k.invariant.size, c.loop-k-test.false, c.loop-k.auto, c.len-k-end.ensures.read, length-map c.args.plan.now.services service_seen)) c.loop-k.invariant.each part has
    (windows_in c.in_ok-windows.windows.items) c.in_ok-windows.ensures.read

pub returns-clause-most : goal.returns-clause-most
returns-clause-most c =
    made_few (plan_fields c.args.plan.now) 0 c.args.lists.now (λ k. 0) 0 c.loop-k.services.items
    (omega (arith, c.loop-k.invariant.size, c.loop-k-test.false, c.loop-k.auto, c.len-k-end.ensures.read, length-map c.args.plan.now.services service_seen)) c.loop-k.invariant.each
    (few_services (plan_fields c.args.plan.now) c.args.plan.now.valid)
