use Rattle.std.proofs.Common.{arith}
use Rattle.std.proofs.lemmas.List.{length-map}
use Rattle.plan.proofs.RouteLemmas.{plans_are_small}
use Rattle.plan.specs.Parts.{int_seen, service_seen}
use Rattle.plan.specs.PlanView.{plan_fields}
use Rattle.tables_command.proofs.Recorded.{tables_laid}
use Rattle.tables_command.proofs.recording.tables_of.Goals as goal

pub lay_pat-requires-clause-most : goal.lay_pat-requires-clause-most
lay_pat-requires-clause-most c =
    omega (arith, c.in-Ok.ensures.few, plans_are_small (plan_fields c.args.plan.now) c.args.plan.now.valid, length-map c.args.plan.now.services service_seen)

pub returns-in-Ok-lay_int : goal.returns-in-Ok-lay_int
returns-in-Ok-lay_int c =
    tables_laid (plan_fields c.args.plan.now) (int_seen c.args.int.now) c.in-Ok.pat c.new-packets.result.items c.lay_pat.new.packets.items c.lay_pmts.new.packets.items
    c.lay_int.new.packets.items c.new-packets.ensures.items c.in-Ok.ensures.pat c.in-Ok-lay_pat.ensures c.in-Ok-lay_pmts.ensures c.in-Ok-lay_int.ensures
