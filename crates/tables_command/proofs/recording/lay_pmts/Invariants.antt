use Rattle.std.proofs.Common.{◌≡◌, ◌++◌, drop, flat_map}
use Rattle.wire_spec.specs.Lists.{joined}
use Rattle.plan.specs.PlanView.{plan_fields}
use Rattle.psi_spec.specs.Tables.{laid_pmt}
use Rattle.tables_command.proofs.recording.lay_pmts.Given as goal

abbrev pub invariant-loop-place : goal.invariant-loop-place
invariant-loop-place l =
    l.packets.items ++ joined (flat_map (laid_pmt (plan_fields l.plan)) (drop l.place l.pat.programs))
    ≡ l.initial.packets.items ++ joined (flat_map (laid_pmt (plan_fields l.plan)) l.pat.programs)
