use Rattle.std.proofs.Common.{refl}
use Rattle.toml.specs.View.{table_view}
use Rattle.service_plan.specs.Services.{IsServiceOf}
use Rattle.service_plan.proofs.KeyLemmas.{between_both}
use Rattle.service_plan.proofs.ServiceLemmas.{answers_as, ended_is_service, kind_of_ule, filter_of_ule}
use Rattle.service_plan.proofs.kinds.ule.Goals as goal

pub returns : goal.returns
returns c =
    let name = c.in_ok-name.ensures in
    let pid = c.in_ok-pid.ensures in
    record {
      read = answers_as c.finish.result _ _ _ (IsServiceOf (table_view c.args.table.now) c.args.place)
          (rw (c.in_ok-refuse_unknown.ensures.read.0, name.read.0, c.requires.kind, pid.read.0, c.in_ok-address.ensures.read.0, c.in_ok-packing.ensures.read.0, c.in_ok-items.ensures.read.0, c.in_ok-filter.ensures.read.0) refl)
          (λ draft ended. ended_is_service _ _ _ _ _ _ draft ended name.read.1 (kind_of_ule _ _ _ _ c.requires.word pid.read.1 c.in_ok-address.ensures.read.1 c.in_ok-packing.ensures.read.1) c.in_ok-items.ensures.read.1 (filter_of_ule _ _ c.requires.word c.in_ok-filter.ensures.read.1) name.valid (between_both _ _ _ pid.within.0 pid.within.1) refl refl)
          c.finish.ensures.read;
    }
