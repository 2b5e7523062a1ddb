use Rattle.plan_spec.specs.Plan.{ServiceFields}
use Rattle.plan_law.proofs.Kept.{kept, name_stays, length-services_in, sliced_kept, isis_kept, carrier_kept}
use Rattle.plan_law.proofs.a_version_moves_pids_and_rules_alone.Goals as goal

pub returns : goal.returns
returns c = record {
  count = length-services_in;
  names = λ plan version. kept (λ (s : ServiceFields). s.name) name_stays plan version;
  windows = sliced_kept;
  isis = isis_kept;
  carrier = carrier_kept;
}
