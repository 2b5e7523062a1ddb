use Rattle.std.proofs.Common.{◌≡◌, None, refl, subst, codes, arith}
use Rattle.toml.specs.Data.{Members}
use Rattle.toml.specs.View.{table_view}
use Rattle.settings_spec.specs.Keys.{KeyRule, key_fault, table_at, tables_at}
use Rattle.settings_spec.specs.Settings.{service_key, int_fault, services_fault, changes_fault}
use Rattle.service_plan.proofs.KeyLemmas.{first_later}
use Rattle.service_plan.proofs.ServicesLemmas.{tables_fit}
use Rattle.service_plan.proofs.PlanLemmas.{service_key_is, few_services, draft_is}
use Rattle.service_plan.proofs.settings_draft.read_tables.Goals as goal

pub read_changes-requires : goal.read_changes-requires
read_changes-requires c =
    let items = c.in_ok-items.ensures in
    let services = c.in_ok-read.ensures.read in
    let few = tables_fit _ (few_services _ _ _ c.most.ensures items.within.1) in
    rw c.items.ensures.read (omega (arith, services.1.count, few))

pub returns : goal.returns
returns c =
    let values = c.in_ok-values.ensures.read in
    let m : Members = table_view c.args.top.now in
    let key = service_key_is m _ _ c.most.ensures values.1.baseband in
    let items = c.in_ok-items.ensures in
    let listed : key_fault (service_key m) m ≡ None = subst (λ (r : KeyRule). key_fault r m ≡ None) key items.read.0 in
    let table = c.in_ok-table.ensures.read in
    let services = c.in_ok-read.ensures.read in
    let int_right : int_fault (table_at (codes "int") m) ≡ None = rw c.in_ok-int.ensures.read.1 at table.0 in
    let services_right : services_fault (tables_at (codes "service") m) ≡ None = rw items.read.1 at services.0 in
    let change_list = c.in_ok-change_list.ensures.read in
    let changed = rw c.items.ensures.read at c.in_ok-changed.ensures.read in
    let changes_right : changes_fault (tables_at (codes "change") m) ≡ None = rw change_list.1 at changed.0 in
    let few = tables_fit _ (few_services _ _ _ c.most.ensures items.within.1) in
    record {
      read = (
        first_later _ _ _ c.in_ok-refuse_unknown.ensures.read.0 (first_later _ _ _ values.0 (first_later _ _ _ c.in_ok-int.ensures.read.0
            (first_later _ _ _ listed (first_later _ _ _ int_right (first_later _ _ _ services_right (first_later _ _ _ change_list.0 changes_right)))))),
        draft_is m _ _ _ _ _ _ values.1 c.frame_size.ensures (rw c.in_ok-int.ensures.read.1 at table.1.0) (rw items.read.1 at services.1) (rw change_list.1 at changed.1)
            (omega (arith, services.1.count, few)) refl,
      );
    }
