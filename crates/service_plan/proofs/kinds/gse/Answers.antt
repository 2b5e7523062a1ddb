use Rattle.std.proofs.Common.{◌≡◌, refl, ◌∙◌}
use Rattle.toml.specs.View.{table_view}
use Rattle.settings_spec.specs.Keys.{keys_fault, table_fault}
use Rattle.settings_spec.specs.Settings.{gse_keys, last_keys}
use Rattle.service_plan.proofs.KeyLemmas.{between_both}
use Rattle.service_plan.proofs.ServiceLemmas.{gse_is_service, kind_of_gse, filter_of_gse}
use Rattle.service_plan.proofs.kinds.gse.Goals as goal

pub returns : goal.returns
returns c =
    let name = c.in_ok-name.ensures in
    let isi = c.in_ok-isi.ensures in
    let same : table_fault gse_keys (table_view c.args.table.now) ≡ keys_fault last_keys (table_view c.args.table.now) =
    rw (c.in_ok-refuse_unknown.ensures.read.0, name.read.0, c.requires.kind, isi.read.0, c.in_ok-address.ensures.read.0, c.in_ok-items.ensures.read.0, c.in_ok-urgent_items.ensures.read.0, c.in_ok-filter.ensures.read.0) refl in
    record {
      read = (
        same ∙ c.in_ok-draft.ensures.read.0,
        gse_is_service _ _ _ _ _ _ _ c.in_ok-draft.ensures.read.1 name.read.1
            (kind_of_gse _ _ _ c.requires.not_ule c.requires.not_mpe c.requires.not_fec isi.read.1 c.in_ok-address.ensures.read.1)
            c.in_ok-items.ensures.read.1 (filter_of_gse _ _ c.requires.not_fec c.in_ok-filter.ensures.read.1) name.valid
            (between_both _ _ _ isi.within.0 isi.within.1) refl _ _
            (record { all = rw c.in_ok-urgent_items.ensures.read.1 at c.in_ok-urgent.ensures.spelled; only = rw c.in_ok-urgent_items.ensures.read.1 at c.in_ok-urgent.ensures.only })
            refl,
      );
    }
