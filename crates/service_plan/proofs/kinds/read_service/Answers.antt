use Rattle.std.proofs.Common.{sym, ◌∙◌}
use Rattle.toml.specs.View.{table_view}
use Rattle.service_plan.specs.Services.{IsServiceOf}
use Rattle.service_plan.proofs.KeyLemmas.{same_text}
use Rattle.service_plan.proofs.ServiceLemmas.{service_fault_ule, service_fault_mpe, service_fault_fec, service_fault_gse, answers_for}
use Rattle.service_plan.proofs.kinds.read_service.Goals as goal

pub ule-requires : goal.ule-requires
ule-requires c =
    let kind = c.in_ok-kind.ensures.read in
    record { word = sym kind.1 ∙ same_text _ _ (sym c.if-eq.ensures); kind = kind.0 }

pub mpe-requires : goal.mpe-requires
mpe-requires c =
    let kind = c.in_ok-kind.ensures.read in
    record { word = sym kind.1 ∙ same_text _ _ (sym c.if-eq-2.ensures); kind = kind.0 }

pub fec-requires : goal.fec-requires
fec-requires c =
    let kind = c.in_ok-kind.ensures.read in
    record { word = sym kind.1 ∙ same_text _ _ (sym c.if-eq-3.ensures); kind = kind.0 }

pub gse-requires : goal.gse-requires
gse-requires c =
    let kind = c.in_ok-kind.ensures.read in
    record {
      not_ule = rw kind.1 at (sym c.if-eq.ensures);
      not_mpe = rw kind.1 at (sym c.if-eq-2.ensures);
      not_fec = rw kind.1 at (sym c.if-eq-3.ensures);
      kind = kind.0;
    }

pub returns-then-eq : goal.returns-then-eq
returns-then-eq c =
    let kind = c.in_ok-kind.ensures.read in
    let word = sym kind.1 ∙ same_text _ _ (sym c.if-eq.ensures) in
    record { read = answers_for _ _ _ (IsServiceOf (table_view c.args.table.now) c.args.place) (service_fault_ule _ kind.0 word) c.ule.ensures.read }

pub returns-then-eq-2 : goal.returns-then-eq-2
returns-then-eq-2 c =
    let kind = c.in_ok-kind.ensures.read in
    let word = sym kind.1 ∙ same_text _ _ (sym c.if-eq-2.ensures) in
    record { read = answers_for _ _ _ (IsServiceOf (table_view c.args.table.now) c.args.place) (service_fault_mpe _ kind.0 word) c.mpe.ensures.read }

pub returns-then-eq-3 : goal.returns-then-eq-3
returns-then-eq-3 c =
    let kind = c.in_ok-kind.ensures.read in
    let word = sym kind.1 ∙ same_text _ _ (sym c.if-eq-3.ensures) in
    record { read = answers_for _ _ _ (IsServiceOf (table_view c.args.table.now) c.args.place) (service_fault_fec _ kind.0 word) c.fec.ensures.read }

pub returns : goal.returns
returns c =
    let kind = c.in_ok-kind.ensures.read in
    let no_ule = rw kind.1 at (sym c.if-eq.ensures) in
    let no_mpe = rw kind.1 at (sym c.if-eq-2.ensures) in
    let no_fec = rw kind.1 at (sym c.if-eq-3.ensures) in
    record { read = answers_for _ _ _ (IsServiceOf (table_view c.args.table.now) c.args.place) (service_fault_gse _ kind.0 no_ule no_mpe no_fec) c.gse.ensures.read }
