use Rattle.std.proofs.Common.{◌≡◌, ap, sym, ◌∙◌, subst}
use Rattle.std.specs.Prelude.{option_map}
use Rattle.plan_spec.specs.Plan.{KindFields, ule, mpe, fec, pid_of}
use Rattle.plan.specs.Parts.{form_of, window_seen, kind_seen}
use Rattle.service_reception.specs.Services.{IsUle, IsMpe}
use Rattle.demux_core.specs.Opening.{has_right_rows}
use Rattle.demux_core.proofs.Opened.{are_rows, window_of}
use Rattle.demux_core.proofs.service.ServiceReceiver.open.Goals as goal

pub returns-in_ok-ule_reception-in-Ule : goal.returns-in_ok-ule_reception-in-Ule
returns-in_ok-ule_reception-in-Ule c = record {
  opened = λ it is.
      let kind : it.kind ≡ ule c.in-Ule.pid c.in-Ule.address c.in-Ule.packing = is ∙ ap kind_seen c.in-Ule.is in
      c.first_receiver.ensures.opened (form_of c.args.recording) it (ap pid_of kind) (c.in_ok-ule_reception-in-Ule.ensures.received (form_of c.args.recording) it (subst (λ (k : KindFields). IsUle k) (sym kind) tt));
}

pub returns-in_ok-mpe_reception-in-Mpe : goal.returns-in_ok-mpe_reception-in-Mpe
returns-in_ok-mpe_reception-in-Mpe c = record {
  opened = λ it is.
      let kind : it.kind ≡ mpe c.in-Mpe.pid = is ∙ ap kind_seen c.in-Mpe.is in
      c.first_receiver-in-Mpe.ensures.opened (form_of c.args.recording) it (ap pid_of kind) (c.in_ok-mpe_reception-in-Mpe.ensures.received (form_of c.args.recording) it (subst (λ (k : KindFields). IsMpe k) (sym kind) tt));
}

pub fec_reception-requires : goal.fec_reception-requires
fec_reception-requires c = record {
  rows = are_rows c.in-Fec.rows (sym (ap (λ k. has_right_rows (kind_seen k)) c.in-Fec.is) ∙ c.requires.rows);
}

pub returns-in_ok-reception-in-Fec : goal.returns-in_ok-reception-in-Fec
returns-in_ok-reception-in-Fec c = record {
  opened = λ it is.
      let kind : it.kind ≡ fec c.in-Fec.pid c.in-Fec.rows c.in-Fec.parity (option_map window_seen c.in-Fec.window) = is ∙ ap kind_seen c.in-Fec.is in
      let sliced = window_of c.in-Fec.window ∙ sym c.is_some.ensures in
      c.first_receiver-in-Fec.ensures.opened (form_of c.args.recording) it (ap pid_of kind)
      (c.in_ok-reception-in-Fec.ensures.received it c.in-Fec.pid c.in-Fec.parity (option_map window_seen c.in-Fec.window) kind sliced);
}
