use Rattle.std.proofs.Common.{false, [], sym, subst}
use Rattle.reception_law.specs.Words.{closed_by}
use Rattle.outlet_spec.proofs.Going.{after_none, after_same}
use Rattle.demux_core.specs.Services.{ReadsKind, HasTakenBy}
use Rattle.demux_core.specs.declared.service.ByKind.{ByKind}
use Rattle.demux_core.proofs.KindWords.{plain_ule, plain_mpe, closed_plain, framed_of, own_pid, has_ended, closed_framed}
use Rattle.demux_core.proofs.service.ByKind.close.Goals as goal

pub returns-in-Fec-clause-closed : goal.returns-in-Fec-clause-closed
returns-in-Fec-clause-closed g c = record {
  ended = λ form it records h.
      let reads = subst (λ (b : ByKind). ReadsKind form b it.kind) c.in-Fec.is h.has.reads in
      let own = own_pid form c.in-Fec.reception.frames it.kind reads in
      let f = framed_of form it own.0 c.in-Fec.reception records reads (subst (λ (b : ByKind). HasTakenBy false form it b records) c.in-Fec.is h.has.received) own.1 in
      has_ended form it own.0 f.rows f.parity f.window f.kind_is _ records (c.close_after.ensures.ended _ f.rows own.0 records (record { few = h.few; received = f.taken }));
}

pub returns-in-Fec-clause-delivered : goal.returns-in-Fec-clause-delivered
returns-in-Fec-clause-delivered g c = λ form it records h.
    let reads = subst (λ (b : ByKind). ReadsKind form b it.kind) c.in-Fec.is h.has.reads in
    let own = own_pid form c.in-Fec.reception.frames it.kind reads in
    let f = framed_of form it own.0 c.in-Fec.reception records reads (subst (λ (b : ByKind). HasTakenBy false form it b records) c.in-Fec.is h.has.received) own.1 in
    after_same g.T.Outlet.StandsFor g.T.Outlet.Refused g.T.Outlet.services g.T.Outlet.faults c.args.service _ (closed_by form it records) _ _
    (sym (closed_framed form it own.0 f.rows f.parity f.window f.kind_is records))
    (c.close_after.ensures.delivered _ f.rows own.0 records (record { few = h.few; received = f.taken }))

pub returns-in-Ule-clause-delivered : goal.returns-in-Ule-clause-delivered
returns-in-Ule-clause-delivered g c = λ form it records h.
    after_same g.T.Outlet.StandsFor g.T.Outlet.Refused g.T.Outlet.services g.T.Outlet.faults c.args.service [] (closed_by form it records) _ _
    (sym (closed_plain form it records (plain_ule form it.kind (subst (λ (b : ByKind). ReadsKind form b it.kind) c.in-Ule.is h.has.reads))))
    (after_none g.T.Outlet.StandsFor g.T.Outlet.Refused g.T.Outlet.services g.T.Outlet.faults c.args.service (record { outlet = c.args.outlet.now; went = c.args.went }))

pub returns-in-Mpe-clause-delivered : goal.returns-in-Mpe-clause-delivered
returns-in-Mpe-clause-delivered g c = λ form it records h.
    after_same g.T.Outlet.StandsFor g.T.Outlet.Refused g.T.Outlet.services g.T.Outlet.faults c.args.service [] (closed_by form it records) _ _
    (sym (closed_plain form it records (plain_mpe form it.kind (subst (λ (b : ByKind). ReadsKind form b it.kind) c.in-Mpe.is h.has.reads))))
    (after_none g.T.Outlet.StandsFor g.T.Outlet.Refused g.T.Outlet.services g.T.Outlet.faults c.args.service (record { outlet = c.args.outlet.now; went = c.args.went }))
