use Rattle.std.proofs.Common.{ℕ, List, sym, subst, false, OnOk, OnErr}
use Rattle.service_reception.specs.Reception.{packet_record}
use Rattle.outlet_spec.specs.Pairs.{pairs_of, Delivers, DeliversFront}
use Rattle.demux_core.specs.Services.{ReadsKind, HasTakenBy}
use Rattle.demux_core.specs.declared.service.ByKind.{ByKind}
use Rattle.demux_core.proofs.KindWords.{plain_ule, plain_mpe, added_plain, framed_of, has_taken, added_framed}
use Rattle.demux_core.proofs.service.ServiceReceiver.take.Goals as goal

pub returns-in-Ule-clause-delivered : goal.returns-in-Ule-clause-delivered
returns-in-Ule-clause-delivered g c = λ form it records h.
    let reads = subst (λ (b : ByKind). ReadsKind form b it.kind) c.in-Ule.is h.has.reads in
    subst (λ (l : List (List ℕ)). OnOk c.take.result (Delivers (g.T.Outlet.StandsFor c.args.outlet.now) (g.T.Outlet.StandsFor c.take.new.outlet) (pairs_of c.args.service l)))
    (sym (added_plain form it records (packet_record c.args.moment c.args.bytes.now) (plain_ule form it.kind reads)))
    (c.take.ensures.delivered it records (record {
      served = record { kind = reads; filter_is = h.filter_is };
      of_pid = h.of_pid;
      few = h.few;
      received = subst (λ (b : ByKind). HasTakenBy false form it b records) c.in-Ule.is h.has.received;
    }))

pub returns-in-Ule-clause-failed : goal.returns-in-Ule-clause-failed
returns-in-Ule-clause-failed g c = λ form it records h.
    let reads = subst (λ (b : ByKind). ReadsKind form b it.kind) c.in-Ule.is h.has.reads in
    subst (λ (l : List (List ℕ)). OnErr c.take.result (DeliversFront (g.T.Outlet.StandsFor c.args.outlet.now) (g.T.Outlet.StandsFor c.take.new.outlet) (g.T.Outlet.Refused c.take.new.outlet) (pairs_of c.args.service l)))
    (sym (added_plain form it records (packet_record c.args.moment c.args.bytes.now) (plain_ule form it.kind reads)))
    (c.take.ensures.failed it records (record {
      served = record { kind = reads; filter_is = h.filter_is };
      of_pid = h.of_pid;
      few = h.few;
      received = subst (λ (b : ByKind). HasTakenBy false form it b records) c.in-Ule.is h.has.received;
    }))

pub returns-in-Mpe-clause-delivered : goal.returns-in-Mpe-clause-delivered
returns-in-Mpe-clause-delivered g c = λ form it records h.
    let reads = subst (λ (b : ByKind). ReadsKind form b it.kind) c.in-Mpe.is h.has.reads in
    subst (λ (l : List (List ℕ)). OnOk c.take-in-Mpe.result (Delivers (g.T.Outlet.StandsFor c.args.outlet.now) (g.T.Outlet.StandsFor c.take-in-Mpe.new.outlet) (pairs_of c.args.service l)))
    (sym (added_plain form it records (packet_record c.args.moment c.args.bytes.now) (plain_mpe form it.kind reads)))
    (c.take-in-Mpe.ensures.delivered it records (record {
      served = record { kind = reads; filter_is = h.filter_is };
      of_pid = h.of_pid;
      few = h.few;
      received = subst (λ (b : ByKind). HasTakenBy false form it b records) c.in-Mpe.is h.has.received;
    }))

pub returns-in-Mpe-clause-failed : goal.returns-in-Mpe-clause-failed
returns-in-Mpe-clause-failed g c = λ form it records h.
    let reads = subst (λ (b : ByKind). ReadsKind form b it.kind) c.in-Mpe.is h.has.reads in
    subst (λ (l : List (List ℕ)). OnErr c.take-in-Mpe.result (DeliversFront (g.T.Outlet.StandsFor c.args.outlet.now) (g.T.Outlet.StandsFor c.take-in-Mpe.new.outlet) (g.T.Outlet.Refused c.take-in-Mpe.new.outlet) (pairs_of c.args.service l)))
    (sym (added_plain form it records (packet_record c.args.moment c.args.bytes.now) (plain_mpe form it.kind reads)))
    (c.take-in-Mpe.ensures.failed it records (record {
      served = record { kind = reads; filter_is = h.filter_is };
      of_pid = h.of_pid;
      few = h.few;
      received = subst (λ (b : ByKind). HasTakenBy false form it b records) c.in-Mpe.is h.has.received;
    }))

pub returns-in-Fec-clause-received : goal.returns-in-Fec-clause-received
returns-in-Fec-clause-received g c = λ form it records h.
    let f = framed_of form it c.args.packet.now.pid c.in-Fec.reception records (subst (λ (b : ByKind). ReadsKind form b it.kind) c.in-Fec.is h.has.reads)
    (subst (λ (b : ByKind). HasTakenBy false form it b records) c.in-Fec.is h.has.received) h.of_pid in
    has_taken form it c.args.packet.now.pid f.rows f.parity f.window f.kind_is _ _ (c.take-in-Fec.ensures.received _ f.rows records (record { few = h.few; received = f.taken }))

pub returns-in-Fec-clause-delivered : goal.returns-in-Fec-clause-delivered
returns-in-Fec-clause-delivered g c = λ form it records h.
    let f = framed_of form it c.args.packet.now.pid c.in-Fec.reception records (subst (λ (b : ByKind). ReadsKind form b it.kind) c.in-Fec.is h.has.reads)
    (subst (λ (b : ByKind). HasTakenBy false form it b records) c.in-Fec.is h.has.received) h.of_pid in
    subst (λ (l : List (List ℕ)). OnOk c.take-in-Fec.result (Delivers (g.T.Outlet.StandsFor c.args.outlet.now) (g.T.Outlet.StandsFor c.take-in-Fec.new.outlet) (pairs_of c.args.service l)))
    (sym (added_framed form it c.args.packet.now.pid f.rows f.parity f.window f.kind_is records (packet_record c.args.moment c.args.bytes.now)))
    (c.take-in-Fec.ensures.delivered _ f.rows records (record { few = h.few; received = f.taken }))

pub returns-in-Fec-clause-failed : goal.returns-in-Fec-clause-failed
returns-in-Fec-clause-failed g c = λ form it records h.
    let f = framed_of form it c.args.packet.now.pid c.in-Fec.reception records (subst (λ (b : ByKind). ReadsKind form b it.kind) c.in-Fec.is h.has.reads)
    (subst (λ (b : ByKind). HasTakenBy false form it b records) c.in-Fec.is h.has.received) h.of_pid in
    subst (λ (l : List (List ℕ)). OnErr c.take-in-Fec.result (DeliversFront (g.T.Outlet.StandsFor c.args.outlet.now) (g.T.Outlet.StandsFor c.take-in-Fec.new.outlet) (g.T.Outlet.Refused c.take-in-Fec.new.outlet) (pairs_of c.args.service l)))
    (sym (added_framed form it c.args.packet.now.pid f.rows f.parity f.window f.kind_is records (packet_record c.args.moment c.args.bytes.now)))
    (c.take-in-Fec.ensures.failed _ f.rows records (record { few = h.few; received = f.taken }))
