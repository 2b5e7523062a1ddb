use Rattle.std.proofs.Common.{◌+◌, List, map, take, sym, subst}
use Rattle.plan.specs.Parts.{service_seen}
use Rattle.bb_demux.specs.Finding.{AreFresh}
use Rattle.bb_demux.specs.declared.services.IsiReceiver.{IsiReceiver}
use Rattle.bb_demux.proofs.Opened.{gse_at, fresh_next}
use Rattle.bb_demux.proofs.services.open_receivers.Goals as goal

pub isi_in-requires : goal.isi_in-requires
isi_in-requires c = gse_at c.args.list.now c.loop-at.at c.at.result.now c.requires.gse c.at.ensures.read

pub loop-at-preserved : goal.loop-at-preserved
loop-at-preserved c =
    subst (λ (t : List IsiReceiver). AreFresh (map service_seen (take (c.loop-at.at + 1) c.args.list.now)) t) (sym c.in_ok-push.ensures.items)
    (fresh_next c.args.list.now c.loop-at.receivers.items c.loop-at.at c.at.result.now c.in_ok-receiver.receiver c.at.ensures.read c.loop-at.invariant
    (c.in_ok-receiver.ensures.opened (service_seen c.at.result.now) c.isi_in.ensures))
