use Rattle.std.proofs.Common.{◌≡◌, ◌<◌, length, Some, refl, ap₂, ◌∙◌, sym, subst, arith}
use Rattle.std.specs.Prelude.{slice_get}
use Rattle.std.proofs.lemmas.Option.{slice_get_read}
use Rattle.bb_reception_spec.specs.Delivered.{service_at}
use Rattle.gse_reception.specs.Counting.{service_counts_of}
use Rattle.bb_demux.specs.Receiving.{BbReceiverState, HasReceived, IsOn}
use Rattle.bb_demux.proofs.receiver.BbReceiver.counts.Goals as goal

pub returns : goal.returns
returns c = record {
  read = λ plan frames has.
      let seen : HasReceived plan frames _ = subst (λ (v : BbReceiverState). HasReceived plan frames v) (sym c.self.view_is) has in
      let asked = subst (λ (v : BbReceiverState). c.args.service < length v.plan.services) (sym c.self.view_is) c.requires in
      let there : slice_get c.self.inside.services.items c.args.service ≡ Some c.index-receiver.result.now =
      slice_get_read c.self.inside.services.items (length c.self.inside.services.items) c.args.service c.index-receiver.result.now refl
      (omega (arith, asked, c.self.invariant.1)) c.index-receiver.ensures in
      let one : IsOn (service_at plan c.args.service) c.index-receiver.result.now frames = seen.all.each c.args.service c.index-receiver.result.now there in
      c.counts.ensures.read ∙ ap₂ service_counts_of one.taken.of_isi_are one.taken.of_pdus_are;
}
