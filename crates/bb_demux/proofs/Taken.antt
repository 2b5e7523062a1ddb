-- One frame more of those that a receiver has taken.
use Rattle.std.proofs.Common.{◌≡◌, ℕ, List, [], ◌∷◌, ◌++◌, length, refl, ap, sym, ◌∙◌, subst, append_assoc}
use Rattle.std.proofs.lemmas.List.{append-nil, map-append}
use Rattle.wire_spec.specs.Causes.{Rose, raised}
use Rattle.ts_spec.specs.Recording.{Record}
use Rattle.plan_spec.specs.Plan.{PlanFields}
use Rattle.bb_reception_spec.specs.Delivered.{delivered_pairs, pairs_of_frame}
use Rattle.bb_reception_law.proofs.FrameByFrame.{pairs_more}
use Rattle.outlet_spec.specs.Pairs.{Delivers, DeliversFront}
use Rattle.outlet_spec.proofs.Pairs.{delivers_then, front_then}
use Rattle.bb_demux.specs.Receiving.{BbReceiverState, HasReceived}
use Rattle.bb_demux.specs.Taking.{frames_in, HasTakenFrames, HasStoppedInFrame, TookFrames, StoppedInFrame}

frames_more : (records : List Record) (r : Record) → frames_in (records ++ r ∷ []) ≡ frames_in records ++ r.bytes ∷ []
frames_more records r = map-append (λ (it : Record). it.bytes) records (r ∷ [])

module _ (start mid now : BbReceiverState) (old mids new : List (ℕ × List ℕ) → Type 0) (faults mid_faults now_faults : ℕ) (records : List Record) (r : Record)
    (took : TookFrames start mid old mids faults mid_faults records)
    (received : (plan : PlanFields) (frames : List (List ℕ)) → HasReceived plan frames mid → HasReceived plan (frames ++ r.bytes ∷ []) now) where
  pub took_frame : ((plan : PlanFields) (frames : List (List ℕ)) → HasReceived plan frames mid → Delivers mids new (pairs_of_frame plan (frames ++ r.bytes ∷ []) (length frames)))
      → now_faults ≡ mid_faults → TookFrames start now old new faults now_faults (records ++ r ∷ [])
  took_frame written kept = λ plan fresh.
      let so_far = took plan fresh in
      let frames = frames_in records in
      subst (λ (fs : List (List ℕ)). HasTakenFrames plan now old new faults now_faults fs) (sym (frames_more records r))
      (record {
        received = received plan frames so_far.received;
        delivers = subst (λ (pairs : List (ℕ × List ℕ)). Delivers old new pairs) (sym (pairs_more plan frames r.bytes))
            (delivers_then old mids new (delivered_pairs plan frames) (pairs_of_frame plan (frames ++ r.bytes ∷ []) (length frames)) so_far.delivers (written plan frames so_far.received));
        outlet_faults = kept ∙ so_far.outlet_faults;
      })

  pub stopped_in_frame : (refused : ℕ → List ℕ → Type 0)
      → ((plan : PlanFields) (frames : List (List ℕ)) → HasReceived plan frames mid → DeliversFront mids new refused (pairs_of_frame plan (frames ++ r.bytes ∷ []) (length frames)))
      → Rose mid_faults now_faults → StoppedInFrame start now old new refused faults now_faults (records ++ r ∷ [])
  stopped_in_frame refused failed rose = λ plan fresh.
      let so_far = took plan fresh in
      let frames = frames_in records in
      let stop = failed plan frames so_far.received in
      subst (λ (fs : List (List ℕ)). HasStoppedInFrame plan now old new refused faults now_faults fs) (sym (frames_more records r))
      (record {
        received = received plan frames so_far.received;
        stops = front_then old mids new refused (delivered_pairs plan frames) (pairs_of_frame plan (frames ++ r.bytes ∷ []) (length frames)) (delivered_pairs plan (frames ++ r.bytes ∷ []))
            (pairs_more plan frames r.bytes) so_far.delivers stop;
        before = frames;
        last = r.bytes;
        frames_are = refl;
        front = stop.front;
        late = refl;
        gives = stop.pairs_are;
        rose = rose ∙ ap (λ (n : ℕ). raised n 1) so_far.outlet_faults;
      })
