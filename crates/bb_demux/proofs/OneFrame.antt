-- One frame more: it is one of a service, or of no one.
use Rattle.std.proofs.Common.{◌≡◌, ℕ, ◌+◌, ◌^◌, ◌<◌, Bool, true, false, not, ◌&&◌, eqb, Option, None, Some, List, [], ◌∷◌, ◌++◌, length, set, get_or, refl, ap, ap₂, sym, ◌∙◌, subst, arith, eq-eqb}
use Rattle.std.specs.Prelude.{slice_get, slice_index_or}
use Rattle.std.specs.List.{position}
use Rattle.std.proofs.lemmas.Bool.{eqb-true}
use Rattle.std.proofs.lemmas.List.{append-nil, map-append, length-set}
use Rattle.std.proofs.lemmas.List.Quantifiers.{position-Some}
use Rattle.std.proofs.lemmas.Option.{get_or_from_slice_get, slice_get_read}
use Rattle.plan_spec.specs.Plan.{ServiceFields, PlanFields, isi_of, isis}
use Rattle.plan_spec.specs.Checks.{has_pair}
use Rattle.plan_spec.specs.Changes.{no_service}
use Rattle.gse_spec.specs.Frame.{FrameFields, is_frame, frame_fields}
use Rattle.gse_spec.specs.Received.{is_frame_of, is_foreign}
use Rattle.bb_frame.specs.declared.frame.Frame.{Frame}
use Rattle.bb_reception_spec.specs.Delivered.{service_at, added_by, pairs_of_frame}
use Rattle.bb_reception_law.proofs.Services.{apart, of_one, none_of, any_of}
use Rattle.bb_reception_law.proofs.FrameByFrame.{one_given, none_given}
use Rattle.outlet_spec.specs.Pairs.{pairs_of}
use Rattle.gse_reception.specs.Reception.{HasTaken, IsReceiving, IsRead}
use Rattle.gse_reception.proofs.OtherFrames.{taken_stays}
use Rattle.bb_demux.specs.Receiving.{IsOn, AreOn}
use Rattle.bb_demux.specs.Finding.{is_on_isi}
use Rattle.bb_demux.specs.declared.services.IsiReceiver.{IsiReceiver}
use Rattle.bb_demux.proofs.Places.{some_at, within_of, set_same, set_other, none_passes}

true_false : true ≡ false → ⊥
true_false e = cc

turned : (a b : ℕ) → eqb a b ≡ false → eqb b a ≡ false
turned a b differs = by_test (eqb b a) refl
  where
    by_test : (t : Bool) → eqb b a ≡ t → t ≡ false
    by_test false is = refl
    by_test true is = sym (eq-eqb a b (sym (eqb-true b a is))) ∙ differs

-- A frame that leaves the receivers as they are: it is of none of their ISIs.
module _ (plan : PlanFields) (receivers : List IsiReceiver) (frames : List (List ℕ)) (b : List ℕ) (on : AreOn plan receivers frames) where
  abbrev after : List (List ℕ)
  after = frames ++ b ∷ []

  stays : (k : ℕ) (receiver : IsiReceiver) → slice_get receivers k ≡ Some receiver → is_frame_of receiver.isi b ≡ false → IsOn (service_at plan k) receiver after
  stays k receiver there off =
      let one : IsOn (service_at plan k) receiver frames = on.each k receiver there in
      record { isi_is = one.isi_is; taken = taken_stays receiver.isi frames b off (service_at plan k) receiver.reception one.isi_is one.taken }

  module _ (off : (k : ℕ) (receiver : IsiReceiver) → slice_get receivers k ≡ Some receiver → is_frame_of receiver.isi b ≡ false) where
    pub foreign : is_foreign (isis plan) b ≡ true
    foreign = ap not (none_of (λ n. is_frame_of n b) plan.services each)
      where
        each : (k isi : ℕ) → k < length plan.services → isi_of (slice_index_or plan.services k no_service).kind ≡ Some isi → is_frame_of isi b ≡ false
        each k isi within is =
            let found = some_at receivers k (omega (arith, within, on.count_is)) in
            let own : isi_of (service_at plan k).kind ≡ Some found.0.isi = (on.each k found.0 found.1).isi_is in
            let same : found.0.isi ≡ isi = cc (own, is) in
            subst (λ (n : ℕ). is_frame_of n b ≡ false) same (off k found.0 found.1)

    pub none_on : AreOn plan receivers after
    none_on = record { count_is = on.count_is; each = λ k receiver there. stays k receiver there (off k receiver there) }

    pub none_pairs : pairs_of_frame plan after (length frames) ≡ []
    none_pairs = none_given plan frames b foreign

  -- refused
  pub refused_off : is_frame b ≡ false → (k : ℕ) (receiver : IsiReceiver) → slice_get receivers k ≡ Some receiver → is_frame_of receiver.isi b ≡ false
  refused_off refused k receiver there = ap (λ (t : Bool). t && eqb (frame_fields b).isi receiver.isi) refused

  -- A readable frame.
  module _ (frame : Frame) (read : IsRead frame b) where
    abbrev found : Option ℕ
    found = position (is_on_isi frame.isi) receivers

    of_isi : (isi : ℕ) → is_frame_of isi b ≡ eqb frame.isi isi
    of_isi isi = ap₂ (λ (t : Bool) (n : ℕ). t && eqb n isi) read.readable (ap (λ (f : FrameFields). f.isi) read.fields_are)

    -- of no service
    pub other_off : found ≡ None → (k : ℕ) (receiver : IsiReceiver) → slice_get receivers k ≡ Some receiver → is_frame_of receiver.isi b ≡ false
    other_off none k receiver there = of_isi receiver.isi ∙ turned receiver.isi frame.isi (none_passes (is_on_isi frame.isi) receivers k receiver none there)

    -- of a service
    module _ (k : ℕ) (old : IsiReceiver) (is_found : found ≡ Some k) (is_there : old ≡ get_or receivers k old) where
      there : slice_get receivers k ≡ Some old
      there = slice_get_read receivers (length receivers) k old refl (position-Some (is_on_isi frame.isi) receivers k old is_found).0 is_there

      at : old.isi ≡ frame.isi
      at = ap (λ (t : IsiReceiver). t.isi) is_there ∙ eqb-true (get_or receivers k old).isi frame.isi (position-Some (is_on_isi frame.isi) receivers k old is_found).1

      pub known : k < length plan.services
      known = omega (arith, within_of receivers k old there, on.count_is)

      mine : isi_of (service_at plan k).kind ≡ Some frame.isi
      mine = (on.each k old there).isi_is ∙ ap (λ (n : ℕ). Some n) at

      own : is_frame_of frame.isi b ≡ true
      own = of_isi frame.isi ∙ eq-eqb frame.isi frame.isi refl

      pub not_foreign : is_foreign (isis plan) b ≡ false
      not_foreign = ap not (any_of (λ n. is_frame_of n b) plan.services k frame.isi known mine own)

      pub to_receive : (service : ServiceFields) → slice_get plan.services k ≡ Some service → length frames < 2 ^ 32
          → IsReceiving service.filter frame.isi (service_at plan k) (get_or receivers k old).reception frames
      to_receive service is few = record {
        filter_is = ap (λ (s : ServiceFields). s.filter) (get_or_from_slice_get plan.services k service no_service is);
        of_isi = mine;
        few = few;
        received = subst (λ (t : IsiReceiver). HasTaken (service_at plan k) t.reception frames) is_there (on.each k old there).taken;
      }

      module _ (differ : has_pair (λ a b. eqb a b) (isis plan) ≡ false) where
        pub one_pairs : pairs_of_frame plan after (length frames) ≡ pairs_of k (added_by (service_at plan k) frames b)
        one_pairs = one_given plan k frame.isi frames b differ known mine own

        pub one_on : (new : IsiReceiver) → new.isi ≡ old.isi → HasTaken (service_at plan k) new.reception after → AreOn plan (set receivers k new) after
        one_on new same_isi took = record {
          count_is = length-set receivers k new ∙ on.count_is;
          each = λ j receiver at_j. by_place j receiver at_j (eqb j k) refl;
        }
          where
            by_place : (j : ℕ) (receiver : IsiReceiver) → slice_get (set receivers k new) j ≡ Some receiver → (t : Bool) → eqb j k ≡ t → IsOn (service_at plan j) receiver after
            by_place j receiver at_j true e =
                let place : j ≡ k = eqb-true j k e in
                let is : new ≡ receiver = set_same receivers k new receiver (ap (λ (n : ℕ). slice_get (set receivers k new) n) (sym place) ∙ at_j) in
                subst (λ (n : ℕ). IsOn (service_at plan n) receiver after) (sym place)
                (subst (λ (t : IsiReceiver). IsOn (service_at plan k) t after) is
                (record { isi_is = mine ∙ ap (λ (n : ℕ). Some n) (sym (same_isi ∙ at)); taken = took }))
            by_place j receiver at_j false e =
                let other : j ≡ k → ⊥ = λ same. true_false (sym (eq-eqb j k same) ∙ e) in
                let before : slice_get receivers j ≡ Some receiver = set_other receivers k j new receiver other at_j in
                let within : j < length plan.services = omega (arith, within_of receivers j receiver before, on.count_is) in
                stays j receiver before
                (of_one frame.isi receiver.isi b own (apart plan.services j k receiver.isi frame.isi differ other within known (on.each j receiver before).isi_is mine))
