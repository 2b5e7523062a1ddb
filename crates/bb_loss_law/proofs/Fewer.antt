-- A receiver of fewer ISIs.
use Rattle.std.proofs.Common.{◌≡◌, ℕ, zero, suc, ◌<◌, true, false, not, Option, Some, None, List, [], ◌∷◌, length, map, inl, inr, refl, ap, sym, ◌∙◌, subst, arith}
use Rattle.std.specs.Prelude.{Contains, option_to_list, slice_index_or}
use Rattle.std.specs.List.{list_any, filter_map, cons_option}
use Rattle.channel_law.proofs.Member.{Member, contains_member, member_contains}
use Rattle.plan_spec.specs.Plan.{KindFields, ServiceFields, PlanFields, isi_of, isis}
use Rattle.plan_spec.specs.Changes.{no_service}
use Rattle.gse_spec.specs.Received.{is_frame_of, is_foreign}
use Rattle.gse_spec.specs.Channel.{FrameChannel, frame_by_place}
use Rattle.gse_spec.specs.Carried.{NoUndetectedError}
use Rattle.gse_law.proofs.Frames.{foreign_other}
use Rattle.bb_reception_spec.specs.Delivered.{service_at}
use Rattle.bb_loss_law.specs.Plans.{IsIsiOf, isis_of, IsSameFrameChannel, IsRecordedInFramesFor}

-- a frame that is foreign to each of some ISIs
none_of : (isis : List ℕ) (b : List ℕ) → ((isi : ℕ) → Contains isis isi → is_frame_of isi b ≡ false) → is_foreign isis b ≡ true
none_of isis b other = ap not (none isis (λ isi there. other isi (contains_member isis isi there)))
  where
    none : (xs : List ℕ) → ((isi : ℕ) → Member xs isi → is_frame_of isi b ≡ false) → list_any (λ isi. is_frame_of isi b) xs ≡ false
    none [] each = refl
    none (x ∷ xs) each = rw (each x (inl refl)) (none xs (λ isi there. each isi (inr there)))

pub fewer : (isis some : List ℕ) (sent recorded : List (List ℕ)) → FrameChannel isis sent recorded → ((isi : ℕ) → Contains some isi → Contains isis isi) → FrameChannel some sent recorded
fewer isis some sent recorded channel read = record {
  place = channel.place;
  within = channel.within;
  in_order = channel.in_order;
  kept = channel.kept;
  foreign = λ j low none.
      none_of some (frame_by_place recorded j) (λ isi there. foreign_other isis isi (frame_by_place recorded j) (read isi there) (channel.foreign j low none));
}

pub fewer_same : (isis some : List ℕ) (sent recorded : List (List ℕ)) (channel : FrameChannel isis sent recorded) (read : (isi : ℕ) → Contains some isi → Contains isis isi)
    → IsSameFrameChannel channel (fewer isis some sent recorded channel read)
unfolding fewer
fewer_same isis some sent recorded channel read = record { place = λ j. refl }

-- the ISI of a service is one of the plan's
abbrev kind_of : ServiceFields → KindFields
kind_of service = service.kind

isi_there : (services : List ServiceFields) (k isi : ℕ) → k < length services → isi_of (slice_index_or services k no_service).kind ≡ Some isi
    → Member (filter_map isi_of (map kind_of services)) isi
isi_there [] k isi within own = absurd (omega (arith, within))
isi_there (service ∷ services) zero isi within own =
    subst (λ (o : Option ℕ). Member (cons_option o (filter_map isi_of (map kind_of services))) isi) (sym own) (inl refl)
isi_there (service ∷ services) (suc k) isi within own = by_own (isi_of service.kind) (isi_there services k isi (omega (arith, within)) own)
  where
    by_own : (o : Option ℕ) → Member (filter_map isi_of (map kind_of services)) isi → Member (cons_option o (filter_map isi_of (map kind_of services))) isi
    by_own None there = there
    by_own (Some other) there = inr there

own_served : (plan : PlanFields) (k : ℕ) → k < length plan.services → (isi : ℕ) → Contains (isis_of plan k) isi → Contains (isis plan) isi
own_served plan k known isi there =
    contains_member (isis plan) isi (isi_there plan.services k isi known (by_own (isi_of (service_at plan k).kind) (member_contains (isis_of plan k) isi there)))
  where
    by_own : (o : Option ℕ) → Member (option_to_list o) isi → o ≡ Some isi
    by_own None none = absurd none
    by_own (Some other) (inl same) = ap (λ (i : ℕ). Some i) same
    by_own (Some other) (inr none) = absurd none

module _ (plan : PlanFields) (k : ℕ) (known : k < length plan.services) (sent recorded : List (List ℕ)) (channel : FrameChannel (isis plan) sent recorded)
    (detected : (isi : ℕ) → IsIsiOf plan k isi → NoUndetectedError channel isi) where
  own_channel : FrameChannel (isis_of plan k) sent recorded
  own_channel = fewer (isis plan) (isis_of plan k) sent recorded channel (own_served plan k known)

  same : IsSameFrameChannel channel own_channel
  unfolding own_channel
  same = fewer_same (isis plan) (isis_of plan k) sent recorded channel (own_served plan k known)

  pub recorded_for : IsRecordedInFramesFor plan k sent recorded
  recorded_for = record {
    channel = own_channel;
    detected = λ isi is. record {
      each = λ x there fragmented.
          let found = (detected isi is).each x there fragmented in
          (found.0, record { within = found.1.within; place = same.place x.place ∙ found.1.place; index = found.1.index; pdu = found.1.pdu });
    };
  }

  pub recorded_same : IsSameFrameChannel channel recorded_for.channel
  unfolding recorded_for
  recorded_same = same
