-- The units of a service with frames.
use Rattle.std.proofs.Common.{◌≡◌, ℕ, suc, ◌≤◌, true, false, List, [], ◌∷◌, length, refl, sym, ap, ◌∙◌, subst, Some, None}
use Rattle.std.proofs.lemmas.List.Elements.{All-head, All-tail}
use Rattle.section_spec.specs.Mpe.{IsRows}
use Rattle.plan_spec.specs.Plan.{KindFields, ule, mpe, fec, gse, sliced_of}
use Rattle.ts_mux.specs.OnPids.{is_on_pid}
use Rattle.plan.specs.Parts.{kind_seen}
use Rattle.plan.specs.declared.service.Kind.{Kind}
use Rattle.plan.specs.declared.service.Kind.TheVariants.{Fec}
use Rattle.fec_sent_law.specs.Frames.{AreSendable, IsSendable}
use Rattle.fec_units.specs.Ends.{AreFrameEnds}
use Rattle.fec_units.specs.Bursts.{AreBurstEnds, parts_from}
use Rattle.fec_units.specs.declared.frame_units.FrameUnits.{FrameUnits}
use Rattle.stream_law.specs.Words.{is_single}
use Rattle.stream_law.proofs.Framed.{AreShort}
use Rattle.stream_spec.specs.Units.{datagrams_by_frame, frame_count}
use Rattle.ts_mux.specs.Units.{AreFor}
use Rattle.ts_mux.specs.ServiceUnits.{AreOfFrames, AreOfBursts, HasFrames}

-- the datagrams of such a service
pub are_sendable : (kind : KindFields) (ds : List (List ℕ)) → is_on_pid kind ≡ true → is_single kind ≡ false → AreFor kind ds → AreSendable ds
are_sendable (ule pid address packing) ds sent framed are = absurd (cc)
are_sendable (mpe pid) ds sent framed are = absurd (cc)
are_sendable (fec pid rows parity window) ds sent framed are = λ n d less. record { is = (are n d less).is; size = (are n d less).short }
are_sendable (gse isi address) ds sent framed are = absurd (cc)

pub short_all : (ds : List (List ℕ)) → AreSendable ds → AreShort ds
short_all [] are = tt
short_all (d ∷ ds) are = ((All-head IsSendable d ds are).size, short_all ds (All-tail IsSendable d ds are))

-- of a service without a window
module _ (number : ℕ) (ds : List (List ℕ)) (kind : Kind) (own rows parity : ℕ) (is : kind ≡ Fec own rows parity None) (sent : is_on_pid (kind_seen kind) ≡ true) where
  pub has_rows : HasFrames (kind_seen kind) → IsRows rows × (1 ≤ parity) × (parity ≤ 64)
  has_rows has = subst (λ (k : Kind). HasFrames (kind_seen k)) is has

  pub frame_datagrams : AreFor (kind_seen kind) ds → AreSendable ds
  frame_datagrams are = are_sendable (kind_seen kind) ds sent (ap (λ (k : Kind). is_single (kind_seen k)) is) are

  pub count_is : frame_count (kind_seen kind) ds ≡ length (datagrams_by_frame rows ds)
  count_is = ap (λ (k : Kind). frame_count (kind_seen k) ds) is

  pub frames_made : (units : FrameUnits) → AreFrameEnds rows parity ds units.ends.items → AreOfFrames (kind_seen kind) number ds units number
  frames_made units ends = record { pid = own; rows = rows; parity = parity; kind_is = ap kind_seen is; first_is = refl; ends_are = ends }

-- and of one with it
module _ (ds : List (List ℕ)) (kind : Kind) (own rows parity : ℕ) (window : ℕ × ℕ) (is : kind ≡ Fec own rows parity (Some window)) (sent : is_on_pid (kind_seen kind) ≡ true) where
  pub has_burst_rows : HasFrames (kind_seen kind) → IsRows rows × (1 ≤ parity) × (parity ≤ 64)
  has_burst_rows has = subst (λ (k : Kind). HasFrames (kind_seen k)) is has

  pub burst_datagrams : AreFor (kind_seen kind) ds → AreSendable ds
  burst_datagrams are = are_sendable (kind_seen kind) ds sent (ap (λ (k : Kind). is_single (kind_seen k)) is) are

  pub bursts_made : (ends : List ℕ) → AreBurstEnds rows parity window.1 ds ends → AreOfBursts (kind_seen kind) ds ends
  bursts_made ends are = record {
    fields = record { rows = rows; parity = parity; start = window.0; length = window.1 };
    sliced = ap (λ (k : Kind). sliced_of (kind_seen k)) is;
    ends_are = are;
  }

  length-parts : (ends : List ℕ) (from : ℕ) → length (parts_from from ends ds) ≡ length ends
  length-parts [] from = refl
  length-parts (end ∷ ends) from = ap suc (length-parts ends end)

  pub burst_count : (ends : List ℕ) → AreBurstEnds rows parity window.1 ds ends → length ends ≡ frame_count (kind_seen kind) ds
  burst_count ends are =
      sym (length-parts ends 0) ∙ ap (λ (bs : List (List (List ℕ))). length bs) are.bursts_are ∙ sym (ap (λ (k : Kind). frame_count (kind_seen k) ds) is)
