-- What a service delivers after one hop.
use Rattle.std.proofs.Common.{◌≡◌, ℕ, ◌<◌, true, false, List, [], ◌∷◌, length, flat_map, refl, ap, sym, subst, Option, Some, None}
use Rattle.std.specs.Prelude.{is_some}
use Rattle.wire_spec.specs.Lists.{IsSubsequence}
use Rattle.ts_spec.specs.Recording.{Record}
use Rattle.plan_spec.specs.Plan.{PlanFields, is_baseband, isi_of}
use Rattle.plan_spec.specs.Changes.{pids_in, has_wrong_change}
use Rattle.plan_spec.specs.Offered.{datagrams as datagrams_of, offered_in_all}
use Rattle.reception_spec.specs.Delivered.{delivered_of as delivered_of_records}
use Rattle.bb_reception_spec.specs.Delivered.{delivered_of as delivered_of_frames, delivered_on as delivered_on_isi, service_at}
use Rattle.loss_law.specs.Loss.{CarriesFor}
use Rattle.loss_law.specs.Spans.{IsRecordedFor, DeliversOverSpans, wanted_on_pids}
use Rattle.loss_law.proofs.Subsequences.{subsequence_through}
use Rattle.bb_loss_law.specs.Plans.{CarriesInFramesFor, IsRecordedInFramesFor, DeliversOnIsi, wanted_of}
use Rattle.recording_spec.specs.Pieces.{by_carrier, records_in, delivered_of}
use Rattle.recording_spec.specs.Interleaving.{IsInterleaving}
use Rattle.recording_spec.specs.Relayed.{relayed, as_records}
use Rattle.recording_law.specs.Hop.{CarriesInPieces, in_packets, in_frames, IsRecordedInPieces, wanted_on_isi, wanted_in, DeliversWanted}
use Rattle.recording_law.proofs.Merged.{merged, only_list}
use Rattle.recording_law.proofs.Offered.{offered_within}

-- the carrier of a plan
on_packets : {X : Type 0} (o : Option ℕ) (x y : X) → is_some o ≡ false → by_carrier o x y ≡ x
on_packets None x y is = refl
on_packets (Some size) x y is = absurd (cc)

on_frames : {X : Type 0} (o : Option ℕ) (x y : X) → is_some o ≡ true → by_carrier o x y ≡ y
on_frames None x y is = absurd (cc)
on_frames (Some size) x y is = refl

pub packets_from : (plan : PlanFields) (k : ℕ) (pieces : List (List ℕ)) → is_baseband plan ≡ false → delivered_of plan k pieces ≡ delivered_of_records plan k (records_in plan pieces)
packets_from plan k pieces is = on_packets plan.frame_bytes (delivered_of_records plan k (records_in plan pieces)) (delivered_of_frames plan k pieces) is

pub frames_from : (plan : PlanFields) (k : ℕ) (pieces : List (List ℕ)) → is_baseband plan ≡ true → delivered_of plan k pieces ≡ delivered_of_frames plan k pieces
frames_from plan k pieces is = on_frames plan.frame_bytes (delivered_of_records plan k (records_in plan pieces)) (delivered_of_frames plan k pieces) is

-- the laws of either carrier
module _
    (over_spans : (plan : PlanFields) (k : ℕ) → k < length plan.services → (sent : List Record) (datagrams : ℕ → List (List ℕ)) (carries : CarriesFor plan k sent datagrams)
    (recorded : List Record) (is_recorded : IsRecordedFor plan k sent datagrams carries recorded)
    → DeliversOverSpans plan k sent datagrams carries recorded is_recorded (delivered_of_records plan k recorded))
    (over_frames : (plan : PlanFields) (k : ℕ) (sent recorded : List (List ℕ)) (is_recorded : IsRecordedInFramesFor plan k sent recorded)
    → (datagrams : List (List ℕ)) → CarriesInFramesFor plan k sent datagrams
    → DeliversOnIsi plan k sent recorded is_recorded datagrams (delivered_of_frames plan k recorded))
  where
    of_packets : (plan : PlanFields) (k : ℕ) → k < length plan.services → (sent : List Record) (datagrams : ℕ → List (List ℕ)) (carries : CarriesFor plan k sent datagrams)
        (recorded : List Record) → IsRecordedFor plan k sent datagrams carries recorded
        → DeliversWanted (flat_map datagrams (pids_in plan k)) (wanted_on_pids plan k carries.units datagrams) (delivered_of_records plan k recorded)
    of_packets plan k known sent datagrams carries recorded is_recorded =
        let delivers = over_spans plan k known sent datagrams carries recorded is_recorded in
        record { were_wanted = delivers.were_wanted; were_sent = delivers.were_sent }

    of_isi : (plan : PlanFields) (k : ℕ) → k < length plan.services → (sent recorded datagrams : List (List ℕ)) → CarriesInFramesFor plan k sent datagrams
        → IsRecordedInFramesFor plan k sent recorded → (o : Option ℕ) → isi_of (service_at plan k).kind ≡ o
        → DeliversWanted datagrams (wanted_on_isi o plan k sent) (delivered_on_isi o (service_at plan k).filter recorded)
    of_isi plan k known sent recorded datagrams carries is_recorded None is = record { were_wanted = tt; were_sent = tt }
    of_isi plan k known sent recorded datagrams carries is_recorded (Some isi) is =
        let delivers = (over_frames plan k sent recorded is_recorded datagrams carries).each isi (record { service = known; own = is }) in
        record {
          were_wanted =
              subst (λ (xs : List (List ℕ)). IsSubsequence xs (wanted_of plan k isi sent)) (ap (λ (o : Option ℕ). delivered_on_isi o (service_at plan k).filter recorded) is)
              delivers.were_wanted;
          were_sent = delivers.were_sent;
        }

    pub one_hop : (plan : PlanFields) (k : ℕ) → k < length plan.services → (sent carried : List (List ℕ)) (carries : CarriesInPieces plan k sent carried)
        (recorded : List (List ℕ)) → IsRecordedInPieces plan k sent carried carries recorded
        → DeliversWanted carried (wanted_in plan k sent carried carries) (delivered_of plan k recorded)
    one_hop plan k known sent carried (in_packets is datagrams carries same) recorded is_recorded =
        let wanted : List (List ℕ) = wanted_on_pids plan k carries.units datagrams in
        subst (λ (xs : List (List ℕ)). DeliversWanted carried wanted xs)
        (sym (packets_from plan k recorded is))
        (subst (λ (ys : List (List ℕ)). DeliversWanted ys wanted (delivered_of_records plan k (records_in plan recorded)))
        (sym same) (of_packets plan k known (records_in plan sent) datagrams carries (records_in plan recorded) is_recorded))
    one_hop plan k known sent carried (in_frames is carries) recorded is_recorded =
        subst (λ (xs : List (List ℕ)). DeliversWanted carried (wanted_on_isi (isi_of (service_at plan k).kind) plan k sent) xs)
        (sym (frames_from plan k recorded is))
        (of_isi plan k known sent recorded carried carries is_recorded (isi_of (service_at plan k).kind) refl)

    -- where all that is carried to a service are some of other datagrams, in order, so is what it delivers
    pub hop_within : (plan : PlanFields) (k : ℕ) → k < length plan.services → (sent carried : List (List ℕ)) (carries : CarriesInPieces plan k sent carried)
        (recorded : List (List ℕ)) → IsRecordedInPieces plan k sent carried carries recorded
        → (all : List (List ℕ)) → IsSubsequence carried all → IsSubsequence (delivered_of plan k recorded) all
    hop_within plan k known sent carried carries recorded is_recorded all within =
        let delivers = one_hop plan k known sent carried carries recorded is_recorded in
        subsequence_through (delivered_of plan k recorded) (wanted_in plan k sent carried carries) all delivers.were_wanted
        (subsequence_through (wanted_in plan k sent carried carries) carried all delivers.were_sent within)

-- what is offered of datagrams are some of them
all_records : (datagrams : List (List ℕ)) → datagrams_of (as_records datagrams) ≡ datagrams
all_records [] = refl
all_records (datagram ∷ datagrams) = ap (λ (t : List (List ℕ)). datagram ∷ t) (all_records datagrams)

pub some_of_all : (plan : PlanFields) (datagrams : List (List ℕ)) (k : ℕ) → IsSubsequence (offered_in_all plan (as_records datagrams) k) datagrams
some_of_all plan datagrams k =
    subst (λ (xs : List (List ℕ)). IsSubsequence (offered_in_all plan (as_records datagrams) k) xs) (all_records datagrams) (offered_within plan (as_records datagrams) k)

-- one service alone: what it delivers is all that is relayed
pub only_service : (plan : PlanFields) (pieces : List (List ℕ)) → has_wrong_change plan ≡ false → length plan.services ≡ 1 → delivered_of plan 0 pieces ≡ relayed plan pieces
only_service plan pieces right single =
    only_list (λ k. delivered_of plan k pieces) (relayed plan pieces)
    (subst (λ (n : ℕ). IsInterleaving n (λ k. delivered_of plan k pieces) (relayed plan pieces)) single (merged plan pieces right))
