-- What the records of a front tell stands at the front of what all deliver.
use Rattle.std.proofs.Common.{◌≡◌, ℕ, false, List, [], ◌∷◌, ◌++◌, length, ap, sym, ◌∙◌, Option, None, Some, append_assoc}
use Rattle.std.proofs.lemmas.List.{append-nil}
use Rattle.std.specs.List.{flat_map}
use Rattle.std.proofs.lemmas.Grind.{flat_map-append}
use Rattle.ts_spec.specs.Recording.{RecordingForm, Record, records_of}
use Rattle.plan_spec.specs.Plan.{PlanFields}
use Rattle.plan_spec.specs.Changes.{has_wrong_change}
use Rattle.pcap_file.specs.Capture.{capture_head, capture_record, capture_text}
use Rattle.reception_spec.specs.Delivered.{told_of, delivered_of, given_by_record, given_by_end}
use Rattle.reception_law.proofs.WhatIsTold.{told_stays, all_at_end}
use Rattle.bb_reception_spec.specs.Delivered.{service_at, added_by, delivered_of as delivered_of_frames}
use Rattle.bb_reception_law.proofs.FrameByFrame.{delivered_stays}
use Rattle.recording_spec.specs.Pieces.{by_carrier, records_in}
use Rattle.receive_command.specs.Ends.{told_capture, delivered_capture}
use Rattle.recording_reception.proofs.NextPiece.{records_next}

text-append : (xs ys : List (List ℕ)) → capture_text (xs ++ ys) ≡ capture_text xs ++ flat_map capture_record ys
text-append xs ys =
    ap (λ t. capture_head ++ t) (flat_map-append capture_record xs ys)
    ∙ sym (append_assoc capture_head (flat_map capture_record xs) (flat_map capture_record ys))

-- what goes on with each item more goes on with more items
module _ {X Y : Type 0} (of : List X → List Y) (next : (xs : List X) (x : X) → (given : List Y) × (of (xs ++ x ∷ []) ≡ of xs ++ given)) where
  goes_on : (ys xs : List X) → (more : List Y) × (of (xs ++ ys) ≡ of xs ++ more)
  goes_on [] xs = ([], ap of (append-nil xs) ∙ sym (append-nil (of xs)))
  goes_on (y ∷ ys) xs =
      let rest : (more : List Y) × (of ((xs ++ y ∷ []) ++ ys) ≡ of (xs ++ y ∷ []) ++ more) = goes_on ys (xs ++ y ∷ []) in
      let one : (given : List Y) × (of (xs ++ y ∷ []) ≡ of xs ++ given) = next xs y in
      (one.0 ++ rest.0, ap of (sym (append_assoc xs (y ∷ []) ys)) ∙ rest.1 ∙ ap (λ (t : List Y). t ++ rest.0) one.1 ∙ append_assoc (of xs) one.0 rest.0)

records_go_on : (form : RecordingForm) (ys xs : List (List ℕ)) → (more : List Record) × (records_of form (xs ++ ys) ≡ records_of form xs ++ more)
records_go_on form = goes_on (records_of form) (λ pieces piece. let next = records_next form pieces piece in (next.0 ∷ [], next.1))

-- more records tell more
told_goes_on : (plan : PlanFields) → has_wrong_change plan ≡ false → (k : ℕ) (ys xs : List Record) → (more : List (List ℕ)) × (told_of plan k (xs ++ ys) ≡ told_of plan k xs ++ more)
told_goes_on plan right k = goes_on (told_of plan k) (λ xs x. (given_by_record plan k (xs ++ x ∷ []) (length xs), told_stays plan k xs x right))

-- and the end gives what is left
delivered_goes_on : (plan : PlanFields) → has_wrong_change plan ≡ false → (k : ℕ) (xs ys : List Record)
    → (more : List (List ℕ)) × (delivered_of plan k (xs ++ ys) ≡ told_of plan k xs ++ more)
delivered_goes_on plan right k xs ys =
    let told : (more : List (List ℕ)) × (told_of plan k (xs ++ ys) ≡ told_of plan k xs ++ more) = told_goes_on plan right k ys xs in
    let given : List (List ℕ) = given_by_end plan k (xs ++ ys) in (
      told.0 ++ given,
      all_at_end plan k (xs ++ ys) right ∙ ap (λ (t : List (List ℕ)). t ++ given) told.1 ∙ append_assoc (told_of plan k xs) told.0 given,
    )

-- of frames: more deliver more
frames_go_on : (plan : PlanFields) (k : ℕ) (ys xs : List (List ℕ)) → (more : List (List ℕ)) × (delivered_of_frames plan k (xs ++ ys) ≡ delivered_of_frames plan k xs ++ more)
frames_go_on plan k = goes_on (delivered_of_frames plan k) (λ xs x. (added_by (service_at plan k) xs x, delivered_stays (service_at plan k) xs x))

-- what the pieces of a front tell goes on in the capture of what all deliver
more_on : (carrier : Option ℕ) (plan : PlanFields) → has_wrong_change plan ≡ false → (xs ys : List (List ℕ)) (k : ℕ)
    → (more : List ℕ) × (capture_text (by_carrier carrier (delivered_of plan k (records_in plan (xs ++ ys))) (delivered_of_frames plan k (xs ++ ys)))
    ≡ capture_text (by_carrier carrier (told_of plan k (records_in plan xs)) (delivered_of_frames plan k xs)) ++ more)
more_on None plan right xs ys k =
    let records : (more : List Record) × (records_in plan (xs ++ ys) ≡ records_in plan xs ++ more) = records_go_on plan.recording ys xs in
    let datagrams = delivered_goes_on plan right k (records_in plan xs) records.0 in (
      flat_map capture_record datagrams.0,
      ap (λ (r : List Record). capture_text (delivered_of plan k r)) records.1 ∙ ap capture_text datagrams.1 ∙ text-append (told_of plan k (records_in plan xs)) datagrams.0,
    )
more_on (Some size) plan right xs ys k =
    let datagrams = frames_go_on plan k ys xs in
    (flat_map capture_record datagrams.0, ap capture_text datagrams.1 ∙ text-append (delivered_of_frames plan k xs) datagrams.0)

pub capture_more : (plan : PlanFields) → has_wrong_change plan ≡ false → (xs ys : List (List ℕ)) (k : ℕ)
    → (more : List ℕ) × (delivered_capture plan (xs ++ ys) k ≡ told_capture plan xs k ++ more)
capture_more plan right xs ys k = more_on plan.frame_bytes plan right xs ys k
