-- The captures of pairs of service and datagram: of those that pieces tell, and that they deliver.
use Rattle.std.proofs.Common.{◌≡◌, ℕ, ◌<◌, false, Option, None, Some, List, [], ◌++◌, length, ap, ◌∙◌}
use Rattle.std.proofs.lemmas.List.{append-nil}
use Rattle.plan_spec.specs.Plan.{PlanFields}
use Rattle.plan_spec.specs.Changes.{has_wrong_change}
use Rattle.pcap_file.specs.Capture.{capture_text}
use Rattle.reception_spec.specs.Delivered.{told_of as told_of_records, delivered_of as delivered_of_records, told_pairs as told_pairs_of_records, pairs_of_end as pairs_behind_records, delivered_pairs}
use Rattle.bb_reception_spec.specs.Delivered.{delivered_of as delivered_of_frames, delivered_pairs as pairs_of_frames}
use Rattle.bb_reception_law.proofs.FrameByFrame.{part_is as part_of_frames}
use Rattle.reception_law.proofs.DeliveredPairs.{part_is_told, part_is}
use Rattle.recording_spec.specs.Pieces.{by_carrier, records_in, told_pairs, pairs_of_end}
use Rattle.capture_files.specs.Files.{capture_of_pairs}
use Rattle.capture_files.proofs.Pairs.{capture_is}
use Rattle.receive_command.specs.Ends.{told_capture, delivered_capture}

-- of what pieces tell
told_on : (carrier : Option ℕ) (plan : PlanFields) → has_wrong_change plan ≡ false → (pieces : List (List ℕ)) (k : ℕ) → k < length plan.services
    → capture_of_pairs (by_carrier carrier (told_pairs_of_records plan (records_in plan pieces)) (pairs_of_frames plan pieces)) k
    ≡ capture_text (by_carrier carrier (told_of_records plan k (records_in plan pieces)) (delivered_of_frames plan k pieces))
told_on None plan right pieces k there =
    capture_is k (told_pairs_of_records plan (records_in plan pieces)) (told_of_records plan k (records_in plan pieces)) (part_is_told plan (records_in plan pieces) k right there)
told_on (Some size) plan right frames k there = capture_is k (pairs_of_frames plan frames) (delivered_of_frames plan k frames) (part_of_frames plan frames k there)

pub capture_of_told : (plan : PlanFields) → has_wrong_change plan ≡ false → (pieces : List (List ℕ)) (k : ℕ) → k < length plan.services
    → capture_of_pairs (told_pairs plan pieces) k ≡ told_capture plan pieces k
capture_of_told plan right pieces k there = told_on plan.frame_bytes plan right pieces k there

-- and of what they deliver where the recording ends
delivered_on : (carrier : Option ℕ) (plan : PlanFields) → has_wrong_change plan ≡ false → (pieces : List (List ℕ)) (k : ℕ) → k < length plan.services
    → capture_of_pairs (by_carrier carrier (told_pairs_of_records plan (records_in plan pieces)) (pairs_of_frames plan pieces)
    ++ by_carrier carrier (pairs_behind_records plan (records_in plan pieces)) []) k
    ≡ capture_text (by_carrier carrier (delivered_of_records plan k (records_in plan pieces)) (delivered_of_frames plan k pieces))
delivered_on None plan right pieces k there =
    capture_is k (delivered_pairs plan (records_in plan pieces)) (delivered_of_records plan k (records_in plan pieces)) (part_is plan (records_in plan pieces) k right there)
delivered_on (Some size) plan right frames k there =
    ap (λ (pairs : List (ℕ × List ℕ)). capture_of_pairs pairs k) (append-nil (pairs_of_frames plan frames)) ∙ told_on (Some size) plan right frames k there

pub capture_of_delivered : (plan : PlanFields) → has_wrong_change plan ≡ false → (pieces : List (List ℕ)) (k : ℕ) → k < length plan.services
    → capture_of_pairs (told_pairs plan pieces ++ pairs_of_end plan pieces) k ≡ delivered_capture plan pieces k
capture_of_delivered plan right pieces k there = delivered_on plan.frame_bytes plan right pieces k there
