use Rattle.std.proofs.Common.{◌≡◌, ℕ, zero, suc, ◌+◌, true, Option, None, Some, List, [], ◌∷◌, ◌++◌, length, map, flat_map, drop, refl, ap, ap₂, ◌∙◌, arith}
use Rattle.std.specs.List.{range_with_len}
use Rattle.std.proofs.lemmas.List.{drop_all}
use Rattle.ts_spec.specs.Form.{UnitForm}
use Rattle.ts_spec.specs.Recording.{RecordingForm}
use Rattle.plan_spec.specs.Plan.{KindFields, ule, mpe, fec, gse, PlanFields, pid_of}
use Rattle.plan_spec.specs.Changes.{pids_in}
use Rattle.stream_spec.specs.Services.{form_of_kind}
use Rattle.fec_frame_spec.specs.Delivered.{datagrams_of_frames}
use Rattle.reception_spec.specs.Units.{delivered_by_unit}
use Rattle.reception_spec.specs.Numbers.{units_on}
use Rattle.reception_spec.specs.Frames.{told_frames, rows_of}
use Rattle.reception_spec.specs.Delivered.{service_on, told_of, delivered_on, given_by_end}
use Rattle.reception_spec.proofs.nothing_is_received_of_nothing.Goals as goal

-- the pairs of service k
abbrev pairs_at : (ℕ → List (List ℕ)) → ℕ → List (ℕ × List ℕ)
pairs_at datagrams k = map (λ datagram. (k, datagram)) (datagrams k)

-- services that give nothing have none
no_pairs : (datagrams : ℕ → List (List ℕ)) → ((k : ℕ) → datagrams k ≡ []) → (start count : ℕ) → flat_map (pairs_at datagrams) (range_with_len start count) ≡ []
no_pairs datagrams none start zero = refl
no_pairs datagrams none start (suc count) = rw (none start) (no_pairs datagrams none (start + 1) count)

-- without records there are no units and no frames
no_units : (form : UnitForm) (pid : Option ℕ) → units_on form pid [] ≡ []
no_units form None = refl
no_units form (Some pid) = refl

no_frames_of : (form : RecordingForm) (kind : KindFields) → datagrams_of_frames (rows_of kind) (told_frames true form kind []) ≡ []
no_frames_of form (ule pid address packing) = refl
no_frames_of form (mpe pid) = refl
no_frames_of form (fec pid rows parity window) = refl
no_frames_of form (gse isi address) = refl

none_on : (plan : PlanFields) (k pid : ℕ) → delivered_on plan k [] pid ≡ []
none_on plan k pid =
    ap₂ (λ (xs ys : List (List ℕ)). xs ++ ys)
    (ap (flat_map (delivered_by_unit (service_on plan k pid))) (no_units (form_of_kind (service_on plan k pid).kind) (pid_of (service_on plan k pid).kind)))
    (no_frames_of plan.recording (service_on plan k pid).kind)

none_of : (plan : PlanFields) (k : ℕ) (pids : List ℕ) → flat_map (delivered_on plan k []) pids ≡ []
none_of plan k [] = refl
none_of plan k (pid ∷ pids) = ap₂ (λ (xs ys : List (List ℕ)). xs ++ ys) (none_on plan k pid) (none_of plan k pids)

none_at_end : (plan : PlanFields) (k : ℕ) → given_by_end plan k [] ≡ []
none_at_end plan k =
    ap (drop (length (told_of plan k []))) (none_of plan k (pids_in plan k))
    ∙ drop_all (length (told_of plan k [])) [] (omega arith)

pub returns : goal.returns
returns c = record {
  pairs = λ plan. no_pairs (λ k. given_by_end plan k []) (none_at_end plan) 0 (length plan.services);
}
