-- What a run of `receive` added.
use Rattle.std.proofs.Common.{◌≡◌, ℕ, true, false, List, refl, ap, ◌∙◌, subst, Option, None, Some, is_some}
use Rattle.std.specs.Option.{unwrap_or}
use Rattle.wire_spec.specs.Lists.{IsCut}
use Rattle.wire_spec.specs.Content.{File}
use Rattle.ts_spec.specs.Recording.{record_size}
use Rattle.plan_spec.specs.Plan.{PlanFields, is_baseband}
use Rattle.carrier_spec.specs.Stream.{piece_size}
use Rattle.settings_load.specs.Settings.{IsAcceptedFile}
use Rattle.reception_spec.specs.Delivered.{delivered_of as delivered_of_records}
use Rattle.bb_reception_spec.specs.Delivered.{delivered_of as delivered_of_frames}
use Rattle.recording_spec.specs.Pieces.{by_carrier, records_in, delivered_of}
use Rattle.end_to_end_law.specs.Bytes.{DeliversOfBytes}
use Rattle.end_to_end_law.specs.BbBytes.{DeliversOfFrames}
use Rattle.ipencap_engine.specs.Jobs.{Job, to_receive, IsPlanOf}
use Rattle.ipencap_engine.specs.Settings.{GivesPlan}
use Rattle.ipencap_engine.specs.Made.{Made}
use Rattle.ipencap_engine.specs.Stands.{StandsWhole}
use Rattle.ipencap_engine.specs.declared.status.Status.TheVariants as status
use Rattle.two_runs_law.specs.Runs.{IsReceiveRun, AreCapturesOf}
use Rattle.two_runs_law.proofs.Known.{files_added}

-- The carrier of a plan.

no_frames : (carrier : Option ℕ) → is_some carrier ≡ false → carrier ≡ None
no_frames None e = refl
no_frames (Some size) e = absurd (cc (e))

size_of_records : (plan : PlanFields) → is_baseband plan ≡ false → piece_size plan ≡ record_size plan.recording
size_of_records plan packets = ap (λ (o : Option ℕ). unwrap_or o (record_size plan.recording)) (no_frames plan.frame_bytes packets)

of_packets : {X : Type 0} (carrier : Option ℕ) (a b : X) → is_some carrier ≡ false → by_carrier carrier a b ≡ a
of_packets None a b e = refl
of_packets (Some size) a b e = absurd (cc (e))

of_frames : {X : Type 0} (carrier : Option ℕ) (a b : X) → is_some carrier ≡ true → by_carrier carrier a b ≡ b
of_frames None a b e = absurd (cc (e))
of_frames (Some size) a b e = refl

-- What is delivered of bytes that are cut into pieces.

pub of_bytes : (plan : PlanFields) (recording : List ℕ) (pieces : List (List ℕ)) (tail : List ℕ) → IsCut (piece_size plan) recording pieces tail → is_baseband plan ≡ false
    → DeliversOfBytes plan recording (λ k. delivered_of plan k pieces)
of_bytes plan recording pieces tail cut packets = record {
  pieces = pieces;
  tail = tail;
  cut = subst (λ (n : ℕ). IsCut n recording pieces tail) (size_of_records plan packets) cut;
  each = λ k known. of_packets plan.frame_bytes (delivered_of_records plan k (records_in plan pieces)) (delivered_of_frames plan k pieces) packets;
}

pub of_bytes_of_frames : (plan : PlanFields) (recording : List ℕ) (pieces : List (List ℕ)) (tail : List ℕ) → IsCut (piece_size plan) recording pieces tail
    → is_baseband plan ≡ true → DeliversOfFrames plan recording (λ k. delivered_of plan k pieces)
of_bytes_of_frames plan recording pieces tail cut baseband = record {
  pieces = pieces;
  tail = tail;
  cut = cut;
  each = λ k known. of_frames plan.frame_bytes (delivered_of_records plan k (records_in plan pieces)) (delivered_of_frames plan k pieces) baseband;
}

-- A run.

module _ (settings recording : List ℕ) (files : List File) (run : IsReceiveRun settings recording files) where
  abbrev job : Job
  job = to_receive run.name

  pub gives_plan : GivesPlan settings
  gives_plan = (run.runs.settings.answer settings (run.name, refl, run.settings_known)).0

  module _ (plan : PlanFields) (accepted : IsAcceptedFile settings plan) where
    is_plan : IsPlanOf job run.after.shelf plan
    is_plan = record { bytes = settings; told = (run.name, refl, run.settings_known); gives = accepted }

    whole : StandsWhole job plan recording status.Done run.line run.before run.after
    whole = run.runs.stands plan recording is_plan run.recording_known

    files_are : AreCapturesOf plan (λ k. delivered_of plan k (whole.makes).pieces) files
    files_are = files_added run.before run.after files (whole.made).files run.rack whole.files ∙ ap (λ (m : Made). m.files) (whole.makes).made_is

    pub in_packets : is_baseband plan ≡ false → (delivered : ℕ → List (List ℕ)) × DeliversOfBytes plan recording delivered × AreCapturesOf plan delivered files
    in_packets packets = (
      λ k. delivered_of plan k (whole.makes).pieces,
      of_bytes plan recording (whole.makes).pieces (whole.makes).tail ((whole.makes).read).cut packets,
      files_are,
    )

    pub in_frames : is_baseband plan ≡ true → (delivered : ℕ → List (List ℕ)) × DeliversOfFrames plan recording delivered × AreCapturesOf plan delivered files
    in_frames baseband = (
      λ k. delivered_of plan k (whole.makes).pieces,
      of_bytes_of_frames plan recording (whole.makes).pieces (whole.makes).tail ((whole.makes).read).cut baseband,
      files_are,
    )
