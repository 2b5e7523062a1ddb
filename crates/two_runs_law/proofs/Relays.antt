-- What a run of `relay` put out.
use Rattle.std.proofs.Common.{◌≡◌, ℕ, List, refl, ap, ◌∙◌, subst, All}
use Rattle.wire_spec.specs.Bytes.{AreBytes}
use Rattle.wire_spec.specs.Lists.{joined, IsCut}
use Rattle.plan_spec.specs.Plan.{PlanFields}
use Rattle.carrier_spec.specs.Stream.{piece_size}
use Rattle.recording_spec.specs.Relayed.{relayed, IsRelayed}
use Rattle.relay_core.specs.Gathering.{FitsCapture}
use Rattle.settings_load.specs.Settings.{IsAcceptedFile}
use Rattle.ipencap_engine.specs.Jobs.{Job, to_relay, IsPlanOf}
use Rattle.ipencap_engine.specs.Settings.{GivesPlan}
use Rattle.ipencap_engine.specs.Made.{Made, IsRelayOf}
use Rattle.ipencap_engine.specs.Stands.{StandsWhole}
use Rattle.ipencap_engine.specs.declared.status.Status.TheVariants as status
use Rattle.two_runs_law.specs.Runs.{IsRelayRun}
use Rattle.two_runs_law.proofs.Known.{put_out}

-- the stream of a relay of pieces
pub record Relays (inner outer : PlanFields) (pieces : List (List ℕ)) (bytes : List ℕ) : Type 0 where
  pub stream : List (List ℕ)
  pub fits : FitsCapture (relayed inner pieces)
  pub of_bytes : All AreBytes (relayed inner pieces)
  pub is : IsRelayed inner outer pieces stream
  pub bytes_are : bytes ≡ joined stream

module _ (inner_settings outer_settings recording bytes : List ℕ) (run : IsRelayRun inner_settings outer_settings recording bytes) where
  abbrev job : Job
  job = to_relay run.inner_name run.outer_name

  pub gives_plans : GivesPlan inner_settings × GivesPlan outer_settings
  gives_plans =
      let answer = run.runs.settings.answer inner_settings (run.inner_name, refl, run.inner_known) in
      (answer.0, answer.1 outer_settings (run.outer_name, refl, run.outer_known))

  module _ (inner outer : PlanFields) (inner_accepted : IsAcceptedFile inner_settings inner) (outer_accepted : IsAcceptedFile outer_settings outer)
      (pieces : List (List ℕ)) (tail : List ℕ) (cut : IsCut (piece_size inner) recording pieces tail)
      (unique : (xs ys : List (List ℕ)) (s t : List ℕ) → IsCut (piece_size inner) recording xs s → IsCut (piece_size inner) recording ys t → xs ≡ ys) where
    is_plan : IsPlanOf job run.after.shelf inner
    is_plan = record { bytes = inner_settings; told = (run.inner_name, refl, run.inner_known); gives = inner_accepted }

    whole : StandsWhole job inner recording status.Done run.line run.before run.after
    whole = run.runs.stands inner recording is_plan run.recording_known

    relays_read : Relays inner outer (whole.makes).pieces bytes
    relays_read =
        let is_relay : IsRelayOf inner outer (whole.makes).pieces whole.made = (whole.makes).is outer_settings outer run.outer_known outer_accepted in
        record {
          stream = is_relay.0;
          fits = (whole.makes).fits;
          of_bytes = (whole.makes).of_bytes;
          is = is_relay.1;
          bytes_are = put_out run.before run.after bytes (whole.made).output run.output whole.output ∙ ap (λ (m : Made). m.output) is_relay.2;
        }

    pub relays : Relays inner outer pieces bytes
    relays =
        subst (λ (t : List (List ℕ)). Relays inner outer t bytes) (unique (whole.makes).pieces pieces (whole.makes).tail tail ((whole.makes).read).cut cut) relays_read
