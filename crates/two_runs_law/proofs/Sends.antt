-- What a run of `send` put out.
use Rattle.std.proofs.Common.{◌≡◌, ◌⊎◌, inl, inr, ℕ, true, false, List, refl, ap, ◌∙◌, subst, Option}
use Rattle.wire_spec.specs.Lists.{joined}
use Rattle.plan_spec.specs.Plan.{PlanFields, is_baseband}
use Rattle.plan_spec.specs.Bytes.{IsOfBytes}
use Rattle.plan_spec.specs.Changes.{plan_in}
use Rattle.plan_spec.specs.Wholes.{is_whole_plan}
use Rattle.pcap_file.specs.declared.faults.CaptureFault.{CaptureFault}
use Rattle.settings_load.specs.Settings.{IsAcceptedFile}
use Rattle.send_command.specs.Sending.{IsSendOf}
use Rattle.ipencap_engine.specs.Jobs.{Job, to_send, IsPlanOf}
use Rattle.ipencap_engine.specs.Settings.{IsAnswer, GivesPlan}
use Rattle.ipencap_engine.specs.Made.{Made}
use Rattle.ipencap_engine.specs.Stands.{Stands, StandsWhole}
use Rattle.ipencap_engine.specs.declared.status.Status.{Status}
use Rattle.ipencap_engine.specs.declared.status.Status.TheVariants as status
use Rattle.two_runs_law.specs.Sent.{AreSentBytes, AreSentBytesOfFrames}
use Rattle.two_runs_law.specs.Runs.{IsSendRun}
use Rattle.two_runs_law.proofs.Known.{put_out}

module _ (settings capture bytes : List ℕ) (run : IsSendRun settings capture bytes) where
  abbrev job : Job
  job = to_send run.name

  -- its settings give a plan
  pub gives_plan : GivesPlan settings
  gives_plan = by_end run.ended (run.runs.settings.answer settings (run.name, refl, run.settings_known))
    where
      by_end : (run.end ≡ status.Done) ⊎ (run.end ≡ status.Capture) → IsAnswer job run.after.shelf settings run.end → GivesPlan settings
      by_end (inl done) answer = (subst (λ (e : Status). IsAnswer job run.after.shelf settings e) done answer).0
      by_end (inr fault) answer = (subst (λ (e : Status). IsAnswer job run.after.shelf settings e) fault answer).0

  module _ (plan : PlanFields) (accepted : IsAcceptedFile settings plan) where
    is_plan : IsPlanOf job run.after.shelf plan
    is_plan = record { bytes = settings; told = (run.name, refl, run.settings_known); gives = accepted }

    -- it made the stream of the capture
    pub record Streams : Type 0 where
      pub captured : List (List ℕ)
      pub fault : Option CaptureFault
      pub stream : List (List ℕ)
      pub is : IsSendOf plan capture captured fault stream
      pub bytes_are : bytes ≡ joined stream

    of_whole : (end : Status) → StandsWhole job plan capture end run.line run.before run.after → Streams
    of_whole end whole = record {
      captured = (whole.makes).captured;
      fault = (whole.makes).fault;
      stream = (whole.makes).stream;
      is = (whole.makes).is;
      bytes_are = put_out run.before run.after bytes (whole.made).output run.output whole.output ∙ ap (λ (m : Made). m.output) (whole.makes).made_is;
    }

    pub streams : Streams
    streams = by_end run.ended (run.runs.stands plan capture is_plan run.capture_known)
      where
        by_end : (run.end ≡ status.Done) ⊎ (run.end ≡ status.Capture) → Stands job plan capture run.end run.line run.before run.after → Streams
        by_end (inl done) stands = of_whole status.Done (subst (λ (e : Status). Stands job plan capture e run.line run.before run.after) done stands)
        by_end (inr fault) stands = of_whole status.Capture (subst (λ (e : Status). Stands job plan capture e run.line run.before run.after) fault stands)

    -- under the laws of settings that are accepted
    module _ (whole : is_whole_plan plan ≡ true) (of_bytes : (version : ℕ) → IsOfBytes (plan_in plan version)) where
      pub sent_in_packets : is_baseband plan ≡ false → (told : List (List ℕ)) × AreSentBytes plan capture told bytes
      sent_in_packets packets = (
        streams.captured,
        record {
          records = streams.stream;
          sent = record {
            accepted = whole;
            of_bytes = λ version within. of_bytes version;
            told_bytes = (streams.is).of_bytes;
            fault = streams.fault;
            tells = (streams.is).told;
            stream = ((streams.is).stream_is).in_records packets;
          };
          bytes_are = streams.bytes_are;
        },
      )

      pub sent_in_frames : is_baseband plan ≡ true → (told : List (List ℕ)) × AreSentBytesOfFrames plan capture told bytes
      sent_in_frames baseband = (
        streams.captured,
        record {
          frames = streams.stream;
          sent = record {
            accepted = whole;
            of_bytes = λ version within. of_bytes version;
            told_bytes = (streams.is).of_bytes;
            fault = streams.fault;
            tells = (streams.is).told;
            stream = ((streams.is).stream_is).in_frames baseband;
          };
          bytes_are = streams.bytes_are;
        },
      )
