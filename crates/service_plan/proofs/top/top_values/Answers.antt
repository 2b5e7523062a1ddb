use Rattle.service_plan.proofs.KeyLemmas.{baseband_said, between_both}
use Rattle.std.proofs.Common.{◌∙◌, ap}
use Rattle.settings_spec.specs.Settings.{recording_of}
use Rattle.service_plan.proofs.top.top_values.Goals as goal

pub returns : goal.returns
returns c =
    let carrier = c.in_ok-carrier.ensures.read in
    let recording = c.in_ok-recording.ensures.read in
    let rate = c.in_ok-packet_rate.ensures in
    let cycle = c.in_ok-cycle.ensures in
    let bytes = c.in_ok-frame_bytes.ensures in
    record {
      read = (
        rw (carrier.0, recording.0, rate.read.0, cycle.read.0, bytes.read.0),
        record {
          baseband = baseband_said _ _ _ carrier.1 c.eq.ensures;
          recording = c.recording_named.ensures.read ∙ ap recording_of recording.1;
          packet_rate = rate.read.1;
          cycle = cycle.read.1;
          frame_bytes = bytes.read.1;
          rate_in_range = between_both _ _ _ rate.within.0 rate.within.1;
          cycle_in_range = between_both _ _ _ cycle.within.0 cycle.within.1;
          bytes_in_range = between_both _ _ _ bytes.within.0 bytes.within.1;
        },
      );
    }
