-- When the bursts of a service go out, as the code has it.
use Rattle.std.specs.Prelude.{◌≡◌, ℕ}
use Rattle.slice_spec.specs.Bursts.{Slicing}
use Rattle.plan_spec.specs.Plan.{WindowFields}
use Rattle.plan.specs.Parts.{form_of}
use Rattle.stream_spec.specs.Units.{FrameSchedule}
use Rattle.burst_packets.specs.declared.timing.Timing.{Timing}

-- the window, and how the service is sliced
abbrev pub window_in : Timing → WindowFields
window_in timing = record { start = timing.start; length = timing.length }

abbrev pub slicing_in : Timing → Slicing
slicing_in timing = record {
  form = form_of timing.recording;
  rate = timing.packet_rate;
  cycle = timing.cycle;
  start = timing.start;
  length = timing.length;
}

-- the schedule, where the first frame of the part has this number: bursts are the same whatever it is
abbrev pub schedule_in : ℕ → Timing → FrameSchedule
schedule_in first timing = record {
  first = first;
  form = form_of timing.recording;
  rate = timing.packet_rate;
  cycle = timing.cycle;
  slots_before = timing.slots_before;
  goes_on = timing.goes_on;
}

-- the frames of a service that go out by this schedule have this timing
pub record IsTimedBy (timing : Timing) (schedule : FrameSchedule) : Type 0 where
  pub form_is : schedule.form ≡ form_of timing.recording
  pub rate_is : schedule.rate ≡ timing.packet_rate
  pub cycle_is : schedule.cycle ≡ timing.cycle
  pub before_is : schedule.slots_before ≡ timing.slots_before
  pub goes_on_is : schedule.goes_on ≡ timing.goes_on
