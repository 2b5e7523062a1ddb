-- Spans: the part of a recording in which a receiver listens on a PID, as a recording of its own with the same places.
use Rattle.std.specs.Prelude.{◌≡◌, ◌⊎◌, ℕ, List, length, Contains}
use Rattle.ts_spec.specs.Recording.{Record}
use Rattle.ts_spec.specs.Received.{no_record, record_at, Arrival, arrivals}
use Rattle.channel_spec.specs.Channel.{Channel}

-- at each place the record of the recording, or a blank one, which nobody reads; so the whole recording is a span of itself
pub record IsSpanOf (span recorded : List Record) : Type 0 where
  pub size : length span ≡ length recorded
  pub each : (j : ℕ) → (record_at span j ≡ record_at recorded j) ⊎ (record_at span j ≡ no_record)

-- each packet of the PID that is a copy has in the span the record that it is a copy of. It is a premise only where moments are
-- read: a receiver that begins to listen between a packet and its copy receives the copy, whose moment is any
pub record HasNoLoneCopies {pids : List ℕ} {sent recorded : List Record} (channel : Channel pids sent recorded) (span : List Record) (pid : ℕ) : Type 0 where
  pub each : (copy : Arrival) → Contains (arrivals pid span) copy → record_at span (channel.first copy.place) ≡ record_at recorded (channel.first copy.place)
