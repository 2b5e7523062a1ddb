-- Time stamps on their way through a channel. Moments are read of services with time slicing alone.
use Rattle.std.specs.Prelude.{◌≡◌, ℕ, ◌+◌, ◌%◌, ◌^◌, ◌<◌, ◌≤◌, true, List, length, Option, Some, option_map}
use Rattle.ts_spec.specs.Recording.{Record, RecordingForm, plain, stamped, m2ts}
use Rattle.ts_spec.specs.Received.{record_at, is_of}
use Rattle.channel_spec.specs.Channel.{Channel, ComesFrom, IsNoCopy}

-- a record that was kept or damaged has the moment that its record has in what was sent; copies and inserted records have any
pub record KeepsMoments {pids : List ℕ} {sent recorded : List Record} (channel : Channel pids sent recorded) : Type 0 where
  pub no_copy : (j n : ℕ) → j < length recorded → channel.first j ≡ j → channel.place j ≡ Some n
      → (record_at recorded j).moment ≡ (record_at sent n).moment

-- the stamp of a record of an m2ts recording, whose moments are counted on from stamp to stamp
abbrev pub stamp_of : Record → Option ℕ
stamp_of r = option_map (λ moment. moment % 2 ^ 30) r.moment

-- there is a time for each recorded record: that of one that was kept or damaged is the moment that its record has in what was
-- sent, and each record, a copy or an inserted one too, has its time modulo 2^30 as stamp; the times don't fall, and those of
-- neighbours are less than 2^30 apart. So recorded moments differ from the times by one constant
pub record KeepsTimes {pids : List ℕ} {sent recorded : List Record} (channel : Channel pids sent recorded) : Type 0 where
  pub time : ℕ → ℕ
  pub no_copy : (j n : ℕ) → j < length recorded → channel.first j ≡ j → channel.place j ≡ Some n → (record_at sent n).moment ≡ Some (time j)
  pub stamp : (j : ℕ) → j < length recorded → stamp_of (record_at recorded j) ≡ Some (time j % 2 ^ 30)
  pub rises : (j : ℕ) → j + 1 < length recorded → time j ≤ time (j + 1)
  pub near : (j : ℕ) → j + 1 < length recorded → time (j + 1) < time j + 2 ^ 30

-- the stamps survive, by the form of the recordings: of plain and stamped ones the moments, of m2ts ones the times
abbrev pub KeepsStamps : RecordingForm → {pids : List ℕ} {sent recorded : List Record} → Channel pids sent recorded → Type 0
KeepsStamps plain channel = KeepsMoments channel
KeepsStamps stamped channel = KeepsMoments channel
KeepsStamps m2ts channel = KeepsTimes channel

-- The same of the packets of one PID alone.

-- recorded record j is no copy, and comes from record n of those sent, a packet of the PID, which was kept or damaged
pub record IsOfPid {pids : List ℕ} {sent recorded : List Record} (channel : Channel pids sent recorded) (pid j n : ℕ) : Type 0 where
  pub within : j < length recorded
  pub no_copy : IsNoCopy channel.first j
  pub place : ComesFrom channel.place j n
  pub of_pid : is_of pid (record_at sent n).bytes ≡ true

-- each record that comes from a packet of the PID has its moment; all others have any
pub record KeepsMomentsOf {pids : List ℕ} {sent recorded : List Record} (channel : Channel pids sent recorded) (pid : ℕ) : Type 0 where
  pub each : (j n : ℕ) → IsOfPid channel pid j n → (record_at recorded j).moment ≡ (record_at sent n).moment

-- of an m2ts recording moments are counted on from stamp to stamp, over all records. So for each there is a time with its stamp as remainder,
-- that of each record that comes from a packet of the PID its moment in what was sent; times of others are free, but none falls, and none is
-- 2^30 or more above the one before
pub record KeepsTimesOf {pids : List ℕ} {sent recorded : List Record} (channel : Channel pids sent recorded) (pid : ℕ) : Type 0 where
  pub time : ℕ → ℕ
  pub each : (j n : ℕ) → IsOfPid channel pid j n → (record_at sent n).moment ≡ Some (time j)
  pub stamp : (j : ℕ) → j < length recorded → stamp_of (record_at recorded j) ≡ Some (time j % 2 ^ 30)
  pub rises : (j : ℕ) → j + 1 < length recorded → time j ≤ time (j + 1)
  pub near : (j : ℕ) → j + 1 < length recorded → time (j + 1) < time j + 2 ^ 30

abbrev pub KeepsStampsOf : RecordingForm → {pids : List ℕ} {sent recorded : List Record} → Channel pids sent recorded → ℕ → Type 0
KeepsStampsOf plain channel pid = KeepsMomentsOf channel pid
KeepsStampsOf stamped channel pid = KeepsMomentsOf channel pid
KeepsStampsOf m2ts channel pid = KeepsTimesOf channel pid
