-- What is received on a PID: where moments are not read, it follows from the bytes of its packets.
use Rattle.std.proofs.Common.{◌≡◌, ℕ, Bool, true, false, Some, List, map, refl, ap, sym, ◌∙◌}
use Rattle.std.proofs.lemmas.Simd.{map-map}
use Rattle.ts_spec.specs.Form.{UnitForm}
use Rattle.ts_spec.specs.Recording.{RecordingForm, Record}
use Rattle.ts_spec.specs.Received.{arrivals}
use Rattle.plan_spec.specs.Plan.{ServiceFields, pid_of}
use Rattle.reception_spec.specs.Numbers.{pid_numbers, service_pid_numbers, units_on, units_of}
use Rattle.reception_spec.specs.Frames.{told_frames, rows_of, frame_numbers}
use Rattle.reception_spec.specs.Delivered.{told_by}
use Rattle.channel_law.specs.Words.{timed_packet}
use Rattle.loss_law.specs.Isolation.{reads_moments, packet_read, SamePackets}
use Rattle.loss_law.proofs.OnePid.{numbers_same, units_same, service_units_same, service_numbers_same, told_frames_same, told_same}
use Rattle.loss_law.proofs.Untimed.{still, stopped, arrivals-still, units_still, numbers_still, service_units_still, service_numbers_still, told_still, frame_numbers_still}

-- with the moments, or without
pub less_read : (b : Bool) (pid : ℕ) (records others : List Record) → SamePackets true pid records others → SamePackets b pid records others
less_read true pid records others same = same
less_read false pid records others same =
    sym (map-map bare timed_packet (arrivals pid records)) ∙ ap (map bare) same ∙ map-map bare timed_packet (arrivals pid others)
  where
    bare : ℕ × List ℕ → ℕ × List ℕ
    bare p = (0, p.1)

-- the same bytes are the same packets where all stand at moment 0
still_packets : (pid : ℕ) (records others : List Record) → SamePackets false pid records others → SamePackets true pid (map still records) (map still others)
still_packets pid records others same = at_zero records ∙ same ∙ sym (at_zero others)
  where
    at_zero : (rs : List Record) → map timed_packet (arrivals pid (map still rs)) ≡ map (packet_read false) (arrivals pid rs)
    at_zero rs = ap (map timed_packet) (arrivals-still pid 0 rs) ∙ map-map timed_packet stopped (arrivals pid rs)

-- what moments don't change
by_bytes : {X : Type 0} (given : List Record → X) (pid : ℕ) → ((records others : List Record) → SamePackets true pid records others → given records ≡ given others)
    → ((records : List Record) → given (map still records) ≡ given records) → (records others : List Record) → SamePackets false pid records others → given records ≡ given others
by_bytes given pid by_packets by_still records others same =
    sym (by_still records) ∙ by_packets (map still records) (map still others) (still_packets pid records others same) ∙ by_still others

pub numbers_by_bytes : (form : UnitForm) (pid : ℕ) (records others : List Record) → SamePackets false pid records others → pid_numbers form pid records ≡ pid_numbers form pid others
numbers_by_bytes form pid = by_bytes (pid_numbers form pid) pid (λ one other same. numbers_same pid one other same form) (numbers_still form pid)

pub units_by_bytes : (form : UnitForm) (pid : ℕ) (records others : List Record) → SamePackets false pid records others → units_on form (Some pid) records ≡ units_on form (Some pid) others
units_by_bytes form pid = by_bytes (units_on form (Some pid)) pid (λ one other same. units_same pid one other same form) (units_still form pid)

-- a service on the PID
module _ (service : ServiceFields) (pid : ℕ) (on : pid_of service.kind ≡ Some pid) where
  pub service_units_by_bytes : (records others : List Record) → SamePackets false pid records others → units_of service records ≡ units_of service others
  service_units_by_bytes = by_bytes (units_of service) pid (λ one other same. service_units_same pid one other same service on) (service_units_still service pid on)

  pub service_numbers_by_bytes : (records others : List Record) → SamePackets false pid records others → service_pid_numbers service records ≡ service_pid_numbers service others
  service_numbers_by_bytes =
      by_bytes (service_pid_numbers service) pid (λ one other same. service_numbers_same pid one other same service on) (service_numbers_still service pid on)

  module _ (ended : Bool) (form : RecordingForm) (records others : List Record) where
    pub told_as_read : SamePackets (reads_moments service.kind) pid records others → told_by ended form service records ≡ told_by ended form service others
    told_as_read = by_kind (reads_moments service.kind) refl
      where
        by_kind : (b : Bool) → reads_moments service.kind ≡ b → SamePackets b pid records others → told_by ended form service records ≡ told_by ended form service others
        by_kind true is same = told_same pid records others same ended form service on
        by_kind false is same =
            by_bytes (told_by ended form service) pid (λ one other alike. told_same pid one other alike ended form service on)
            (told_still ended form service pid on is) records others same

    pub frame_numbers_as_read : SamePackets (reads_moments service.kind) pid records others
        → frame_numbers (rows_of service.kind) (told_frames ended form service.kind records) ≡ frame_numbers (rows_of service.kind) (told_frames ended form service.kind others)
    frame_numbers_as_read = by_kind (reads_moments service.kind) refl
      where
        by_kind : (b : Bool) → reads_moments service.kind ≡ b → SamePackets b pid records others
            → frame_numbers (rows_of service.kind) (told_frames ended form service.kind records) ≡ frame_numbers (rows_of service.kind) (told_frames ended form service.kind others)
        by_kind true is same = ap (frame_numbers (rows_of service.kind)) (told_frames_same pid records others same ended form service.kind on)
        by_kind false is same =
            by_bytes (λ (rs : List Record). frame_numbers (rows_of service.kind) (told_frames ended form service.kind rs)) pid
            (λ one other alike. ap (frame_numbers (rows_of service.kind)) (told_frames_same pid one other alike ended form service.kind on))
            (λ rs. frame_numbers_still ended form service.kind rs is) records others same
