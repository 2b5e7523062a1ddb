-- Bursts are the same for all schedules of one timing.
use Rattle.std.proofs.Common.{◌≡◌, ℕ, ◌+◌, Bool, not, ◌&&◌, eqb, List, [], ◌∷◌, length, refl, sym, ap, ◌∙◌}
use Rattle.ts_spec.specs.Recording.{RecordingForm}
use Rattle.plan.specs.Parts.{form_of}
use Rattle.stream_spec.specs.Units.{FrameSchedule, units_by_burst, units_of_burst}
use Rattle.burst_packets.specs.Timing.{IsTimedBy, schedule_in, window_in}
use Rattle.burst_packets.specs.declared.timing.Timing.{Timing}

module _ (rows columns : ℕ) (unicast : List ℕ) (timing : Timing) where
  -- whatever the number of the first frame is
  numbered_so : (first c : ℕ) (frames : List (List (List ℕ))) → units_by_burst rows columns unicast (schedule_in first timing) (window_in timing) c frames
      ≡ units_by_burst rows columns unicast (schedule_in 0 timing) (window_in timing) c frames
  numbered_so first c [] = refl
  numbered_so first c (frame ∷ frames) =
      ap (λ (l : List (List (List ℕ))). units_of_burst rows columns unicast (schedule_in 0 timing) (window_in timing) (not timing.goes_on && eqb (length frames) 0) c frame ∷ l)
      (numbered_so first (c + 1) frames)

  schedule_is : (schedule : FrameSchedule) → IsTimedBy timing schedule → schedule ≡ schedule_in schedule.first timing
  schedule_is schedule is =
      ap (λ (f : RecordingForm). record { first = schedule.first; form = f; rate = schedule.rate; cycle = schedule.cycle; slots_before = schedule.slots_before; goes_on = schedule.goes_on }) is.form_is
      ∙ ap (λ (n : ℕ). record { first = schedule.first; form = form_of timing.recording; rate = n; cycle = schedule.cycle; slots_before = schedule.slots_before; goes_on = schedule.goes_on }) is.rate_is
      ∙ ap (λ (n : ℕ). record { first = schedule.first; form = form_of timing.recording; rate = timing.packet_rate; cycle = n; slots_before = schedule.slots_before; goes_on = schedule.goes_on }) is.cycle_is
      ∙ ap (λ (n : ℕ). record { first = schedule.first; form = form_of timing.recording; rate = timing.packet_rate; cycle = timing.cycle; slots_before = n; goes_on = schedule.goes_on }) is.before_is
      ∙ ap (λ (b : Bool). record { first = schedule.first; form = form_of timing.recording; rate = timing.packet_rate; cycle = timing.cycle; slots_before = timing.slots_before; goes_on = b }) is.goes_on_is

  pub same_bursts : (schedule : FrameSchedule) → IsTimedBy timing schedule → (c : ℕ) (frames : List (List (List ℕ)))
      → units_by_burst rows columns unicast (schedule_in 0 timing) (window_in timing) c frames ≡ units_by_burst rows columns unicast schedule (window_in timing) c frames
  same_bursts schedule is c frames =
      sym (ap (λ (s : FrameSchedule). units_by_burst rows columns unicast s (window_in timing) c frames) (schedule_is schedule is) ∙ numbered_so schedule.first c frames)
