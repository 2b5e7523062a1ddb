-- The window of the next cycle is near, as the code counts the moments.
use Rattle.std.proofs.Common.{◌≡◌, ℕ, ◌+◌, ◌-◌, ◌*◌, ◌<◌, ◌≤◌, sym, ap, ap₂, subst, ◌∙◌, arith}
use Rattle.ts_spec.specs.Recording.{RecordingForm, plain, stamped, m2ts}
use Rattle.slice_spec.specs.Moments.{ten}
use Rattle.slice_spec.specs.Bursts.{Slicing, IsSliceable, moment_in}
use Rattle.slice_law.proofs.Timed.{ten_above}
use Rattle.plan.specs.Parts.{form_of}
use Rattle.stream_spec.specs.Units.{slicing_in_part, burst_moment}
use Rattle.burst_packets.specs.Timing.{schedule_in, slicing_in, window_in}
use Rattle.burst_packets.specs.declared.timing.Timing.{Timing}

-- in slots of the stream
abbrev pub from_stream : Timing → Slicing
from_stream timing = slicing_in_part (schedule_in 0 timing) (window_in timing)

pub sliceable_so : (timing : Timing) → IsSliceable (slicing_in timing) → IsSliceable (from_stream timing)
sliceable_so timing is = record { rate_above = is.rate_above; gap = is.gap; cycle_below = is.cycle_below }

pub near : (timing : Timing) (c n : ℕ) → moment_in (from_stream timing) (c + 1) 0 < moment_in (from_stream timing) c n + 4096 * ten (form_of timing.recording)
    → burst_moment (schedule_in 0 timing) (window_in timing) (c + 1) 0 - burst_moment (schedule_in 0 timing) (window_in timing) c n < 4096 * ten (form_of timing.recording)
near timing c n below = omega (arith, ten_above (form_of timing.recording), below)

pub ten_most : (form : RecordingForm) → ten form ≤ 270000
ten_most plain = omega arith
ten_most stamped = omega arith
ten_most m2ts = omega arith

-- what the code counts
module _ (timing : Timing) (cycle packet a b now next sub : ℕ) (is : a ≡ cycle) (is2 : b ≡ cycle) (now_is : now ≡ burst_moment (schedule_in 0 timing) (window_in timing) a packet)
    (next_is : next ≡ burst_moment (schedule_in 0 timing) (window_in timing) (b + 1) 0) (sub_is : sub ≡ next - now) where
  pub between_is : sub ≡ burst_moment (schedule_in 0 timing) (window_in timing) (cycle + 1) 0 - burst_moment (schedule_in 0 timing) (window_in timing) cycle packet
  between_is =
      sub_is
      ∙ ap₂ (λ (m n : ℕ). m - n) (next_is ∙ ap (λ (c : ℕ). burst_moment (schedule_in 0 timing) (window_in timing) (c + 1) 0) is2)
      (now_is ∙ ap (λ (c : ℕ). burst_moment (schedule_in 0 timing) (window_in timing) c packet) is)

  pub below : moment_in (from_stream timing) (cycle + 1) 0 < moment_in (from_stream timing) cycle packet + 4096 * ten (form_of timing.recording)
      → sub < 4096 * ten (form_of timing.recording)
  below less = subst (λ (n : ℕ). n < 4096 * ten (form_of timing.recording)) (sym between_is) (near timing cycle packet less)
