use Rattle.std.proofs.Common.{◌≡◌, inl, inr, ℕ, ◌<◌, true, List, [], ◌∷◌, refl, sym, subst, arith}
use Rattle.std.specs.Prelude.{Contains}
use Rattle.ts_spec.specs.Recording.{stamped}
use Rattle.channel_law.proofs.Member.{Member, member_contains}
use Rattle.slice_spec.specs.Bursts.{Slicing}
use Rattle.slice_law.specs.Cycles.{bursts_from}
use Rattle.slice_law.proofs.Rows.{in_a_row}
use Rattle.stream_law.specs.Times.{times_over, TimesOfService, frames_that_move}
use Rattle.stream_law.proofs.TimesOver.{timed_over, last_over}
use Rattle.stream_law.proofs.times.frames_that_move_are_timed_together.Goals as goal

abbrev windows : Slicing
windows = record { form = stamped; rate = 10000; cycle = 20000; start = 100; length = 1500 }

abbrev places : List (List ℕ)
places = (0 ∷ 7 ∷ []) ∷ (0 ∷ []) ∷ []

two_below : (p : ℕ) → Member (0 ∷ 7 ∷ []) p → p < 1500
two_below p (inl e) = omega (arith, e)
two_below p (inr (inl e)) = omega (arith, e)
two_below p (inr (inr none)) = absurd none

one_below : (p : ℕ) → Member (0 ∷ []) p → p < 1500
one_below p (inl e) = omega (arith, e)
one_below p (inr none) = absurd none

below : (frame : List ℕ) (place : ℕ) → Contains places frame → Contains frame place → place < 1500
below frame place one two = by_frame (member_contains places frame one) (member_contains frame place two)
  where
    by_frame : Member places frame → Member frame place → place < 1500
    by_frame (inl same) there = two_below place (subst (λ (f : List ℕ). Member f place) (sym same) there)
    by_frame (inr (inl same)) there = one_below place (subst (λ (f : List ℕ). Member f place) (sym same) there)
    by_frame (inr (inr none)) there = absurd none

differ : (m n : ℕ) → n < m → m ≡ n → ⊥
differ m n less e = absurd (omega (arith, less, e))

-- without the second frame the first one would have to announce none
alone : TimesOfService stamped true (512 ∷ []) frames_that_move → ⊥
alone it = differ 200 0 (omega arith) ((it.last refl 0 (record { moment = 10000; delta = 200 }) (0, omega arith, refl)).1 refl)

-- turned round, a frame that announces none comes before the last
turned : TimesOfService stamped true (514 ∷ 512 ∷ []) frames_that_move → ⊥
turned it = differ 2 1 (omega arith) ((it.last refl 0 (record { moment = 2010000; delta = 0 }) (0, omega arith, refl)).0 refl)

pub returns : goal.returns
returns c = record {
  times = refl;
  together = record {
    timed = timed_over windows c.two_bursts_announce_their_times.ensures.sliceable (bursts_from 0 places) (in_a_row windows 0 places below)
        (times_over (512 ∷ 514 ∷ []) frames_that_move) (sym c.two_bursts_announce_their_times.ensures.times);
    last = λ e i x there.
        last_over windows c.two_bursts_announce_their_times.ensures.sliceable (bursts_from 0 places) (in_a_row windows 0 places below)
        (times_over (512 ∷ 514 ∷ []) frames_that_move) (sym c.two_bursts_announce_their_times.ensures.times) i x there;
  };
  alone = alone;
  turned = turned;
}
