use Rattle.std.proofs.Common.{◌≡◌, ℕ, zero, suc, ◌+◌, Bool, true, false, not, ◌&&◌, cond, List, [], ◌∷◌, ◌++◌, length, refl, ap, ◌∙◌}
use Rattle.std.specs.List.{count_by}
use Rattle.std.proofs.lemmas.List.{length_push}
use Rattle.std.proofs.lemmas.List.Sums.{sum_by_push}
use Rattle.plan_spec.specs.Plan.{PlanFields, isis}
use Rattle.gse_spec.specs.Frame.{is_frame}
use Rattle.gse_spec.specs.Received.{is_foreign}
use Rattle.gse_spec.specs.Numbers.{refused_frames, other_frames}
use Rattle.bb_reception_spec.specs.Numbers.{RecordingNumbers, recording_numbers}
use Rattle.bb_reception_law.proofs.numbers.recordings_are_counted_frame_by_frame.Goals as goal

-- one more is counted, where the test holds of it
one_more : (p : List ℕ → Bool) (frames : List (List ℕ)) (b : List ℕ) → count_by p (frames ++ b ∷ []) ≡ count_by p frames + cond (p b) 1 0
one_more p frames b = sum_by_push (λ x. cond (p x) 1 0) frames b

turned : (t : Bool) → cond (not t) (suc zero) zero ≡ cond t zero (suc zero)
turned true = refl
turned false = refl

abbrev numbers : ℕ → ℕ → ℕ → RecordingNumbers
numbers frames unreadable other = record { frames = frames; unreadable = unreadable; other = other }

pub returns : goal.returns
returns c = record {
  none = λ plan. refl;
  more = λ plan frames b.
      ap (λ (n : ℕ). numbers n (refused_frames (frames ++ b ∷ [])) (other_frames (isis plan) (frames ++ b ∷ []))) (length_push frames b)
      ∙ ap (λ (n : ℕ). numbers (length frames + 1) n (other_frames (isis plan) (frames ++ b ∷ [])))
      (one_more (λ x. not (is_frame x)) frames b ∙ ap (λ (n : ℕ). refused_frames frames + n) (turned (is_frame b)))
      ∙ ap (numbers (length frames + 1) (refused_frames frames + cond (is_frame b) 0 1)) (one_more (λ x. is_frame x && is_foreign (isis plan) x) frames b);
}
