-- The frames of a service over all its PIDs: their times.
use Rattle.std.proofs.Common.{◌≡◌, inl, inr, ℕ, zero, suc, ◌+◌, ◌%◌, ◌≤◌, Bool, false, ltb, List, [], ◌∷◌, ◌++◌, length, refl, sym, ap, ap₂, subst, ◌∙◌, arith}
use Rattle.std.specs.Prelude.{◌↔◌, flat_map, sum_by, Contains}
use Rattle.std.specs.List.{range_with_len}
use Rattle.std.proofs.lemmas.List.{append-nil}
use Rattle.std.proofs.lemmas.Grind.{flat_map-append}
use Rattle.channel_law.proofs.Member.{Member}
use Rattle.slice_spec.specs.Moments.{ten}
use Rattle.slice_spec.specs.Sections.{SectionTime}
use Rattle.slice_spec.specs.Frames.{IsOf, IsTimed, IsIndexed}
use Rattle.slice_spec.specs.Bursts.{Slicing, Burst, times_of, AreInWindows, IsSliceable}
use Rattle.slice_law.proofs.Timed.{timed, last_alone, last_none}
use Rattle.slice_law.proofs.Segments.{times_of-append}
use Rattle.stream_law.proofs.Ranges.{range_append, sum_next}

-- what is the same of each PID of a list
pub same_on_pids : {X : Type 0} (f g : ℕ → List X) (pids : List ℕ) → ((pid : ℕ) → Member pids pid → f pid ≡ g pid) → flat_map f pids ≡ flat_map g pids
same_on_pids f g [] each = refl
same_on_pids {X} f g (pid ∷ pids) each =
    ap₂ (λ (a b : List X). a ++ b) (each pid (inl refl)) (same_on_pids f g pids (λ p there. each p (inr there)))

-- Without time slicing: frames with these numbers.
abbrev pub AreNumbered : List ℕ → List (List SectionTime) → Type 0
AreNumbered [] [] = Unit {0}
AreNumbered [] (frame ∷ frames) = ⊥
AreNumbered (n ∷ numbers) [] = ⊥
AreNumbered (n ∷ numbers) (frame ∷ frames) = ((x : SectionTime) → Contains frame x → x.delta ≡ n % 4096) × AreNumbered numbers frames

numbered_both : (m n : List ℕ) (a b : List (List SectionTime)) → AreNumbered m a → AreNumbered n b → AreNumbered (m ++ n) (a ++ b)
numbered_both [] n [] b first second = second
numbered_both [] n (frame ∷ a) b first second = absurd first
numbered_both (i ∷ m) n [] b first second = absurd first
numbered_both (i ∷ m) n (frame ∷ a) b first second = (first.0, numbered_both m n a b first.1 second)

numbered_on_pids : (numbers : ℕ → List ℕ) (frames : ℕ → List (List SectionTime)) (pids : List ℕ)
    → ((pid : ℕ) → Member pids pid → AreNumbered (numbers pid) (frames pid)) → AreNumbered (flat_map numbers pids) (flat_map frames pids)
numbered_on_pids numbers frames [] each = tt
numbered_on_pids numbers frames (pid ∷ pids) each =
    numbered_both (numbers pid) (flat_map numbers pids) (frames pid) (flat_map frames pids) (each pid (inl refl))
    (numbered_on_pids numbers frames pids (λ p there. each p (inr there)))

-- frames whose numbers follow each other
pub index_is : (first m : ℕ) (frames : List (List SectionTime)) → AreNumbered (range_with_len first m) frames → (i : ℕ) (x : SectionTime) → IsOf frames i x
    → x.delta ≡ (first + i) % 4096
index_is first zero [] are i x is = absurd (omega (arith, is.1))
index_is first zero (frame ∷ frames) are i x is = absurd are
index_is first (suc m) [] are i x is = absurd are
index_is first (suc m) (frame ∷ frames) are zero x is = let none : first ≡ first + 0 = omega arith in are.0 x is ∙ ap (λ (n : ℕ). n % 4096) none
index_is first (suc m) (frame ∷ frames) are (suc i) x is =
    let next : first + 1 + i ≡ first + suc i = omega arith in
    index_is (first + 1) m frames are.1 i x is ∙ ap (λ (n : ℕ). n % 4096) next

-- the numbers of versions that follow each other
module _ (count : ℕ → ℕ) where
  abbrev pub numbers_in : ℕ → List ℕ
  numbers_in v = range_with_len (sum_by count (range_with_len 0 v)) (count v)

  numbers_go_on : (n : ℕ) → flat_map numbers_in (range_with_len 0 n) ≡ range_with_len 0 (sum_by count (range_with_len 0 n))
  numbers_go_on zero = refl
  numbers_go_on (suc n) =
      let one : suc n ≡ n + 1 = omega arith in
      ap (flat_map numbers_in) (ap (range_with_len 0) one ∙ range_append 0 n 1 n (omega arith))
      ∙ flat_map-append numbers_in (range_with_len 0 n) (n ∷ [])
      ∙ ap₂ (λ (a b : List ℕ). a ++ b) (numbers_go_on n) (append-nil (numbers_in n))
      ∙ sym (ap (range_with_len 0) (ap (λ (m : ℕ). sum_by count (range_with_len 0 m)) one ∙ sum_next count n)
      ∙ range_append 0 (sum_by count (range_with_len 0 n)) (count n) (sum_by count (range_with_len 0 n)) (omega arith))

  -- the frames on all PIDs, whose numbers are those of all versions
  pub indexed_over : (n : ℕ) (pids : List ℕ) (numbers : ℕ → List ℕ) (frames : ℕ → List (List SectionTime))
      → flat_map numbers pids ≡ flat_map numbers_in (range_with_len 0 n)
      → ((pid : ℕ) → Member pids pid → AreNumbered (numbers pid) (frames pid)) → IsIndexed 0 (flat_map frames pids)
  indexed_over n pids numbers frames all each = record {
    index = index_is 0 (sum_by count (range_with_len 0 n)) (flat_map frames pids)
        (subst (λ (l : List ℕ). AreNumbered l (flat_map frames pids)) (all ∙ numbers_go_on n) (numbered_on_pids numbers frames pids each));
  }

-- With time slicing: the bursts of versions that follow each other, where each says whether others follow.
pub times_all : (s : Slicing) (goes_on : ℕ → Bool) (bursts : ℕ → List Burst) (n a : ℕ)
    → ((v m : ℕ) → a ≤ v → v + 1 + m ≡ a + n → goes_on v ≡ ltb 0 (length (flat_map bursts (range_with_len (v + 1) m))))
    → flat_map (λ v. times_of s (goes_on v) (bursts v)) (range_with_len a n) ≡ times_of s false (flat_map bursts (range_with_len a n))
times_all s goes_on bursts zero a each = refl
times_all s goes_on bursts (suc n) a each =
    ap₂ (λ (g : Bool) (l : List (List SectionTime)). times_of s g (bursts a) ++ l) (each a n (omega arith) (omega arith))
    (times_all s goes_on bursts n (a + 1) (λ v m from e. each v m (omega (arith, from)) (omega (arith, e))))
    ∙ sym (times_of-append s false (bursts a) (flat_map bursts (range_with_len (a + 1) n)))

length-times : (s : Slicing) (bursts : List Burst) → length (times_of s false bursts) ≡ length bursts
length-times s [] = refl
length-times s (burst ∷ bursts) = ap suc (length-times s bursts)

module _ (s : Slicing) (fits : IsSliceable s) (bursts : List Burst) (are : AreInWindows s bursts) (frames : List (List SectionTime))
    (frames_are : frames ≡ times_of s false bursts) where
  pub timed_over : IsTimed (ten s.form) frames
  timed_over = subst (IsTimed (ten s.form)) (sym frames_are) (timed s fits bursts are)

  pub last_over : (i : ℕ) (x : SectionTime) → IsOf frames i x → (x.delta ≡ 0 ↔ length frames ≡ i + 1)
  last_over i x is = (
    λ none. length-frames ∙ last_alone s fits bursts are i x there none,
    λ last. last_none s fits bursts are i x there (sym length-frames ∙ last),
  )
    where
      length-frames : length frames ≡ length bursts
      length-frames = ap (λ (l : List (List SectionTime)). length l) frames_are ∙ length-times s bursts

      there : IsOf (times_of s false bursts) i x
      there = subst (λ (l : List (List SectionTime)). IsOf l i x) frames_are is
