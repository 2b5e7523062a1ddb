-- Sections that were accepted, by their numbers among all sections of frames, are those of their frames.
use Rattle.std.proofs.Common.{◌≡◌, ◌⊎◌, inl, inr, ℕ, zero, suc, ◌+◌, ◌<◌, ◌≤◌, List, [], ◌∷◌, ◌++◌, length, take, refl, ap, sym, ◌∙◌, subst, arith, length-append}
use Rattle.std.proofs.lemmas.Bool.{cases_eq}
use Rattle.std.proofs.lemmas.List.{get_or_append_left, get_or-append-add}
use Rattle.wire_spec.specs.Lists.{IsSubsequence}
use Rattle.channel_spec.specs.Carried.{IsRising}
use Rattle.channel_law.proofs.Member.{Member}
use Rattle.channel_law.proofs.Subsequences.{rising_member}
use Rattle.fec_frame_spec.specs.Sections.{TimedSection, sections_of}
use Rattle.fec_frame_spec.specs.Groups.{all_sections, section_at, frame_at, no_section}
use Rattle.fec_frame_law.specs.Kept.{AreKept, ArePaired, frame_start}

-- where the frames after the first one begin
pub start_behind : (frame : List TimedSection) (frames : List (List TimedSection)) (j : ℕ) → frame_start (frame ∷ frames) (suc j) ≡ length frame + frame_start frames j
start_behind frame frames j = length-append frame (all_sections (take j frames))

pub start_first : (frame : List TimedSection) (frames : List (List TimedSection)) → frame_start (frame ∷ frames) 1 ≡ length frame
start_first frame frames = omega (arith, start_behind frame frames 0)

pub start_next : (frame : List TimedSection) (frames : List (List TimedSection)) (i : ℕ) → frame_start (frame ∷ frames) (suc i + 1) ≡ length frame + frame_start frames (i + 1)
start_next frame frames i = let e : suc i + 1 ≡ suc (i + 1) = omega arith in ap (frame_start (frame ∷ frames)) e ∙ start_behind frame frames (i + 1)

-- the accepted section is section n, whatever else that says
module _ (all : List TimedSection) (Is : TimedSection → ℕ → Type 0) (alike : (s : TimedSection) (n : ℕ) → Is s n → s.section ≡ (section_at all n).section) where
  -- what was accepted of the sections of one frame, which begin with section k, and what is after it
  record Split (k : ℕ) (frame xs : List TimedSection) (numbers : List ℕ) : Type 0 where
    pub front : List TimedSection
    pub back : List TimedSection
    pub behind : List ℕ
    pub xs_are : xs ≡ front ++ back
    pub kept : IsSubsequence (sections_of front) (sections_of frame)
    pub back_are : ArePaired Is back behind
    pub rising : IsRising (k + length frame) behind
    pub among : (n : ℕ) → Member behind n → Member numbers n
    pub high : (n : ℕ) → Member numbers n → k + length frame ≤ n → Member behind n
    pub low : (n : ℕ) → Member numbers n → n < k + length frame → (s : TimedSection) × Member front s × Is s n
    pub some : (s : TimedSection) → Member front s → (n : ℕ) × Member numbers n × (n < k + length frame) × Is s n

  split : (frame : List TimedSection) (k : ℕ) (xs : List TimedSection) (numbers : List ℕ)
      → ((i : ℕ) → i < length frame → section_at all (k + i) ≡ section_at frame i)
      → IsRising k numbers → ArePaired Is xs numbers → Split k frame xs numbers
  split [] k xs numbers at rising same =
      let e : k ≡ k + 0 = omega arith in
      record {
        front = [];
        back = xs;
        behind = numbers;
        xs_are = refl;
        kept = tt;
        back_are = same;
        rising = subst (λ (t : ℕ). IsRising t numbers) e rising;
        among = λ n there. there;
        high = λ n there above. there;
        low = λ n there below. absurd (omega (arith, below, rising_member k numbers n rising there));
        some = λ s there. absurd there;
      }
  split (z ∷ frame) k [] [] at rising same = record {
    front = [];
    back = [];
    behind = [];
    xs_are = refl;
    kept = tt;
    back_are = tt;
    rising = tt;
    among = λ n there. there;
    high = λ n there above. there;
    low = λ n there below. absurd there;
    some = λ s there. absurd there;
  }
  split (z ∷ frame) k [] (n ∷ numbers) at rising same = absurd same
  split (z ∷ frame) k (x ∷ xs) [] at rising same = absurd same
  split (z ∷ frame) k (x ∷ xs) (n ∷ numbers) at rising same =
      by_first (cases_eq n k)
      (λ (first : n ≡ k). split frame (k + 1) xs numbers at_next (subst (λ (t : ℕ). IsRising (t + 1) numbers) first rising.1) rest_same)
      (λ (later : k < n). split frame (k + 1) (x ∷ xs) (n ∷ numbers) at_next (omega (arith, later), rising.1) same)
    where
      heads : Is x n
      heads = same.0

      rest_same : ArePaired Is xs numbers
      rest_same = same.1

      at_next : (i : ℕ) → i < length frame → section_at all (k + 1 + i) ≡ section_at frame i
      at_next i below = let e : k + 1 + i ≡ k + suc i = omega arith in ap (section_at all) e ∙ at (suc i) (omega (arith, below))

      size : k + 1 + length frame ≡ k + suc (length frame)
      size = omega arith

      taken : n ≡ k → Split (k + 1) frame xs numbers → Split k (z ∷ frame) (x ∷ xs) (n ∷ numbers)
      taken first rest =
          let zero_at : k + 0 ≡ k = omega arith in
          record {
            front = x ∷ rest.front;
            back = rest.back;
            behind = rest.behind;
            xs_are = ap (λ (l : List TimedSection). x ∷ l) rest.xs_are;
            kept = inl (alike x n heads ∙ ap (λ (m : ℕ). (section_at all m).section) (first ∙ sym zero_at) ∙ ap (λ (t : TimedSection). t.section) (at 0 (omega arith)), rest.kept);
            back_are = rest.back_are;
            rising = subst (λ (t : ℕ). IsRising t rest.behind) size rest.rising;
            among = λ m there. inr (rest.among m there);
            high = λ m there above. rest.high m (behind_first m there above) (omega (arith, above));
            low = low_all;
            some = some_all;
          }
        where
          behind_first : (m : ℕ) → Member (n ∷ numbers) m → k + suc (length frame) ≤ m → Member numbers m
          behind_first m (inl is) above = absurd (omega (arith, is, above, first))
          behind_first m (inr there) above = there

          low_all : (m : ℕ) → Member (n ∷ numbers) m → m < k + suc (length frame) → (s : TimedSection) × Member (x ∷ rest.front) s × Is s m
          low_all m (inl is) below = (x, inl refl, subst (Is x) is heads)
          low_all m (inr there) below = let found = rest.low m there (omega (arith, below)) in (found.0, inr found.1, found.2)

          some_all : (s : TimedSection) → Member (x ∷ rest.front) s → (m : ℕ) × Member (n ∷ numbers) m × (m < k + suc (length frame)) × Is s m
          some_all s (inl is) = (n, inl refl, omega (arith, first), subst (λ (t : TimedSection). Is t n) is heads)
          some_all s (inr there) = let found = rest.some s there in (found.0, inr found.1, omega (arith, found.2), found.3)

      passed : k < n → Split (k + 1) frame (x ∷ xs) (n ∷ numbers) → Split k (z ∷ frame) (x ∷ xs) (n ∷ numbers)
      passed later rest = record {
        front = rest.front;
        back = rest.back;
        behind = rest.behind;
        xs_are = rest.xs_are;
        kept = one_more rest.front rest.kept;
        back_are = rest.back_are;
        rising = subst (λ (t : ℕ). IsRising t rest.behind) size rest.rising;
        among = rest.among;
        high = λ m there above. rest.high m there (omega (arith, above));
        low = λ m there below. rest.low m there (omega (arith, below));
        some = λ s there. let found = rest.some s there in (found.0, found.1, omega (arith, found.2), found.3);
      }
        where
          one_more : (front : List TimedSection) → IsSubsequence (sections_of front) (sections_of frame) → IsSubsequence (sections_of front) (sections_of (z ∷ frame))
          one_more [] within = tt
          one_more (a ∷ front) within = inr within

      by_first : (n ≡ k) ⊎ (n ≡ k → ⊥) → (n ≡ k → Split (k + 1) frame xs numbers) → (k < n → Split (k + 1) frame (x ∷ xs) (n ∷ numbers)) → Split k (z ∷ frame) (x ∷ xs) (n ∷ numbers)
      by_first (inl first) take_it skip = taken first (take_it first)
      by_first (inr other) take_it skip = let later : k < n = omega (arith, rising.0, other) in passed later (skip later)

  -- what was accepted of frames, the first of which begins with section k
  pub record Parted (k : ℕ) (frames : List (List TimedSection)) (xs : List TimedSection) (numbers : List ℕ) : Type 0 where
    pub kept : List (List TimedSection)
    pub are : AreKept kept frames
    pub xs_are : xs ≡ all_sections kept
    pub of_numbers : (i : ℕ) (s : TimedSection) → Member (frame_at kept i) s
        → (n : ℕ) × Member numbers n × (i < length frames) × (k + frame_start frames i ≤ n) × (n < k + frame_start frames (i + 1)) × Is s n
    pub numbers_are : (i n : ℕ) → Member numbers n → i < length frames → k + frame_start frames i ≤ n → n < k + frame_start frames (i + 1)
        → (s : TimedSection) × Member (frame_at kept i) s × Is s n

  pub parted : (frames : List (List TimedSection)) (k : ℕ) (xs : List TimedSection) (numbers : List ℕ)
      → ((i : ℕ) → i < length (all_sections frames) → section_at all (k + i) ≡ section_at (all_sections frames) i)
      → IsRising k numbers → ((n : ℕ) → Member numbers n → n < k + length (all_sections frames)) → ArePaired Is xs numbers
      → Parted k frames xs numbers
  parted [] k [] numbers at rising below same = record {
    kept = [];
    are = tt;
    xs_are = refl;
    of_numbers = λ i s there. absurd there;
    numbers_are = λ i n there within from low. absurd (omega (arith, within));
  }
  parted [] k (x ∷ xs) [] at rising below same = absurd same
  parted [] k (x ∷ xs) (n ∷ numbers) at rising below same = absurd (omega (arith, rising.0, below n (inl refl)))
  parted (frame ∷ frames) k xs numbers at rising below same =
      with_split (split frame k xs numbers at_frame rising same) (λ (back : List TimedSection) (behind : List ℕ). parted frames (k + length frame) back behind)
    where
      at_frame : (i : ℕ) → i < length frame → section_at all (k + i) ≡ section_at frame i
      at_frame i inside =
          at i (omega (arith, inside, length-append frame (all_sections frames)))
          ∙ get_or_append_left frame (all_sections frames) no_section i inside

      at_rest : (i : ℕ) → i < length (all_sections frames) → section_at all (k + length frame + i) ≡ section_at (all_sections frames) i
      at_rest i inside =
          let e : k + length frame + i ≡ k + (length frame + i) = omega arith in
          ap (section_at all) e
          ∙ at (length frame + i) (omega (arith, inside, length-append frame (all_sections frames)))
          ∙ get_or-append-add frame (all_sections frames) i no_section

      with_split : (first : Split k frame xs numbers)
          → ((back : List TimedSection) (behind : List ℕ)
          → ((i : ℕ) → i < length (all_sections frames) → section_at all (k + length frame + i) ≡ section_at (all_sections frames) i)
          → IsRising (k + length frame) behind → ((n : ℕ) → Member behind n → n < k + length frame + length (all_sections frames)) → ArePaired Is back behind
          → Parted (k + length frame) frames back behind)
          → Parted k (frame ∷ frames) xs numbers
      with_split first later = with_rest (later first.back first.behind at_rest first.rising
          (λ n there. omega (arith, below n (first.among n there), length-append frame (all_sections frames))) first.back_are)
        where
          with_rest : Parted (k + length frame) frames first.back first.behind → Parted k (frame ∷ frames) xs numbers
          with_rest rest = record {
            kept = first.front ∷ rest.kept;
            are = (first.kept, rest.are);
            xs_are = first.xs_are ∙ ap (λ (l : List TimedSection). first.front ++ l) rest.xs_are;
            of_numbers = of_all;
            numbers_are = all_are;
          }
            where
              of_all : (i : ℕ) (s : TimedSection) → Member (frame_at (first.front ∷ rest.kept) i) s
                  → (n : ℕ) × Member numbers n × (i < suc (length frames)) × (k + frame_start (frame ∷ frames) i ≤ n) × (n < k + frame_start (frame ∷ frames) (i + 1)) × Is s n
              of_all zero s there =
                  let found = first.some s there in
                  (found.0, found.1, omega arith, omega (arith, rising_member k numbers found.0 rising found.1), omega (arith, found.2, start_first frame frames), found.3)
              of_all (suc i) s there =
                  let found = rest.of_numbers i s there in (
                    found.0,
                    first.among found.0 found.1,
                    omega (arith, found.2),
                    omega (arith, found.3, start_behind frame frames i),
                    omega (arith, found.4, start_next frame frames i),
                    found.5,
                  )

              all_are : (i n : ℕ) → Member numbers n → i < suc (length frames) → k + frame_start (frame ∷ frames) i ≤ n → n < k + frame_start (frame ∷ frames) (i + 1)
                  → (s : TimedSection) × Member (frame_at (first.front ∷ rest.kept) i) s × Is s n
              all_are zero n there within from low = first.low n there (omega (arith, low, start_first frame frames))
              all_are (suc i) n there within from low =
                  rest.numbers_are i n (first.high n there (omega (arith, from, start_behind frame frames i)))
                  (omega (arith, within)) (omega (arith, from, start_behind frame frames i)) (omega (arith, low, start_next frame frames i))
