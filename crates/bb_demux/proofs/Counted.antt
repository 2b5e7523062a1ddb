-- The counts of a recording, with one frame more.
use Rattle.std.proofs.Common.{◌≡◌, ℕ, ◌+◌, ◌-◌, ◌^◌, ◌<◌, Bool, true, false, not, ◌&&◌, cond, List, [], ◌∷◌, ◌++◌, length, refl, ap, ap₂, sym, ◌∙◌, arith}
use Rattle.std.specs.Prelude.{min}
use Rattle.std.specs.List.{count_by}
use Rattle.std.proofs.lemmas.List.{length_push}
use Rattle.std.proofs.lemmas.List.Sums.{sum_by_push, count_by-le-length}
use Rattle.plan_spec.specs.Plan.{PlanFields, isis}
use Rattle.gse_spec.specs.Frame.{is_frame}
use Rattle.gse_spec.specs.Received.{is_foreign}
use Rattle.bb_reception_spec.specs.Numbers.{recording_numbers}
use Rattle.loss_report.specs.declared.counts.StreamCounts.{StreamCounts}
use Rattle.bb_demux.specs.Counts.{stream_counts_of}

abbrev pub raised_to : ℕ → ℕ → Type 0
raised_to n old = n ≡ min (old + 1) (2 ^ 64 - 1)

abbrev is_refused : List ℕ → Bool
is_refused b = not (is_frame b)

abbrev is_other : PlanFields → List ℕ → Bool
is_other plan b = is_frame b && is_foreign (isis plan) b

abbrev counts : ℕ → ℕ → ℕ → StreamCounts
counts frames unreadable other = record { records = frames; tail_bytes = 0; unreadable = unreadable; without_payload = 0; other = other }

module _ (plan : PlanFields) (frames : List (List ℕ)) (b : List ℕ) (s : StreamCounts) (are : s ≡ stream_counts_of (recording_numbers plan frames)) (few : s.records < 2 ^ 32) where
  pub count_is : s.records ≡ length frames
  count_is = ap (λ (t : StreamCounts). t.records) are

  pub few_frames : length frames < 2 ^ 32
  few_frames = omega (arith, count_is, few)

  raised_is : (n old : ℕ) (p : List ℕ → Bool) → raised_to n old → old ≡ count_by p frames → p b ≡ true → n ≡ count_by p (frames ++ b ∷ [])
  raised_is n old p raised is own =
      let less : old < 2 ^ 32 = omega (arith, is, count_by-le-length p frames, few_frames) in
      let next : min (old + 1) (2 ^ 64 - 1) ≡ old + 1 = grind (arith, less) in
      raised ∙ next ∙ ap (λ (t : ℕ). t + 1) is ∙ ap (λ (t : Bool). count_by p frames + cond t 1 0) (sym own) ∙ sym (sum_by_push (λ x. cond (p x) 1 0) frames b)

  kept_is : (old : ℕ) (p : List ℕ → Bool) → old ≡ count_by p frames → p b ≡ false → old ≡ count_by p (frames ++ b ∷ [])
  kept_is old p is off =
      let same : count_by p frames ≡ count_by p frames + 0 = omega arith in
      is ∙ same ∙ ap (λ (t : Bool). count_by p frames + cond t 1 0) (sym off) ∙ sym (sum_by_push (λ x. cond (p x) 1 0) frames b)

  together : (u o : ℕ) → u ≡ count_by is_refused (frames ++ b ∷ []) → o ≡ count_by (is_other plan) (frames ++ b ∷ [])
      → record { records = s.records + 1; tail_bytes = s.tail_bytes; unreadable = u; without_payload = s.without_payload; other = o } ≡ stream_counts_of (recording_numbers plan (frames ++ b ∷ []))
  together u o eu eo =
      ap₂ (λ (x y : ℕ). record { records = s.records + 1; tail_bytes = x; unreadable = u; without_payload = y; other = o })
      (ap (λ (t : StreamCounts). t.tail_bytes) are) (ap (λ (t : StreamCounts). t.without_payload) are)
      ∙ ap (λ (x : ℕ). counts x u o) (ap (λ (n : ℕ). n + 1) count_is ∙ sym (length_push frames b))
      ∙ ap₂ (counts (length (frames ++ b ∷ []))) eu eo

  unreadable_are : s.unreadable ≡ count_by is_refused frames
  unreadable_are = ap (λ (t : StreamCounts). t.unreadable) are

  other_are : s.other ≡ count_by (is_other plan) frames
  other_are = ap (λ (t : StreamCounts). t.other) are

  no_other : (t r : Bool) → r ≡ false → (r && t) ≡ false
  no_other t true is = absurd (cc)
  no_other t false is = refl

  pub refused_more : (n : ℕ) → raised_to n s.unreadable → is_frame b ≡ false
      → record { records = s.records + 1; tail_bytes = s.tail_bytes; unreadable = n; without_payload = s.without_payload; other = s.other } ≡ stream_counts_of (recording_numbers plan (frames ++ b ∷ []))
  refused_more n raised refused =
      together n s.other (raised_is n s.unreadable is_refused raised unreadable_are (ap not refused))
      (kept_is s.other (is_other plan) other_are (no_other (is_foreign (isis plan) b) (is_frame b) refused))

  pub other_more : (n : ℕ) → raised_to n s.other → is_frame b ≡ true → is_foreign (isis plan) b ≡ true
      → record { records = s.records + 1; tail_bytes = s.tail_bytes; unreadable = s.unreadable; without_payload = s.without_payload; other = n } ≡ stream_counts_of (recording_numbers plan (frames ++ b ∷ []))
  other_more n raised readable off =
      together s.unreadable n (kept_is s.unreadable is_refused unreadable_are (ap not readable))
      (raised_is n s.other (is_other plan) raised other_are (ap₂ (λ (x y : Bool). x && y) readable off))

  pub own_more : is_frame b ≡ true → is_foreign (isis plan) b ≡ false
      → record { records = s.records + 1; tail_bytes = s.tail_bytes; unreadable = s.unreadable; without_payload = s.without_payload; other = s.other } ≡ stream_counts_of (recording_numbers plan (frames ++ b ∷ []))
  own_more readable on =
      together s.unreadable s.other (kept_is s.unreadable is_refused unreadable_are (ap not readable))
      (kept_is s.other (is_other plan) other_are (ap₂ (λ (x y : Bool). x && y) readable on))
