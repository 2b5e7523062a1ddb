-- Sections of two frames are cut from one another, by their numbers or their moments; those of one frame are not.
use Rattle.std.proofs.Common.{◌≡◌, ◌⊎◌, inl, inr, ℕ, zero, suc, ◌+◌, ◌*◌, ◌%◌, ◌<◌, ◌≤◌, true, false, ◌&&◌, eqb, ltb, leb, List, [], ◌∷◌, length, get_or, map, refl, ap, sym, ◌∙◌, subst, arith, le-leb, lt-ltb}
use Rattle.std.proofs.lemmas.Bool.{lt-leb, cases_lt, or_left, and_from, and_left, and_right, ne_eqb, eq-eqb, not_from_true, not_from_false, le-ltb}
use Rattle.wire_spec.specs.Lists.{IsSubsequence}
use Rattle.channel_law.proofs.Member.{Member, member_map, contains_member}
use Rattle.slice_spec.specs.Sections.{Timing, indexed, sliced, is_parted}
use Rattle.slice_spec.specs.Frames.{IsOf, HasTiming}
use Rattle.fec_frame_spec.specs.Sections.{TimedSection, time_of, times_of, sections_of, real_time_in}
use Rattle.fec_frame_spec.specs.Groups.{all_sections, is_cut_by_table, last_section, frame_at, received_frames}
use Rattle.fec_frame_spec.specs.Frame.{FrameFields, IsSentFrame, AreSentFrames}
use Rattle.fec_frame_law.specs.Kept.{AreKept, AreKeptOften, accepted_frames}
use Rattle.fec_frame_law.proofs.Groups.{AreUncut, IsCutOff, AreParted, parted_received}
use Rattle.fec_frame_law.proofs.Within.{last_member, frame_uncut}

-- Frames by their number.

pub kept_at : (kept frames : List (List TimedSection)) → AreKept kept frames → (n : ℕ) → IsSubsequence (sections_of (frame_at kept n)) (sections_of (frame_at frames n))
kept_at [] [] are n = tt
kept_at [] (frame ∷ frames) are n = absurd are
kept_at (k ∷ kept) [] are n = absurd are
kept_at (k ∷ kept) (frame ∷ frames) are zero = are.0
kept_at (k ∷ kept) (frame ∷ frames) are (suc n) = kept_at kept frames are.1 n

pub kept_long : (kept frames : List (List TimedSection)) → AreKept kept frames → length kept ≡ length frames
kept_long [] [] are = refl
kept_long [] (frame ∷ frames) are = absurd are
kept_long (k ∷ kept) [] are = absurd are
kept_long (k ∷ kept) (frame ∷ frames) are = ap (λ (n : ℕ). suc n) (kept_long kept frames are.1)

pub sent_at : (rows : ℕ) (sent : List FrameFields) (frames : List (List TimedSection)) → AreSentFrames rows sent frames → (n : ℕ) → n < length frames
    → (frame : FrameFields) × IsSentFrame rows frame (sections_of (frame_at frames n))
sent_at rows [] [] are n within = absurd (omega (arith, within))
sent_at rows [] (sections ∷ frames) are n within = absurd are
sent_at rows (frame ∷ sent) [] are n within = absurd are
sent_at rows (frame ∷ sent) (sections ∷ frames) are zero within = (frame, are.0)
sent_at rows (frame ∷ sent) (sections ∷ frames) are (suc n) within = sent_at rows sent frames are.1 n (omega (arith, within))

-- a frame that has a section is one of them
pub number_within : (frames : List (List TimedSection)) (n : ℕ) (s : TimedSection) → Member (frame_at frames n) s → n < length frames
number_within [] n s there = absurd there
number_within (frame ∷ frames) zero s there = omega arith
number_within (frame ∷ frames) (suc n) s there = omega (arith, number_within frames n s there)

-- Kept sections, one by one.

-- each is one of its frame
pub kept_from : (kept frame : List TimedSection) → IsSubsequence (sections_of kept) (sections_of frame) → (s : TimedSection) → Member kept s
    → (t : TimedSection) × Member frame t × (s.section ≡ t.section)
kept_from [] frame within s there = absurd there
kept_from (x ∷ kept) [] within s there = absurd within
kept_from (x ∷ kept) (y ∷ frame) (inl taken) s (inl same) = (y, inl refl, ap (λ (t : TimedSection). t.section) (sym same) ∙ taken.0)
kept_from (x ∷ kept) (y ∷ frame) (inl taken) s (inr there) = let found = kept_from kept frame taken.1 s there in (found.0, inr found.1, found.2)
kept_from (x ∷ kept) (y ∷ frame) (inr later) s there = let found = kept_from (x ∷ kept) frame later s there in (found.0, inr found.1, found.2)

-- Frames that are apart are received as they were sent.

module _ (timing : Timing) (rows : ℕ) (kept : List (List TimedSection))
    (apart : (n l : ℕ) → n < l → ((i : ℕ) → n < i → i < l → frame_at kept i ≡ []) → (s x : TimedSection) → Member (frame_at kept n) s → Member (frame_at kept l) x
    → is_parted timing (time_of s) (time_of x) ≡ true)
    (uncut : (n : ℕ) (x : TimedSection) (sections : List TimedSection) → frame_at kept n ≡ x ∷ sections → AreUncut timing rows (x ∷ []) sections) where
  cut_off : (rest : List (List TimedSection)) (n l : ℕ) (s : TimedSection) (group : List TimedSection) → frame_at kept n ≡ s ∷ group → n < l
      → ((i : ℕ) → n < i → i < l → frame_at kept i ≡ []) → ((i : ℕ) → frame_at rest i ≡ frame_at kept (l + i)) → IsCutOff timing rows (s ∷ group) rest
  cut_off [] n l s group here less none at = tt
  cut_off ([] ∷ rest) n l s group here less none at =
      cut_off rest n (l + 1) s group here (omega arith) none_more (λ i. let e : l + suc i ≡ l + 1 + i = omega arith in at (suc i) ∙ ap (frame_at kept) e)
    where
      none_more : (i : ℕ) → n < i → i < l + 1 → frame_at kept i ≡ []
      none_more i above below = by_order (cases_lt i l)
        where
          by_order : (i < l) ⊎ (l ≤ i) → frame_at kept i ≡ []
          by_order (inl before) = none i above before
          by_order (inr order) = let e : i ≡ l + 0 = omega (arith, order, below) in ap (frame_at kept) e ∙ sym (at 0)
  cut_off ((x ∷ sections) ∷ rest) n l s group here less none at =
      let e : l + 0 ≡ l = omega arith in
      or_left (is_parted timing (time_of (last_section s group)) (time_of x)) (is_cut_by_table rows (sections_of (s ∷ group)) x.section)
      (apart n l less none (last_section s group) x
      (subst (λ (g : List TimedSection). Member g (last_section s group)) (sym here) (last_member s group))
      (subst (λ (g : List TimedSection). Member g x) (at 0 ∙ ap (frame_at kept) e) (inl refl)))

  parted_from : (rest : List (List TimedSection)) (l : ℕ) → ((i : ℕ) → frame_at rest i ≡ frame_at kept (l + i)) → AreParted timing rows rest
  parted_from [] l at = tt
  parted_from ([] ∷ rest) l at = parted_from rest (l + 1) (λ i. let e : l + suc i ≡ l + 1 + i = omega arith in at (suc i) ∙ ap (frame_at kept) e)
  parted_from ((x ∷ sections) ∷ rest) l at =
      let e : l + 0 ≡ l = omega arith in
      let here : frame_at kept l ≡ x ∷ sections = ap (frame_at kept) (sym e) ∙ sym (at 0) in
      let behind : (i : ℕ) → frame_at rest i ≡ frame_at kept (l + 1 + i) = λ i. let n : l + suc i ≡ l + 1 + i = omega arith in at (suc i) ∙ ap (frame_at kept) n in (
        uncut l x sections here,
        cut_off rest l (l + 1) x sections here (omega arith) (λ i above below. absurd (omega (arith, above, below))) behind,
        parted_from rest (l + 1) behind,
      )

  pub apart_received : received_frames timing rows (all_sections kept) ≡ accepted_frames kept
  apart_received = parted_received timing rows kept (parted_from kept 0 (λ i. let e : i ≡ 0 + i = omega arith in ap (frame_at kept) e))

-- Timed frames.

-- a section of frame n has its time among those of frame n
pub is_of : (frames : List (List TimedSection)) (n : ℕ) (t : TimedSection) → Member (frame_at frames n) t → Member (get_or (map times_of frames) n []) (time_of t)
is_of [] n t there = absurd there
is_of (frame ∷ frames) zero t there = member_map time_of frame t there
is_of (frame ∷ frames) (suc n) t there = is_of frames n t there

pub times_long : (frames : List (List TimedSection)) → length (map times_of frames) ≡ length frames
times_long [] = refl
times_long (frame ∷ frames) = ap (λ (n : ℕ). suc n) (times_long frames)

abbrev pub delta_of : TimedSection → ℕ
delta_of s = (real_time_in s.section).delta

module _ (first : ℕ) (kept : List (List TimedSection)) (n l : ℕ) (s x : TimedSection) (in_s : Member (frame_at kept n) s) (in_x : Member (frame_at kept l) x) where
  of_s : IsOf (map times_of kept) n (time_of s)
  of_s = contains_member (get_or (map times_of kept) n []) (time_of s) (is_of kept n s in_s)

  of_x : IsOf (map times_of kept) l (time_of x)
  of_x = contains_member (get_or (map times_of kept) l []) (time_of x) (is_of kept l x in_x)

  -- two of one frame are not separated
  together : (timing : Timing) → HasTiming timing first (map times_of kept) → n ≡ l → is_parted timing (time_of s) (time_of x) ≡ false
  together indexed timed same =
      not_from_true (eqb (delta_of s) (delta_of x))
      (eq-eqb (delta_of s) (delta_of x) (timed.index n (time_of s) of_s ∙ ap (λ (i : ℕ). (first + i) % 4096) same ∙ sym (timed.index l (time_of x) of_x)))
  together (sliced ten) timed same = by_delta (cases_lt 0 (delta_of s))
    where
      in_one : IsOf (map times_of kept) n (time_of x)
      in_one = subst (λ (i : ℕ). IsOf (map times_of kept) i (time_of x)) (sym same) of_x

      by_delta : (0 < delta_of s) ⊎ (delta_of s ≤ 0) → (ltb 0 (delta_of s) && leb (s.moment + ten * delta_of s) x.moment) ≡ false
      by_delta (inl some) =
          and_right (ltb 0 (delta_of s)) (leb (s.moment + ten * delta_of s) x.moment)
          (lt-leb (s.moment + ten * delta_of s) x.moment (timed.within n (time_of s) (time_of x) of_s in_one some))
      by_delta (inr none) = and_left (ltb 0 (delta_of s)) (leb (s.moment + ten * delta_of s) x.moment) (le-ltb 0 (delta_of s) none)

  -- two of different frames are
  different : (timing : Timing) → HasTiming timing first (map times_of kept) → n < l → (timing ≡ indexed → l < n + 4096)
      → is_parted timing (time_of s) (time_of x) ≡ true
  different indexed timed less near =
      not_from_false (eqb (delta_of s) (delta_of x)) (ne_eqb (delta_of s) (delta_of x) (λ same. omega (arith, same, number_s, number_x, less, near refl)))
    where
      number_s : delta_of s ≡ (first + n) % 4096
      number_s = timed.index n (time_of s) of_s

      number_x : delta_of x ≡ (first + l) % 4096
      number_x = timed.index l (time_of x) of_x
  different (sliced ten) timed less near =
      and_from (ltb 0 (delta_of s)) (leb (s.moment + ten * delta_of s) x.moment) (lt-ltb 0 (delta_of s) some)
      (le-leb (s.moment + ten * delta_of s) x.moment (timed.after n l (time_of s) (time_of x) less of_s of_x some))
    where
      some : 0 < delta_of s
      some = by_delta (cases_lt 0 (delta_of s))
        where
          by_delta : (0 < delta_of s) ⊎ (delta_of s ≤ 0) → 0 < delta_of s
          by_delta (inl above) = above
          by_delta (inr none) =
              let zero_is : delta_of s ≡ 0 = omega (arith, none) in
              absurd (omega (arith, less, number_within kept l x in_x, timed.last n (time_of s) of_s zero_is, times_long kept))

module _ (timing : Timing) (first : ℕ) (kept frames : List (List TimedSection)) (are : AreKept kept frames) (timed : HasTiming timing first (map times_of kept)) where
  kept_together : (n : ℕ) (s x : TimedSection) → Member (frame_at kept n) s → Member (frame_at kept n) x → is_parted timing (time_of s) (time_of x) ≡ false
  kept_together n s x in_s in_x = together first kept n n s x in_s in_x timing timed refl

  some : (n : ℕ) (s : TimedSection) → Member (frame_at kept n) s → 0 < length (frame_at kept n)
  some n s there = has_some (frame_at kept n) there
    where
      has_some : (xs : List TimedSection) → Member xs s → 0 < length xs
      has_some [] never = absurd never
      has_some (y ∷ ys) found = omega arith

  near : AreKeptOften kept → (n l : ℕ) → n < l → ((i : ℕ) → n < i → i < l → frame_at kept i ≡ [])
      → (s x : TimedSection) → Member (frame_at kept n) s → Member (frame_at kept l) x → l < n + 4096
  near often n l less none s x in_s in_x = by_order (cases_lt l (n + 4096))
    where
      by_order : (l < n + 4096) ⊎ (n + 4096 ≤ l) → l < n + 4096
      by_order (inl close) = close
      by_order (inr far) =
          let one = often.one n l (n + 1) (omega arith) (omega (arith, far)) (number_within kept l x in_x) (some n s in_s) (some l x in_x) in
          absurd (omega (arith, one.3, ap (λ (g : List TimedSection). length g) (none one.0 (omega (arith, one.1)) (omega (arith, one.2, far)))))

  kept_apart : (timing ≡ indexed → AreKeptOften kept) → (n l : ℕ) → n < l → ((i : ℕ) → n < i → i < l → frame_at kept i ≡ [])
      → (s x : TimedSection) → Member (frame_at kept n) s → Member (frame_at kept l) x → is_parted timing (time_of s) (time_of x) ≡ true
  kept_apart often n l less none s x in_s in_x =
      different first kept n l s x in_s in_x timing timed less (λ is. near (often is) n l less none s x in_s in_x)

  module _ (rows : ℕ) (sent : List FrameFields) (sent_are : AreSentFrames rows sent frames) where
    kept_uncut : (n : ℕ) (x : TimedSection) (sections : List TimedSection) → frame_at kept n ≡ x ∷ sections → AreUncut timing rows (x ∷ []) sections
    kept_uncut n x sections here =
        let there : Member (frame_at kept n) x = subst (λ (g : List TimedSection). Member g x) (sym here) (inl refl) in
        let frame = sent_at rows sent frames sent_are n (omega (arith, number_within kept n x there, kept_long kept frames are)) in
        frame_uncut rows frame.0 (frame.1).is timing (frame_at kept n) (kept_together n) (sections_of (frame_at frames n)) (frame.1).sections_are x sections here
        (subst (λ (g : List TimedSection). IsSubsequence (sections_of g) (sections_of (frame_at frames n))) here (kept_at kept frames are n))

    -- the received frames are the sent ones of which a section was accepted
    pub received_sent : (timing ≡ indexed → AreKeptOften kept) → received_frames timing rows (all_sections kept) ≡ accepted_frames kept
    received_sent often = apart_received timing rows kept (kept_apart often) kept_uncut
