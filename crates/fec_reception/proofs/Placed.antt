-- A section comes after those of the open frame: it joins them, or begins the next one; and a frame is closed.
use Rattle.std.proofs.Common.{◌≡◌, ◌↔◌, ℕ, Bool, true, false, not, ◌||◌, List, [], ◌∷◌, ◌++◌, length, Option, Some, refl, ap, sym, ◌∙◌, subst, arith, append-nil, length-append, le-ltb}
use Rattle.std.proofs.lemmas.Bool.{or_left, not-false}
use Rattle.std.proofs.lemmas.List.{map-append}
use Rattle.wire_spec.specs.Causes.{raised}
use Rattle.slice_spec.specs.Sections.{Timing, SectionTime, is_parted, belongs}
use Rattle.section_spec.specs.Mpe.{RealTimeFields}
use Rattle.mpe_section.specs.declared.real_time.RealTime.{RealTime}
use Rattle.mpe_section.specs.Views.{real_time_in as parameters_of}
use Rattle.fec_frame_spec.specs.Sections.{FrameSection, data_section, parity_section, TimedSection, real_time_in, time_of, sections_of}
use Rattle.fec_frame_spec.specs.Groups.{last_section, is_cut, is_cut_by_table}
use Rattle.fec_frame_spec.specs.Delivered.{frame_datagrams, datagrams_of_frames}
use Rattle.fec_frame.specs.Stands.{Stands}
use Rattle.time_slice.specs.Views.{Seen, none_seen, with_seen, time_of as time_seen}
use Rattle.reception_spec.specs.Frames.{FrameNumbers, frame_numbers}
use Rattle.fec_reception.specs.Frames.{mended_in, left_in, last_time}
use Rattle.fec_reception.specs.Steps.{frame_with}
use Rattle.fec_reception.specs.Counting.{counted_frame}
use Rattle.fec_reception.specs.declared.sections.Section.{Section}
use Rattle.fec_reception.specs.Reading.{section_in, timed_in}
use Rattle.fec_reception.specs.Reception.{FramesState}
use Rattle.fec_reception.specs.Hearing.{HasFrames}
use Rattle.fec_reception.proofs.Numbers.{few_rows, frame_counted}

not_true : (b : Bool) → not b ≡ true → b ≡ false
not_true true e = cc
not_true false e = refl

not_both : (b : Bool) → true ≡ not b → b ≡ false
not_both b e = not_true b (sym e)

both_false : (a b : Bool) → a ≡ false → b ≡ false → (a || b) ≡ false
both_false a b one two = ap (λ (t : Bool). t || b) one ∙ two

-- a test that a list is empty says no
pub not_none : (b : Bool) (n : ℕ) → (b ≡ true ↔ (n ≡ 0)) → b ≡ false → n ≡ 0 → ⊥
not_none b n test unsaid none = true_false (sym (test.1 none) ∙ unsaid)
  where
    true_false : true ≡ false → ⊥
    true_false e = cc

-- the frame that no section came of cuts none off
empty_uncut : (rows : ℕ) (section : FrameSection) → is_cut_by_table rows [] section ≡ false
empty_uncut rows (data_section m) = le-ltb m.real_time.address 0 (omega arith)
empty_uncut rows (parity_section f) = refl

-- by its time it begins the next frame
pub cut_by_time : (timing : Timing) (rows : ℕ) (group : List TimedSection) (x : TimedSection) → belongs timing (last_time group) (time_of x) ≡ false → is_cut timing rows group x ≡ true
cut_by_time timing rows [] x parted = cc
cut_by_time timing rows (s ∷ group) x parted =
    or_left (is_parted timing (time_of (last_section s group)) (time_of x)) (is_cut_by_table rows (sections_of (s ∷ group)) x.section)
    (not-false (is_parted timing (time_of (last_section s group)) (time_of x)) parted)

-- or by the sections that came
pub cut_by_sections : (timing : Timing) (rows : ℕ) (group : List TimedSection) (x : TimedSection) → belongs timing (last_time group) (time_of x) ≡ true
    → is_cut timing rows group x ≡ is_cut_by_table rows (sections_of group) x.section
cut_by_sections timing rows [] x together = sym (empty_uncut rows x.section)
cut_by_sections timing rows (s ∷ group) x together =
    ap (λ (b : Bool). b || is_cut_by_table rows (sections_of (s ∷ group)) x.section)
    (not_true (is_parted timing (time_of (last_section s group)) (time_of x)) together)

last_more : (s : TimedSection) (group : List TimedSection) (x : TimedSection) → last_section s (group ++ x ∷ []) ≡ x
last_more s [] x = refl
last_more s (t ∷ group) x = last_more t group x

pub last_time_more : (group : List TimedSection) (x : TimedSection) → last_time (group ++ x ∷ []) ≡ Some (time_of x)
last_time_more [] x = refl
last_time_more (s ∷ group) x = ap (λ (t : TimedSection). Some (time_of t)) (last_more s group x)

module _ (timing : Timing) (rows : ℕ) (closed : List (List TimedSection)) (group : List TimedSection) (old new : FramesState) (has : HasFrames timing rows closed group old) where
  -- a section is placed, and is the one seen last
  pub placed_more : (x : TimedSection) → Stands new.table (sections_of group ++ x.section ∷ []) → new.table.rows ≡ old.table.rows
      → new.seen ≡ with_seen old.seen.timing (time_of x) → new.of_frames ≡ old.of_frames → HasFrames timing rows closed (group ++ x ∷ []) new
  placed_more x stands same_rows seen same = record {
    over = record {
      timing_is = ap (λ (s : Seen). s.timing) seen ∙ has.over.timing_is;
      rows_are = same_rows ∙ has.over.rows_are;
      rows_right = has.over.rows_right;
    };
    stands = subst (Stands new.table) (sym (map-append (λ (s : TimedSection). s.section) group (x ∷ []))) stands;
    seen_is = ap (λ (s : Seen). s.last) seen ∙ sym (last_time_more group x);
    numbers_are = λ few. same ∙ has.numbers_are few;
  }

  -- no section came: there is no frame to close
  none_came : length (sections_of group) ≡ 0 → group ≡ []
  none_came = none group
    where
      none : (g : List TimedSection) → length (sections_of g) ≡ 0 → g ≡ []
      none [] e = refl
      none (s ∷ g) e = absurd (omega (arith, e))

  pub closed_none : length (sections_of group) ≡ 0 → HasFrames timing rows (closed ++ frame_with group) [] old
  closed_none none =
      let empty : group ≡ [] = none_came none in
      let same : closed ++ frame_with group ≡ closed = ap (λ (g : List TimedSection). closed ++ frame_with g) empty ∙ append-nil closed in
      subst (λ (l : List (List TimedSection)). HasFrames timing rows l [] old) (sym same)
      (subst (λ (g : List TimedSection). HasFrames timing rows closed g old) empty has)

  pub told_none : length (sections_of group) ≡ 0 → datagrams_of_frames rows (frame_with group) ≡ []
  told_none none = ap (λ (g : List TimedSection). datagrams_of_frames rows (frame_with g)) (none_came none)

  -- there is one
  some_came : (length (sections_of group) ≡ 0 → ⊥) → frame_with group ≡ group ∷ []
  some_came = some group
    where
      some : (g : List TimedSection) → (length (sections_of g) ≡ 0 → ⊥) → frame_with g ≡ g ∷ []
      some [] e = absurd (e refl)
      some (s ∷ g) e = refl

  pub told_some : (length (sections_of group) ≡ 0 → ⊥) → frame_datagrams rows (sections_of group) ≡ datagrams_of_frames rows (frame_with group)
  told_some some =
      sym (ap (datagrams_of_frames rows) (some_came some) ∙ append-nil (frame_datagrams rows (sections_of group)))

  pub closed_some : (length (sections_of group) ≡ 0 → ⊥) → (mended left datagrams : ℕ) → mended ≡ mended_in rows group → left ≡ left_in rows group
      → datagrams ≡ raised 0 (length (frame_datagrams rows (sections_of group)))
      → Stands new.table [] → new.table.rows ≡ old.table.rows → new.seen ≡ none_seen old.seen.timing
      → new.of_frames ≡ counted_frame old.of_frames mended left datagrams → HasFrames timing rows (closed ++ frame_with group) [] new
  closed_some some mended left datagrams mended_is left_is datagrams_are stands same_rows seen counted =
      subst (λ (l : List (List TimedSection)). HasFrames timing rows (closed ++ l) [] new) (sym (some_came some)) (record {
        over = record {
          timing_is = ap (λ (s : Seen). s.timing) seen ∙ has.over.timing_is;
          rows_are = same_rows ∙ has.over.rows_are;
          rows_right = has.over.rows_right;
        };
        stands = stands;
        seen_is = ap (λ (s : Seen). s.last) seen;
        numbers_are = λ few.
            counted
            ∙ ap (λ (n : FrameNumbers). counted_frame n mended left datagrams) (has.numbers_are (omega (arith, few, length-append closed (group ∷ []))))
            ∙ ap (λ (m : ℕ). counted_frame (frame_numbers rows closed) m left datagrams) mended_is
            ∙ ap (λ (l : ℕ). counted_frame (frame_numbers rows closed) (mended_in rows group) l datagrams) left_is
            ∙ ap (λ (d : ℕ). counted_frame (frame_numbers rows closed) (mended_in rows group) (left_in rows group) d) datagrams_are
            ∙ frame_counted rows closed group (few_rows rows has.over.rows_right) few;
      })

-- What the code compares: the membership, and then the table.
pub same_time : (moment : ℕ) (time : RealTime) (section : Section) → parameters_of time ≡ real_time_in (section_in section) → time_seen moment time ≡ time_of (timed_in moment section)
same_time moment time section same = ap (λ (t : RealTimeFields). record { moment = moment; delta = t.delta }) same

module _ (timing : Timing) (rows : ℕ) (closed : List (List TimedSection)) (group : List TimedSection) (old : FramesState) (has : HasFrames timing rows closed group old)
    (x : TimedSection) (time : SectionTime) (same : time ≡ time_of x) (answer : Bool) (told : answer ≡ belongs old.seen.timing old.seen.last time) where
  belongs_is : answer ≡ belongs timing (last_time group) (time_of x)
  belongs_is =
      told
      ∙ ap (λ (t : Timing). belongs t old.seen.last time) has.over.timing_is
      ∙ ap (λ (l : Option SectionTime). belongs timing l time) has.seen_is
      ∙ ap (belongs timing (last_time group)) same

  pub cut_in_time : answer ≡ false → false ≡ not (is_cut timing rows group x)
  cut_in_time parted = sym (ap not (cut_by_time timing rows group x (sym belongs_is ∙ parted)))

  pub cut_in_table : answer ≡ true → (placed : Bool) → placed ≡ not (is_cut_by_table old.table.rows (sections_of group) x.section)
      → placed ≡ not (is_cut timing rows group x)
  cut_in_table together placed is =
      is
      ∙ ap (λ (r : ℕ). not (is_cut_by_table r (sections_of group) x.section)) has.over.rows_are
      ∙ ap not (sym (cut_by_sections timing rows group x (sym belongs_is ∙ together)))
