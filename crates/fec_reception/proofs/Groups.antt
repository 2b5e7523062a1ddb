-- Received frames, section by section: which are closed, and which sections are left open.
use Rattle.std.proofs.Common.{◌≡◌, ℕ, ◌*◌, ◌≤◌, Bool, true, false, ◌||◌, cond, List, [], ◌∷◌, ◌++◌, length, refl, ap, sym, ◌∙◌, subst, append_assoc, arith, length-append}
use Rattle.std.specs.List.{list_any}
use Rattle.std.proofs.lemmas.Bool.{or_left, or_right}
use Rattle.std.proofs.lemmas.List.{map-append}
use Rattle.std.proofs.lemmas.List.Folds.{list_any-append}
use Rattle.slice_spec.specs.Sections.{Timing, is_parted}
use Rattle.fec_frame_spec.specs.Sections.{TimedSection, time_of, sections_of, ends_frame}
use Rattle.fec_frame_spec.specs.Groups.{is_cut, is_cut_by_kind, is_cut_by_table, last_section, frames_from, received_frames, closed_frames}
use Rattle.fec_reception.specs.Frames.{open_sections}
use Rattle.fec_reception.specs.Steps.{frame_with, cut_off, joined_by, ended_by, left_by, closed_with, open_with}

-- these frames are closed ones and, after them, one of these sections, where there are some
pub record AreParts (frames closed : List (List TimedSection)) (group : List TimedSection) : Type 0 where
  pub all : frames ≡ closed ++ frame_with group
  pub closed_are : closed_frames false frames ≡ closed
  pub open_is : open_sections frames ≡ group

-- the same, where there are some frames: then it is so after another frame too
record AreOf (frames closed : List (List TimedSection)) (group : List TimedSection) : Type 0 where
  pub all : frames ≡ closed ++ frame_with group
  pub closed_are : closed_frames false frames ≡ closed
  pub open_is : open_sections frames ≡ group
  pub behind : (g : List TimedSection) → closed_frames false (g ∷ frames) ≡ g ∷ closed
  pub open_behind : (g : List TimedSection) → open_sections (g ∷ frames) ≡ group

in_front : (g : List TimedSection) (frames closed : List (List TimedSection)) (group : List TimedSection) → AreOf frames closed group → AreOf (g ∷ frames) (g ∷ closed) group
in_front g frames closed group are = record {
  all = ap (λ (l : List (List TimedSection)). g ∷ l) are.all;
  closed_are = are.behind g;
  open_is = are.open_behind g;
  behind = λ h. ap (λ (l : List (List TimedSection)). h ∷ l) (are.behind g);
  open_behind = λ h. are.open_behind g;
}

or_false : (b : Bool) → (b || false) ≡ b
or_false true = refl
or_false false = refl

abbrev is_ended : List TimedSection → Bool
is_ended group = list_any ends_frame (sections_of group)

one_ended : (x : TimedSection) → is_ended (x ∷ []) ≡ ends_frame x.section
one_ended x = or_false (ends_frame x.section)

more_ended : (group : List TimedSection) (x : TimedSection) → is_ended group ≡ false → is_ended (group ++ x ∷ []) ≡ ends_frame x.section
more_ended group x unended =
    ap (list_any ends_frame) (map-append (λ (s : TimedSection). s.section) group (x ∷ []))
    ∙ list_any-append ends_frame (sections_of group) (sections_of (x ∷ []))
    ∙ ap (λ (b : Bool). b || is_ended (x ∷ [])) unended
    ∙ one_ended x

module _ (timing : Timing) (rows : ℕ) where
  ended_cut : (s : TimedSection) (begun : List TimedSection) (x : TimedSection) → is_ended (s ∷ begun) ≡ true → is_cut timing rows (s ∷ begun) x ≡ true
  ended_cut s begun x ended =
      or_right (is_parted timing (time_of (last_section s begun)) (time_of x)) (is_cut_by_table rows (sections_of (s ∷ begun)) x.section)
      (or_left (is_ended (s ∷ begun)) (is_cut_by_kind rows (sections_of (s ∷ begun)) x.section) ended)

  -- what is closed and left open after a frame that is ended or not
  abbrev Behind : Bool → List TimedSection → List TimedSection → List (List TimedSection) → Type 0
  Behind b g sections frames =
      AreOf frames (cond b (g ∷ []) [] ++ closed_with timing rows (cond b [] g) sections) (open_with timing rows (cond b [] g) sections)

  alone : (s : TimedSection) (begun : List TimedSection) (b : Bool) → is_ended (s ∷ begun) ≡ b → Behind b (s ∷ begun) [] ((s ∷ begun) ∷ [])
  alone s begun true is = record {
    all = refl;
    closed_are = ap (λ (b : Bool). cond {A = List (List TimedSection)} b ((s ∷ begun) ∷ []) []) is;
    open_is = ap (λ (b : Bool). cond {A = List TimedSection} b [] (s ∷ begun)) is;
    behind = λ g. ap (λ (b : Bool). g ∷ cond {A = List (List TimedSection)} b ((s ∷ begun) ∷ []) []) is;
    open_behind = λ g. ap (λ (b : Bool). cond {A = List TimedSection} b [] (s ∷ begun)) is;
  }
  alone s begun false is = record {
    all = refl;
    closed_are = ap (λ (b : Bool). cond {A = List (List TimedSection)} b ((s ∷ begun) ∷ []) []) is;
    open_is = ap (λ (b : Bool). cond {A = List TimedSection} b [] (s ∷ begun)) is;
    behind = λ g. ap (λ (b : Bool). g ∷ cond {A = List (List TimedSection)} b ((s ∷ begun) ∷ []) []) is;
    open_behind = λ g. ap (λ (b : Bool). cond {A = List TimedSection} b [] (s ∷ begun)) is;
  }

  -- a section more in front of the others
  one_more : (s : TimedSection) (begun : List TimedSection) (x : TimedSection) (sections : List TimedSection) (one both : List (List TimedSection))
      → Behind (is_ended (x ∷ [])) (x ∷ []) sections one → Behind (is_ended (s ∷ begun ++ x ∷ [])) (s ∷ begun ++ x ∷ []) sections both
      → (b : Bool) → is_ended (s ∷ begun) ≡ b
      → Behind b (s ∷ begun) (x ∷ sections) (cond (is_cut timing rows (s ∷ begun) x) ((s ∷ begun) ∷ one) both)
  one_more s begun x sections one both anew later true ended =
      subst (λ (c : Bool). Behind true (s ∷ begun) (x ∷ sections) (cond c ((s ∷ begun) ∷ one) both)) (sym (ended_cut s begun x ended))
      (in_front (s ∷ begun) one _ _ (subst (λ (b : Bool). Behind b (x ∷ []) sections one) (one_ended x) anew))
  one_more s begun x sections one both anew later false unended = by_cut (is_cut timing rows (s ∷ begun) x)
    where
      e : Bool
      e = ends_frame x.section

      joined : Bool → List TimedSection
      joined c = cond c (x ∷ []) (s ∷ begun ++ x ∷ [])

      by_cut : (c : Bool) → AreOf (cond c ((s ∷ begun) ∷ one) both)
          ((cond c (frame_with (s ∷ begun)) [] ++ cond e (frame_with (cond c (x ∷ []) (s ∷ begun ++ x ∷ []))) [])
          ++ closed_with timing rows (cond e [] (cond c (x ∷ []) (s ∷ begun ++ x ∷ []))) sections)
          (open_with timing rows (cond e [] (cond c (x ∷ []) (s ∷ begun ++ x ∷ []))) sections)
      by_cut true = in_front (s ∷ begun) one _ _ (subst (λ (b : Bool). Behind b (x ∷ []) sections one) (one_ended x) anew)
      by_cut false = subst (λ (b : Bool). Behind b (s ∷ begun ++ x ∷ []) sections both) (more_ended (s ∷ begun) x unended) later

  from_group : (s : TimedSection) (begun sections : List TimedSection)
      → Behind (is_ended (s ∷ begun)) (s ∷ begun) sections (frames_from timing rows (s ∷ begun) sections)
  from_group s begun [] = alone s begun (is_ended (s ∷ begun)) refl
  from_group s begun (x ∷ sections) =
      one_more s begun x sections (frames_from timing rows (x ∷ []) sections) (frames_from timing rows (s ∷ begun ++ x ∷ []) sections)
      (from_group x [] sections) (from_group s (begun ++ x ∷ []) sections) (is_ended (s ∷ begun)) refl

  -- the received frames of some sections
  pub parted_in_steps : (sections : List TimedSection)
      → AreParts (received_frames timing rows sections) (closed_with timing rows [] sections) (open_with timing rows [] sections)
  parted_in_steps [] = record { all = refl; closed_are = refl; open_is = refl }
  parted_in_steps (x ∷ sections) =
      let are : Behind (ends_frame x.section) (x ∷ []) sections (frames_from timing rows (x ∷ []) sections) =
      subst (λ (b : Bool). Behind b (x ∷ []) sections (frames_from timing rows (x ∷ []) sections)) (one_ended x) (from_group x [] sections) in
      record { all = are.all; closed_are = are.closed_are; open_is = are.open_is }

  -- sections in two parts
  pub closed_with-append : (group xs ys : List TimedSection)
      → closed_with timing rows group (xs ++ ys) ≡ closed_with timing rows group xs ++ closed_with timing rows (open_with timing rows group xs) ys
  closed_with-append group [] ys = refl
  closed_with-append group (x ∷ xs) ys =
      let first : List (List TimedSection) = cut_off timing rows group x ++ ended_by x (joined_by timing rows group x) in
      let left : List TimedSection = left_by x (joined_by timing rows group x) in
      ap (λ (l : List (List TimedSection)). first ++ l) (closed_with-append left xs ys)
      ∙ sym (append_assoc first (closed_with timing rows left xs) (closed_with timing rows (open_with timing rows left xs) ys))

  pub open_with-append : (group xs ys : List TimedSection) → open_with timing rows group (xs ++ ys) ≡ open_with timing rows (open_with timing rows group xs) ys
  open_with-append group [] ys = refl
  open_with-append group (x ∷ xs) ys = open_with-append (left_by x (joined_by timing rows group x)) xs ys

  -- a section closes two frames at most
  few_framed : (group : List TimedSection) → length (frame_with group) ≤ 1
  few_framed [] = omega arith
  few_framed (s ∷ group) = omega arith

  few_if : (b : Bool) (group : List TimedSection) → length (cond b (frame_with group) []) ≤ 1
  few_if true group = few_framed group
  few_if false group = omega arith

  pub few_closed : (group xs : List TimedSection) → length (closed_with timing rows group xs) ≤ 2 * length xs
  few_closed group [] = omega arith
  few_closed group (x ∷ xs) =
      let one : List (List TimedSection) = cut_off timing rows group x in
      let two : List (List TimedSection) = ended_by x (joined_by timing rows group x) in
      let rest : List (List TimedSection) = closed_with timing rows (left_by x (joined_by timing rows group x)) xs in
      omega (
        arith,
        few_if (is_cut timing rows group x) group,
        few_if (ends_frame x.section) (joined_by timing rows group x),
        few_closed (left_by x (joined_by timing rows group x)) xs,
        length-append one two,
        length-append (one ++ two) rest,
      )

  pub few_open : (group : List TimedSection) → length (frame_with group) ≤ 1
  few_open group = few_framed group
