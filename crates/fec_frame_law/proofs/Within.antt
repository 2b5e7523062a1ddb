-- Of the sections of one sent frame none is cut from those before it.
use Rattle.std.proofs.Common.{◌≡◌, ◌⊎◌, inl, inr, ℕ, suc, ◌+◌, ◌-◌, ◌*◌, ◌<◌, ◌≤◌, false, not, ◌||◌, eqb, ltb, leb, List, [], ◌∷◌, ◌++◌, length, get_or, refl, ap, sym, ◌∙◌, subst, arith}
use Rattle.std.specs.List.{list_any}
use Rattle.std.proofs.lemmas.Bool.{and_right, or_from, ne_eqb, eq-eqb, le-ltb, lt-leb, not_from_true}
use Rattle.wire_spec.specs.Lists.{IsSubsequence}
use Rattle.section_spec.specs.Mpe.{MpeFields, FecFields}
use Rattle.channel_law.proofs.Member.{Member, member_parted}
use Rattle.slice_spec.specs.Sections.{Timing, is_parted}
use Rattle.fec_frame_spec.specs.Sections.{FrameSection, data_section, parity_section, TimedSection, time_of, sections_of, real_time_in, ends_frame, data_end, data_part, parity_part, data_of, parity_of}
use Rattle.fec_frame_spec.specs.Groups.{end_after, are_apart, reaches, is_cut_by_kind, is_cut_by_table, last_section, is_cut}
use Rattle.fec_frame_spec.specs.Frame.{FrameFields, IsFrame, datagram_start, IsSectionOfDatagram, IsSectionOfColumn, IsSectionOfFrame, AreSectionsFrom}
use Rattle.fec_frame_law.proofs.Lists.{any_none}
use Rattle.fec_frame_law.proofs.Places.{datagram_long, start_next, start_most, starts_apart}
use Rattle.fec_frame_law.proofs.Groups.{AreUncut}

-- Which sections the parts of a group come from.

pub data_member : (group : List FrameSection) (m : MpeFields) → Member (data_of group) m → Member group (data_section m)
data_member [] m there = absurd there
data_member (s ∷ group) m there = by_part (member_parted (data_part s) (data_of group) m there) (data_member group m)
  where
    by_section : (t : FrameSection) → Member (data_part t) m → t ≡ data_section m
    by_section (data_section d) (inl same) = ap (λ (x : MpeFields). data_section x) same
    by_section (data_section d) (inr never) = absurd never
    by_section (parity_section f) never = absurd never

    by_part : Member (data_part s) m ⊎ Member (data_of group) m → (Member (data_of group) m → Member group (data_section m)) → Member (s ∷ group) (data_section m)
    by_part (inl here) later = inl (by_section s here)
    by_part (inr behind) later = inr (later behind)

parity_member : (group : List FrameSection) (f : FecFields) → Member (parity_of group) f → Member group (parity_section f)
parity_member [] f there = absurd there
parity_member (s ∷ group) f there = by_part (member_parted (parity_part s) (parity_of group) f there) (parity_member group f)
  where
    by_section : (t : FrameSection) → Member (parity_part t) f → t ≡ parity_section f
    by_section (parity_section c) (inl same) = ap (λ (x : FecFields). parity_section x) same
    by_section (parity_section c) (inr never) = absurd never
    by_section (data_section m) never = absurd never

    by_part : Member (parity_part s) f ⊎ Member (parity_of group) f → (Member (parity_of group) f → Member group (parity_section f)) → Member (s ∷ group) (parity_section f)
    by_part (inl here) later = inl (by_section s here)
    by_part (inr behind) later = inr (later behind)

none_in : {X : Type 0} (xs : List X) → ((x : X) → Member xs x → ⊥) → ltb 0 (length xs) ≡ false
none_in [] none = refl
none_in (x ∷ xs) none = absurd (none x (inl refl))

-- the last end is not after what no end is after
end_most : (datagrams : List MpeFields) (end bound : ℕ) → end ≤ bound → ((m : MpeFields) → Member datagrams m → data_end m ≤ bound) → end_after end datagrams ≤ bound
end_most [] end bound order all = order
end_most (m ∷ datagrams) end bound order all = end_most datagrams (data_end m) bound (all m (inl refl)) (λ d there. all d (inr there))

timed_member : (group : List TimedSection) (s : FrameSection) → Member (sections_of group) s → (t : TimedSection) × Member group t × (t.section ≡ s)
timed_member [] s there = absurd there
timed_member (t ∷ group) s (inl same) = (t, inl refl, same)
timed_member (t ∷ group) s (inr there) = let found = timed_member group s there in (found.0, inr found.1, found.2)

pub last_member : (s : TimedSection) (group : List TimedSection) → Member (s ∷ group) (last_section s group)
last_member s [] = inl refl
last_member s (t ∷ group) = inr (last_member t group)

module _ (rows : ℕ) (frame : FrameFields) (is : IsFrame rows frame) where
  long : (i : ℕ) → i < length frame.datagrams → 1 ≤ length (get_or frame.datagrams i [])
  long i within = datagram_long (get_or frame.datagrams i []) (is.datagrams_are i [] within)

  data_end_is : (p : ℕ) (m : MpeFields) → p < length frame.datagrams → IsSectionOfDatagram frame p m → data_end m ≡ datagram_start frame.datagrams (suc p)
  data_end_is p m within section =
      omega (arith, section.address, ap (λ (l : List ℕ). length l) section.datagram, start_next frame.datagrams p within)

  section_low : (i : ℕ) (section : FrameSection) → IsSectionOfFrame rows frame i section → i < length frame.datagrams + frame.columns
  section_low i (data_section m) of_frame = omega (arith, of_frame.0, is.columns_least)
  section_low i (parity_section f) of_frame = omega (arith, of_frame.1, of_frame.2)

  -- a section before another does not end the frame
  ends_not : (p i : ℕ) (section : FrameSection) → IsSectionOfFrame rows frame p section → p < i → i < length frame.datagrams + frame.columns
      → (real_time_in section).frame_boundary ≡ false
  ends_not p i (data_section m) of_frame less low = (of_frame.1).frame_boundary
  ends_not p i (parity_section f) of_frame less low =
      (of_frame.3).frame_boundary ∙ ne_eqb (of_frame.0 + 1) frame.columns (λ same. omega (arith, same, of_frame.1, less, low))

  module _ (group : List FrameSection) (i : ℕ)
      (before : (s : FrameSection) → Member group s → (p : ℕ) × (p < i) × IsSectionOfFrame rows frame p s) where
    -- where its datagrams and columns stand
    datagram_of : (m : MpeFields) → Member (data_of group) m → (p : ℕ) × (p < i) × (p < length frame.datagrams) × IsSectionOfDatagram frame p m
    datagram_of m there =
        let at = before (data_section m) (data_member group m there) in
        (at.0, at.1, (at.2).0, (at.2).1)

    column_of : (f : FecFields) → Member (parity_of group) f
        → (k : ℕ) × (length frame.datagrams + k < i) × IsSectionOfColumn rows frame k f
    column_of f there =
        let at = before (parity_section f) (parity_member group f there) in
        ((at.2).0, omega (arith, (at.2).1, at.1), (at.2).3)

    uncut_kind : (section : FrameSection) → IsSectionOfFrame rows frame i section → is_cut_by_kind rows group section ≡ false
    uncut_kind (data_section m) of_frame =
        or_from (ltb 0 (length (parity_of group)))
        (list_any (λ (d : MpeFields). d.real_time.table_boundary) (data_of group) || ltb m.real_time.address (end_after 0 (data_of group)))
        (none_in (parity_of group) (λ f there. let column = column_of f there in omega (arith, column.1, of_frame.0)))
        (or_from (list_any (λ (d : MpeFields). d.real_time.table_boundary) (data_of group)) (ltb m.real_time.address (end_after 0 (data_of group)))
        (any_none (λ (d : MpeFields). d.real_time.table_boundary) (data_of group)
        (λ d there.
        let at = datagram_of d there in
        (at.3).table_boundary ∙ ne_eqb (at.0 + 1) (length frame.datagrams) (λ same. omega (arith, same, at.1, of_frame.0))))
        (le-ltb m.real_time.address (end_after 0 (data_of group))
        (end_most (data_of group) 0 m.real_time.address (omega arith)
        (λ d there.
        let at = datagram_of d there in
        let e : suc at.0 + (i - suc at.0) ≡ i = omega (arith, at.1) in
        omega (
          arith,
          data_end_is at.0 d at.2 at.3,
          (of_frame.1).address,
          ap (datagram_start frame.datagrams) e,
          starts_apart frame.datagrams long (suc at.0) (i - suc at.0) (omega (arith, at.1, of_frame.0)),
        )))))
    uncut_kind (parity_section f) of_frame =
        or_from (list_any (λ (b : FecFields). are_apart b f) (parity_of group)) (list_any (reaches ((191 - f.padding) * rows)) (data_of group))
        (any_none (λ (b : FecFields). are_apart b f) (parity_of group)
        (λ b there.
        let column = column_of b there in
        or_from (leb f.number b.number) (not (eqb b.padding f.padding) || not (eqb b.last f.last))
        (lt-leb f.number b.number (omega (arith, column.1, of_frame.1, (column.2).number, (of_frame.3).number)))
        (or_from (not (eqb b.padding f.padding)) (not (eqb b.last f.last))
        (not_from_true (eqb b.padding f.padding) (eq-eqb b.padding f.padding ((column.2).padding ∙ sym (of_frame.3).padding)))
        (not_from_true (eqb b.last f.last) (eq-eqb b.last f.last (omega (arith, (column.2).last, (of_frame.3).last)))))))
        (any_none (reaches ((191 - f.padding) * rows)) (data_of group)
        (λ d there.
        let at = datagram_of d there in
        and_right (ltb 0 (length d.datagram)) (ltb ((191 - f.padding) * rows) (data_end d))
        (le-ltb ((191 - f.padding) * rows) (data_end d)
        (omega (arith, data_end_is at.0 d at.2 at.3, start_most frame.datagrams (suc at.0), is.padding_free, ap (λ (n : ℕ). (191 - n) * rows) (of_frame.3).padding)))))

    pub uncut_table : (section : FrameSection) → IsSectionOfFrame rows frame i section → is_cut_by_table rows group section ≡ false
    uncut_table section of_frame =
        or_from (list_any ends_frame group) (is_cut_by_kind rows group section)
        (any_none ends_frame group
        (λ s there.
        let at = before s there in
        ends_not at.0 i s at.2 at.1 (section_low i section of_frame)))
        (uncut_kind section of_frame)

  module _ (timing : Timing) (all : List TimedSection)
      (together : (s x : TimedSection) → Member all s → Member all x → is_parted timing (time_of s) (time_of x) ≡ false) where
    -- the sections of a group come before section i
    abbrev pub AreBefore : ℕ → List TimedSection → Type 0
    AreBefore i group = (s : TimedSection) → Member group s → (p : ℕ) × (p < i) × IsSectionOfFrame rows frame p s.section × Member all s

    before_less : (i : ℕ) (group : List TimedSection) → AreBefore i group → AreBefore (i + 1) group
    before_less i group before s there = let at = before s there in (at.0, omega (arith, at.1), at.2, at.3)

    before_more : (i : ℕ) (group : List TimedSection) (x : TimedSection) → AreBefore i group → IsSectionOfFrame rows frame i x.section → Member all x
        → AreBefore (i + 1) (group ++ x ∷ [])
    before_more i group x before of_frame known s there = by_part (member_parted group (x ∷ []) s there)
      where
        by_part : Member group s ⊎ Member (x ∷ []) s → (p : ℕ) × (p < i + 1) × IsSectionOfFrame rows frame p s.section × Member all s
        by_part (inl front) = before_less i group before s front
        by_part (inr (inl same)) =
            subst (λ (t : TimedSection). (p : ℕ) × (p < i + 1) × IsSectionOfFrame rows frame p t.section × Member all t) same (i, omega arith, of_frame, known)
        by_part (inr (inr never)) = absurd never

    before_sections : (i : ℕ) (group : List TimedSection) → AreBefore i group → (s : FrameSection) → Member (sections_of group) s → (p : ℕ) × (p < i) × IsSectionOfFrame rows frame p s
    before_sections i group before s there =
        let found = timed_member group s there in
        let at = before found.0 found.1 in
        (at.0, at.1, subst (λ (t : FrameSection). IsSectionOfFrame rows frame at.0 t) found.2 at.2)

    uncut_next : (s : TimedSection) (group : List TimedSection) (i : ℕ) (x : TimedSection) → AreBefore i (s ∷ group) → IsSectionOfFrame rows frame i x.section → Member all x
        → is_cut timing rows (s ∷ group) x ≡ false
    uncut_next s group i x before of_frame known =
        or_from (is_parted timing (time_of (last_section s group)) (time_of x)) (is_cut_by_table rows (sections_of (s ∷ group)) x.section)
        (together (last_section s group) x (before (last_section s group) (last_member s group)).3 known)
        (uncut_table (sections_of (s ∷ group)) i (before_sections i (s ∷ group) before) x.section of_frame)

    uncut_behind : (rest : List FrameSection) (kept : List TimedSection) (s : TimedSection) (group : List TimedSection) (i : ℕ) → AreSectionsFrom rows frame i rest
        → IsSubsequence (sections_of kept) rest → ((t : TimedSection) → Member kept t → Member all t) → AreBefore i (s ∷ group) → AreUncut timing rows (s ∷ group) kept
    uncut_behind rest [] s group i are within known before = tt
    uncut_behind [] (x ∷ kept) s group i are within known before = absurd within
    uncut_behind (z ∷ rest) (x ∷ kept) s group i are (inl taken) known before =
        let of_frame : IsSectionOfFrame rows frame i x.section = subst (λ (t : FrameSection). IsSectionOfFrame rows frame i t) (sym taken.0) are.0 in
        let there : Member all x = known x (inl refl) in (
          uncut_next s group i x before of_frame there,
          uncut_behind rest kept s (group ++ x ∷ []) (i + 1) are.1 taken.1 (λ t behind. known t (inr behind)) (before_more i (s ∷ group) x before of_frame there),
        )
    uncut_behind (z ∷ rest) (x ∷ kept) s group i are (inr later) known before =
        uncut_behind rest (x ∷ kept) s group (i + 1) are.1 later known (before_less i (s ∷ group) before)

    uncut_from : (rest : List FrameSection) (x : TimedSection) (kept : List TimedSection) (i : ℕ) → AreSectionsFrom rows frame i rest
        → IsSubsequence (sections_of (x ∷ kept)) rest → ((t : TimedSection) → Member (x ∷ kept) t → Member all t) → AreUncut timing rows (x ∷ []) kept
    uncut_from [] x kept i are within known = absurd within
    uncut_from (z ∷ rest) x kept i are (inl taken) known =
        let of_frame : IsSectionOfFrame rows frame i x.section = subst (λ (t : FrameSection). IsSectionOfFrame rows frame i t) (sym taken.0) are.0 in
        uncut_behind rest kept x [] (i + 1) are.1 taken.1 (λ t behind. known t (inr behind)) (before_more i [] x (λ t never. absurd never) of_frame (known x (inl refl)))
    uncut_from (z ∷ rest) x kept i are (inr later) known = uncut_from rest x kept (i + 1) are.1 later known

    -- some sections of a frame stay together
    pub frame_uncut : (sections : List FrameSection) → AreSectionsFrom rows frame 0 sections → (x : TimedSection) (kept : List TimedSection) → all ≡ x ∷ kept
        → IsSubsequence (sections_of (x ∷ kept)) sections → AreUncut timing rows (x ∷ []) kept
    frame_uncut sections are x kept is within = uncut_from sections x kept 0 are within (λ t there. subst (λ (l : List TimedSection). Member l t) (sym is) there)
