-- A few numbers tell whether the next section is cut from those of a frame.
use Rattle.std.proofs.Common.{◌≡◌, ◌⊎◌, inl, inr, ℕ, ◌-◌, ◌*◌, ◌<◌, ◌≤◌, Bool, true, false, not, ◌||◌, ◌&&◌, cond, eqb, ltb, leb, List, [], ◌∷◌, ◌++◌, length, Option, Some, None, refl, ap, ap₂, sym, ◌∙◌, arith, append-nil, lt-ltb, le-ltb, le-leb}
use Rattle.std.specs.Prelude.{is_some}
use Rattle.std.specs.List.{list_any}
use Rattle.std.proofs.lemmas.Bool.{cases_Bool, cases_lt, or_parts, or_left, or_right, or_cases, leb-false, ltb-false, not-false, eqb-true, leb-true}
use Rattle.std.proofs.lemmas.List.{length-append}
use Rattle.std.proofs.lemmas.List.Folds.{list_any-append}
use Rattle.std.proofs.lemmas.List.Concat.{flat_map-append}
use Rattle.section_spec.specs.Mpe.{MpeFields, FecFields}
use Rattle.fec_frame_spec.specs.Sections.{FrameSection, data_section, parity_section, ends_frame, data_end, data_part, parity_part, data_of, parity_of}
use Rattle.fec_frame_spec.specs.Groups.{end_after, are_apart, reaches, is_cut_by_table}
use Rattle.fec_frame_law.specs.Summary.{Summary, no_summary, summary_more, is_apart, is_cut_by_last, is_cut_by_summary, IsSummaryOf}

or_false : (b : Bool) → (b || false) ≡ b
or_false true = refl
or_false false = refl

-- a test of a list and one item more
any_more : {X : Type 0} (test : X → Bool) (xs : List X) (x : X) → list_any test (xs ++ x ∷ []) ≡ (list_any test xs || test x)
any_more test xs x = list_any-append test xs (x ∷ []) ∙ ap (λ (b : Bool). list_any test xs || b) (or_false (test x))

data_more : (group : List FrameSection) (x : FrameSection) → data_of (group ++ x ∷ []) ≡ data_of group ++ data_part x
data_more group x = flat_map-append data_part group (x ∷ []) ∙ ap (λ (l : List MpeFields). data_of group ++ l) (append-nil (data_part x))

parity_more : (group : List FrameSection) (x : FrameSection) → parity_of (group ++ x ∷ []) ≡ parity_of group ++ parity_part x
parity_more group x = flat_map-append parity_part group (x ∷ []) ∙ ap (λ (l : List FecFields). parity_of group ++ l) (append-nil (parity_part x))

end_more : (end : ℕ) (datagrams : List MpeFields) (m : MpeFields) → end_after end (datagrams ++ m ∷ []) ≡ data_end m
end_more end [] m = refl
end_more end (d ∷ datagrams) m = end_more (data_end d) datagrams m

-- the summary tells whether the next section is cut
pub cut_by_summary : (rows : ℕ) (group : List FrameSection) (s : Summary) → IsSummaryOf group s → (section : FrameSection)
    → is_cut_by_table rows group section ≡ is_cut_by_summary rows s section
cut_by_summary rows group s is (data_section m) =
    ap₂ (λ (a b : Bool). a || b) is.frame_ended
    (ap₂ (λ (a b : Bool). a || b) is.column_some
    (ap₂ (λ (a b : Bool). a || b) is.table_ended (ap (λ (n : ℕ). ltb m.real_time.address n) is.end_is)))
cut_by_summary rows group s is (parity_section f) =
    ap₂ (λ (a b : Bool). a || b) is.frame_ended
    (ap₂ (λ (a b : Bool). a || b) (is.apart f) (is.ends ((191 - f.padding) * rows)))

pub summary_none : IsSummaryOf [] no_summary
summary_none = record {
  frame_ended = refl;
  table_ended = refl;
  end_is = refl;
  ends = λ bound. sym (le-ltb bound 0 (omega arith));
  covered_most = omega arith;
  column_some = refl;
  apart = λ f. refl;
}

-- of a column that is not apart from the last one, whatever is apart from that is apart from it
apart_last : (before : Option FecFields) (c f : FecFields) → is_apart before c ≡ false → (is_apart before f || are_apart c f) ≡ are_apart c f
apart_last None c f near = refl
apart_last (Some b) c f near = by_test (cases_Bool (are_apart b f))
  where
    c_after : b.number < c.number
    c_after = leb-false c.number b.number (or_parts (leb c.number b.number) (not (eqb b.padding c.padding) || not (eqb b.last c.last)) near).0

    rest : (not (eqb b.padding c.padding) || not (eqb b.last c.last)) ≡ false
    rest = (or_parts (leb c.number b.number) (not (eqb b.padding c.padding) || not (eqb b.last c.last)) near).1

    padding : b.padding ≡ c.padding
    padding = eqb-true b.padding c.padding (not-false (eqb b.padding c.padding) (or_parts (not (eqb b.padding c.padding)) (not (eqb b.last c.last)) rest).0)

    last : b.last ≡ c.last
    last = eqb-true b.last c.last (not-false (eqb b.last c.last) (or_parts (not (eqb b.padding c.padding)) (not (eqb b.last c.last)) rest).1)

    apart_c : are_apart b f ≡ true → are_apart c f ≡ true
    apart_c apart = by_part (or_cases (leb f.number b.number) (not (eqb b.padding f.padding) || not (eqb b.last f.last)) apart)
      where
        by_part : (leb f.number b.number ≡ true) ⊎ ((not (eqb b.padding f.padding) || not (eqb b.last f.last)) ≡ true) → are_apart c f ≡ true
        by_part (inl number) =
            or_left (leb f.number c.number) (not (eqb c.padding f.padding) || not (eqb c.last f.last))
            (le-leb f.number c.number (omega (arith, leb-true f.number b.number number, c_after)))
        by_part (inr other) =
            or_right (leb f.number c.number) (not (eqb c.padding f.padding) || not (eqb c.last f.last))
            (ap₂ (λ (p l : ℕ). not (eqb p f.padding) || not (eqb l f.last)) (sym padding) (sym last) ∙ other)

    by_test : (are_apart b f ≡ true) ⊎ (are_apart b f ≡ false) → (are_apart b f || are_apart c f) ≡ are_apart c f
    by_test (inl apart) = ap (λ (t : Bool). t || are_apart c f) apart ∙ sym (apart_c apart)
    by_test (inr together) = ap (λ (t : Bool). t || are_apart c f) together

-- of a datagram that is not cut, and has bytes, what they reach is all that is reached
reach_last : (place covered end : ℕ) (m : MpeFields) → covered ≤ end → ltb m.real_time.address end ≡ false
    → (ltb place covered || reaches place m) ≡ ltb place (cond (eqb (length m.datagram) 0) covered (data_end m))
reach_last place covered end m most behind = by_length (eqb (length m.datagram) 0) refl
  where
    order : end ≤ m.real_time.address
    order = ltb-false m.real_time.address end behind

    by_length : (b : Bool) → eqb (length m.datagram) 0 ≡ b → (ltb place covered || reaches place m) ≡ ltb place (cond b covered (data_end m))
    by_length true is =
        let none : length m.datagram ≤ 0 = omega (arith, eqb-true (length m.datagram) 0 is) in
        ap (λ (t : Bool). ltb place covered || (t && ltb place (data_end m))) (le-ltb 0 (length m.datagram) none) ∙ or_false (ltb place covered)
    by_length false is =
        let some : 0 < length m.datagram = grind (arith, is) in
        ap (λ (t : Bool). ltb place covered || (t && ltb place (data_end m))) (lt-ltb 0 (length m.datagram) some) ∙ by_order (cases_lt place covered)
      where
        by_order : (place < covered) ⊎ (covered ≤ place) → (ltb place covered || ltb place (data_end m)) ≡ ltb place (data_end m)
        by_order (inl less) =
            ap (λ (t : Bool). t || ltb place (data_end m)) (lt-ltb place covered less) ∙ sym (lt-ltb place (data_end m) (omega (arith, less, order, most)))
        by_order (inr over) = ap (λ (t : Bool). t || ltb place (data_end m)) (le-ltb place covered over)

covered_low : (b : Bool) (covered end : ℕ) (m : MpeFields) → covered ≤ end → ltb m.real_time.address end ≡ false → cond b covered (data_end m) ≤ data_end m
covered_low true covered end m most behind = omega (arith, most, ltb-false m.real_time.address end behind)
covered_low false covered end m most behind = omega arith

some_more : {X : Type 0} (xs : List X) (x : X) → ltb 0 (length (xs ++ x ∷ [])) ≡ true
some_more xs x = lt-ltb 0 (length (xs ++ x ∷ [])) (omega (arith, length-append xs (x ∷ [])))

-- the summary with a section more, which is not cut
pub summary_next : (rows : ℕ) (group : List FrameSection) (s : Summary) (section : FrameSection) → IsSummaryOf group s
    → is_cut_by_table rows group section ≡ false → IsSummaryOf (group ++ section ∷ []) (summary_more s section)
summary_next rows group s (data_section m) is uncut = record {
  frame_ended = any_more ends_frame group x ∙ ap (λ (b : Bool). b || m.real_time.frame_boundary) is.frame_ended;
  table_ended =
      ap (list_any (λ (d : MpeFields). d.real_time.table_boundary)) (data_more group x)
      ∙ any_more (λ (d : MpeFields). d.real_time.table_boundary) (data_of group) m ∙ ap (λ (b : Bool). b || m.real_time.table_boundary) is.table_ended;
  end_is = ap (end_after 0) (data_more group x) ∙ end_more 0 (data_of group) m;
  ends = λ place.
      ap (list_any (reaches place)) (data_more group x)
      ∙ any_more (reaches place) (data_of group) m
      ∙ ap (λ (b : Bool). b || reaches place m) (is.ends place)
      ∙ reach_last place s.covered s.end m is.covered_most behind;
  covered_most = covered_low (eqb (length m.datagram) 0) s.covered s.end m is.covered_most behind;
  column_some = ap (λ (l : List FecFields). ltb 0 (length l)) (parity_more group x ∙ append-nil (parity_of group)) ∙ is.column_some;
  apart = λ f. ap (list_any (λ (b : FecFields). are_apart b f)) (parity_more group x ∙ append-nil (parity_of group)) ∙ is.apart f;
}
  where
    x : FrameSection
    x = data_section m

    by_last : is_cut_by_summary rows s (data_section m) ≡ false
    by_last = sym (cut_by_summary rows group s is (data_section m)) ∙ uncut

    behind : ltb m.real_time.address s.end ≡ false
    behind =
        (or_parts s.table_ended (ltb m.real_time.address s.end)
        (or_parts (is_some s.column) (s.table_ended || ltb m.real_time.address s.end)
        (or_parts s.frame_ended (is_cut_by_last rows s (data_section m)) by_last).1).1).1
summary_next rows group s (parity_section f) is uncut = record {
  frame_ended = any_more ends_frame group x ∙ ap (λ (b : Bool). b || f.real_time.frame_boundary) is.frame_ended;
  table_ended = ap (list_any (λ (d : MpeFields). d.real_time.table_boundary)) (data_more group x ∙ append-nil (data_of group)) ∙ is.table_ended;
  end_is = ap (end_after 0) (data_more group x ∙ append-nil (data_of group)) ∙ is.end_is;
  ends = λ place. ap (list_any (reaches place)) (data_more group x ∙ append-nil (data_of group)) ∙ is.ends place;
  covered_most = is.covered_most;
  column_some = ap (λ (l : List FecFields). ltb 0 (length l)) (parity_more group x) ∙ some_more (parity_of group) f;
  apart = λ g.
      ap (list_any (λ (b : FecFields). are_apart b g)) (parity_more group x)
      ∙ any_more (λ (b : FecFields). are_apart b g) (parity_of group) f
      ∙ ap (λ (t : Bool). t || are_apart f g) (is.apart g)
      ∙ apart_last s.column f g near;
}
  where
    x : FrameSection
    x = parity_section f

    by_last : is_cut_by_summary rows s (parity_section f) ≡ false
    by_last = sym (cut_by_summary rows group s is (parity_section f)) ∙ uncut

    near : is_apart s.column f ≡ false
    near =
        (or_parts (is_apart s.column f) (ltb ((191 - f.padding) * rows) s.covered)
        (or_parts s.frame_ended (is_cut_by_last rows s (parity_section f)) by_last).1).0
