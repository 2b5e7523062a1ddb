-- Marking the starts, place by place.
use Rattle.std.proofs.Common.{◌≡◌, ◌⊎◌, inl, inr, ℕ, zero, suc, ◌+◌, ◌-◌, ◌*◌, ◌<◌, ◌≤◌, Bool, true, false, ◌||◌, cond, eqb, ltb, List, [], ◌∷◌, ◌++◌, length, get_or, set, take, drop, bit_or, Option, Some, None, refl, ap, ap₂, sym, ◌∙◌, subst, arith, length-set}
use Rattle.std.proofs.lemmas.Bool.{cases_lt, cases_eq, agree_below_at, cond-false, ne_eqb}
use Rattle.std.proofs.lemmas.List.{get_or-set_same, get_or-set_other}
use Rattle.wire_spec.specs.Bytes.{u16_at}
use Rattle.wire_spec.specs.Datagram.{version, header_length, total_length, ipv6_length}
use Rattle.ip_datagram.specs.Hint.{hint_of, ipv4_hint, ipv6_hint}
use Rattle.ip_datagram.specs.declared.hint.Hint.{Hint}
use Rattle.ip_datagram.specs.declared.hint.Hint.TheVariants.{More, Padding, Length, Bad}
use Rattle.section_spec.specs.Mpe.{MpeFields}
use Rattle.fec_frame_spec.specs.Starts.{run_on, run_within, known_run, IsTold, AreTold, IsDatagramStart}
use Rattle.fec_frame.specs.Marks.{is_known_mark, is_start_mark, marked_byte, marked_run, IsRun, AreEdgesMarked, AreStartsMarked}
use Rattle.fec_frame.proofs.KnownRuns.{marked_run_is}
use Rattle.fec_frame.specs.Marking.{IsEndTold, AreMarkedUpTo}

-- The bits of marks.

pub start_bit : (m : ℕ) → m < 256 → is_start_mark (bit_or m 2) ≡ true
start_bit m low = agree_below_at (λ (b : ℕ). is_start_mark (bit_or b 2)) (λ (b : ℕ). true) 256 m refl low

pub known_bit : (m : ℕ) → m < 256 → is_known_mark (bit_or m 2) ≡ is_known_mark m
known_bit m low = agree_below_at (λ (b : ℕ). is_known_mark (bit_or b 2)) is_known_mark 256 m refl low

-- Runs depend on what is known alone.

byte_same : (bytes a b : List ℕ) → ((q : ℕ) → is_known_mark (get_or a q 0) ≡ is_known_mark (get_or b q 0)) → (q : ℕ) → marked_byte bytes a q ≡ marked_byte bytes b q
unfolding marked_byte
byte_same bytes a b same q = ap (λ (t : Bool). cond t (Some (get_or bytes q 0)) None) (same q)

within_same : (f g : ℕ → Option ℕ) → ((q : ℕ) → f q ≡ g q) → (most place : ℕ) → run_within f most place ≡ run_within g most place
unfolding run_within
within_same f g same zero place = refl
within_same f g same (suc most) place = ap₂ run_on (same place) (within_same f g same most (place + 1))

pub run_same : (bytes a b : List ℕ) (limit : ℕ) → ((q : ℕ) → is_known_mark (get_or a q 0) ≡ is_known_mark (get_or b q 0)) → (place : ℕ)
    → marked_run bytes a limit place ≡ marked_run bytes b limit place
unfolding marked_run
run_same bytes a b limit same place = within_same (marked_byte bytes a) (marked_byte bytes b) (byte_same bytes a b same) (limit - place) place

pub IsRun-same : (a b : List ℕ) (limit start end : ℕ) → ((q : ℕ) → is_known_mark (get_or b q 0) ≡ is_known_mark (get_or a q 0)) → IsRun a limit start end → IsRun b limit start end
IsRun-same a b limit start end same run = record {
  order = run.order;
  within = run.within;
  known = λ place from below. same place ∙ run.known place from below;
  over = λ below. same end ∙ run.over below;
}

-- One place more.

module _ (bytes old marks : List ℕ) (limit place : ℕ) (up_to : AreMarkedUpTo bytes old marks limit place) where
  -- where nothing is told of a further place
  pub marked_same : (is_start_mark (get_or marks place 0) ≡ true → (q : ℕ) → q < limit → IsEndTold bytes old limit place q → ⊥) → AreMarkedUpTo bytes old marks limit (place + 1)
  marked_same none = record {
    long = up_to.long;
    known = up_to.known;
    kept = up_to.kept;
    told = λ p q below low start told. by_place p q low start told (cases_lt p place) below;
    only = λ q low start. by_only q (up_to.only q low start);
  }
    where
      by_place : (p q : ℕ) → q < limit → is_start_mark (get_or marks p 0) ≡ true → IsEndTold bytes old limit p q → (p < place) ⊎ (place ≤ p) → p < place + 1
          → is_start_mark (get_or marks q 0) ≡ true
      by_place p q low start told (inl before) below = up_to.told p q before low start told
      by_place p q low start told (inr here) below =
          let e : p ≡ place = omega (arith, here, below) in
          absurd (none (ap (λ (t : ℕ). is_start_mark (get_or marks t 0)) (sym e) ∙ start) q low (subst (λ (t : ℕ). IsEndTold bytes old limit t q) e told))

      by_only : (q : ℕ) → (is_start_mark (get_or old q 0) ≡ true) ⊎ ((p : ℕ) × (p < place) × (is_start_mark (get_or marks p 0) ≡ true) × IsEndTold bytes old limit p q)
          → (is_start_mark (get_or old q 0) ≡ true) ⊎ ((p : ℕ) × (p < place + 1) × (is_start_mark (get_or marks p 0) ≡ true) × IsEndTold bytes old limit p q)
      by_only q (inl first) = inl first
      by_only q (inr found) = inr (found.0, omega (arith, found.1), found.2, found.3)

  -- where a further place is told, it is marked
  module _ (q : ℕ) (below : q < limit) (long : limit ≤ length marks) (mark : ℕ) (starts : is_start_mark mark ≡ true) (stays : is_known_mark mark ≡ is_known_mark (get_or marks q 0))
      (start : is_start_mark (get_or marks place 0) ≡ true) (told : IsEndTold bytes old limit place q) where
    abbrev now : List ℕ
    now = set marks q mark

    here : get_or now q 0 ≡ mark
    here = get_or-set_same marks q mark 0 (omega (arith, below, long))

    elsewhere : (p : ℕ) → (p ≡ q → ⊥) → get_or now p 0 ≡ get_or marks p 0
    elsewhere p other = get_or-set_other marks q p mark 0 other

    started : is_start_mark (get_or now q 0) ≡ true
    started = ap is_start_mark here ∙ starts

    kept_start : (p : ℕ) → is_start_mark (get_or marks p 0) ≡ true → is_start_mark (get_or now p 0) ≡ true
    kept_start p is = by_place (cases_eq p q)
      where
        by_place : (p ≡ q) ⊎ (p ≡ q → ⊥) → is_start_mark (get_or now p 0) ≡ true
        by_place (inl same) = ap (λ (t : ℕ). is_start_mark (get_or now t 0)) same ∙ started
        by_place (inr other) = ap is_start_mark (elsewhere p other) ∙ is

    pub known_same : (p : ℕ) → is_known_mark (get_or now p 0) ≡ is_known_mark (get_or marks p 0)
    known_same p = by_place (cases_eq p q)
      where
        by_place : (p ≡ q) ⊎ (p ≡ q → ⊥) → is_known_mark (get_or now p 0) ≡ is_known_mark (get_or marks p 0)
        by_place (inl same) =
            ap (λ (t : ℕ). is_known_mark (get_or now t 0)) same ∙ ap is_known_mark here ∙ stays
            ∙ ap (λ (t : ℕ). is_known_mark (get_or marks t 0)) (sym same)
        by_place (inr other) = ap is_known_mark (elsewhere p other)

    pub marked_more : AreMarkedUpTo bytes old now limit (place + 1)
    marked_more = record {
      long = length-set marks q mark ∙ up_to.long;
      known = λ p. known_same p ∙ up_to.known p;
      kept = λ p is. kept_start p (up_to.kept p is);
      told = λ p r low_p low_r is end. by_end p r low_p low_r is end (cases_eq r q);
      only = λ r low is. by_start r low is (cases_eq r q);
    }
      where
        by_end : (p r : ℕ) → p < place + 1 → r < limit → is_start_mark (get_or now p 0) ≡ true → IsEndTold bytes old limit p r → (r ≡ q) ⊎ (r ≡ q → ⊥)
            → is_start_mark (get_or now r 0) ≡ true
        by_end p r low_p low_r is end (inl same) = ap (λ (t : ℕ). is_start_mark (get_or now t 0)) same ∙ started
        by_end p r low_p low_r is end (inr other) = by_place (cases_lt p place)
          where
            by_place : (p < place) ⊎ (place ≤ p) → is_start_mark (get_or now r 0) ≡ true
            by_place (inl before) = kept_start r (up_to.told p r before low_r (by_mark (cases_eq p q)) end)
              where
                by_mark : (p ≡ q) ⊎ (p ≡ q → ⊥) → is_start_mark (get_or marks p 0) ≡ true
                by_mark (inl same) = absurd (omega (arith, same, before, told.end))
                by_mark (inr apart) = ap is_start_mark (sym (elsewhere p apart)) ∙ is
            by_place (inr after) =
                let e : p ≡ place = omega (arith, after, low_p) in
                let lengths : Length end.size ≡ Length told.size = sym end.told ∙ ap (λ (t : ℕ). hint_of (marked_run bytes old limit t)) e ∙ told.told in
                let sizes : end.size ≡ told.size = cc in
                absurd (other (omega (arith, e, sizes, end.end, told.end)))

        by_start : (r : ℕ) → r < limit → is_start_mark (get_or now r 0) ≡ true → (r ≡ q) ⊎ (r ≡ q → ⊥)
            → (is_start_mark (get_or old r 0) ≡ true) ⊎ ((p : ℕ) × (p < place + 1) × (is_start_mark (get_or now p 0) ≡ true) × IsEndTold bytes old limit p r)
        by_start r low is (inl same) = inr (place, omega arith, kept_start place start, subst (λ (t : ℕ). IsEndTold bytes old limit place t) (sym same) told)
        by_start r low is (inr other) = by_only (up_to.only r low (ap is_start_mark (sym (elsewhere r other)) ∙ is))
          where
            by_only : (is_start_mark (get_or old r 0) ≡ true) ⊎ ((p : ℕ) × (p < place) × (is_start_mark (get_or marks p 0) ≡ true) × IsEndTold bytes old limit p r)
                → (is_start_mark (get_or old r 0) ≡ true) ⊎ ((p : ℕ) × (p < place + 1) × (is_start_mark (get_or now p 0) ≡ true) × IsEndTold bytes old limit p r)
            by_only (inl first) = inl first
            by_only (inr found) = inr (found.0, omega (arith, found.1), kept_start found.0 found.2, found.3)

-- Further on, where nothing starts in between.

module _ (bytes old marks : List ℕ) (limit place next : ℕ) (up_to : AreMarkedUpTo bytes old marks limit place) (order : place ≤ next)
    (none : (p : ℕ) → place ≤ p → p < next → is_start_mark (get_or marks p 0) ≡ false) where
  start_before : (p : ℕ) → p < next → is_start_mark (get_or marks p 0) ≡ true → p < place
  start_before p below start = by_place (cases_lt p place)
    where
      by_place : (p < place) ⊎ (place ≤ p) → p < place
      by_place (inl before) = before
      by_place (inr after) = both_tests (sym start ∙ none p after below)
        where
          both_tests : true ≡ false → p < place
          both_tests e = absurd (cc)

  pub marked_on : AreMarkedUpTo bytes old marks limit next
  marked_on = record {
    long = up_to.long;
    known = up_to.known;
    kept = up_to.kept;
    told = λ p q below low start told. up_to.told p q (start_before p below start) low start told;
    only = λ q low start. by_only q (up_to.only q low start);
  }
    where
      by_only : (q : ℕ) → (is_start_mark (get_or old q 0) ≡ true) ⊎ ((p : ℕ) × (p < place) × (is_start_mark (get_or marks p 0) ≡ true) × IsEndTold bytes old limit p q)
          → (is_start_mark (get_or old q 0) ≡ true) ⊎ ((p : ℕ) × (p < next) × (is_start_mark (get_or marks p 0) ≡ true) × IsEndTold bytes old limit p q)
      by_only q (inl first) = inl first
      by_only q (inr found) = inr (found.0, omega (arith, found.1, order), found.2, found.3)

-- Known zeros tell nothing.

zero_hint : (run : List ℕ) → hint_of (0 ∷ run) ≡ Padding
zero_hint run = cond-false (eqb (length (0 ∷ run)) 0) More Padding (ne_eqb (length (0 ∷ run)) 0 (λ none. omega (arith, none)))

zero_run : (f : ℕ → Option ℕ) (most place : ℕ) → f place ≡ Some 0 → run_within f (suc most) place ≡ 0 ∷ run_within f most (place + 1)
unfolding run_within
zero_run f most place zero_there = ap (λ (o : Option ℕ). run_on o (run_within f most (place + 1))) zero_there

no_end_told : (bytes marks : List ℕ) (limit p q : ℕ) → p < limit → marked_byte bytes marks p ≡ Some 0 → IsEndTold bytes marks limit p q → ⊥
unfolding marked_run
no_end_told bytes marks limit p q below zero_there end =
    let size : limit - p ≡ suc (limit - (p + 1)) = omega (arith, below) in
    clash end.size
    (sym end.told ∙ ap (λ (n : ℕ). hint_of (run_within (marked_byte bytes marks) n p)) size ∙ ap hint_of (zero_run (marked_byte bytes marks) (limit - (p + 1)) p zero_there)
    ∙ zero_hint (run_within (marked_byte bytes marks) (limit - (p + 1)) (p + 1)))
  where
    clash : (n : ℕ) → Length n ≡ Padding → ⊥
    clash n e = cc

pub marked_rest : (bytes old marks : List ℕ) (limit from : ℕ) → from ≤ limit → ((p : ℕ) → from ≤ p → p < limit → marked_byte bytes old p ≡ Some 0)
    → AreMarkedUpTo bytes old marks limit from → AreMarkedUpTo bytes old marks limit limit
marked_rest bytes old marks limit from order zeros up_to = record {
  long = up_to.long;
  known = up_to.known;
  kept = up_to.kept;
  told = λ p q below low start told. by_place p q below low start told (cases_lt p from);
  only = λ q low start. by_only q (up_to.only q low start);
}
  where
    by_place : (p q : ℕ) → p < limit → q < limit → is_start_mark (get_or marks p 0) ≡ true → IsEndTold bytes old limit p q → (p < from) ⊎ (from ≤ p) → is_start_mark (get_or marks q 0) ≡ true
    by_place p q below low start told (inl before) = up_to.told p q before low start told
    by_place p q below low start told (inr after) = absurd (no_end_told bytes old limit p q below (zeros p after below) told)

    by_only : (q : ℕ) → (is_start_mark (get_or old q 0) ≡ true) ⊎ ((p : ℕ) × (p < from) × (is_start_mark (get_or marks p 0) ≡ true) × IsEndTold bytes old limit p q)
        → (is_start_mark (get_or old q 0) ≡ true) ⊎ ((p : ℕ) × (p < limit) × (is_start_mark (get_or marks p 0) ≡ true) × IsEndTold bytes old limit p q)
    by_only q (inl first) = inl first
    by_only q (inr found) = inr (found.0, omega (arith, found.1, order), found.2, found.3)

-- nothing is marked yet
pub marked_none : (bytes marks : List ℕ) (limit : ℕ) → AreMarkedUpTo bytes marks marks limit 0
marked_none bytes marks limit = record {
  long = refl;
  known = λ q. refl;
  kept = λ q is. is;
  told = λ p q below low start told. absurd (omega (arith, below));
  only = λ q low start. inl start;
}

-- All places.

-- a told length is no 0
told_by : (e z f x : Bool) (a b : Hint) (n : ℕ) → cond e More (cond z Padding (cond f a (cond x b Bad))) ≡ Length n → (a ≡ Length n) ⊎ (b ≡ Length n)
told_by true z f x a b n t = absurd (cc)
told_by false true f x a b n t = absurd (cc)
told_by false false true x a b n t = inl t
told_by false false false true a b n t = inr t
told_by false false false false a b n t = absurd (cc)

after_tests : (few bad : Bool) (m n : ℕ) → cond few More (cond bad Bad (Length m)) ≡ Length n → (bad ≡ false) × (m ≡ n)
after_tests true bad m n e = absurd (cc)
after_tests false true m n e = absurd (cc)
after_tests false false m n e = (refl, cc)

told_some : (b : List ℕ) (n : ℕ) → hint_of b ≡ Length n → 1 ≤ n
told_some b n told =
    by_version (told_by (eqb (length b) 0) (eqb (version b) 0) (eqb (version b) 4) (eqb (version b) 6) (ipv4_hint b) (ipv6_hint b) n told)
  where
    by_version : (ipv4_hint b ≡ Length n) ⊎ (ipv6_hint b ≡ Length n) → 1 ≤ n
    by_version (inl four) =
        let p = after_tests (ltb (length b) 4) (ltb (header_length b) 20 || ltb (total_length b) (header_length b)) (total_length b) n four in
        least (header_length b) (total_length b) n p.0 p.1
      where
        least : (header total n : ℕ) → (ltb header 20 || ltb total header) ≡ false → total ≡ n → 1 ≤ n
        least header total n tests is = grind arith
    by_version (inr six) =
        let p = after_tests (ltb (length b) 7) (eqb (u16_at b 4 + get_or b 6 0) 0) (ipv6_length b) n six in
        omega (arith, p.1)

module _ (rows : ℕ) (bytes old marks : List ℕ) (sections : List MpeFields) (edges : AreEdgesMarked rows old sections)
    (all : AreMarkedUpTo bytes old marks (191 * rows) (191 * rows)) where
  -- the run of the frame is that of the marks
  hint_same : (p : ℕ) → hint_of (known_run rows (marked_byte bytes marks) p) ≡ hint_of (marked_run bytes old (191 * rows) p)
  unfolding marked_run
  hint_same p = ap hint_of (run_same bytes marks old (191 * rows) all.known p)

  -- one length more after others
  told_last : (lengths : List ℕ) (place mid n end : ℕ) → AreTold rows (marked_byte bytes marks) place lengths mid → IsTold rows (marked_byte bytes marks) mid n → mid + n ≡ end
      → AreTold rows (marked_byte bytes marks) place (lengths ++ n ∷ []) end
  told_last [] place mid n end before told is =
      (subst (λ (t : ℕ). IsTold rows (marked_byte bytes marks) t n) (sym before) told, ap (λ (t : ℕ). t + n) before ∙ is)
  told_last (k ∷ lengths) place mid n end before told is = (before.0, told_last lengths (place + k) mid n end before.1 told is)

  starts : (most q : ℕ) → q < most → q < 191 * rows → is_start_mark (get_or marks q 0) ≡ true → IsDatagramStart rows (marked_byte bytes marks) sections q
  starts zero q low below is = absurd (omega (arith, low))
  starts (suc most) q low below is = by_only (all.only q below is) (starts most)
    where
      by_only : (is_start_mark (get_or old q 0) ≡ true) ⊎ ((p : ℕ) × (p < 191 * rows) × (is_start_mark (get_or marks p 0) ≡ true) × IsEndTold bytes old (191 * rows) p q)
          → ((p : ℕ) → p < most → p < 191 * rows → is_start_mark (get_or marks p 0) ≡ true → IsDatagramStart rows (marked_byte bytes marks) sections p)
          → IsDatagramStart rows (marked_byte bytes marks) sections q
      by_only (inl first) earlier = record { start = q; from = edges.edge q below first; lengths = []; told = refl }
      by_only (inr found) earlier =
          let told : IsEndTold bytes old (191 * rows) found.0 q = found.3 in
          let some : 1 ≤ told.size = told_some (marked_run bytes old (191 * rows) found.0) told.size told.told in
          let before : IsDatagramStart rows (marked_byte bytes marks) sections found.0 = earlier found.0 (omega (arith, some, told.end, low)) found.1 found.2 in
          record {
            start = before.start;
            from = before.from;
            lengths = before.lengths ++ told.size ∷ [];
            told =
                told_last before.lengths before.start found.0 told.size q before.told
                (record { length_is = hint_same found.0 ∙ told.told; within = omega (arith, told.end, below) }) told.end;
          }

  told_order : (lengths : List ℕ) (place end : ℕ) → AreTold rows (marked_byte bytes marks) place lengths end → place ≤ end
  told_order [] place end told = omega (arith, told)
  told_order (n ∷ lengths) place end told = omega (arith, told_order lengths (place + n) end told.1)

  reached : (lengths : List ℕ) (place end : ℕ) → end < 191 * rows → AreTold rows (marked_byte bytes marks) place lengths end → is_start_mark (get_or marks place 0) ≡ true
      → is_start_mark (get_or marks end 0) ≡ true
  reached [] place end below told is = ap (λ (t : ℕ). is_start_mark (get_or marks t 0)) (sym told) ∙ is
  reached (n ∷ lengths) place end below told is =
      let order : place + n ≤ end = told_order lengths (place + n) end told.1 in
      reached lengths (place + n) end below told.1
      (all.told place (place + n) (omega (arith, order, below)) (omega (arith, order, below)) is
      (record { size = n; told = sym (hint_same place) ∙ (told.0).length_is; end = refl }))

  pub all_marked : AreStartsMarked rows bytes marks sections
  all_marked = record {
    marked = λ q below start.
        reached start.lengths start.start q below start.told
        (all.kept start.start (edges.marked start.start (omega (arith, told_order start.lengths start.start q start.told, below)) start.from));
    start = λ q below is. starts (suc q) q (omega arith) below is;
  }

-- a mark that is known as the one before changes no other
pub known_set : (marks : List ℕ) (q mark : ℕ) → q < length marks → is_known_mark mark ≡ is_known_mark (get_or marks q 0)
    → (p : ℕ) → is_known_mark (get_or (set marks q mark) p 0) ≡ is_known_mark (get_or marks p 0)
known_set marks q mark below stays p = by_place (cases_eq p q)
  where
    by_place : (p ≡ q) ⊎ (p ≡ q → ⊥) → is_known_mark (get_or (set marks q mark) p 0) ≡ is_known_mark (get_or marks p 0)
    by_place (inl same) =
        ap (λ (t : ℕ). is_known_mark (get_or (set marks q mark) t 0)) same ∙ ap is_known_mark (get_or-set_same marks q mark 0 below) ∙ stays
        ∙ ap (λ (t : ℕ). is_known_mark (get_or marks t 0)) (sym same)
    by_place (inr other) = ap is_known_mark (get_or-set_other marks q p mark 0 other)

-- what a hint tells at a place
pub nothing_told : (bytes old marks : List ℕ) (limit place end : ℕ) → limit ≤ length bytes → place < limit → IsRun marks limit place end
    → AreMarkedUpTo bytes old marks limit place
    → ((n : ℕ) → hint_of (take (end - place) (drop place bytes)) ≡ Length n → n < limit - place → ⊥)
    → AreMarkedUpTo bytes old marks limit (place + 1)
nothing_told bytes old marks limit place end long below run up_to none =
    marked_same bytes old marks limit place up_to
    (λ start q low told.
    none told.size
    (ap hint_of (sym (run_same bytes old marks limit (λ p. sym (up_to.known p)) place ∙ marked_run_is bytes marks limit place end long (omega (arith, below)) run)) ∙ told.told)
    (omega (arith, told.end, low)))
