-- Two sections of one received frame never tell one place differently.
use Rattle.std.proofs.Common.{◌≡◌, ◌⊎◌, inl, inr, ℕ, zero, suc, ◌+◌, ◌-◌, ◌*◌, ◌<◌, ◌≤◌, Bool, true, false, not, ◌&&◌, ◌||◌, eqb, leb, ltb, cond, Option, None, Some, List, [], ◌∷◌, ◌++◌, length, take, get_or, refl, ap, sym, ◌∙◌, subst, arith, lt-ltb, le-ltb}
use Rattle.std.specs.Prelude.{Contains}
use Rattle.std.specs.List.{list_any}
use Rattle.std.proofs.lemmas.Bool.{and_parts, and_from, or_parts, leb-true, ltb-true, ltb-false, leb-false}
use Rattle.std.proofs.lemmas.List.{map-append, take_all}
use Rattle.std.proofs.Math.Nat.{add-mul, mul-le-mul_right}
use Rattle.section_spec.specs.Mpe.{MpeFields, FecFields}
use Rattle.slice_spec.specs.Sections.{Timing, is_parted}
use Rattle.fec_frame_spec.specs.Sections.{FrameSection, data_section, parity_section, ends_frame, data_end, data_part, parity_part, data_of, parity_of, TimedSection, time_of, sections_of}
use Rattle.fec_frame_spec.specs.Groups.{are_apart, reaches, end_after, is_cut_by_data, is_cut_by_parity, is_cut_by_kind, is_cut_by_table, last_section, is_cut, section_at, frame_at, AreReceivedFrames}
use Rattle.fec_frame_spec.specs.Known.{is_in, told_byte}
use Rattle.fec_frame_law.specs.Summary.{Summary, no_summary, summary_more, IsSummaryOf}
use Rattle.channel_law.proofs.Member.{Member, member_front, member_behind, member_parted, member_contains}
use Rattle.fec_frame_law.proofs.Summary.{summary_none, summary_next}

-- Lists.

not_any : {X : Type 0} (test : X → Bool) (xs : List X) (x : X) → list_any test xs ≡ false → Member xs x → test x ≡ false
not_any test [] x none there = absurd there
not_any test (y ∷ ys) x none (inl same) = ap test (sym same) ∙ (or_parts (test y) (list_any test ys) none).0
not_any test (y ∷ ys) x none (inr there) = not_any test ys x (or_parts (test y) (list_any test ys) none).1 there

some_there : {X : Type 0} (test : X → Bool) (xs : List X) (x : X) → Member xs x → test x ≡ true → list_any test xs ≡ true
some_there test xs x there is = by_any (list_any test xs) refl
  where
    by_any : (b : Bool) → list_any test xs ≡ b → list_any test xs ≡ true
    by_any true any = any
    by_any false any = let never : true ≡ false = sym is ∙ not_any test xs x any there in absurd (cc (never))

filled : {X : Type 0} (xs : List X) (x : X) → Member xs x → 0 < length xs
filled [] x there = absurd there
filled (y ∷ ys) x there = omega arith

data_there : (group : List FrameSection) (d : MpeFields) → Member group (data_section d) → Member (data_of group) d
data_there [] d there = absurd there
data_there (s ∷ group) d (inl same) = member_front (data_part s) (data_of group) d (subst (λ (t : FrameSection). Member (data_part t) d) (sym same) (inl refl))
data_there (s ∷ group) d (inr there) = member_behind (data_part s) (data_of group) d (data_there group d there)

parity_there : (group : List FrameSection) (f : FecFields) → Member group (parity_section f) → Member (parity_of group) f
parity_there [] f there = absurd there
parity_there (s ∷ group) f (inl same) = member_front (parity_part s) (parity_of group) f (subst (λ (t : FrameSection). Member (parity_part t) f) (sym same) (inl refl))
parity_there (s ∷ group) f (inr there) = member_behind (parity_part s) (parity_of group) f (parity_there group f there)

-- What a section tells.

which : (test : Bool) (x : ℕ) (other : Option ℕ) (byte : ℕ) → cond test (Some x) other ≡ Some byte → ((test ≡ true) × (x ≡ byte)) ⊎ (other ≡ Some byte)
which true x other byte told = inl (refl, cc)
which false x other byte told = inr told

nothing : {X : Type 0} (byte : ℕ) → ◌≡◌ {A = Option ℕ} None (Some byte) → X
nothing byte told = absurd (cc (told))

within : (from to place : ℕ) → is_in from to place ≡ true → (from ≤ place) × (place < to)
within from to place inside = let parts = and_parts (leb from place) (ltb place to) inside in (leb-true from place parts.0, ltb-true place to parts.1)

-- a byte of its datagram or column, or a zero
abbrev TellsData : ℕ → MpeFields → ℕ → ℕ → Type 0
TellsData rows m place byte =
    ((m.real_time.address ≤ place) × (place < data_end m)) ⊎ ((m.real_time.table_boundary ≡ true) × (data_end m ≤ place) × (place < 191 * rows) × (byte ≡ 0))

tells_data : (rows : ℕ) (m : MpeFields) (place byte : ℕ) → told_byte rows (data_section m) place ≡ Some byte → TellsData rows m place byte
tells_data rows m place byte told =
    by_own (which (is_in m.real_time.address (data_end m) place) (get_or m.datagram (place - m.real_time.address) 0)
    (cond (m.real_time.table_boundary && is_in (data_end m) (191 * rows) place) (Some 0) None) byte told)
  where
    by_zero : ((m.real_time.table_boundary && is_in (data_end m) (191 * rows) place ≡ true) × (0 ≡ byte)) ⊎ (None ≡ Some byte) → TellsData rows m place byte
    by_zero (inl zeros) =
        let parts = and_parts m.real_time.table_boundary (is_in (data_end m) (191 * rows) place) zeros.0 in
        let inside = within (data_end m) (191 * rows) place parts.1 in
        inr (parts.0, inside.0, inside.1, sym zeros.1)
    by_zero (inr none) = nothing byte none

    by_own : ((is_in m.real_time.address (data_end m) place ≡ true) × (get_or m.datagram (place - m.real_time.address) 0 ≡ byte))
        ⊎ (cond (m.real_time.table_boundary && is_in (data_end m) (191 * rows) place) (Some 0) None ≡ Some byte) → TellsData rows m place byte
    by_own (inl own) = inl (within m.real_time.address (data_end m) place own.0)
    by_own (inr other) = by_zero (which (m.real_time.table_boundary && is_in (data_end m) (191 * rows) place) 0 None byte other)

abbrev TellsParity : ℕ → FecFields → ℕ → ℕ → Type 0
TellsParity rows f place byte =
    ((191 * rows + f.number * rows ≤ place) × (place < 191 * rows + f.number * rows + rows))
    ⊎ (((191 - f.padding) * rows ≤ place) × (place < 191 * rows) × (byte ≡ 0))

tells_parity : (rows : ℕ) (f : FecFields) (place byte : ℕ) → told_byte rows (parity_section f) place ≡ Some byte → TellsParity rows f place byte
tells_parity rows f place byte told =
    by_own (which (is_in (191 * rows + f.number * rows) (191 * rows + f.number * rows + rows) place) (get_or f.column (place - (191 * rows + f.number * rows)) 0)
    (cond (is_in ((191 - f.padding) * rows) (191 * rows) place) (Some 0) None) byte told)
  where
    by_zero : ((is_in ((191 - f.padding) * rows) (191 * rows) place ≡ true) × (0 ≡ byte)) ⊎ (None ≡ Some byte) → TellsParity rows f place byte
    by_zero (inl zeros) = let inside = within ((191 - f.padding) * rows) (191 * rows) place zeros.0 in inr (inside.0, inside.1, sym zeros.1)
    by_zero (inr none) = nothing byte none

    by_own : ((is_in (191 * rows + f.number * rows) (191 * rows + f.number * rows + rows) place ≡ true) × (get_or f.column (place - (191 * rows + f.number * rows)) 0 ≡ byte))
        ⊎ (cond (is_in ((191 - f.padding) * rows) (191 * rows) place) (Some 0) None ≡ Some byte) → TellsParity rows f place byte
    by_own (inl own) = inl (within (191 * rows + f.number * rows) (191 * rows + f.number * rows + rows) place own.0)
    by_own (inr other) = by_zero (which (is_in ((191 - f.padding) * rows) (191 * rows) place) 0 None byte other)

-- A section that is not cut from those before it.

abbrev Alike : ℕ → FrameSection → FrameSection → Type 0
Alike rows s t = (place a b : ℕ) → told_byte rows s place ≡ Some a → told_byte rows t place ≡ Some b → a ≡ b

module _ (rows : ℕ) (group : List FrameSection) (s : Summary) (is : IsSummaryOf group s) where
  abbrev boundary : MpeFields → Bool
  boundary d = d.real_time.table_boundary

  after_data : (m : MpeFields) → is_cut_by_data (data_of group) (parity_of group) m ≡ false → (t : FrameSection) → Member group t → Alike rows t (data_section m)
  after_data m uncut t there = by_kind t there
    where
      first : (ltb 0 (length (parity_of group)) ≡ false) × ((list_any boundary (data_of group) || ltb m.real_time.address (end_after 0 (data_of group))) ≡ false)
      first = or_parts (ltb 0 (length (parity_of group))) (list_any boundary (data_of group) || ltb m.real_time.address (end_after 0 (data_of group))) uncut

      second : (list_any boundary (data_of group) ≡ false) × (ltb m.real_time.address (end_after 0 (data_of group)) ≡ false)
      second = or_parts (list_any boundary (data_of group)) (ltb m.real_time.address (end_after 0 (data_of group))) first.1

      low : end_after 0 (data_of group) ≤ m.real_time.address
      low = ltb-false m.real_time.address (end_after 0 (data_of group)) second.1

      by_kind : (u : FrameSection) → Member group u → Alike rows u (data_section m)
      by_kind (parity_section f) here place a b told_t told_m =
          absurd (omega (arith, ltb-false 0 (length (parity_of group)) first.0, filled (parity_of group) f (parity_there group f here)))
      by_kind (data_section d) here place a b told_t told_m = by_tells (tells_data rows d place a told_t) (tells_data rows m place b told_m)
        where
          in_group : Member (data_of group) d
          in_group = data_there group d here

          covered : (d.real_time.address ≤ place) × (place < data_end d) → place < end_after 0 (data_of group)
          covered inside =
              let some : 0 < length d.datagram = omega (arith, inside.0, inside.1) in
              let reached : reaches place d ≡ true
              = and_from (ltb 0 (length d.datagram)) (ltb place (data_end d)) (lt-ltb 0 (length d.datagram) some) (lt-ltb place (data_end d) inside.1) in
              let any : ltb place s.covered ≡ true = sym (is.ends place) ∙ some_there (reaches place) (data_of group) d in_group reached in
              omega (arith, ltb-true place s.covered any, is.covered_most, is.end_is)

          by_tells : TellsData rows d place a → TellsData rows m place b → a ≡ b
          by_tells (inl inside) (inl own) = absurd (omega (arith, covered inside, low, own.0))
          by_tells (inl inside) (inr zero_of) = absurd (omega (arith, covered inside, low, zero_of.1))
          by_tells (inr zero_of) other = let never : true ≡ false = sym zero_of.0 ∙ not_any boundary (data_of group) d second.0 in_group in absurd (cc (never))

  after_parity : (f : FecFields) → is_cut_by_parity rows (data_of group) (parity_of group) f ≡ false → (t : FrameSection) → Member group t → Alike rows t (parity_section f)
  after_parity f uncut t there = by_kind t there
    where
      parts : (list_any (λ (before : FecFields). are_apart before f) (parity_of group) ≡ false) × (list_any (reaches ((191 - f.padding) * rows)) (data_of group) ≡ false)
      parts = or_parts (list_any (λ (before : FecFields). are_apart before f) (parity_of group)) (list_any (reaches ((191 - f.padding) * rows)) (data_of group)) uncut

      padding_most : (191 - f.padding) * rows ≤ 191 * rows
      padding_most = mul-le-mul_right rows (omega arith)

      by_kind : (u : FrameSection) → Member group u → Alike rows u (parity_section f)
      by_kind (data_section d) here place a b told_t told_f = by_tells (tells_data rows d place a told_t) (tells_parity rows f place b told_f)
        where
          not_reached : reaches ((191 - f.padding) * rows) d ≡ false
          not_reached = not_any (reaches ((191 - f.padding) * rows)) (data_of group) d parts.1 (data_there group d here)

          below : (d.real_time.address ≤ place) × (place < data_end d) → place < (191 - f.padding) * rows
          below inside =
              let some : 0 < length d.datagram = omega (arith, inside.0, inside.1) in
              let one : (ltb 0 (length d.datagram) && ltb ((191 - f.padding) * rows) (data_end d)) ≡ false = not_reached in
              let low : ltb ((191 - f.padding) * rows) (data_end d) ≡ false
              = sym (ap (λ (x : Bool). x && ltb ((191 - f.padding) * rows) (data_end d)) (lt-ltb 0 (length d.datagram) some)) ∙ one in
              omega (arith, inside.1, ltb-false ((191 - f.padding) * rows) (data_end d) low)

          by_tells : TellsData rows d place a → TellsParity rows f place b → a ≡ b
          by_tells (inl inside) (inl own) = absurd (omega (arith, below inside, padding_most, own.0))
          by_tells (inl inside) (inr zero_of) = absurd (omega (arith, below inside, zero_of.0))
          by_tells (inr zero_of) (inl own) = absurd (omega (arith, zero_of.2, own.0))
          by_tells (inr zero_of) (inr other) = zero_of.3 ∙ sym other.2
      by_kind (parity_section g) here place a b told_t told_f = by_tells (tells_parity rows g place a told_t) (tells_parity rows f place b told_f)
        where
          near : are_apart g f ≡ false
          near = not_any (λ (before : FecFields). are_apart before f) (parity_of group) g parts.0 (parity_there group g here)

          rises : g.number < f.number
          rises = leb-false f.number g.number (or_parts (leb f.number g.number) (not (eqb g.padding f.padding) || not (eqb g.last f.last)) near).0

          next : (g.number + 1) * rows ≤ f.number * rows
          next = mul-le-mul_right rows (omega (arith, rises))

          one_more : (g.number + 1) * rows ≡ g.number * rows + 1 * rows
          one_more = add-mul g.number 1 rows

          by_tells : TellsParity rows g place a → TellsParity rows f place b → a ≡ b
          by_tells (inl own) (inl other) = absurd (omega (arith, own.1, other.0, next, one_more))
          by_tells (inl own) (inr zero_of) = absurd (omega (arith, own.0, zero_of.1))
          by_tells (inr zero_of) (inl own) = absurd (omega (arith, own.0, zero_of.1))
          by_tells (inr zero_of) (inr other) = zero_of.2 ∙ sym other.2

  -- the next section and one before it
  next_alike : (x : FrameSection) → is_cut_by_table rows group x ≡ false → (t : FrameSection) → Member group t → Alike rows t x
  next_alike (data_section m) uncut t there = after_data m (or_parts (list_any ends_frame group) (is_cut_by_kind rows group (data_section m)) uncut).1 t there
  next_alike (parity_section f) uncut t there = after_parity f (or_parts (list_any ends_frame group) (is_cut_by_kind rows group (parity_section f)) uncut).1 t there

-- All sections of a frame.

one_byte : (a b : ℕ) → ◌≡◌ {A = Option ℕ} (Some a) (Some b) → a ≡ b
one_byte a b same = cc (same)

first_uncut : (rows : ℕ) (x : FrameSection) → is_cut_by_table rows [] x ≡ false
first_uncut rows (data_section m) = le-ltb m.real_time.address 0 (omega arith)
first_uncut rows (parity_section f) = refl

uncut_by_table : (timing : Timing) (rows : ℕ) (group : List TimedSection) (x : TimedSection) → is_cut timing rows group x ≡ false
    → is_cut_by_table rows (sections_of group) x.section ≡ false
uncut_by_table timing rows [] x uncut = first_uncut rows x.section
uncut_by_table timing rows (s ∷ group) x uncut =
    (or_parts (is_parted timing (time_of (last_section s group)) (time_of x)) (is_cut_by_table rows (sections_of (s ∷ group)) x.section) uncut).1

take_one : (group : List TimedSection) (i : ℕ) → i < length group → take (suc i) group ≡ take i group ++ section_at group i ∷ []
take_one [] i low = absurd (omega (arith, low))
take_one (x ∷ group) zero low = refl
take_one (x ∷ group) (suc i) low = ap (λ (t : List TimedSection). x ∷ t) (take_one group i (omega (arith, low)))

abbrev AllAlike : ℕ → List FrameSection → Type 0
AllAlike rows group = (t u : FrameSection) → Member group t → Member group u → Alike rows t u

with_next : (rows : ℕ) (group : List FrameSection) (s : Summary) → IsSummaryOf group s → (x : FrameSection) → is_cut_by_table rows group x ≡ false
    → AllAlike rows group → AllAlike rows (group ++ x ∷ [])
with_next rows group s is x uncut all t u there_t there_u = by_parts (member_parted group (x ∷ []) t there_t) (member_parted group (x ∷ []) u there_u)
  where
    before : (v : FrameSection) → Member group v → Alike rows v x
    before v here = next_alike rows group s is x uncut v here

    by_parts : Member group t ⊎ Member (x ∷ []) t → Member group u ⊎ Member (x ∷ []) u → Alike rows t u
    by_parts (inl one) (inl other) = all t u one other
    by_parts (inl one) (inr (inl same)) = subst (Alike rows t) same (before t one)
    by_parts (inl one) (inr (inr never)) = absurd never
    by_parts (inr (inl same)) (inl other) =
        λ place a b told_t told_u. sym (before u other place b a told_u (ap (λ (v : FrameSection). told_byte rows v place) same ∙ told_t))
    by_parts (inr (inl one)) (inr (inl other)) =
        λ place a b told_t told_u. one_byte a b (sym told_t ∙ ap (λ (v : FrameSection). told_byte rows v place) (sym one ∙ other) ∙ told_u)
    by_parts (inr (inl same)) (inr (inr never)) = absurd never
    by_parts (inr (inr never)) other = absurd never

module _ (timing : Timing) (rows : ℕ) (group : List TimedSection)
    (uncut : (i : ℕ) → 0 < i → i < length group → is_cut timing rows (take i group) (section_at group i) ≡ false) where
  uncut_at : (i : ℕ) → i < length group → is_cut timing rows (take i group) (section_at group i) ≡ false
  uncut_at zero low = refl
  uncut_at (suc i) low = uncut (suc i) (omega arith) low

  prefixes : (i : ℕ) → i ≤ length group → (s : Summary) × IsSummaryOf (sections_of (take i group)) s × AllAlike rows (sections_of (take i group))
  prefixes zero low = (no_summary, summary_none, λ t u never. absurd never)
  prefixes (suc i) low =
      let before = prefixes i (omega (arith, low)) in
      let x : FrameSection = (section_at group i).section in
      let next : is_cut_by_table rows (sections_of (take i group)) x ≡ false = uncut_by_table timing rows (take i group) (section_at group i) (uncut_at i (omega (arith, low))) in
      let same : sections_of (take i group) ++ x ∷ [] ≡ sections_of (take (suc i) group)
      = sym (ap sections_of (take_one group i (omega (arith, low))) ∙ map-append (λ (v : TimedSection). v.section) (take i group) (section_at group i ∷ [])) in (
        summary_more before.0 x,
        subst (λ (l : List FrameSection). IsSummaryOf l (summary_more before.0 x)) same (summary_next rows (sections_of (take i group)) before.0 x before.1 next),
        subst (AllAlike rows) same (with_next rows (sections_of (take i group)) before.0 before.1 x next before.2),
      )

  group_alike : AllAlike rows (sections_of group)
  group_alike = subst (λ (l : List TimedSection). AllAlike rows (sections_of l)) (take_all (length group) group (omega arith)) (prefixes (length group) (omega arith)).2

pub sections_alike : (timing : Timing) (rows : ℕ) (sections : List TimedSection) (frames : List (List TimedSection)) → AreReceivedFrames timing rows sections frames
    → (n : ℕ) → n < length frames → (t u : FrameSection) → Contains (sections_of (frame_at frames n)) t → Contains (sections_of (frame_at frames n)) u
    → (place a b : ℕ) → told_byte rows t place ≡ Some a → told_byte rows u place ≡ Some b → a ≡ b
sections_alike timing rows sections frames are n low t u there_t there_u =
    group_alike timing rows (frame_at frames n) (λ i. are.within n i low) t u
    (member_contains (sections_of (frame_at frames n)) t there_t) (member_contains (sections_of (frame_at frames n)) u there_u)
