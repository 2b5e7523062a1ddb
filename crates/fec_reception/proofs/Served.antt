-- A service with frames is received by the words of its PID.
use Rattle.std.proofs.Common.{◌≡◌, ℕ, ◌+◌, ◌<◌, ◌≤◌, Bool, true, false, cond, ◌&&◌, List, [], ◌∷◌, ◌++◌, length, flat_map, refl, ap, ap₂, sym, ◌∙◌, arith, eq-eqb, Option, Some}
use Rattle.std.specs.Prelude.{◌==◌, not, nat_lt, is_some}
use Rattle.std.specs.List.{count_by}
use Rattle.std.proofs.lemmas.Bool.{eqb-true}
use Rattle.std.proofs.lemmas.List.Sums.{sum_by-cons}
use Rattle.ts_spec.specs.Recording.{RecordingForm, Record}
use Rattle.section_spec.specs.Section.{section_form}
use Rattle.addr_rules.specs.Filter.{is_wanted}
use Rattle.addr_rules.specs.declared.filter.Label.TheVariants.{Broadcast}
use Rattle.fec_frame_spec.specs.Sections.{frame_sections_in}
use Rattle.fec_frame_spec.specs.Groups.{timing_in}
use Rattle.fec_frame_spec.specs.Delivered.{datagrams_of_frames}
use Rattle.plan_spec.specs.Plan.{KindFields, fec, WindowFields, ServiceFields, pid_of}
use Rattle.stream_spec.specs.Services.{form_of_kind}
use Rattle.reception_spec.specs.Units.{is_filtered, delivered_by_unit}
use Rattle.reception_spec.specs.Units.{is_unread as is_unread_of}
use Rattle.reception_spec.specs.Numbers.{UnitNumbers, pid_numbers, units_on, units_of, unit_numbers, numbers_if_on, service_pid_numbers}
use Rattle.reception_spec.specs.Frames.{told_frames, rows_of}
use Rattle.reception_spec.specs.Delivered.{told_by}
use Rattle.fec_reception.specs.Frames.{closed_in, is_unread, unread_in, told_in}

-- counts of what holds alike
count_same : {X : Type 0} (p q : X → Bool) → ((x : X) → p x ≡ q x) → (xs : List X) → count_by p xs ≡ count_by q xs
count_same p q same [] = refl
count_same {X} p q same (x ∷ xs) =
    sum_by-cons (λ (y : X). cond {A = ℕ} (p y) 1 0) x xs
    ∙ ap₂ (λ (a b : ℕ). a + b) (ap (λ (b : Bool). cond {A = ℕ} b 1 0) (same x)) (count_same p q same xs)
    ∙ sym (sum_by-cons (λ (y : X). cond {A = ℕ} (q y) 1 0) x xs)

count_none : {X : Type 0} (p : X → Bool) → ((x : X) → p x ≡ false) → (xs : List X) → count_by p xs ≡ 0
count_none p none [] = refl
count_none {X} p none (x ∷ xs) =
    sum_by-cons (λ (y : X). cond {A = ℕ} (p y) 1 0) x xs
    ∙ ap₂ (λ (a b : ℕ). a + b) (ap (λ (b : Bool). cond {A = ℕ} b 1 0) (none x)) (count_none p none xs)

-- One unit of a service with frames.

-- it is unread alike
no_length : (n : ℕ) → not (nat_lt 0 n) ≡ (n == 0)
no_length n = by_both (nat_lt 0 n) (n == 0) refl refl
  where
    true_false : true ≡ false → ⊥
    true_false e = cc

    by_both : (b e : Bool) → nat_lt 0 n ≡ b → (n == 0) ≡ e → not b ≡ e
    by_both true true less is = let more : 0 < n = grind (arith, less) in absurd (omega (arith, more, eqb-true n 0 is))
    by_both true false less is = refl
    by_both false true less is = refl
    by_both false false less is = let few : n ≤ 0 = grind (arith, less) in absurd (true_false (sym (eq-eqb n 0 (omega (arith, few))) ∙ is))

-- any filter wants it
wanted_by_all : (filter : List (List ℕ)) → is_wanted filter Broadcast ≡ true
wanted_by_all [] = refl
wanted_by_all (first ∷ others) = refl

never_filtered : (unread wanted : Bool) → wanted ≡ true → (not unread && not wanted) ≡ false
never_filtered true wanted is = refl
never_filtered false true is = refl
never_filtered false false is = absurd (cc)

nothing_by_itself : (wanted : Bool) → cond {A = List (List ℕ)} wanted [] [] ≡ []
nothing_by_itself true = refl
nothing_by_itself false = refl

abbrev units_with : ℕ → ℕ → ℕ → UnitNumbers
units_with unread filtered datagrams = record { unread = unread; filtered = filtered; datagrams = datagrams }

module _ (service : ServiceFields) (pid rows parity : ℕ) (window : Option WindowFields) where
  -- the service, of this kind
  abbrev framed : ServiceFields
  framed = record service { kind = fec pid rows parity window }

  unread_alike : (unit : List ℕ) → is_unread_of framed unit ≡ is_unread rows unit
  unread_alike unit = no_length (length (frame_sections_in rows unit))

  not_filtered : (unit : List ℕ) → is_filtered framed unit ≡ false
  not_filtered unit = never_filtered (is_unread_of framed unit) (is_wanted service.filter Broadcast) (wanted_by_all service.filter)

  gives_nothing : (units : List (List ℕ)) → flat_map (delivered_by_unit framed) units ≡ []
  gives_nothing [] = refl
  gives_nothing (unit ∷ units) = ap₂ (λ (a b : List (List ℕ)). a ++ b) (nothing_by_itself (is_wanted service.filter Broadcast)) (gives_nothing units)

  framed_told : (ended : Bool) (form : RecordingForm) (records : List Record) → told_by ended form framed records ≡ told_in ended (timing_in form (is_some window)) rows pid records
  framed_told ended form records =
      ap (λ (t : List (List ℕ)). t ++ datagrams_of_frames rows (told_frames ended form (fec pid rows parity window) records)) (gives_nothing (units_of framed records))

  framed_units : (records : List Record) → unit_numbers framed (units_of framed records) ≡ record { unread = unread_in rows pid records; filtered = 0; datagrams = 0 }
  framed_units records =
      let units : List (List ℕ) = units_on section_form (Some pid) records in
      ap (λ (n : ℕ). units_with n (count_by (is_filtered framed) units) (length (flat_map (delivered_by_unit framed) units))) (count_same (is_unread_of framed) (is_unread rows) unread_alike units)
      ∙ ap (λ (n : ℕ). units_with (unread_in rows pid records) n (length (flat_map (delivered_by_unit framed) units))) (count_none (is_filtered framed) not_filtered units)
      ∙ ap (λ (t : List (List ℕ)). units_with (unread_in rows pid records) 0 (length t)) (gives_nothing units)

-- The same of a service that is known to be of this kind.

module _ (it : ServiceFields) (pid rows parity : ℕ) (window : Option WindowFields) (is : it.kind ≡ fec pid rows parity window) where
  same_service : framed it pid rows parity window ≡ it
  same_service = ap (λ (kind : KindFields). record it { kind = kind }) (sym is)

  pub served_frames : (ended : Bool) (form : RecordingForm) (records : List Record)
      → told_frames ended form it.kind records ≡ closed_in ended (timing_in form (is_some window)) rows pid records
  served_frames ended form records = ap (λ (kind : KindFields). told_frames ended form kind records) is

  pub served_rows : rows_of it.kind ≡ rows
  served_rows = ap rows_of is

  pub served_told : (ended : Bool) (form : RecordingForm) (records : List Record) → told_by ended form it records ≡ told_in ended (timing_in form (is_some window)) rows pid records
  served_told ended form records =
      sym (ap (λ (s : ServiceFields). told_by ended form s records) same_service) ∙ framed_told it pid rows parity window ended form records

  pub served_units : (records : List Record) → unit_numbers it (units_of it records) ≡ record { unread = unread_in rows pid records; filtered = 0; datagrams = 0 }
  served_units records =
      sym (ap (λ (s : ServiceFields). unit_numbers s (units_of s records)) same_service) ∙ framed_units it pid rows parity window records

  pub served_numbers : (records : List Record) → service_pid_numbers it records ≡ pid_numbers section_form pid records
  served_numbers records = ap (λ (kind : KindFields). numbers_if_on (form_of_kind kind) (pid_of kind) records) is
