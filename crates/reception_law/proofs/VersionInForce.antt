-- The version in force, record by record.
use Rattle.std.proofs.Common.{◌≡◌, inl, ℕ, ◌≤◌, Bool, true, false, cond, leb, Option, None, Some, List, [], ◌∷◌, ◌++◌, length, take, drop, refl, ap, sym, subst, ◌∙◌, arith, append_assoc}
use Rattle.std.specs.Prelude.{max, fold}
use Rattle.std.specs.List.{filter_map, cons_option}
use Rattle.std.proofs.lemmas.Bool.{leb-true}
use Rattle.std.proofs.lemmas.List.{append-nil, take_all, take-take, take-append-drop, take-append-le, drop_at, drop_all}
use Rattle.ts_spec.specs.Recording.{Record}
use Rattle.section_spec.specs.Section.{section_form}
use Rattle.section_codec.specs.Spans.{section_lawful}
use Rattle.plan_spec.specs.Plan.{PlanFields, IntFields}
use Rattle.plan_spec.specs.InForce.{if_version, version_by, version_in, version_behind}
use Rattle.int_spec.specs.Versions.{version_of_platform}
use Rattle.reception_spec.specs.Packets.{is_on}
use Rattle.reception_spec.specs.Numbers.{units_on}
use Rattle.reception_spec.specs.Table.{table_pid, table_sections}
use Rattle.reception_spec.specs.Spans.{version_at_place, version_at_end}
use Rattle.reception_law.specs.InForce.{sections_ended}
use Rattle.reception_law.proofs.Fronts.{IsPrefix, front_through, rest_is, units_front, same_units, no_units_of_nothing}

-- The greatest of numbers, of which the first may be none.

max_from : (a : ℕ) (xs : List ℕ) → fold max a xs ≡ max a (fold max 0 xs)
max_from a [] = omega arith
max_from a (x ∷ xs) = omega (arith, max_from (max a x) xs, max_from (max 0 x) xs)

pub max_first : (o : Option ℕ) (xs : List ℕ) → fold max 0 (cons_option o xs) ≡ max (fold max 0 (cons_option o [])) (fold max 0 xs)
max_first None xs = omega arith
max_first (Some x) xs = max_from (max 0 x) xs

greatest_of_both : (f : List ℕ → Option ℕ) (first second : List (List ℕ))
    → fold max 0 (filter_map f (first ++ second)) ≡ max (fold max 0 (filter_map f first)) (fold max 0 (filter_map f second))
greatest_of_both f [] second = omega arith
greatest_of_both f (section ∷ first) second =
    omega (arith, max_first (f section) (filter_map f (first ++ second)), max_first (f section) (filter_map f first), greatest_of_both f first second)

pub behind_both : (plan : PlanFields) (first second : List (List ℕ)) → version_behind plan (first ++ second) ≡ max (version_behind plan first) (version_behind plan second)
behind_both plan first second = greatest_of_both (version_in plan) first second

-- It is one of the plan's.

version_most : (plan : PlanFields) (told : Option ℕ) → fold max 0 (cons_option (if_version plan told) []) ≤ length plan.changes
version_most plan None = omega arith
version_most plan (Some told) = by_test (leb told (length plan.changes)) refl
  where
    by_test : (b : Bool) → leb told (length plan.changes) ≡ b → fold max 0 (cons_option (cond b (Some told) None) []) ≤ length plan.changes
    by_test true test = omega (arith, leb-true told (length plan.changes) test)
    by_test false test = omega arith

version_in_most : (plan : PlanFields) (table : Option IntFields) (section : List ℕ) → fold max 0 (cons_option (version_by plan table section) []) ≤ length plan.changes
version_in_most plan None section = omega arith
version_in_most plan (Some int) section = version_most plan (version_of_platform int.platform_id section)

behind_most : (plan : PlanFields) (sections : List (List ℕ)) → version_behind plan sections ≤ length plan.changes
behind_most plan [] = omega arith
behind_most plan (section ∷ sections) =
    omega (arith, max_first (version_in plan section) (filter_map (version_in plan) sections), version_in_most plan plan.table section, behind_most plan sections)

pub most : (plan : PlanFields) (records : List Record) (place : ℕ) → version_at_place plan records place ≤ length plan.changes
unfolding version_at_place
most plan records place = behind_most plan (table_sections plan (take place records))

-- Record by record.

pub at_end : (plan : PlanFields) (records : List Record) → version_at_end plan records ≡ version_behind plan (table_sections plan records)
unfolding version_at_place
at_end plan records = ap (λ (t : List Record). version_behind plan (table_sections plan t)) (take_all (length records) records (omega arith))

pub before : (plan : PlanFields) (records more : List Record) (place : ℕ) → place ≤ length records → version_at_place plan (records ++ more) place ≡ version_at_place plan records place
unfolding version_at_place
before plan records more place within = ap (λ (t : List Record). version_behind plan (table_sections plan t)) (take-append-le place records more within)

one_front : (plan : PlanFields) (records : List Record) (r : Record) → IsPrefix (table_sections plan records) (table_sections plan (records ++ r ∷ []))
one_front plan records r = units_front section_form section_lawful (table_pid plan.table) records r

sections_front : (plan : PlanFields) (records more : List Record) → IsPrefix (table_sections plan records) (table_sections plan (records ++ more))
sections_front plan records [] = ([], ap (table_sections plan) (append-nil records) ∙ sym (append-nil (table_sections plan records)))
sections_front plan records (r ∷ more) =
    let rest = sections_front plan (records ++ r ∷ []) more in
    front_through (table_sections plan records) (table_sections plan (records ++ r ∷ [])) (table_sections plan (records ++ r ∷ more))
    (one_front plan records r) (rest.0, ap (table_sections plan) (sym (append_assoc records (r ∷ []) more)) ∙ rest.1)

pub sections_more : (plan : PlanFields) (records : List Record) (r : Record) → table_sections plan (records ++ r ∷ []) ≡ table_sections plan records ++ sections_ended plan records r
sections_more plan records r = rest_is (table_sections plan records) (table_sections plan (records ++ r ∷ [])) (one_front plan records r)

pub ended_is : (plan : PlanFields) (records : List Record) (r : Record) (ended : List (List ℕ)) → table_sections plan (records ++ r ∷ []) ≡ table_sections plan records ++ ended
    → sections_ended plan records r ≡ ended
ended_is plan records r ended more =
    ap (drop (length (table_sections plan records))) more ∙ drop_at (table_sections plan records) ended (length (table_sections plan records)) refl

pub version_more : (plan : PlanFields) (records : List Record) (r : Record)
    → version_at_end plan (records ++ r ∷ []) ≡ max (version_at_end plan records) (version_behind plan (sections_ended plan records r))
version_more plan records r =
    at_end plan (records ++ r ∷ [])
    ∙ ap (version_behind plan) (sections_more plan records r)
    ∙ behind_both plan (table_sections plan records) (sections_ended plan records r)
    ∙ ap (λ (n : ℕ). max n (version_behind plan (sections_ended plan records r))) (sym (at_end plan records))

behind_more : (plan : PlanFields) (records more : List Record) → version_behind plan (table_sections plan records) ≤ version_behind plan (table_sections plan (records ++ more))
behind_more plan records more =
    let front = sections_front plan records more in
    let both : version_behind plan (table_sections plan (records ++ more)) ≡ max (version_behind plan (table_sections plan records)) (version_behind plan front.0) =
    ap (version_behind plan) front.1 ∙ behind_both plan (table_sections plan records) front.0 in
    omega (arith, both)

pub rises : (plan : PlanFields) (records : List Record) (place later : ℕ) → place ≤ later → version_at_place plan records place ≤ version_at_place plan records later
unfolding version_at_place
rises plan records place later order =
    let whole : take place records ++ drop place (take later records) ≡ take later records =
    ap (λ (t : List Record). t ++ drop place (take later records)) (sym (take-take place later records order)) ∙ take-append-drop place (take later records) in
    subst (λ (t : List Record). version_behind plan (table_sections plan (take place records)) ≤ version_behind plan (table_sections plan t)) whole
    (behind_more plan (take place records) (drop place (take later records)))

pub rises_at_end : (plan : PlanFields) (records : List Record) (r : Record) → version_at_end plan records ≤ version_at_end plan (records ++ r ∷ [])
rises_at_end plan records r = omega (arith, version_more plan records r)

-- Version 0.

pub first : (plan : PlanFields) → version_at_end plan [] ≡ 0
first plan = at_end plan [] ∙ ap (version_behind plan) (no_units_of_nothing section_form (table_pid plan.table))

pub without_table : (plan : PlanFields) (records : List Record) (place : ℕ) → plan.table ≡ None → version_at_place plan records place ≡ 0
unfolding version_at_place
without_table plan records place none =
    ap (λ (table : Option IntFields). version_behind plan (units_on section_form (table_pid table) (take place records))) none

pub without_changes : (plan : PlanFields) (records : List Record) (place : ℕ) → plan.changes ≡ [] → version_at_place plan records place ≡ 0
without_changes plan records place none = omega (arith, most plan records place, ap (λ l. length l) none)

-- A record that is no packet of the INT.

same_sections : (plan : PlanFields) (int : IntFields) (records : List Record) (r : Record) → plan.table ≡ Some int → is_on int.pid r ≡ false
    → table_sections plan (records ++ r ∷ []) ≡ table_sections plan records
same_sections plan int records r is off =
    same_units section_form (table_pid plan.table) int.pid (inl (ap table_pid is)) records r off

pub none_ended : (plan : PlanFields) (int : IntFields) (records : List Record) (r : Record) → plan.table ≡ Some int → is_on int.pid r ≡ false → sections_ended plan records r ≡ []
none_ended plan int records r is off =
    ap (drop (length (table_sections plan records))) (same_sections plan int records r is off)
    ∙ drop_all (length (table_sections plan records)) (table_sections plan records) (omega arith)

pub version_stays : (plan : PlanFields) (int : IntFields) (records : List Record) (r : Record) → plan.table ≡ Some int → is_on int.pid r ≡ false
    → version_at_end plan (records ++ r ∷ []) ≡ version_at_end plan records
version_stays plan int records r is off = at_end plan (records ++ r ∷ []) ∙ ap (version_behind plan) (same_sections plan int records r is off) ∙ sym (at_end plan records)
