-- Numbers with one event more.
use Rattle.std.proofs.Common.{◌≡◌, ℕ, zero, suc, ◌+◌, ◌^◌, ◌<◌, ◌≤◌, Bool, true, false, cond, List, [], ◌∷◌, ◌++◌, length, map, option_to_list, refl, ap, sym, ◌∙◌, arith, length-append, Option, None, Some}
use Rattle.std.specs.List.{flat_map, count_by}
use Rattle.std.proofs.lemmas.List.{map-append}
use Rattle.std.proofs.lemmas.List.Sums.{sum_by-append, count_by-le-length}
use Rattle.std.proofs.lemmas.Grind.{flat_map-append}
use Rattle.wire_spec.specs.Causes.{raised}
use Rattle.ts_spec.specs.Events.{Event, unit_event, bad_check_event, delimit_event, bad_length_event}
use Rattle.reassembly_law.specs.UnderWay.{unit_of_event}
use Rattle.plan_spec.specs.Plan.{KindFields, ule, mpe, fec, gse, ServiceFields}
use Rattle.stream_spec.specs.Services.{carried_by_unit}
use Rattle.reception_spec.specs.Units.{wants_unit, is_unread, is_filtered, delivered_by_unit}
use Rattle.reception_spec.specs.Numbers.{PidNumbers, UnitNumbers, unit_numbers, is_unit, is_bad_check, is_delimit, is_bad_length}
use Rattle.service_reception.specs.Counting.{counted_event, counted_units, raised_by, units_in, with_events}
use Rattle.service_reception.specs.Taking.{delivered_of}

-- a counter that does not reach its last value
raised_below : (n k : ℕ) → n + k < 2 ^ 64 → raised n k ≡ n + k
raised_below n k few = omega (arith, few)

raised_by_below : (n k : ℕ) → n + k < 2 ^ 64 → raised_by n k ≡ n + k
raised_by_below n zero few = omega arith
raised_by_below n (suc k) few = raised_below n (suc k) few

count_one : {X : Type 0} (p : X → Bool) (xs : List X) (x : X) → count_by p (xs ++ x ∷ []) ≡ count_by p xs + cond (p x) 1 0
count_one p xs x = omega (arith, sum_by-append (λ y. cond (p y) 1 0) xs (x ∷ []))

count_more : {X : Type 0} (p : X → Bool) (xs ys : List X) → count_by p (xs ++ ys) ≡ count_by p xs + count_by p ys
count_more p xs ys = sum_by-append (λ y. cond (p y) 1 0) xs ys

-- what is counted of one event more, where it is one that is counted, and where not
counted_yes : (p : Event → Bool) (given : List Event) (event : Event) → p event ≡ true → length (given ++ event ∷ []) < 2 ^ 64
    → raised (count_by p given) 1 ≡ count_by p (given ++ event ∷ [])
counted_yes p given event is few =
    raised_below (count_by p given) 1 (omega (arith, count_by-le-length p given, length-append given (event ∷ []), few))
    ∙ sym (count_one p given event ∙ ap (λ (b : Bool). count_by p given + cond b 1 0) is)

counted_no : (p : Event → Bool) (given : List Event) (event : Event) → p event ≡ false → count_by p given ≡ count_by p (given ++ event ∷ [])
counted_no p given event is_not =
    sym (count_one p given event ∙ ap (λ (b : Bool). count_by p given + cond b 1 0) is_not ∙ omega arith)

abbrev numbers_from : PidNumbers → ℕ → ℕ → ℕ → ℕ → PidNumbers
numbers_from links u b d l = record { heard = links.heard; repeats = links.repeats; gaps = links.gaps; units = u; bad_check = b; delimited = d; bad_length = l }

same_numbers : (links : PidNumbers) {u v b c d e l m : ℕ} → u ≡ v → b ≡ c → d ≡ e → l ≡ m → numbers_from links u b d l ≡ numbers_from links v c e m
same_numbers links {u} {v} {b} {c} {d} {e} {l} {m} one two three four =
    ap (λ (x : ℕ). numbers_from links x b d l) one ∙ ap (λ (x : ℕ). numbers_from links v x d l) two
    ∙ ap (λ (x : ℕ). numbers_from links v c x l) three ∙ ap (λ (x : ℕ). numbers_from links v c e x) four

-- the numbers of a PID, with one event more
pub event_counted : (links : PidNumbers) (given : List Event) (event : Event) → length (given ++ event ∷ []) < 2 ^ 64
    → counted_event (with_events links given) event ≡ with_events links (given ++ event ∷ [])
event_counted links given (unit_event moment unit) few =
    let event : Event = unit_event moment unit in
    same_numbers links (counted_yes is_unit given event refl few) (counted_no is_bad_check given event refl) (counted_no is_delimit given event refl) (counted_no is_bad_length given event refl)
event_counted links given bad_check_event few =
    same_numbers links (counted_no is_unit given bad_check_event refl) (counted_yes is_bad_check given bad_check_event refl few) (counted_no is_delimit given bad_check_event refl) (counted_no is_bad_length given bad_check_event refl)
event_counted links given delimit_event few =
    same_numbers links (counted_no is_unit given delimit_event refl) (counted_no is_bad_check given delimit_event refl) (counted_yes is_delimit given delimit_event refl few) (counted_no is_bad_length given delimit_event refl)
event_counted links given bad_length_event few =
    same_numbers links (counted_no is_unit given bad_length_event refl) (counted_no is_bad_check given bad_length_event refl) (counted_no is_delimit given bad_length_event refl) (counted_yes is_bad_length given bad_length_event refl few)

-- Units.

-- a unit delivers one datagram at most
at_most_one : {X : Type 0} (found : Option X) → length (option_to_list found) ≤ 1
at_most_one None = omega arith
at_most_one (Some x) = omega arith

few_carried : (kind : KindFields) (unit : List ℕ) → length (carried_by_unit kind unit) ≤ 1
few_carried (ule pid address packing) unit = at_most_one _
few_carried (mpe pid) unit = at_most_one _
few_carried (fec pid rows parity window) unit = omega arith
few_carried (gse isi address) unit = omega arith

few_delivered_by : (it : ServiceFields) (unit : List ℕ) → length (delivered_by_unit it unit) ≤ 1
few_delivered_by it unit = by_test (wants_unit it unit)
  where
    by_test : (b : Bool) → length {A = List ℕ} (cond b (carried_by_unit it.kind unit) []) ≤ 1
    by_test true = few_carried it.kind unit
    by_test false = omega arith

few_delivered : (it : ServiceFields) (units : List (List ℕ)) → length (flat_map (delivered_by_unit it) units) ≤ length units
few_delivered it [] = omega arith
few_delivered it (unit ∷ units) =
    omega (arith, few_delivered_by it unit, few_delivered it units, length-append (delivered_by_unit it unit) (flat_map (delivered_by_unit it) units))

abbrev units_from : ℕ → ℕ → ℕ → UnitNumbers
units_from u f d = record { unread = u; filtered = f; datagrams = d }

same_units : {u v f g d e : ℕ} → u ≡ v → f ≡ g → d ≡ e → units_from u f d ≡ units_from v g e
same_units {u} {v} {f} {g} {d} {e} one two three =
    ap (λ (x : ℕ). units_from x f d) one ∙ ap (λ (x : ℕ). units_from v x d) two ∙ ap (λ (x : ℕ). units_from v g x) three

-- the numbers of units, with some units more
pub units_counted : (it : ServiceFields) (xs ys : List (List ℕ)) → length (xs ++ ys) < 2 ^ 64
    → counted_units (unit_numbers it xs) (unit_numbers it ys) ≡ unit_numbers it (xs ++ ys)
units_counted it xs ys few = same_units (counted (is_unread it)) (counted (is_filtered it)) delivered
  where
    counted : (p : List ℕ → Bool) → raised_by (count_by p xs) (count_by p ys) ≡ count_by p (xs ++ ys)
    counted p =
        raised_by_below (count_by p xs) (count_by p ys) (omega (arith, count_by-le-length p xs, count_by-le-length p ys, length-append xs ys, few))
        ∙ sym (count_more p xs ys)

    delivered : raised_by (length (flat_map (delivered_by_unit it) xs)) (length (flat_map (delivered_by_unit it) ys)) ≡ length (flat_map (delivered_by_unit it) (xs ++ ys))
    delivered =
        raised_by_below (length (flat_map (delivered_by_unit it) xs)) (length (flat_map (delivered_by_unit it) ys))
        (omega (arith, few_delivered it xs, few_delivered it ys, length-append xs ys, few))
        ∙ sym (ap (λ (t : List (List ℕ)). length t) (flat_map-append (delivered_by_unit it) xs ys)
        ∙ length-append (flat_map (delivered_by_unit it) xs) (flat_map (delivered_by_unit it) ys))

-- Events.

pub units_in-append : (xs ys : List Event) → units_in (xs ++ ys) ≡ units_in xs ++ units_in ys
units_in-append xs ys =
    ap (map (λ (pair : ℕ × List ℕ). pair.1)) (flat_map-append unit_of_event xs ys)
    ∙ map-append (λ (pair : ℕ × List ℕ). pair.1) (flat_map unit_of_event xs) (flat_map unit_of_event ys)

pub delivered_of-append : (it : ServiceFields) (xs ys : List Event) → delivered_of it (xs ++ ys) ≡ delivered_of it xs ++ delivered_of it ys
delivered_of-append it xs ys = ap (flat_map (delivered_by_unit it)) (units_in-append xs ys) ∙ flat_map-append (delivered_by_unit it) (units_in xs) (units_in ys)

pub few_units : (events : List Event) → length (units_in events) ≤ length events
few_units [] = omega arith
few_units (unit_event moment unit ∷ events) = omega (arith, few_units events)
few_units (bad_check_event ∷ events) = omega (arith, few_units events)
few_units (delimit_event ∷ events) = omega (arith, few_units events)
few_units (bad_length_event ∷ events) = omega (arith, few_units events)

-- the numbers of units, with one event more
pub units_with_event : (it : ServiceFields) (given : List Event) (event : Event) → length (given ++ event ∷ []) < 2 ^ 64
    → counted_units (unit_numbers it (units_in given)) (unit_numbers it (units_in (event ∷ []))) ≡ unit_numbers it (units_in (given ++ event ∷ []))
units_with_event it given event few =
    units_counted it (units_in given) (units_in (event ∷ []))
    (omega (arith, few_units (given ++ event ∷ []), ap (λ (t : List (List ℕ)). length t) (units_in-append given (event ∷ [])), few))
    ∙ ap (unit_numbers it) (sym (units_in-append given (event ∷ [])))
