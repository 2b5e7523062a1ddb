-- The first wanted section, with one event more.
use Rattle.std.proofs.Common.{◌≡◌, ℕ, List, [], ◌∷◌, ◌++◌, find, refl, ap, sym, ◌∙◌, append_assoc, Option, None, Some}
use Rattle.std.specs.Option.{option_or}
use Rattle.std.proofs.lemmas.List.{append-nil}
use Rattle.std.proofs.lemmas.List.Folds.{find-append}
use Rattle.ts_spec.specs.Events.{Event, unit_event, bad_check_event, delimit_event, bad_length_event}
use Rattle.section_spec.specs.Section.{section_form}
use Rattle.section_codec.specs.Spans.{section_lawful}
use Rattle.unit_stream.specs.Telling.{HasHeard}
use Rattle.service_reception.specs.Counting.{units_in}
use Rattle.service_reception.specs.Taking.{IsProper}
use Rattle.service_reception.proofs.Counted.{units_in-append}
use Rattle.service_reception.proofs.Keeping.{section_short}
use Rattle.service_reception.proofs.Proper.{AllProper}
use Rattle.psi_tables.specs.First.{FirstSection, wants, found_with, TakesEvent}
use Rattle.psi_tables.specs.declared.first.Wanted.{Wanted}

found_next : (w : Wanted) (sections : List (List ℕ)) (section : List ℕ) → found_with w (find (wants w) sections) section ≡ find (wants w) (sections ++ section ∷ [])
found_next w sections section = by_found (find (wants w) sections) ∙ sym (find-append (wants w) sections (section ∷ []))
  where
    by_found : (found : Option (List ℕ)) → found_with w found section ≡ option_or found (find (wants w) (section ∷ []))
    by_found None = refl
    by_found (Some x) = refl

-- what is wanted stays, and the first of these sections that is wanted was found
pub record HasFirst (w : Wanted) (first : FirstSection) (sections : List (List ℕ)) : Type 0 where
  pub wanted_is : first.wanted ≡ w
  pub found_is : first.found ≡ find (wants w) sections

none_taken : (w : Wanted) (event : Event) (given : List Event) (before after : FirstSection) → units_in (event ∷ []) ≡ [] → after ≡ before
    → HasFirst w before (units_in given) → HasFirst w after (units_in (given ++ event ∷ []))
none_taken w event given before after none same has = record {
  wanted_is = ap (λ (f : FirstSection). f.wanted) same ∙ has.wanted_is;
  found_is = ap (λ (f : FirstSection). f.found) same ∙ has.found_is
      ∙ ap (find (wants w)) (sym (units_in-append given (event ∷ []) ∙ ap (λ (t : List (List ℕ)). units_in given ++ t) none ∙ append-nil (units_in given)));
}

one_taken : (w : Wanted) (event : Event) (given : List Event) (before after : FirstSection) → TakesEvent event before after → IsProper section_form event
    → HasFirst w before (units_in given) → HasFirst w after (units_in (given ++ event ∷ []))
one_taken w (unit_event moment section) given before after takes proper has = record {
  wanted_is = takes.wanted_is ∙ has.wanted_is;
  found_is = takes.found_is (section_short section proper)
      ∙ ap (λ (v : Wanted). found_with v before.found section) has.wanted_is
      ∙ ap (λ (o : Option (List ℕ)). found_with w o section) has.found_is
      ∙ found_next w (units_in given) section
      ∙ ap (find (wants w)) (sym (units_in-append given (unit_event moment section ∷ [])));
}
one_taken w bad_check_event given before after takes proper has = none_taken w bad_check_event given before after refl takes has
one_taken w delimit_event given before after takes proper has = none_taken w delimit_event given before after refl takes has
one_taken w bad_length_event given before after takes proper has = none_taken w bad_length_event given before after refl takes has

-- all events are taken
pub all_taken : (w : Wanted) {L : Type 0} (Hears : L → Event → L → Type 0) (view : L → FirstSection) → ((old new : L) (event : Event) → Hears old event new → TakesEvent event (view old) (view new))
    → (events given : List Event) (old new : L) → HasHeard Hears old events new → AllProper section_form section_lawful events
    → HasFirst w (view old) (units_in given) → HasFirst w (view new) (units_in (given ++ events))
all_taken w {L} Hears view each [] given old new heard proper has = record {
  wanted_is = ap (λ (l : L). (view l).wanted) heard ∙ has.wanted_is;
  found_is = ap (λ (l : L). (view l).found) heard ∙ has.found_is ∙ ap (λ (t : List Event). find (wants w) (units_in t)) (sym (append-nil given));
}
all_taken w {L} Hears view each (event ∷ events) given old new (mid, (one, rest)) proper has =
    let same : (given ++ event ∷ []) ++ events ≡ given ++ event ∷ events = append_assoc given (event ∷ []) events in
    let then = all_taken w Hears view each events (given ++ event ∷ []) mid new rest proper.1
    (one_taken w event given (view old) (view mid) (each old mid event one) proper.0 has) in
    record {
      wanted_is = then.wanted_is;
      found_is = then.found_is ∙ ap (λ (t : List Event). find (wants w) (units_in t)) same;
    }

-- what is wanted stays
pub wanted_stays : (old new : FirstSection) (event : Event) → TakesEvent event old new → new.wanted ≡ old.wanted
wanted_stays old new (unit_event moment section) takes = takes.wanted_is
wanted_stays old new bad_check_event takes = ap (λ (f : FirstSection). f.wanted) takes
wanted_stays old new delimit_event takes = ap (λ (f : FirstSection). f.wanted) takes
wanted_stays old new bad_length_event takes = ap (λ (f : FirstSection). f.wanted) takes
