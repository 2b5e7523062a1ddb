-- Values that are read of texts one by one: those so far, and the rest of the texts.
use Rattle.std.proofs.Common.{◌≡◌, Bool, true, ◌&&◌, List, [], ◌∷◌, ◌++◌, map, refl, ap, sym, ◌∙◌, append_assoc}
use Rattle.std.specs.List.{AllZip}
use Rattle.std.proofs.lemmas.Bool.{and_parts}
use Rattle.std.proofs.lemmas.List.{append-nil}
use Rattle.service_plan.specs.Changes.{IsRead}

-- f and g are what does not depend on the spelling
pub record SoFar {T V B : Type 0} (Spells : T → V → Type 0) (f : T → B) (g : V → B) (all rest : List T) (values : List V) (spelled : Bool) : Type 0 where
  pub forth : spelled ≡ true → (later : List V) → AllZip Spells rest later → AllZip Spells all (values ++ later)
  pub back : (whole : List V) → AllZip Spells all whole → (spelled ≡ true) × ((later : List V) × (whole ≡ values ++ later) × AllZip Spells rest later)
  pub same : map g values ++ map f rest ≡ map f all

pub none_yet : {T V B : Type 0} (Spells : T → V → Type 0) (f : T → B) (g : V → B) (all : List T) → SoFar Spells f g all all [] true
none_yet Spells f g all = record { forth = λ yes later are. are; back = λ whole are. (refl, (whole, refl, are)); same = refl }

both_true : (a b : Bool) → a ≡ true → b ≡ true → (a && b) ≡ true
both_true a b x y = rw (x, y)

split : {T V : Type 0} (Spells : T → V → Type 0) (text : T) (rest : List T) (value : V) (spelled : Bool) (before whole later : List V) → IsRead Spells text value spelled
    → whole ≡ before ++ later → AllZip Spells (text ∷ rest) later
    → (spelled ≡ true) × ((more : List V) × (whole ≡ (before ++ value ∷ []) ++ more) × AllZip Spells rest more)
split Spells text rest value spelled before whole [] read same are = absurd are
split {T} {V} Spells text rest value spelled before whole (first ∷ later) read same are =
    let found = read.only first are.0 in
    (found.0, (later, same ∙ ap (λ (x : V). before ++ x ∷ later) found.1 ∙ sym (append_assoc before (value ∷ []) later), are.1))

map_more : {V B : Type 0} (g : V → B) (values : List V) (value : V) (rest : List B) → map g (values ++ value ∷ []) ++ rest ≡ map g values ++ g value ∷ rest
map_more g [] value rest = refl
map_more {V} {B} g (v ∷ values) value rest = ap (λ (l : List B). g v ∷ l) (map_more g values value rest)

pub one_more : {T V B : Type 0} (Spells : T → V → Type 0) (f : T → B) (g : V → B) (text : T) (all rest : List T) (values : List V) (value : V) (before here : Bool)
    → SoFar Spells f g all (text ∷ rest) values before → IsRead Spells text value here → g value ≡ f text → SoFar Spells f g all rest (values ++ value ∷ []) (before && here)
one_more {T} {V} {B} Spells f g text all rest values value before here far read alike = record {
  forth = λ yes later are.
      let parts = and_parts before here yes in
      rw (append_assoc values (value ∷ []) later) (far.forth parts.0 (value ∷ later) (read.all parts.1, are));
  back = λ whole are.
      let found = far.back whole are in
      let parts = split Spells text rest value here values whole found.1.0 read found.1.1 found.1.2 in
      (both_true before here found.0 parts.0, parts.1);
  same = map_more g values value (map f rest) ∙ ap (λ (x : B). map g values ++ x ∷ map f rest) alike ∙ far.same;
}

last_whole : {T V : Type 0} (Spells : T → V → Type 0) (before whole later : List V) → whole ≡ before ++ later → AllZip Spells [] later → whole ≡ before
last_whole Spells before whole [] same are = same ∙ append-nil before
last_whole Spells before whole (first ∷ later) same are = absurd are

-- where no text is left, they are those of all texts
pub all_read : {T V B : Type 0} (Spells : T → V → Type 0) (f : T → B) (g : V → B) (all : List T) (values : List V) (spelled : Bool)
    → SoFar Spells f g all [] values spelled → IsRead (AllZip Spells) all values spelled
all_read Spells f g all values spelled far =
    let ended : values ++ [] ≡ values = append-nil values in
    record {
      all = λ yes. rw ended at (far.forth yes [] tt);
      only = λ whole are. let found = far.back whole are in (found.0, last_whole Spells values whole found.1.0 found.1.1 found.1.2);
    }

pub all_same : {T V B : Type 0} (Spells : T → V → Type 0) (f : T → B) (g : V → B) (all : List T) (values : List V) (spelled : Bool)
    → SoFar Spells f g all [] values spelled → map g values ≡ map f all
all_same Spells f g all values spelled far = sym (append-nil (map g values)) ∙ far.same
