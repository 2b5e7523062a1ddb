-- What an outlet was told, one list of pairs after another.
use Rattle.std.proofs.Common.{◌≡◌, ℕ, List, [], ◌∷◌, ◌++◌, refl, ap, sym, ◌∙◌, subst, append-nil, append_assoc, Result, Ok, Err, OnErr}
use Rattle.std.proofs.lemmas.List.{map-append}
use Rattle.outlet_spec.specs.Pairs.{pairs_of, Delivers, DeliversFront}

-- the pairs of datagrams, and of others after them
pub pairs_of-append : (service : ℕ) (xs ys : List (List ℕ)) → pairs_of service (xs ++ ys) ≡ pairs_of service xs ++ pairs_of service ys
pairs_of-append service xs ys = map-append (λ (datagram : List ℕ). (service, datagram)) xs ys

-- nothing was delivered
pub delivers_none : (old : List (ℕ × List ℕ) → Type 0) → Delivers old old []
delivers_none old = λ before stands. subst old (sym (append-nil before)) stands

-- some pairs, and others after them
pub delivers_then : (a b c : List (ℕ × List ℕ) → Type 0) (p q : List (ℕ × List ℕ)) → Delivers a b p → Delivers b c q → Delivers a c (p ++ q)
delivers_then a b c p q first then = λ before stands. subst c (append_assoc before p q) (then (before ++ p) (first before stands))

pub delivers_nothing : (old : List (ℕ × List ℕ) → Type 0) (pairs : List (ℕ × List ℕ)) → pairs ≡ [] → Delivers old old pairs
delivers_nothing old pairs none = λ before stands. subst old (sym (ap (λ (t : List (ℕ × List ℕ)). before ++ t) none ∙ append-nil before)) stands

-- the same pairs
pub delivers_same : (a b : List (ℕ × List ℕ) → Type 0) (p pairs : List (ℕ × List ℕ)) → pairs ≡ p → Delivers a b p → Delivers a b pairs
delivers_same a b p pairs same delivers = λ before stands. subst (λ (t : List (ℕ × List ℕ)). b (before ++ t)) (sym same) (delivers before stands)

abbrev pub front_same : (a b : List (ℕ × List ℕ) → Type 0) (refused : ℕ → List ℕ → Type 0) (p pairs : List (ℕ × List ℕ)) → pairs ≡ p
    → DeliversFront a b refused p → DeliversFront a b refused pairs
front_same a b refused p pairs same stops = record {
  front = stops.front;
  service = stops.service;
  datagram = stops.datagram;
  behind = stops.behind;
  pairs_are = same ∙ stops.pairs_are;
  delivers = stops.delivers;
  refuses = stops.refuses;
}

-- the one datagram was refused
pub front_one : {T E : Type 0} (result : Result T E) (old new : List (ℕ × List ℕ) → Type 0) (refused : ℕ → List ℕ → Type 0) (k : ℕ) (d : List ℕ) (pairs : List (ℕ × List ℕ))
    → pairs ≡ (k, d) ∷ [] → OnErr result (refused k d) → OnErr result ((before : List (ℕ × List ℕ)) → old before → new before)
    → OnErr result (DeliversFront old new refused pairs)
front_one (Ok x) old new refused k d pairs are refuses unchanged = tt
front_one (Err x) old new refused k d pairs are refuses unchanged = record {
  front = [];
  service = k;
  datagram = d;
  behind = [];
  pairs_are = are;
  delivers = λ before stands. subst new (sym (append-nil before)) (unchanged before stands);
  refuses = refuses;
}

-- others were delivered before
abbrev pub front_then : (a b c : List (ℕ × List ℕ) → Type 0) (refused : ℕ → List ℕ → Type 0) (p q pairs : List (ℕ × List ℕ)) → pairs ≡ p ++ q
    → Delivers a b p → DeliversFront b c refused q → DeliversFront a c refused pairs
front_then a b c refused p q pairs are first stops = record {
  front = p ++ stops.front;
  service = stops.service;
  datagram = stops.datagram;
  behind = stops.behind;
  pairs_are = are ∙ ap (λ (t : List (ℕ × List ℕ)). p ++ t) stops.pairs_are ∙ sym (append_assoc p stops.front ((stops.service, stops.datagram) ∷ stops.behind));
  delivers = delivers_then a b c p stops.front first stops.delivers;
  refuses = stops.refuses;
}

-- others were to follow
abbrev pub front_before : (a b : List (ℕ × List ℕ) → Type 0) (refused : ℕ → List ℕ → Type 0) (p more pairs : List (ℕ × List ℕ)) → pairs ≡ p ++ more
    → DeliversFront a b refused p → DeliversFront a b refused pairs
front_before a b refused p more pairs are stops = record {
  front = stops.front;
  service = stops.service;
  datagram = stops.datagram;
  behind = stops.behind ++ more;
  pairs_are = are ∙ ap (λ (t : List (ℕ × List ℕ)). t ++ more) stops.pairs_are ∙ append_assoc stops.front ((stops.service, stops.datagram) ∷ stops.behind) more;
  delivers = stops.delivers;
  refuses = stops.refuses;
}
