-- What whole bytes tell of their datagram's length is what their front says.
use Rattle.std.proofs.Common.{◌≡◌, ◌≢◌, ◌⊎◌, inl, inr, ⊎_elim, ℕ, ◌+◌, ◌<◌, ◌≤◌, Bool, true, false, ◌||◌, cond, eqb, ltb, List, ◌++◌, length, get_or, Option, Some, None, refl, ap, sym, ◌∙◌, arith}
use Rattle.wire_spec.specs.Bytes.{u16_at}
use Rattle.wire_spec.specs.Datagram.{version, header_length, total_length, ipv6_length, has_ipv4_front, has_ipv6_front, front_length}
use Rattle.ip_datagram.specs.Hint.{hint_of, ipv4_hint, ipv6_hint}
use Rattle.ip_datagram.specs.declared.hint.Hint.{Hint}
use Rattle.ip_datagram.specs.declared.hint.Hint.TheVariants.{More, Padding, Length, Bad}
use Rattle.ip_datagram.proofs.Fronts.{ipv4_parts, ipv6_parts, ipv4_test, ipv6_test, ipv6_is_no_ipv4, front_cases, IsFront-front_length}
use Rattle.ip_datagram.proofs.Hints.{hint_of-append, more_or_not}
use Rattle.std.proofs.lemmas.Bool.{cond-true, cond-false}

-- an IPv4 front tells its length
hint_of-ipv4 : (b : List ℕ) → has_ipv4_front b ≡ true → hint_of b ≡ Length (total_length b)
hint_of-ipv4 b h =
    let p : (version b ≡ 4) × (20 ≤ header_length b) × (header_length b ≤ total_length b) × (total_length b ≤ length b) = ipv4_parts b h in
    hint_by_ipv4 b p.0 (omega (arith, p.1, p.2, p.3)) p.1 p.2
  where
    hint_by_ipv4 : (b : List ℕ) → version b ≡ 4 → 20 ≤ length b → 20 ≤ header_length b → header_length b ≤ total_length b → hint_of b ≡ Length (total_length b)
    hint_by_ipv4 b v l k t = grind arith

hint_of-ipv6 : (b : List ℕ) → has_ipv6_front b ≡ true → hint_of b ≡ Length (ipv6_length b)
hint_of-ipv6 b h =
    let p : (version b ≡ 6) × (ipv6_length b ≤ length b) × (u16_at b 4 + get_or b 6 0 ≢ 0) = ipv6_parts b h in
    hint_by_ipv6 b p.0 (omega (arith, p.1)) p.2
  where
    hint_by_ipv6 : (b : List ℕ) → version b ≡ 6 → 40 ≤ length b → u16_at b 4 + get_or b 6 0 ≢ 0 → hint_of b ≡ Length (ipv6_length b)
    hint_by_ipv6 b v l j = grind arith

-- the hint of whole bytes is the length of their front
pub hint_of-front : (b : List ℕ) (n : ℕ) → front_length b ≡ Some n → hint_of b ≡ Length n
hint_of-front b n e =
    ⊎_elim
    (λ (four : (has_ipv4_front b ≡ true) × (total_length b ≡ n)). hint_of-ipv4 b four.0 ∙ ap (λ m. Length m) four.1)
    (λ (six : (has_ipv6_front b ≡ true) × (ipv6_length b ≡ n)). hint_of-ipv6 b six.0 ∙ ap (λ m. Length m) six.1)
    (front_cases b n e)

-- what a told length says of the tests before it
told_by : (e z f x : Bool) (a b : Hint) (n : ℕ) → cond e More (cond z Padding (cond f a (cond x b Bad))) ≡ Length n
    → ((f ≡ true) × (a ≡ Length n)) ⊎ ((x ≡ true) × (b ≡ Length n))
told_by true z f x a b n t = cc
told_by false true f x a b n t = cc
told_by false false true x a b n t = inl (refl, t)
told_by false false false true a b n t = inr (refl, t)
told_by false false false false a b n t = cc

behind_tests : (few bad : Bool) (m n : ℕ) → cond few More (cond bad Bad (Length m)) ≡ Length n → (bad ≡ false) × (m ≡ n)
behind_tests true bad m n e = cc
behind_tests false true m n e = cc
behind_tests false false m n e = (refl, cc)

front_of_hint : (b : List ℕ) (n : ℕ) → hint_of b ≡ Length n → n ≤ length b → (has_ipv4_front b ≡ true) × (total_length b ≡ n) ⊎ (has_ipv6_front b ≡ true) × (ipv6_length b ≡ n)
front_of_hint b n e l =
    ⊎_elim
    (λ (four : (eqb (version b) 4 ≡ true) × (ipv4_hint b ≡ Length n)).
    let p = behind_tests (ltb (length b) 4) (ltb (header_length b) 20 || ltb (total_length b) (header_length b)) (total_length b) n four.1 in
    inl (ipv4_test b (grind arith) (grind arith) (grind arith) (omega (arith, p.1, l)), p.1))
    (λ (six : (eqb (version b) 6 ≡ true) × (ipv6_hint b ≡ Length n)).
    let p = behind_tests (ltb (length b) 7) (eqb (u16_at b 4 + get_or b 6 0) 0) (ipv6_length b) n six.1 in
    inr (ipv6_test b (grind arith) (omega (arith, p.1, l)) (grind arith), p.1))
    (told_by (eqb (length b) 0) (eqb (version b) 0) (eqb (version b) 4) (eqb (version b) 6) (ipv4_hint b) (ipv6_hint b) n e)

-- bytes of which no length is told have no front
none_unless : (o : Option ℕ) → ((n : ℕ) → o ≢ Some n) → o ≡ None
none_unless None none = refl
none_unless (Some n) none = absurd (none n refl)

no_front : (b : List ℕ) → ((n : ℕ) → hint_of b ≢ Length n) → front_length b ≡ None
no_front b none = none_unless (front_length b) (λ n e. none n (hint_of-front b n e))

-- the hint of a prefix is that of the whole
hint_of-whole : (p r : List ℕ) (h : Hint) → h ≢ More → hint_of p ≡ h → hint_of (p ++ r) ≡ h
hint_of-whole p r h told e = hint_of-append p r (λ more. told (sym e ∙ more)) ∙ e

pub whole_front : (p r : List ℕ) (n : ℕ) → hint_of p ≡ Length n → n ≤ length (p ++ r) → front_length (p ++ r) ≡ Some n
whole_front p r n e l =
    ⊎_elim
    (λ (four : (has_ipv4_front (p ++ r) ≡ true) × (total_length (p ++ r) ≡ n)). cond-true (has_ipv4_front (p ++ r)) (Some (total_length (p ++ r))) (cond (has_ipv6_front (p ++ r)) (Some (ipv6_length (p ++ r))) None) four.0 ∙ ap (λ m. Some m) four.1)
    (λ (six : (has_ipv6_front (p ++ r) ≡ true) × (ipv6_length (p ++ r) ≡ n)).
    cond-false (has_ipv4_front (p ++ r)) (Some (total_length (p ++ r))) (cond (has_ipv6_front (p ++ r)) (Some (ipv6_length (p ++ r))) None) (ipv6_is_no_ipv4 (p ++ r) (ipv6_parts (p ++ r) six.0).0)
    ∙ (cond-true (has_ipv6_front (p ++ r)) (Some (ipv6_length (p ++ r))) None six.0 ∙ ap (λ m. Some m) six.1))
    (front_of_hint (p ++ r) n (hint_of-whole p r (Length n) (λ x. cc) e) l)

pub cut_front : (p r : List ℕ) (n : ℕ) → hint_of p ≡ Length n → length (p ++ r) < n → front_length (p ++ r) ≡ None
cut_front p r n e l =
    none_unless (front_length (p ++ r)) (λ m told.
    let other : Length m ≡ Length n = sym (hint_of-front (p ++ r) m told) ∙ hint_of-whole p r (Length n) (λ x. cc) e in
    let same : m ≡ n = cc in
    omega (arith, same, (IsFront-front_length (p ++ r) m told).within))

pub padded_front : (p r : List ℕ) → hint_of p ≡ Padding → front_length (p ++ r) ≡ None
padded_front p r e = no_front (p ++ r) (λ n told. let w = hint_of-whole p r Padding (λ x. cc) e in cc)

pub bad_front : (p r : List ℕ) → hint_of p ≡ Bad → front_length (p ++ r) ≡ None
bad_front p r e = no_front (p ++ r) (λ n told. let w = hint_of-whole p r Bad (λ x. cc) e in cc)

pub told_front : (p r : List ℕ) (n : ℕ) → front_length (p ++ r) ≡ Some n → (hint_of p ≡ Length n) ⊎ (hint_of p ≡ More)
told_front p r n e =
    ⊎_elim
    (λ (more : hint_of p ≡ More). inr more)
    (λ (told : hint_of p ≢ More). inl (sym (hint_of-append p r told) ∙ hint_of-front (p ++ r) n e))
    (more_or_not (hint_of p))
