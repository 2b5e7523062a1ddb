-- What a prefix tells of a datagram's length stays for all that begins with it, and is what a front says.
use Rattle.std.proofs.Common.{◌≡◌, ◌≢◌, ◌⊎◌, inl, inr, ⊎_elim, ℕ, ◌+◌, ◌*◌, ◌<◌, ◌≤◌, ◌%◌, ◌/◌, Bool, true, false, ◌||◌, cond, eqb, ltb, List, ◌++◌, length, get_or, refl, ap, sym, ◌∙◌, arith, length-append}
use Rattle.std.proofs.lemmas.Bool.{cases_lt, cond-true, cond-false, lt-ltb, le-ltb}
use Rattle.std.proofs.lemmas.List.{get_or_append_left}
use Rattle.wire_spec.specs.Bytes.{u16_at}
use Rattle.wire_spec.specs.Datagram.{version, header_length, total_length, ipv6_length}
use Rattle.ip_datagram.specs.Hint.{hint_of, ipv4_hint, ipv6_hint}
use Rattle.ip_datagram.specs.declared.hint.Hint.{Hint}
use Rattle.ip_datagram.specs.declared.hint.Hint.TheVariants.{More, Padding, Length, Bad}

pub more_or_not : (h : Hint) → (h ≡ More) ⊎ (h ≢ More)
more_or_not More = inl refl
more_or_not Padding = inr (λ e. cc)
more_or_not (Length n) = inr (λ e. cc)
more_or_not Bad = inr (λ e. cc)

-- a hint that comes once there are enough bytes is no More, and so there were enough
enough : (n least : ℕ) (h : Hint) → cond (ltb n least) More h ≢ More → least ≤ n
enough n least h told =
    ⊎_elim (λ (few : n < least). absurd (told (cond-true (ltb n least) More h (lt-ltb n least few)))) (λ (le : least ≤ n). le) (cases_lt n least)

-- it is then what stands after the test
past : (n least : ℕ) (h : Hint) → least ≤ n → cond (ltb n least) More h ≡ h
past n least h le = cond-false (ltb n least) More h (le-ltb n least le)

-- the same bytes stand at the front of more
version-append : (p r : List ℕ) → 1 ≤ length p → version (p ++ r) ≡ version p
version-append p r l = ap (λ x. x / 16) (get_or_append_left p r 0 0 (omega arith))

header_length-append : (p r : List ℕ) → 1 ≤ length p → header_length (p ++ r) ≡ header_length p
header_length-append p r l = ap (λ x. 4 * (x % 16)) (get_or_append_left p r 0 0 (omega arith))

u16_at-append : (p r : List ℕ) (i : ℕ) → i + 2 ≤ length p → u16_at (p ++ r) i ≡ u16_at p i
u16_at-append p r i l = rw (get_or_append_left p r 0 i (omega arith), get_or_append_left p r 0 (i + 1) (omega arith)) refl

ipv4_hint-append : (p r : List ℕ) → ipv4_hint p ≢ More → ipv4_hint (p ++ r) ≡ ipv4_hint p
ipv4_hint-append p r told =
    let le = enough (length p) 4 (cond (ltb (header_length p) 20 || ltb (total_length p) (header_length p)) Bad (Length (total_length p))) told in
    let l = length-append p r in
    past (length (p ++ r)) 4 (cond (ltb (header_length (p ++ r)) 20 || ltb (total_length (p ++ r)) (header_length (p ++ r))) Bad (Length (total_length (p ++ r)))) (omega arith)
    ∙ (rw (header_length-append p r (omega arith), u16_at-append p r 2 (omega arith)) (sym (past (length p) 4 (cond (ltb (header_length p) 20 || ltb (total_length p) (header_length p)) Bad (Length (total_length p))) le)))

ipv6_hint-append : (p r : List ℕ) → ipv6_hint p ≢ More → ipv6_hint (p ++ r) ≡ ipv6_hint p
ipv6_hint-append p r told =
    let le = enough (length p) 7 (cond (eqb (u16_at p 4 + get_or p 6 0) 0) Bad (Length (ipv6_length p))) told in
    let l = length-append p r in
    past (length (p ++ r)) 7 (cond (eqb (u16_at (p ++ r) 4 + get_or (p ++ r) 6 0) 0) Bad (Length (ipv6_length (p ++ r)))) (omega arith)
    ∙ (rw (u16_at-append p r 4 (omega arith), get_or_append_left p r 0 6 (omega arith)) (sym (past (length p) 7 (cond (eqb (u16_at p 4 + get_or p 6 0) 0) Bad (Length (ipv6_length p))) le)))

-- each version's answer may be exchanged where it is not More
choice : (z f x : Bool) (a a' b b' : Hint) → (a ≢ More → a' ≡ a) → (b ≢ More → b' ≡ b) → cond z Padding (cond f a (cond x b Bad)) ≢ More
    → cond z Padding (cond f a' (cond x b' Bad)) ≡ cond z Padding (cond f a (cond x b Bad))
choice true f x a a' b b' same4 same6 told = refl
choice false true x a a' b b' same4 same6 told = same4 told
choice false false true a a' b b' same4 same6 told = same6 told
choice false false false a a' b b' same4 same6 told = refl

-- the answer after the test for no byte
behind : List ℕ → ℕ → Hint
behind b v = cond (eqb v 0) Padding (cond (eqb v 4) (ipv4_hint b) (cond (eqb v 6) (ipv6_hint b) Bad))

behind-append : (p r : List ℕ) (v : ℕ) → behind p v ≢ More → behind (p ++ r) v ≡ behind p v
unfolding behind
behind-append p r v told = choice (eqb v 0) (eqb v 4) (eqb v 6) (ipv4_hint p) (ipv4_hint (p ++ r)) (ipv6_hint p) (ipv6_hint (p ++ r)) (ipv4_hint-append p r) (ipv6_hint-append p r) told

hint_of-some : (b : List ℕ) → 1 ≤ length b → hint_of b ≡ behind b (version b)
unfolding behind
hint_of-some b l = cond-false (eqb (length b) 0) More (behind b (version b)) (grind arith)

hint_of-more : (b : List ℕ) → hint_of b ≢ More → 1 ≤ length b
hint_of-more b told =
    ⊎_elim (λ (few : length b < 1). absurd (told (cond-true (eqb (length b) 0) More (cond (eqb (version b) 0) Padding (cond (eqb (version b) 4) (ipv4_hint b) (cond (eqb (version b) 6) (ipv6_hint b) Bad))) (grind arith)))) (λ (le : 1 ≤ length b). le) (cases_lt (length b) 1)

-- what a prefix tells stays
pub hint_of-append : (p r : List ℕ) → hint_of p ≢ More → hint_of (p ++ r) ≡ hint_of p
hint_of-append p r told =
    let some = hint_of-more p told in
    let l = length-append p r in
    let here : hint_of p ≡ behind p (version p) = hint_of-some p some in
    let told_here : behind p (version p) ≢ More = (λ e. told (here ∙ e)) in
    hint_of-some (p ++ r) (omega arith) ∙ (rw (version-append p r some) (behind-append p r (version p) told_here ∙ sym here))
