-- What the first two bytes tell of an SNDU's length, and that SNDUs are a lawful kind of unit.
use Rattle.std.proofs.Common.{◌≡◌, ◌⊎◌, ℕ, zero, suc, ◌+◌, ◌*◌, ◌%◌, ◌^◌, ◌<◌, ◌≤◌, Bool, true, false, List, [], ◌∷◌, ◌++◌, length, take, refl, sym, ◌∙◌, inl, inr, arith}
use Rattle.std.specs.Prelude.{◌&&◌, ◌==◌, nat_lt, nat_le, slice_index, if◌then◌else◌}
use Rattle.std.proofs.lemmas.Bool.{le-ltb, ltb-false}
use Rattle.ts_spec.specs.Form.{Span, more, stuffing, whole, bad, IsLawful}
use Rattle.ts_spec.specs.Sndu.{sndu_span, sndu_form}

-- Length, the rest of the two first bytes
abbrev length_of : ℕ → ℕ → ℕ
length_of first second = (first * 256 + second) % 2 ^ 15

-- what stands after Type at least
abbrev least_of : Bool → ℕ
least_of lacks = if lacks then 4 else 10

least_least : (lacks : Bool) → 4 ≤ least_of lacks
least_least true = omega arith
least_least false = omega arith

-- what two first bytes tell
abbrev told_by : ℕ → ℕ → Span
told_by first second =
    if (first == 0xFF) && (second == 0xFF) then stuffing else
    if nat_lt (length_of first second) (least_of (nat_le 0x80 first)) then bad else
    whole (4 + length_of first second)

-- two bytes tell, whatever follows
pub span_of_two : (bytes : List ℕ) → 2 ≤ length bytes → sndu_span bytes ≡ told_by (slice_index bytes 0) (slice_index bytes 1)
span_of_two bytes two = rw (le-ltb (length bytes) 2 two) refl

-- a length that is told
chosen : (t u : Bool) (size n : ℕ) → (if t then stuffing else if u then bad else whole size) ≡ whole n → (u ≡ false) × (size ≡ n)
chosen true u size n h = cc
chosen false true size n h = cc
chosen false false size n h = (refl, cc)

-- two bytes are enough to tell
decided : (t u : Bool) (size : ℕ) → (if t then stuffing else if u then bad else whole size) ≡ more → ⊥
decided true u size h = cc
decided false true size h = cc
decided false false size h = cc

at_two : (x y : ℕ) (rest : List ℕ) → sndu_span (x ∷ y ∷ rest) ≡ told_by x y
at_two x y rest = span_of_two (x ∷ y ∷ rest) (omega arith)

-- what is told stays, whatever follows
pub span_told : (bytes behind : List ℕ) → (sndu_span bytes ≡ more) ⊎ (sndu_span (bytes ++ behind) ≡ sndu_span bytes)
span_told [] behind = inl refl
span_told (x ∷ []) behind = inl refl
span_told (x ∷ y ∷ rest) behind = inr (at_two x y (rest ++ behind) ∙ sym (at_two x y rest))

-- a length that is told is 4 more than Length, and has room for the CRC-32 at least
pub span_whole : (bytes : List ℕ) (n : ℕ) → sndu_span bytes ≡ whole n
    → (4 + length_of (slice_index bytes 0) (slice_index bytes 1) ≡ n) × (8 ≤ n)
span_whole [] n h = cc
span_whole (x ∷ []) n h = cc
span_whole (x ∷ y ∷ rest) n h =
    let it = chosen _ _ (4 + length_of x y) n (sym (at_two x y rest) ∙ h) in
    let room : least_of (nat_le 0x80 x) ≤ length_of x y = ltb-false (length_of x y) (least_of (nat_le 0x80 x)) it.0 in
    (it.1, omega (arith, it.1, room, least_least (nat_le 0x80 x)))

-- a length is told by the unit itself
pub span_of_unit : (bytes : List ℕ) (n : ℕ) → sndu_span bytes ≡ whole n → sndu_span (take n bytes) ≡ whole n
span_of_unit [] n h = cc
span_of_unit (x ∷ []) n h = cc
span_of_unit (x ∷ y ∷ rest) zero h = absurd (omega (arith, (span_whole (x ∷ y ∷ rest) zero h).1))
span_of_unit (x ∷ y ∷ rest) (suc zero) h = absurd (omega (arith, (span_whole (x ∷ y ∷ rest) (suc zero) h).1))
span_of_unit (x ∷ y ∷ rest) (suc (suc m)) h = at_two x y (take m rest) ∙ sym (at_two x y rest) ∙ h

-- fewer than two bytes do not tell
span_more : (bytes : List ℕ) → sndu_span bytes ≡ more → length bytes < 4
span_more [] h = omega arith
span_more (x ∷ []) h = omega arith
span_more (x ∷ y ∷ rest) h = absurd (decided _ _ (4 + length_of x y) (sym (at_two x y rest) ∙ h))

-- stuffing is told by two bytes
stuffing_two : (bytes : List ℕ) → sndu_span bytes ≡ stuffing → 2 ≤ length bytes
stuffing_two [] h = cc
stuffing_two (x ∷ []) h = cc
stuffing_two (x ∷ y ∷ rest) h = omega arith

stuffing_front : (bytes : List ℕ) → sndu_span bytes ≡ stuffing → sndu_span (take 2 bytes) ≡ stuffing
stuffing_front [] h = cc
stuffing_front (x ∷ []) h = cc
stuffing_front (x ∷ y ∷ rest) h = at_two x y [] ∙ sym (at_two x y rest) ∙ h

pub sndu_lawful : IsLawful sndu_form
sndu_lawful = record {
  start_least = omega arith;
  start_most = omega arith;
  longest_least = omega arith;
  told = span_told;
  of_unit = span_of_unit;
  whole_least = λ bytes n h. omega (arith, (span_whole bytes n h).1);
  whole_most = λ bytes n h. omega (arith, (span_whole bytes n h).0);
  soon = span_more;
  stuffing_least = stuffing_two;
  stuffing_start = stuffing_front;
}
