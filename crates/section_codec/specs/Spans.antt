-- What the first three bytes tell of a section's length, and that sections are a lawful kind of unit.
use Rattle.std.proofs.Common.{◌≡◌, ◌⊎◌, ℕ, zero, suc, ◌+◌, ◌*◌, ◌%◌, ◌^◌, ◌<◌, ◌≤◌, Bool, true, false, List, [], ◌∷◌, ◌++◌, length, take, refl, sym, ◌∙◌, inl, inr, arith}
use Rattle.std.specs.Prelude.{◌&&◌, ◌||◌, ◌==◌, nat_lt, nat_le, slice_index, if◌then◌else◌}
use Rattle.std.proofs.lemmas.Bool.{le-ltb, ltb-false}
use Rattle.ts_spec.specs.Form.{Span, more, stuffing, whole, bad, IsLawful}
use Rattle.section_spec.specs.Section.{section_span, section_form}

-- section_length, the lower 12 bits of the second and third byte
abbrev length_of : ℕ → ℕ → ℕ
length_of second third = (second * 256 + third) % 2 ^ 12

abbrev is_bad : ℕ → ℕ → Bool
is_bad second third = nat_lt 4093 (length_of second third) || (nat_le 0x80 second && nat_lt (length_of second third) 9)

-- what three first bytes tell
abbrev told_by : ℕ → ℕ → ℕ → Span
told_by first second third =
    if first == 0xFF then stuffing else
    if is_bad second third then bad else
    whole (3 + length_of second third)

at_three : (x y z : ℕ) (rest : List ℕ) → section_span (x ∷ y ∷ z ∷ rest) ≡ told_by x y z
at_three x y z rest = rw (le-ltb (length (x ∷ y ∷ z ∷ rest)) 3 (omega arith)) refl

-- a length that is told
chosen : (t u : Bool) (size n : ℕ) → (if t then stuffing else if u then bad else whole size) ≡ whole n → (u ≡ false) × (size ≡ n)
chosen true u size n h = cc
chosen false true size n h = cc
chosen false false size n h = (refl, cc)

-- three bytes are enough to tell
decided : (t u : Bool) (size : ℕ) → (if t then stuffing else if u then bad else whole size) ≡ more → ⊥
decided true u size h = cc
decided false true size h = cc
decided false false size h = cc

-- one or two bytes tell stuffing alone
undecided : (t : Bool) (n : ℕ) → (if t then stuffing else more) ≡ whole n → ⊥
undecided true n h = cc
undecided false n h = cc

stays : (t : Bool) (behind : Span) → ((if t then stuffing else more) ≡ more) ⊎ ((if t then stuffing else behind) ≡ (if t then stuffing else more))
stays true behind = inr refl
stays false behind = inl refl

first_of_two : (t u : Bool) → (t || u) ≡ false → t ≡ false
first_of_two true u h = cc
first_of_two false u h = refl

-- what is told stays, whatever follows
pub span_told : (bytes behind : List ℕ) → (section_span bytes ≡ more) ⊎ (section_span (bytes ++ behind) ≡ section_span bytes)
span_told [] behind = inl refl
span_told (x ∷ []) behind = stays (x == 0xFF) _
span_told (x ∷ y ∷ []) behind = stays (x == 0xFF) _
span_told (x ∷ y ∷ z ∷ rest) behind = inr (at_three x y z (rest ++ behind) ∙ sym (at_three x y z rest))

-- a length that is told is 3 more than section_length, which is 4,093 at most
pub span_whole : (bytes : List ℕ) (n : ℕ) → section_span bytes ≡ whole n
    → (3 + length_of (slice_index bytes 1) (slice_index bytes 2) ≡ n) × (n ≤ 4096)
span_whole [] n h = cc
span_whole (x ∷ []) n h = absurd (undecided (x == 0xFF) n h)
span_whole (x ∷ y ∷ []) n h = absurd (undecided (x == 0xFF) n h)
span_whole (x ∷ y ∷ z ∷ rest) n h =
    let it = chosen _ _ (3 + length_of y z) n (sym (at_three x y z rest) ∙ h) in
    let most : length_of y z ≤ 4093 = ltb-false 4093 (length_of y z) (first_of_two _ _ it.0) in
    (it.1, omega (arith, it.1, most))

-- a length is told by the unit itself
pub span_of_unit : (bytes : List ℕ) (n : ℕ) → section_span bytes ≡ whole n → section_span (take n bytes) ≡ whole n
span_of_unit [] n h = cc
span_of_unit (x ∷ []) n h = absurd (undecided (x == 0xFF) n h)
span_of_unit (x ∷ y ∷ []) n h = absurd (undecided (x == 0xFF) n h)
span_of_unit (x ∷ y ∷ z ∷ rest) zero h = absurd (omega (arith, (span_whole (x ∷ y ∷ z ∷ rest) zero h).0))
span_of_unit (x ∷ y ∷ z ∷ rest) (suc zero) h = absurd (omega (arith, (span_whole (x ∷ y ∷ z ∷ rest) (suc zero) h).0))
span_of_unit (x ∷ y ∷ z ∷ rest) (suc (suc zero)) h = absurd (omega (arith, (span_whole (x ∷ y ∷ z ∷ rest) (suc (suc zero)) h).0))
span_of_unit (x ∷ y ∷ z ∷ rest) (suc (suc (suc m))) h = at_three x y z (take m rest) ∙ sym (at_three x y z rest) ∙ h

-- fewer than three bytes do not tell a length
span_more : (bytes : List ℕ) → section_span bytes ≡ more → length bytes < 4
span_more [] h = omega arith
span_more (x ∷ []) h = omega arith
span_more (x ∷ y ∷ []) h = omega arith
span_more (x ∷ y ∷ z ∷ rest) h = absurd (decided _ _ (3 + length_of y z) (sym (at_three x y z rest) ∙ h))

-- stuffing is told by one byte
stuffing_one : (bytes : List ℕ) → section_span bytes ≡ stuffing → 1 ≤ length bytes
stuffing_one [] h = cc
stuffing_one (x ∷ rest) h = omega arith

stuffed : (t u : Bool) (size : ℕ) → (if t then stuffing else if u then bad else whole size) ≡ stuffing → (if t then stuffing else more) ≡ stuffing
stuffed true u size h = refl
stuffed false true size h = cc
stuffed false false size h = cc

stuffing_front : (bytes : List ℕ) → section_span bytes ≡ stuffing → section_span (take 1 bytes) ≡ stuffing
stuffing_front [] h = cc
stuffing_front (x ∷ []) h = h
stuffing_front (x ∷ y ∷ []) h = h
stuffing_front (x ∷ y ∷ z ∷ rest) h = stuffed (x == 0xFF) _ (3 + length_of y z) (sym (at_three x y z rest) ∙ h)

pub section_lawful : IsLawful section_form
section_lawful = record {
  start_least = omega arith;
  start_most = omega arith;
  longest_least = omega arith;
  told = span_told;
  of_unit = span_of_unit;
  whole_least = λ bytes n h. omega (arith, (span_whole bytes n h).0);
  whole_most = λ bytes n h. (span_whole bytes n h).1;
  soon = span_more;
  stuffing_least = stuffing_one;
  stuffing_start = stuffing_front;
}
