-- Lists of bits under the sum.
use Rattle.std.proofs.Common.{ℕ, zero, suc, List, [], ◌∷◌, ◌++◌, ◌≡◌, ◌≤◌, length, refl, ap, ap₂, sym, ◌∙◌, arith, Bool, true, false}
use Rattle.std.specs.Prelude.{replicate}
use Rattle.wire_spec.specs.BitPolynomials.{bit_sum, added_front}

-- the sum of two bits in either order
pub sum_comm : (a b : Bool) → bit_sum a b ≡ bit_sum b a
sum_comm false false = refl
sum_comm false true = refl
sum_comm true false = refl
sum_comm true true = refl

-- the sum of three bits, grouped either way
pub sum_assoc : (a b c : Bool) → bit_sum a (bit_sum b c) ≡ bit_sum (bit_sum a b) c
sum_assoc false b c = refl
sum_assoc true false c = refl
sum_assoc true true false = refl
sum_assoc true true true = refl

-- a bit and 0
pub sum_false : (a : Bool) → bit_sum a false ≡ a
sum_false false = refl
sum_false true = refl

-- a sum is as long as the line
pub length-added : (d l : List Bool) → length (added_front d l) ≡ length l
length-added [] l = refl
length-added (x ∷ d) [] = refl
length-added (x ∷ d) (y ∷ l) = ap (λ n. suc n) (length-added d l)

-- a sum onto a sum, the first no longer than the second
pub added-added : (d s l : List Bool) → length d ≤ length s → added_front d (added_front s l) ≡ added_front (added_front d s) l
added-added [] s l long = refl
added-added (x ∷ d) [] l long = absurd (omega arith)
added-added (x ∷ d) (y ∷ s) [] long = refl
added-added (x ∷ d) (y ∷ s) (z ∷ l) long = ap₂ (λ (a : Bool) (t : List Bool). a ∷ t) (sum_assoc x y z) (added-added d s l (omega arith))

-- of two lines of one length either may be the front
pub added_comm : (a b : List Bool) → length a ≡ length b → added_front a b ≡ added_front b a
added_comm [] [] long = refl
added_comm [] (y ∷ b) long = absurd (omega arith)
added_comm (x ∷ a) [] long = absurd (omega arith)
added_comm (x ∷ a) (y ∷ b) long = ap₂ (λ (a : Bool) (t : List Bool). a ∷ t) (sum_comm x y) (added_comm a b (omega arith))

-- a 0 after the front changes nothing
pub added_end : (s l : List Bool) → added_front (s ++ false ∷ []) l ≡ added_front s l
added_end [] [] = refl
added_end [] (y ∷ l) = refl
added_end (x ∷ s) [] = refl
added_end (x ∷ s) (y ∷ l) = ap (λ t. bit_sum x y ∷ t) (added_end s l)

-- a front of zeros changes nothing
pub added_zeros : (n : ℕ) (l : List Bool) → added_front (replicate n false) l ≡ l
added_zeros zero l = refl
added_zeros (suc n) [] = refl
added_zeros (suc n) (y ∷ l) = ap (λ t. y ∷ t) (added_zeros n l)

-- zeros after what is added change nothing
pub added_behind : (n : ℕ) (s l : List Bool) → added_front (s ++ replicate n false) l ≡ added_front s l
added_behind n [] l = added_zeros n l
added_behind n (x ∷ s) [] = refl
added_behind n (x ∷ s) (y ∷ l) = ap (λ t. bit_sum x y ∷ t) (added_behind n s l)

-- onto as many zeros as the front is long, the sum is the front
pub onto_zeros : (n : ℕ) (s : List Bool) → length s ≡ n → added_front s (replicate n false) ≡ s
onto_zeros zero [] long = refl
onto_zeros zero (x ∷ s) long = absurd (omega arith)
onto_zeros (suc n) [] long = absurd (omega arith)
onto_zeros (suc n) (x ∷ s) long = ap₂ (λ (a : Bool) (t : List Bool). a ∷ t) (sum_false x) (onto_zeros n s (omega arith))

-- onto a line of zeros the front and then zeros
pub onto_more_zeros : (n m : ℕ) (s : List Bool) → length s ≡ n → added_front s (replicate n false ++ replicate m false) ≡ s ++ replicate m false
onto_more_zeros zero m [] long = refl
onto_more_zeros zero m (x ∷ s) long = absurd (omega arith)
onto_more_zeros (suc n) m [] long = absurd (omega arith)
onto_more_zeros (suc n) m (x ∷ s) long = ap₂ (λ (a : Bool) (t : List Bool). a ∷ t) (sum_false x) (onto_more_zeros n m s (omega arith))

-- a front of the line moved into what is added
pub added_moved : (s b rest : List Bool) → length b ≤ length s → added_front s (b ++ rest) ≡ added_front (added_front b s) (replicate (length b) false ++ rest)
added_moved s [] rest long = refl
added_moved [] (y ∷ b) rest long = absurd (omega arith)
added_moved (x ∷ s) (y ∷ b) rest long = ap₂ (λ (a : Bool) (t : List Bool). a ∷ t) (sum_comm x y ∙ sym (sum_false (bit_sum y x))) (added_moved s b rest (omega arith))
