-- The completions of a row are the rows that agree with it, and a codeword is found among them where there is one.
use Rattle.std.proofs.Common.{◌≡◌, ◌⊎◌, inl, inr, ℕ, zero, suc, ◌+◌, ◌<◌, ◌≤◌, Bool, true, false, cond, leb, eqb, ltb, ◌&&◌, Option, None, Some, List, [], ◌∷◌, length, get_or, map, flat_map, refl, ap, sym, ◌∙◌, subst, arith, lt-ltb}
use Rattle.std.specs.Prelude.{find}
use Rattle.std.specs.List.{range_with_len, list_all}
use Rattle.std.proofs.lemmas.Bool.{and_parts, and_from, eqb-true, eq-eqb, ltb-true}
use Rattle.wire_spec.specs.Bytes.{AreBytes}
use Rattle.fec_spec.specs.Field.{field_power}
use Rattle.fec_spec.specs.Codeword.{IsCodeword, row_value}
use Rattle.channel_law.proofs.Member.{Member, member_flat, member_map, member_parted, member_at}
use Rattle.fec_frame_spec.specs.Corrected.{all_bytes, completions, is_codeword, codeword_with}

-- bytes that are those of the row at its known places
abbrev pub Agree : List (Option ℕ) → List ℕ → Type 0
Agree [] [] = Unit {0}
Agree [] (byte ∷ code) = ⊥
Agree (place ∷ row) [] = ⊥
Agree (Some known ∷ row) (byte ∷ code) = (known ≡ byte) × Agree row code
Agree (None ∷ row) (byte ∷ code) = (byte < 256) × Agree row code

-- Lists.

pub range_has : (a n k : ℕ) → a ≤ k → k < a + n → Member (range_with_len a n) k
range_has a zero k from below = absurd (omega (arith, from, below))
range_has a (suc n) k from below = by_order (leb k a) refl (λ after. range_has (a + 1) n k after (omega (arith, below)))
  where
    by_order : (b : Bool) → leb k a ≡ b → (a + 1 ≤ k → Member (range_with_len (a + 1) n) k) → Member (a ∷ range_with_len (a + 1) n) k
    by_order true e later = let le : k ≤ a = grind (arith, e) in inl (omega (arith, from, le))
    by_order false e later = let less : a < k = grind (arith, e) in inr (later (omega (arith, less)))

range_below : (a n k : ℕ) → Member (range_with_len a n) k → k < a + n
range_below a zero k there = absurd there
range_below a (suc n) k (inl same) = omega (arith, same)
range_below a (suc n) k (inr there) = omega (arith, range_below (a + 1) n k there)

all_bytes_has : (k : ℕ) → k < 256 → Member all_bytes k
unfolding all_bytes
all_bytes_has k below = range_has 0 256 k (omega arith) (omega (arith, below))

all_bytes_below : (k : ℕ) → Member all_bytes k → k < 256
unfolding all_bytes
all_bytes_below k there = omega (arith, range_below 0 256 k there)

map_from : {X Y : Type 0} (f : X → Y) (xs : List X) (y : Y) → Member (map f xs) y → (x : X) × Member xs x × (f x ≡ y)
map_from f [] y there = absurd there
map_from f (x ∷ xs) y (inl same) = (x, inl refl, same)
map_from f (x ∷ xs) y (inr there) = let found : (z : _) × Member xs z × (f z ≡ y) = map_from f xs y there in (found.0, inr found.1, found.2)

flat_from : {X Y : Type 0} (f : X → List Y) (xs : List X) (y : Y) → Member (flat_map f xs) y → (x : X) × Member xs x × Member (f x) y
flat_from f [] y there = absurd there
flat_from f (x ∷ xs) y there = by_part (member_parted (f x) (flat_map f xs) y there) (flat_from f xs y)
  where
    by_part : Member (f x) y ⊎ Member (flat_map f xs) y → (Member (flat_map f xs) y → (z : _) × Member xs z × Member (f z) y) → (z : _) × Member (x ∷ xs) z × Member (f z) y
    by_part (inl here) later = (x, inl refl, here)
    by_part (inr behind) later = let found : (z : _) × Member xs z × Member (f z) y = later behind in (found.0, inr found.1, found.2)

-- Completions.

pub completed : (row : List (Option ℕ)) (code : List ℕ) → Agree row code → Member (completions row) code
unfolding completions
completed [] [] agree = inl refl
completed [] (byte ∷ code) agree = absurd agree
completed (None ∷ row) [] agree = absurd agree
completed (Some known ∷ row) [] agree = absurd agree
completed (Some known ∷ row) (byte ∷ code) agree =
    subst (λ (b : ℕ). Member (map (λ rest. known ∷ rest) (completions row)) (b ∷ code)) agree.0
    (member_map (λ rest. known ∷ rest) (completions row) code (completed row code agree.1))
completed (None ∷ row) (byte ∷ code) agree =
    member_flat (λ b. map (λ rest. b ∷ rest) (completions row)) all_bytes byte (byte ∷ code) (all_bytes_has byte agree.0)
    (member_map (λ rest. byte ∷ rest) (completions row) code (completed row code agree.1))

pub agrees : (row : List (Option ℕ)) (code : List ℕ) → Member (completions row) code → Agree row code
unfolding completions
agrees [] code (inl same) = subst (Agree []) same tt
agrees [] code (inr never) = absurd never
agrees (Some known ∷ row) code there =
    let found : (rest : List ℕ) × Member (completions row) rest × ((known ∷ rest) ≡ code) = map_from (λ rest. known ∷ rest) (completions row) code there in
    subst (Agree (Some known ∷ row)) found.2 (refl, agrees row found.0 found.1)
agrees (None ∷ row) code there =
    let byte : (b : ℕ) × Member all_bytes b × Member (map (λ rest. b ∷ rest) (completions row)) code = flat_from (λ b. map (λ rest. b ∷ rest) (completions row)) all_bytes code there in
    let found : (rest : List ℕ) × Member (completions row) rest × ((byte.0 ∷ rest) ≡ code) = map_from (λ rest. byte.0 ∷ rest) (completions row) code byte.2 in
    subst (Agree (None ∷ row)) found.2 (all_bytes_below byte.0 byte.1, agrees row found.0 found.1)

-- The first that passes a test.

find_is : {X : Type 0} (p : X → Bool) (xs : List X) (x : X) → find p xs ≡ Some x → (p x ≡ true) × Member xs x
find_is p [] x is = absurd (cc (is))
find_is p (y ∷ xs) x is = by_test (p y) refl is (find_is p xs x)
  where
    by_test : (b : Bool) → p y ≡ b → cond b (Some y) (find p xs) ≡ Some x → (find p xs ≡ Some x → (p x ≡ true) × Member xs x) → (p x ≡ true) × Member (y ∷ xs) x
    by_test true test here later = let same : y ≡ x = cc (here) in (ap p (sym same) ∙ test, inl same)
    by_test false test there later = let found : (p x ≡ true) × Member xs x = later there in (found.0, inr found.1)

find_there : {X : Type 0} (p : X → Bool) (xs : List X) (x : X) → Member xs x → p x ≡ true → (y : X) × (find p xs ≡ Some y)
find_there p [] x there test = absurd there
find_there p (y ∷ xs) x there test = by_test (p y) refl there (λ behind. find_there p xs x behind test)
  where
    by_test : (b : Bool) → p y ≡ b → Member (y ∷ xs) x → (Member xs x → (z : _) × (find p xs ≡ Some z)) → (z : _) × (cond b (Some y) (find p xs) ≡ Some z)
    by_test true here there2 later = (y, refl)
    by_test false here (inl same) later = let wrong : false ≡ true = sym here ∙ ap p same ∙ test in absurd (cc (wrong))
    by_test false here (inr behind) later = later behind

-- The test for codewords.

all_member : {X : Type 0} (test : X → Bool) (xs : List X) → list_all test xs ≡ true → (x : X) → Member xs x → test x ≡ true
all_member test [] all x there = absurd there
all_member test (y ∷ xs) all x (inl same) = ap test (sym same) ∙ (and_parts (test y) (list_all test xs) all).0
all_member test (y ∷ xs) all x (inr there) = all_member test xs (and_parts (test y) (list_all test xs) all).1 x there

all_from : {X : Type 0} (test : X → Bool) (xs : List X) → ((x : X) → Member xs x → test x ≡ true) → list_all test xs ≡ true
all_from test [] each = refl
all_from test (x ∷ xs) each = and_from (test x) (list_all test xs) (each x (inl refl)) (all_from test xs (λ y there. each y (inr there)))

byte_member : (row : List ℕ) → AreBytes row → (x : ℕ) → Member row x → x < 256
byte_member [] are x there = absurd there
byte_member (b ∷ row) are x (inl same) = omega (arith, are 0 0 (omega arith), same)
byte_member (b ∷ row) are x (inr there) = byte_member row (λ i d within. are (suc i) d (omega (arith, within))) x there

pub codeword_is : (row : List ℕ) → is_codeword row ≡ true → IsCodeword row
unfolding is_codeword
codeword_is row test =
    let parts = and_parts (eqb (length row) 255) (list_all (λ (byte : ℕ). ltb byte 256) row && list_all (λ (m : ℕ). eqb (row_value (field_power 2 m) row) 0) (range_with_len 0 64)) test in
    let more = and_parts (list_all (λ (byte : ℕ). ltb byte 256) row) (list_all (λ (m : ℕ). eqb (row_value (field_power 2 m) row) 0) (range_with_len 0 64)) parts.1 in
    record {
      long = eqb-true (length row) 255 parts.0;
      bytes = λ i d within. ltb-true (get_or row i d) 256 (all_member (λ (byte : ℕ). ltb byte 256) row more.0 (get_or row i d) (member_at row i d within));
      zeros = λ m low.
          eqb-true (row_value (field_power 2 m) row) 0
          (all_member (λ (n : ℕ). eqb (row_value (field_power 2 n) row) 0) (range_with_len 0 64) more.1 m (range_has 0 64 m (omega arith) (omega (arith, low))));
    }

pub codeword_from : (row : List ℕ) → IsCodeword row → is_codeword row ≡ true
unfolding is_codeword
codeword_from row is =
    and_from (eqb (length row) 255) (list_all (λ (byte : ℕ). ltb byte 256) row && list_all (λ (m : ℕ). eqb (row_value (field_power 2 m) row) 0) (range_with_len 0 64))
    (eq-eqb (length row) 255 is.long)
    (and_from (list_all (λ (byte : ℕ). ltb byte 256) row) (list_all (λ (m : ℕ). eqb (row_value (field_power 2 m) row) 0) (range_with_len 0 64))
    (all_from (λ (byte : ℕ). ltb byte 256) row (λ x there. lt-ltb x 256 (byte_member row is.bytes x there)))
    (all_from (λ (m : ℕ). eqb (row_value (field_power 2 m) row) 0) (range_with_len 0 64)
    (λ m there. eq-eqb (row_value (field_power 2 m) row) 0 (is.zeros m (omega (arith, range_below 0 64 m there))))))

-- The codeword that has the known bytes.

pub with_is : (row : List (Option ℕ)) (code : List ℕ) → codeword_with row ≡ Some code → IsCodeword code × Agree row code
unfolding codeword_with
with_is row code is =
    let found = find_is is_codeword (completions row) code is in
    (codeword_is code found.0, agrees row code found.1)

pub with_there : (row : List (Option ℕ)) (code : List ℕ) → IsCodeword code → Agree row code → (found : List ℕ) × (codeword_with row ≡ Some found)
unfolding codeword_with
with_there row code is agree = find_there is_codeword (completions row) code (completed row code agree) (codeword_from code is)
