-- The words of a command are taken.
use Rattle.std.proofs.Common.{ℕ, List, [], ◌∷◌, ◌≡◌, ◌==◌, Bool, true, false, refl, codes, ◌⊎◌, inl, inr}
use Rattle.clap.specs.Words.{takes}
use Rattle.clap.proofs.OnLiterals.{clap_on_literals}
use Rattle.command_words.specs.Line.{command_line}

pub send_taken : (x : ℕ) (xs : List ℕ) → (x == 45) ≡ false → takes command_line (codes "send" ∷ (x ∷ xs) ∷ []) ≡ true
unfolding clap_on_literals
send_taken x xs h = rw h (rw h refl)

pub receive_taken : (x : ℕ) (xs : List ℕ) → (x == 45) ≡ false → takes command_line (codes "receive" ∷ (x ∷ xs) ∷ []) ≡ true
unfolding clap_on_literals
receive_taken x xs h = rw h (rw h refl)

pub ule_taken : (x : ℕ) (xs : List ℕ) → (x == 45) ≡ false → takes command_line (codes "ule" ∷ (x ∷ xs) ∷ []) ≡ true
unfolding clap_on_literals
ule_taken x xs h = rw h (rw h refl)

pub check_taken : (x : ℕ) (xs : List ℕ) → (x == 45) ≡ false → takes command_line (codes "check" ∷ (x ∷ xs) ∷ []) ≡ true
unfolding clap_on_literals
check_taken x xs h = rw h (rw h refl)

pub sample_taken : (x : ℕ) (xs : List ℕ) → (x == 45) ≡ false → takes command_line (codes "sample" ∷ (x ∷ xs) ∷ []) ≡ true
unfolding clap_on_literals
sample_taken x xs h = rw h (rw h refl)

pub tables_taken : (x : ℕ) (xs : List ℕ) → (x == 45) ≡ false → takes command_line (codes "tables" ∷ (x ∷ xs) ∷ []) ≡ true
unfolding clap_on_literals
tables_taken x xs h = rw h (rw h refl)

pub find_taken : (x : ℕ) (xs : List ℕ) → (x == 45) ≡ false → takes command_line (codes "find" ∷ (x ∷ xs) ∷ []) ≡ true
unfolding clap_on_literals
find_taken x xs h = rw h (rw h refl)

pub bridge_taken : (x : ℕ) (xs : List ℕ) → (x == 45) ≡ false → takes command_line (codes "bridge" ∷ (x ∷ xs) ∷ []) ≡ true
unfolding clap_on_literals
bridge_taken x xs h = rw h (rw h refl)

pub unbridge_taken : (x : ℕ) (xs : List ℕ) → (x == 45) ≡ false → takes command_line (codes "unbridge" ∷ (x ∷ xs) ∷ []) ≡ true
unfolding clap_on_literals
unbridge_taken x xs h = rw h (rw h refl)

pub relay_taken : (x : ℕ) (xs : List ℕ) (y : ℕ) (ys : List ℕ) → (x == 45) ≡ false → (y == 45) ≡ false
    → takes command_line (codes "relay" ∷ (x ∷ xs) ∷ (y ∷ ys) ∷ []) ≡ true
unfolding clap_on_literals
relay_taken x xs y ys h k = rw h (rw h (rw k (rw k refl)))

pub either : (b : Bool) → (b ≡ true) ⊎ (b ≡ false)
either true = inl refl
either false = inr refl
