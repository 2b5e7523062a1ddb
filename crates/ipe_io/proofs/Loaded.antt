-- One more file that was loaded.
use Rattle.std.proofs.Common.{◌≡◌, ◌≢◌, ◌∙◌, ℕ, Bool, true, false, List, [], ◌∷◌, ◌++◌, refl, ap, sym, subst, Result, Ok, Err, IfOk, OnErr, IfSome, Option, None, Some, bytes_eq, if◌then◌else◌}
use Rattle.wire_spec.specs.Content.{Stays}
use Rattle.ipe_io.proofs.Told.{stays-refl}
use Rattle.std.proofs.lemmas.Slice.Eq.{bytes_eq-Decides}
use Rattle.ipe_io.specs.Memory.{Shelved, shelved}
use Rattle.ipe_io.specs.Real.{AreOpened, IsAllOf, bytes_in}

stays_if : (same : Bool) (bytes : List ℕ) (old new : Option (List ℕ)) → Stays old new → Stays (if same then Some bytes else old) (if same then Some bytes else new)
stays_if true bytes old new stays = refl
stays_if false bytes old new stays = stays

-- what was known stays
pub bytes_stay : (files : List Shelved) (file : Shelved) (other : List ℕ) → Stays (bytes_in files other) (bytes_in (files ++ file ∷ []) other)
bytes_stay [] file other = tt
bytes_stay (x ∷ files) file other = stays_if (bytes_eq x.name other) x.bytes (bytes_in files other) (bytes_in (files ++ file ∷ []) other) (bytes_stay files file other)

if_none : (same : Bool) (bytes : List ℕ) (old new : Option (List ℕ)) (some : List ℕ) → (old ≡ None → new ≡ Some some) → (if same then Some bytes else old) ≡ None
    → (if same then Some bytes else new) ≡ Some some
if_none true bytes old new some next none = absurd (cc)
if_none false bytes old new some next none = next none

-- a file that was not known is, once it is added
pub bytes_known : (files : List Shelved) (name bytes : List ℕ) → bytes_eq name name ≡ true → bytes_in files name ≡ None → bytes_in (files ++ shelved name bytes 0 ∷ []) name ≡ Some bytes
bytes_known [] name bytes same none = rw same refl
bytes_known (x ∷ files) name bytes same none =
    if_none (bytes_eq x.name name) x.bytes (bytes_in files name) (bytes_in (files ++ shelved name bytes 0 ∷ []) name) bytes (bytes_known files name bytes same) none

differs : (name other : List ℕ) → other ≢ name → bytes_eq name other ≡ false
differs name other another = by_test (bytes_eq name other) refl where
  by_test : (same : Bool) → bytes_eq name other ≡ same → bytes_eq name other ≡ false
  by_test true is = absurd (another (sym ((bytes_eq-Decides name other).0 is)))
  by_test false is = is

-- a file more changes no other name
pub bytes_only : (files : List Shelved) (name bytes other : List ℕ) → other ≢ name → bytes_in (files ++ shelved name bytes 0 ∷ []) other ≡ bytes_in files other
bytes_only [] name bytes other another = rw (differs name other another) refl
bytes_only (x ∷ files) name bytes other another =
    ap (λ rest. if bytes_eq x.name other then Some x.bytes else rest) (bytes_only files name bytes other another)

-- What a load makes of what was known: it adds the file, or nothing.
module _ {A E : Type 0} (items : A → List ℕ) (old new : List Shelved) (name : List ℕ) where
  pub known_by : (result : Result A E) → bytes_eq name name ≡ true → bytes_in old name ≡ None → IfOk result (λ bytes. new ≡ old ++ shelved name (items bytes) 0 ∷ [])
      → IfOk result (λ bytes. bytes_in new name ≡ Some (items bytes))
  known_by (Ok bytes) same none added = ap (λ files. bytes_in files name) added ∙ bytes_known old name (items bytes) same none
  known_by (Err e) same none added = tt

  pub stays_by : (result : Result A E) (other : List ℕ) → IfOk result (λ bytes. new ≡ old ++ shelved name (items bytes) 0 ∷ []) → OnErr result (new ≡ old)
      → Stays (bytes_in old other) (bytes_in new other)
  stays_by (Ok bytes) other added kept =
      subst (λ (files : List Shelved). Stays (bytes_in old other) (bytes_in files other)) (sym added) (bytes_stay old (shelved name (items bytes) 0) other)
  stays_by (Err e) other added kept =
      subst (λ (files : List Shelved). Stays (bytes_in old other) (bytes_in files other)) (sym kept) (stays-refl (bytes_in old other))

  pub others_by : (result : Result A E) (other : List ℕ) → other ≢ name → IfOk result (λ bytes. new ≡ old ++ shelved name (items bytes) 0 ∷ []) → OnErr result (new ≡ old)
      → bytes_in new other ≡ bytes_in old other
  others_by (Ok bytes) other another added kept = ap (λ files. bytes_in files other) added ∙ bytes_only old name (items bytes) other another
  others_by (Err e) other another added kept = ap (λ files. bytes_in files other) kept

-- a name is the same as itself
pub same_name : (name : List ℕ) → bytes_eq name name ≡ true
same_name name = (bytes_eq-Decides name name).1 refl

opened_if : (O : List ℕ → Option (List ℕ) → Type 0) (same : Bool) (own name bytes : List ℕ) (rest : Option (List ℕ)) → (same ≡ true → own ≡ name) → IsAllOf (O own) bytes
    → IfSome rest (λ other. IsAllOf (O name) other) → IfSome (if same then Some bytes else rest) (λ other. IsAllOf (O name) other)
opened_if O true own name bytes rest is first others = subst (λ n. IsAllOf (O n) bytes) (is refl) first
opened_if O false own name bytes rest is first others = others

-- what is known of a name is all of a file that was opened under it
pub opened_in : (O : List ℕ → Option (List ℕ) → Type 0) (files : List Shelved) (name : List ℕ) → AreOpened O files → IfSome (bytes_in files name) (λ bytes. IsAllOf (O name) bytes)
opened_in O [] name all = tt
opened_in O (x ∷ files) name all =
    opened_if O (bytes_eq x.name name) x.name name x.bytes (bytes_in files name) (bytes_eq-Decides x.name name).0 all.0 (opened_in O files name all.1)

opened_more : (O : List ℕ → Option (List ℕ) → Type 0) (files : List Shelved) (file : Shelved) → AreOpened O files → IsAllOf (O file.name) file.bytes → AreOpened O (files ++ file ∷ [])
opened_more O [] file all one = (one, tt)
opened_more O (x ∷ files) file all one = (all.0, opened_more O files file all.1 one)

-- one more was opened
pub opened_push : (O : List ℕ → Option (List ℕ) → Type 0) (old files new : List Shelved) (file : Shelved) (name given bytes : List ℕ) → AreOpened O old → files ≡ old
    → new ≡ files ++ file ∷ [] → file ≡ shelved name given 0 → given ≡ bytes → IsAllOf (O name) bytes → AreOpened O new
opened_push O old files new file name given bytes all same pushed is kept one =
    let own : IsAllOf (O file.name) file.bytes = subst (λ (f : Shelved). IsAllOf (O f.name) f.bytes) (sym is) (subst (IsAllOf (O name)) (sym kept) one) in
    subst (AreOpened O) (sym pushed) (opened_more O files file (subst (AreOpened O) (sym same) all) own)
