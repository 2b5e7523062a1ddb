-- One change of told content after another.
use Rattle.std.proofs.Common.{◌≡◌, ◌==◌, if◌then◌else◌, Bool, false, ℕ, ◌+◌, ◌<◌, ◌≤◌, ◌^◌, ◌-◌, List, [], ◌++◌, length, get_or, set, refl, ap, sym, ◌∙◌, append_assoc, arith, Option, None, Some, IfSome}
use Rattle.std.proofs.lemmas.List.{set-set, get_or-set_same, set-get_or, append-nil}
use Rattle.wire_spec.specs.Causes.{raised}
use Rattle.wire_spec.specs.Content.{File, ChangesFile, Stays, grown, no_file}

-- a read that gave bytes leaves an input that goes on
pub goes_on : (before now : Bool) (room n : ℕ) → ¬ (n ≡ 0) → before ≡ false → now ≡ (if room == 0 then before else n == 0) → now ≡ false
goes_on before now room n some e is = grind (arith, some, e, is)

-- a counter raised twice
pub raised-raised : (count m n : ℕ) → raised (raised count m) n ≡ raised count (m + n)
raised-raised count m n = omega arith

-- a counter of 64 bits, raised by nothing
pub raised-zero : (count : ℕ) → count ≤ 2 ^ 64 - 1 → raised count 0 ≡ count
raised-zero count fits = omega arith

pub stays-refl : {X : Type 0} (a : Option X) → Stays a a
stays-refl None = tt
stays-refl (Some x) = refl

pub stays-trans : {X : Type 0} (a b c : Option X) → Stays a b → Stays b c → Stays a c
stays-trans None b c h k = tt
stays-trans (Some x) None c h k = absurd h
stays-trans (Some x) (Some y) None h k = absurd k
stays-trans (Some x) (Some y) (Some z) h k = k ∙ h

-- where files are told, there is one at this place
abbrev pub IsThere : Option (List File) → ℕ → Type 0
IsThere None at = Unit {0}
IsThere (Some files) at = at < length files

pub is_there : (files : Option (List File)) (at count : ℕ) → IfSome files (λ told. length told ≡ count) → at < count → IsThere files at
is_there None at count e lt = tt
is_there (Some told) at count e lt = omega arith

same_file : (n : List ℕ) (k : ℕ) (x y : List ℕ) → x ≡ y
    → let f : File = record { name = n; bytes = x; flushed = k } in let g : File = record { name = n; bytes = y; flushed = k } in f ≡ g
same_file n k x y e = ap (λ (b : List ℕ). let f : File = record { name = n; bytes = b; flushed = k } in f) e

grown_twice : (xs ys zs : List File) (at : ℕ) (p q : List ℕ) → at < length xs
    → ys ≡ set xs at (grown (get_or xs at no_file) p) → zs ≡ set ys at (grown (get_or ys at no_file) q)
    → zs ≡ set xs at (grown (get_or xs at no_file) (p ++ q))
grown_twice xs ys zs at p q lt h k =
    let f : File = get_or xs at no_file in
    let fp : File = grown f p in
    let there : get_or ys at no_file ≡ fp = ap (λ s. get_or s at no_file) h ∙ get_or-set_same xs at fp no_file lt in
    k
    ∙ ap (λ (g : File). set ys at (grown g q)) there
    ∙ ap (λ s. set s at (grown fp q)) h
    ∙ set-set xs at fp (grown fp q)
    ∙ ap (set xs at) (same_file f.name f.flushed ((f.bytes ++ p) ++ q) (f.bytes ++ (p ++ q)) (append_assoc f.bytes p q))

-- a file that grew by one list and then by another
pub changes-trans : (a b c : Option (List File)) (at : ℕ) (p q r : List ℕ) → r ≡ p ++ q → IsThere a at
    → ChangesFile a b at (λ file. grown file p) → ChangesFile b c at (λ file. grown file q) → ChangesFile a c at (λ file. grown file r)
changes-trans None b c at p q r e lt h k = tt
changes-trans (Some xs) None c at p q r e lt h k = absurd h
changes-trans (Some xs) (Some ys) None at p q r e lt h k = absurd k
changes-trans (Some xs) (Some ys) (Some zs) at p q r e lt h k =
    grown_twice xs ys zs at p q lt h k ∙ ap (λ s. set xs at (grown (get_or xs at no_file) s)) (sym e)

-- a file that grew, and then nothing changed
pub changes-stays : (a b c : Option (List File)) (at : ℕ) (p : List ℕ) → ChangesFile a b at (λ file. grown file p) → Stays b c
    → ChangesFile a c at (λ file. grown file p)
changes-stays None b c at p h k = tt
changes-stays (Some xs) None c at p h k = absurd h
changes-stays (Some xs) (Some ys) None at p h k = absurd k
changes-stays (Some xs) (Some ys) (Some zs) at p h k = k ∙ h

-- a file that grew by nothing
pub changes-nil : (a : Option (List File)) (at : ℕ) → ChangesFile a a at (λ file. grown file [])
changes-nil None at = tt
changes-nil (Some xs) at =
    let f : File = get_or xs at no_file in
    sym (ap (set xs at) (same_file f.name f.flushed (f.bytes ++ []) f.bytes (append-nil f.bytes)) ∙ set-get_or xs at no_file)
