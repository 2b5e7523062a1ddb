-- The starts of a packet, one by one.
use Rattle.std.proofs.Common.{◌≡◌, ℕ, zero, suc, ◌+◌, ◌<◌, ◌≤◌, Bool, true, cond, leb, ltb, List, [], ◌∷◌, length, drop, refl, ap, sym, ◌∙◌, arith, length-drop}
use Rattle.std.proofs.lemmas.List.{drop-drop}
use Rattle.ts_spec.specs.Form.{UnitForm, Span, more, stuffing, whole, bad, IsLawful}
use Rattle.ts_spec.specs.Reassembly.{starts_behind, starts_within}
use Rattle.reassembly_law.specs.Starts.{starts_from, StartsOneByOne}

none_short : (form : UnitForm) → IsLawful form → (place : ℕ) (bytes : List ℕ) (most : ℕ) → length bytes < 1 → starts_within form most place bytes ≡ []
none_short form lawful place bytes zero short = refl
none_short form lawful place bytes (suc most) short =
    ap (λ (b : Bool). cond b [] (starts_behind place bytes (length bytes) (form.span bytes) (starts_within form most))) (less (length bytes) form.start (omega (arith, lawful.start_least)))
  where
    less : (a b : ℕ) → a < b → ltb a b ≡ true
    less a b lt = grind arith

-- more fuel than bytes changes nothing
pub same_starts : (form : UnitForm) → IsLawful form → (most k place : ℕ) (bytes : List ℕ) → length bytes ≤ most → length bytes ≤ k → starts_within form most place bytes ≡ starts_within form k place bytes
same_starts form lawful zero k place bytes le le2 = sym (none_short form lawful place bytes k (omega arith))
same_starts form lawful (suc most) zero place bytes le le2 = none_short form lawful place bytes (suc most) (omega arith)
same_starts form lawful (suc most) (suc k) place bytes le le2 =
    ap (λ (t : List ℕ). cond (ltb (length bytes) form.start) [] t) (by_span (form.span bytes) refl (λ p rest a b. same_starts form lawful most k p rest a b))
  where
    by_span : (s : Span) → form.span bytes ≡ s → ((p : ℕ) (rest : List ℕ) → length rest ≤ most → length rest ≤ k → starts_within form most p rest ≡ starts_within form k p rest)
        → starts_behind place bytes (length bytes) s (starts_within form most) ≡ starts_behind place bytes (length bytes) s (starts_within form k)
    by_span more is later = refl
    by_span stuffing is later = refl
    by_span bad is later = refl
    by_span (whole n) is later =
        let least : 1 ≤ n = omega (arith, lawful.whole_least bytes n is, lawful.start_least) in
        ap (λ (t : List ℕ). place ∷ cond (leb n (length bytes)) t [])
        (later (place + n) (drop n bytes) (omega (arith, length-drop n bytes)) (omega (arith, length-drop n bytes)))

-- the next start follows from the place and its span
pub step : (form : UnitForm) → IsLawful form → (payload : List ℕ) (place : ℕ) → StartsOneByOne form payload place
step form lawful payload place =
    same_starts form lawful (length payload) (suc (length payload)) place (drop place payload) (omega (arith, length-drop place payload)) (omega (arith, length-drop place payload))
    ∙ ap (λ (t : List ℕ). cond (ltb (length (drop place payload)) form.start) [] t) (by_span (form.span (drop place payload)))
  where
    by_span : (s : Span) → starts_behind place (drop place payload) (length (drop place payload)) s (starts_within form (length payload))
        ≡ starts_behind place (drop place payload) (length (drop place payload)) s (λ p rest. starts_from form payload p)
    by_span more = refl
    by_span stuffing = refl
    by_span bad = refl
    by_span (whole n) = ap (λ (t : List ℕ). place ∷ cond (leb n (length (drop place payload))) (starts_within form (length payload) (place + n) t) []) (drop-drop n place payload)
