-- Outcomes that the bytes tell, or leave open.
use Rattle.std.proofs.Common.{◌≡◌, ◌⊎◌, inl, inr, ℕ, ◌<◌, ◌≤◌, Bool, true, false, cond, ◌||◌, leb, eqb, List, [], ◌++◌, length, take, refl, ap, ◌∙◌, arith, length-append, append_assoc}
use Rattle.std.proofs.lemmas.List.{append-nil, take-append-le}
use Rattle.ts_spec.specs.Form.{UnitForm, Span, more, stuffing, whole, bad, IsLawful}
use Rattle.ts_spec.specs.Reassembly.{Given, all_given, with_payload, Outcome, candidate, bad_length, no_outcome, is_complete, incomplete, outcome_by, outcome_of}
use Rattle.reassembly_law.specs.UnderWay.{is_told, nothing_given}

abbrev pub told_by : Span → List ℕ → Outcome
told_by more bytes = no_outcome
told_by stuffing bytes = no_outcome
told_by (whole n) bytes = candidate (take n bytes)
told_by bad bytes = bad_length

pub leb_true : (a b : ℕ) → a ≤ b → leb a b ≡ true
leb_true a b le = grind arith

pub true_leb : (a b : ℕ) → leb a b ≡ true → a ≤ b
true_leb a b e = grind (arith, e)

pub false_leb : (a b : ℕ) → leb a b ≡ false → b < a
false_leb a b e = grind (arith, e)

-- what is told stays
pub span_more : (form : UnitForm) → IsLawful form → (bytes behind : List ℕ) → (form.span bytes ≡ more → ⊥) → form.span (bytes ++ behind) ≡ form.span bytes
span_more form lawful bytes behind h = by_told (lawful.told bytes behind)
  where
    by_told : (form.span bytes ≡ more) ⊎ (form.span (bytes ++ behind) ≡ form.span bytes) → form.span (bytes ++ behind) ≡ form.span bytes
    by_told (inl e) = absurd (h e)
    by_told (inr e) = e

pub told_not_more : (span : Span) (size : ℕ) → is_told span size ≡ true → span ≡ more → ⊥
told_not_more more size t e = cc
told_not_more stuffing size t e = cc
told_not_more (whole n) size t e = cc
told_not_more bad size t e = cc

pub told_longer : (span : Span) (m n : ℕ) → m ≤ n → is_told span m ≡ true → is_told span n ≡ true
told_longer more m n le t = t
told_longer stuffing m n le t = t
told_longer (whole k) m n le t = leb_true k n (omega (arith, true_leb k m t))
told_longer bad m n le t = refl

pub told_more : (form : UnitForm) → IsLawful form → (x z : List ℕ) → is_told (form.span x) (length x) ≡ true → is_told (form.span (x ++ z)) (length (x ++ z)) ≡ true
told_more form lawful x z t =
    ap (λ (s : Span). is_told s (length (x ++ z))) (span_more form lawful x z (told_not_more (form.span x) (length x) t))
    ∙ told_longer (form.span x) (length x) (length (x ++ z)) (omega (arith, length-append x z)) t

pub told_outcome : (form : UnitForm) → IsLawful form → (bytes : List ℕ) (g : Given) → is_told (form.span bytes) (length bytes) ≡ true → outcome_of form (with_payload bytes g) ≡ told_by (form.span bytes) bytes
told_outcome form lawful bytes g t = ap (λ (s : Span). outcome_by s (with_payload bytes g)) same ∙ by_span (form.span bytes) t
  where
    all : all_given (with_payload bytes g) ≡ bytes ++ (g.payloads ++ g.rest)
    all = append_assoc bytes g.payloads g.rest

    same : form.span (all_given (with_payload bytes g)) ≡ form.span bytes
    same = ap form.span all ∙ span_more form lawful bytes (g.payloads ++ g.rest) (told_not_more (form.span bytes) (length bytes) t)

    by_span : (s : Span) → is_told s (length bytes) ≡ true → outcome_by s (with_payload bytes g) ≡ told_by s bytes
    by_span more e = absurd (cc)
    by_span stuffing e = absurd (cc)
    by_span bad e = refl
    by_span (whole n) e =
        let le : n ≤ length bytes = true_leb n (length bytes) e in
        let front : leb n (length (bytes ++ g.payloads)) ≡ true = leb_true n (length (bytes ++ g.payloads)) (omega (arith, length-append bytes g.payloads)) in
        ap (λ (b : Bool). cond (b || eqb n (length (all_given (with_payload bytes g)))) (candidate (take n (all_given (with_payload bytes g)))) (incomplete (with_payload bytes g))) front
        ∙ ap candidate (ap (take n) all ∙ take-append-le n bytes (g.payloads ++ g.rest) le)

pub not_complete : (n : ℕ) (bytes : List ℕ) → length bytes < n → is_complete n (with_payload bytes nothing_given) ≡ false
not_complete n bytes lt =
    let size : length (bytes ++ []) ≡ length bytes = ap length (append-nil bytes) in
    let sizes : length ((bytes ++ []) ++ []) ≡ length bytes = ap length (append-nil (bytes ++ [])) ∙ size in
    let front : leb n (length (bytes ++ [])) ≡ false = leb_false n (length (bytes ++ [])) (omega arith) in
    let all : eqb n (length ((bytes ++ []) ++ [])) ≡ false = eqb_false n (length ((bytes ++ []) ++ [])) (omega arith) in
    ap (λ (b : Bool). b || eqb n (length ((bytes ++ []) ++ []))) front ∙ all
  where
    leb_false : (a b : ℕ) → b < a → leb a b ≡ false
    leb_false a b less = grind arith

    eqb_false : (a b : ℕ) → b < a → eqb a b ≡ false
    eqb_false a b less = grind arith

pub untold_outcome : (form : UnitForm) (bytes : List ℕ) → is_told (form.span bytes) (length bytes) ≡ false → outcome_of form (with_payload bytes nothing_given) ≡ no_outcome
untold_outcome form bytes t = ap (λ (s : Span). outcome_by s (with_payload bytes nothing_given)) (ap form.span (append-nil (bytes ++ []) ∙ append-nil bytes)) ∙ by_span (form.span bytes) t
  where
    by_span : (s : Span) → is_told s (length bytes) ≡ false → outcome_by s (with_payload bytes nothing_given) ≡ no_outcome
    by_span more e = refl
    by_span stuffing e = refl
    by_span bad e = absurd (cc)
    by_span (whole n) e =
        ap (λ (b : Bool). cond b (candidate (take n (all_given (with_payload bytes nothing_given)))) (incomplete (with_payload bytes nothing_given))) (not_complete n bytes (false_leb n (length bytes) e))
