-- Texts put one after another, whole and in part.
use Rattle.std.proofs.Common.{◌≡◌, ℕ, zero, suc, ◌+◌, ◌≤◌, ◌<◌, List, [], ◌∷◌, ◌++◌, length, map, take, drop, get_or, refl, ap, sym, subst, ◌∙◌, append_assoc, append-nil, arith, Option, None, Some, Result, Ok, Err, OnErr}
use Rattle.std.proofs.Math.Seq.{take-append-add}
use Rattle.std.proofs.lemmas.List.{take_all, drop_all, drop_more}
use Rattle.std.specs.Io.KnownBytes.{Appends, Keeps}
use Rattle.std.proofs.KnownBytes.{Appends-nil, Appends-trans}
use Rattle.wire_spec.specs.Lists.{joined}
use Rattle.wire_spec.specs.Causes.{HasCause}
use Rattle.wire_spec.specs.Content.{Puts, Stays}
use Rattle.ipe_io.proofs.Told.{stays-trans}

-- a part of a text is a part of each that begins so
part : (text rest : List ℕ) (n : ℕ) → (m : ℕ) × (take m (text ++ rest) ≡ take n text)
part [] rest zero = (zero, refl)
part [] rest (suc n) = (zero, refl)
part (x ∷ text) rest zero = (zero, refl)
part (x ∷ text) rest (suc n) = let more : (m : ℕ) × (take m (text ++ rest) ≡ take n text) = part text rest n in (suc more.0, ap (λ t. x ∷ t) more.1)

-- of a text a front was appended, and this rest is still to come
pub record IsPutTo (old now : Option (List ℕ)) (whole rest : List ℕ) : Type 0 where
  pub put : List ℕ
  pub written : Appends old now put
  pub whole_is : whole ≡ put ++ rest

pub none_put : (a : Option (List ℕ)) (whole : List ℕ) → IsPutTo a a whole whole
none_put a whole = record { put = []; written = Appends-nil a; whole_is = refl }

pub more_put : (a b c : Option (List ℕ)) (whole text rest : List ℕ) → IsPutTo a b whole (text ++ rest) → Appends b c text → IsPutTo a c whole rest
more_put a b c whole text rest so more = record {
  put = so.put ++ text;
  written = Appends-trans a b c so.put text so.written more;
  whole_is = so.whole_is ∙ sym (append_assoc so.put text rest);
}

pub all_put : (a b : Option (List ℕ)) (whole rest : List ℕ) → rest ≡ [] → IsPutTo a b whole rest → Appends a b whole
all_put a b whole rest none so =
    subst (λ (t : List ℕ). Appends a b t) (sym (so.whole_is ∙ ap (λ (t : List ℕ). so.put ++ t) none ∙ append-nil so.put)) so.written

-- of the rest a part
pub part_put : (a b c : Option (List ℕ)) (whole text rest : List ℕ) → IsPutTo a b whole (text ++ rest) → (n : ℕ) × Appends b c (take n text)
    → (m : ℕ) × Appends a c (take m whole)
part_put a b c whole text rest so some =
    let more : (m : ℕ) × (take m (text ++ rest) ≡ take some.0 text) = part text rest some.0 in
    let same : so.put ++ take some.0 text ≡ take (length so.put + more.0) whole =
    ap (λ t. so.put ++ t) (sym more.1) ∙ sym (take-append-add so.put (text ++ rest) more.0) ∙ ap (take (length so.put + more.0)) (sym so.whole_is) in
    (length so.put + more.0, subst (λ (t : List ℕ). Appends a c t) same (Appends-trans a b c so.put (take some.0 text) so.written some.1))

-- Two texts, one by each of two calls.

pub first_part : (a b : Option (List ℕ)) (text rest : List ℕ) → (n : ℕ) × Appends a b (take n text) → (m : ℕ) × Appends a b (take m (text ++ rest))
first_part a b text rest some = part_put a a b (text ++ rest) text rest (none_put a (text ++ rest)) some

pub puts_both : {T E : Type 0} (result : Result T E) (a b c : Option (List ℕ)) (text rest : List ℕ) → Appends a b text → Puts result b c rest
    → Puts result a c (text ++ rest)
puts_both (Ok x) a b c text rest front behind = Appends-trans a b c text rest front behind
puts_both (Err e) a b c text rest front behind =
    part_put a b c (text ++ rest) rest [] (record { put = text; written = front; whole_is = ap (λ (t : List ℕ). text ++ t) (sym (append-nil rest)) }) behind

-- The texts of items, so many of which are put.

pub joined_more : {X : Type 0} (text : X → List ℕ) (xs : List X) (i : ℕ) (d : X) → i < length xs
    → joined (map text (drop i xs)) ≡ text (get_or xs i d) ++ joined (map text (drop (i + 1) xs))
joined_more text xs i d less = ap (λ ys. joined (map text ys)) (drop_more xs i d less)

pub joined_none : {X : Type 0} (text : X → List ℕ) (xs : List X) (i : ℕ) → length xs ≤ i → joined (map text (drop i xs)) ≡ []
joined_none text xs i past = ap (λ ys. joined (map text ys)) (drop_all i xs past)

-- a text was appended, and then nothing changed
appends_kept : (a b c : Option (List ℕ)) (text : List ℕ) → Appends a b text → Keeps b c → Appends a c text
appends_kept None b c text h k = tt
appends_kept (Some x) None c text h k = absurd h
appends_kept (Some x) (Some y) None text h k = absurd k
appends_kept (Some x) (Some y) (Some z) text h k = k ∙ h

pub puts_kept : {T E : Type 0} (result : Result T E) (a b c : Option (List ℕ)) (text : List ℕ) → Appends a b text → Keeps b c → Puts result a c text
puts_kept (Ok x) a b c text h k = appends_kept a b c text h k
puts_kept (Err e) a b c text h k = (length text, subst (λ (t : List ℕ). Appends a c t) (sym (take_all (length text) text (omega arith))) (appends_kept a b c text h k))

-- nothing more was flushed, and a call that fails flushes nothing more
pub stays_at_err : {T E : Type 0} (result : Result T E) (a b c : Option ℕ) → Stays a b → OnErr result (Stays b c) → OnErr result (Stays a c)
stays_at_err (Ok x) a b c before after = tt
stays_at_err (Err e) a b c before after = stays-trans a b c before after

-- a count that had not changed has the cause of the last call
pub cause_kept : {T E : Type 0} (result : Result T E) (a b c : ℕ) → b ≡ a → HasCause b c result → HasCause a c result
cause_kept result a b c same cause = subst (λ (n : ℕ). HasCause n c result) same cause
