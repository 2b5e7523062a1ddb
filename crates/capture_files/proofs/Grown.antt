-- Files that grow, one change after another.
use Rattle.std.proofs.Common.{◌≡◌, ◌≢◌, inl, inr, ℕ, ◌+◌, Bool, cond, List, [], ◌++◌, length, drop, get_or, set, refl, ap, sym, ◌∙◌, subst, append_assoc, length-append, arith, Option, None, Some}
use Rattle.std.proofs.lemmas.List.{append-nil, get_or-set_same, get_or-set_other, length-set, drop_at}
use Rattle.std.proofs.lemmas.Grind.{flat_map-append}
use Rattle.std.proofs.lemmas.Bool.{cases_eq, eq-eqb, ne_eqb}
use Rattle.wire_spec.specs.Content.{File, ChangesFile, grown, no_file}
use Rattle.ipe_io.proofs.Told.{IsThere}
use Rattle.capture_files.specs.Growth.{Grow, EndsWith, text_in, record_in_file, records_at, records_and}

-- one file with other bytes
file_bytes : (f : File) (x y : List ℕ) → x ≡ y → grown f x ≡ grown f y
file_bytes f x y e = ap (λ (b : List ℕ). grown f b) e

pub grown_nil : (f : File) → grown f [] ≡ f
grown_nil f = ap (λ (b : List ℕ). let g : File = record { name = f.name; bytes = b; flushed = f.flushed } in g) (append-nil f.bytes)

pub grown_twice : (f : File) (x y : List ℕ) → grown (grown f x) y ≡ grown f (x ++ y)
grown_twice f x y = ap (λ (b : List ℕ). let g : File = record { name = f.name; bytes = b; flushed = f.flushed } in g) (append_assoc f.bytes x y)

-- nothing grew
pub grow-nil : (a : Option (List File)) → Grow a a (λ at. [])
grow-nil None = tt
grow-nil (Some files) = record { size = refl; each = λ at lt. sym (grown_nil (get_or files at no_file)) }

-- files that grew, and grew again
pub grow_then : (a b c : Option (List File)) (x y : ℕ → List ℕ) → Grow a b x → Grow b c y → Grow a c (λ at. x at ++ y at)
grow_then None b c x y first then = tt
grow_then (Some a) None c x y first then = absurd first
grow_then (Some a) (Some b) None x y first then = absurd then
grow_then (Some a) (Some b) (Some c) x y first then = record {
  size = then.size ∙ first.size;
  each = λ at lt.
      then.each at (omega (arith, lt, first.size))
      ∙ ap (λ (f : File). grown f (y at)) (first.each at lt) ∙ grown_twice (get_or a at no_file) (x at) (y at);
}

-- a text in the file of its own service and in others
own_text : (first k : ℕ) (text : List ℕ) (at : ℕ) → first + k ≡ at → text_in first k text at ≡ text
own_text first k text at e = ap (λ (b : Bool). cond b text []) (eq-eqb (first + k) at e)

other_text : (first k : ℕ) (text : List ℕ) (at : ℕ) → first + k ≢ at → text_in first k text at ≡ []
other_text first k text at ne = ap (λ (b : Bool). cond b text []) (ne_eqb (first + k) at ne)

-- one file grew by a text
pub grow_one : (a b : Option (List File)) (first k : ℕ) (text : List ℕ) → IsThere a (first + k) → ChangesFile a b (first + k) (λ file. grown file text)
    → Grow a b (text_in first k text)
grow_one None b first k text there changed = tt
grow_one (Some a) None first k text there changed = absurd changed
grow_one (Some a) (Some b) first k text there changed = record {
  size = ap length changed ∙ length-set a (first + k) (grown (get_or a (first + k) no_file) text);
  each = λ at lt. elim (cases_eq (first + k) at) [
    | inl own ↦
        ap (λ (s : List File). get_or s at no_file) changed
        ∙ subst (λ (i : ℕ). get_or (set a (first + k) (grown (get_or a (first + k) no_file) text)) i no_file ≡ grown (get_or a i no_file) text) own
        (get_or-set_same a (first + k) (grown (get_or a (first + k) no_file) text) no_file there)
        ∙ file_bytes (get_or a at no_file) text (text_in first k text at) (sym (own_text first k text at own))
    | inr other ↦
        ap (λ (s : List File). get_or s at no_file) changed
        ∙ get_or-set_other a (first + k) at (grown (get_or a (first + k) no_file) text) no_file (λ e. other (sym e))
        ∙ sym (file_bytes (get_or a at no_file) (text_in first k text at) [] (other_text first k text at other) ∙ grown_nil (get_or a at no_file))
  ];
}

pub records-append : (first : ℕ) (ps qs : List (ℕ × List ℕ)) (at : ℕ) → records_at first ps at ++ records_at first qs at ≡ records_at first (ps ++ qs) at
records-append first ps qs at = sym (flat_map-append (record_in_file first at) ps qs)

-- The text after the records is the one that the file ends with.

ends_same : (file was : File) (records text front t : List ℕ) → file ≡ grown was (records ++ text) → file.bytes ≡ front ++ t → length text ≡ length t → text ≡ t
ends_same file was records text front t grew ends size =
    let both : (was.bytes ++ records) ++ text ≡ front ++ t = append_assoc was.bytes records text ∙ sym (ap (λ (f : File). f.bytes) grew) ∙ ends in
    let long : length front ≡ length (was.bytes ++ records) = omega (arith, length-append (was.bytes ++ records) text, length-append front t, ap length both, size) in
    sym (drop_at (was.bytes ++ records) text (length (was.bytes ++ records)) refl) ∙ ap (drop (length (was.bytes ++ records))) both ∙ drop_at front t (length (was.bytes ++ records)) long

pub grow_exact : (a b : Option (List File)) (first at service : ℕ) (text t : List ℕ) (pairs : List (ℕ × List ℕ)) → at ≡ service → length text ≡ length t
    → Grow a b (records_and first at text pairs) → EndsWith a b (first + service) t → Grow a b (records_and first service t pairs)
grow_exact None b first at service text t pairs same size grew ends = tt
grow_exact (Some a) None first at service text t pairs same size grew ends = absurd grew
grow_exact (Some a) (Some b) first at service text t pairs same size grew ends = record {
  size = grew.size;
  each = λ k lt. elim (cases_eq (first + service) k) [
    | inl own ↦
        let step : get_or b k no_file ≡ grown (get_or a k no_file) (records_at first pairs k ++ text) =
        grew.each k lt ∙ file_bytes (get_or a k no_file) _ _ (ap (λ (s : List ℕ). records_at first pairs k ++ s) (own_text first at text k (omega (arith, same, own)))) in
        let is : text ≡ t = ends_same (get_or b k no_file) (get_or a k no_file) (records_at first pairs k) text ends.0 t step
        (subst (λ (i : ℕ). (get_or b i no_file).bytes ≡ ends.0 ++ t) own ends.1) size in
        step ∙ file_bytes (get_or a k no_file) _ _ (ap (λ (s : List ℕ). records_at first pairs k ++ s) (is ∙ sym (own_text first service t k own)))
    | inr other ↦
        grew.each k lt
        ∙ file_bytes (get_or a k no_file) _ _ (ap (λ (s : List ℕ). records_at first pairs k ++ s)
        (other_text first at text k (λ e. other (omega (arith, same, e))) ∙ sym (other_text first service t k other)))
  ];
}
