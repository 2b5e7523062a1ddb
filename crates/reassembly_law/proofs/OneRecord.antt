-- One record more.
use Rattle.std.proofs.Common.{◌≡◌, ℕ, suc, ◌+◌, Bool, true, false, cond, Option, None, Some, List, [], ◌∷◌, ◌++◌, length, refl, ap, sym, ◌∙◌, arith, append_assoc}
use Rattle.std.proofs.lemmas.List.{append-nil}
use Rattle.std.proofs.lemmas.Slice.Eq.{bytes_eq-Decides}
use Rattle.ts_spec.specs.Recording.{Record}
use Rattle.ts_spec.specs.Received.{Arrival, arrival_of, arrivals_from, arrivals, repeats, unless_repeated, received_after, received_packets}
use Rattle.reassembly_law.specs.Records.{last_bytes, OneRecordMore}

arrived : (pid j : ℕ) (records : List Record) (r : Record) → arrivals_from pid j (records ++ r ∷ []) ≡ arrivals_from pid j records ++ arrival_of pid (j + length records) r.moment r.bytes
arrived pid j [] r =
    let e : j ≡ j + 0 = omega arith in
    append-nil (arrival_of pid j r.moment r.bytes) ∙ ap (λ (t : ℕ). arrival_of pid t r.moment r.bytes) e
arrived pid j (x ∷ records) r =
    let e : j + 1 + length records ≡ j + suc (length records) = omega arith in
    ap (λ (t : List Arrival). arrival_of pid j x.moment x.bytes ++ t) (arrived pid (j + 1) records r ∙ ap (λ (t : ℕ). arrivals_from pid (j + 1) records ++ arrival_of pid t r.moment r.bytes) e)
    ∙ sym (append_assoc (arrival_of pid j x.moment x.bytes) (arrivals_from pid (j + 1) records) (arrival_of pid (j + suc (length records)) r.moment r.bytes))

received_more : (before : Option (List ℕ)) (xs ys : List Arrival) → received_after before (xs ++ ys) ≡ received_after before xs ++ received_after (last_bytes before xs) ys
received_more before [] ys = refl
received_more before (a ∷ xs) ys =
    ap (λ (t : List Arrival). unless_repeated before a ++ t) (received_more (Some a.bytes) xs ys)
    ∙ sym (append_assoc (unless_repeated before a) (received_after (Some a.bytes) xs) (received_after (last_bytes (Some a.bytes) xs) ys))

-- the packet received last has the bytes of the last one
last_same : (before : Option (List ℕ)) (xs : List Arrival) → last_bytes before (received_after before xs) ≡ last_bytes before xs
last_same before [] = refl
last_same before (a ∷ xs) = by_test before (repeats before a.bytes) refl (last_same (Some a.bytes) xs)
  where
    same_last : (l : Option (List ℕ)) → repeats l a.bytes ≡ true → Some a.bytes ≡ l
    same_last None e = absurd (cc)
    same_last (Some t) e = ap (λ (x : List ℕ). Some x) (sym ((bytes_eq-Decides t a.bytes).0 e))

    by_test : (l : Option (List ℕ)) (b : Bool) → repeats l a.bytes ≡ b → last_bytes (Some a.bytes) (received_after (Some a.bytes) xs) ≡ last_bytes (Some a.bytes) xs
        → last_bytes l (cond b [] (a ∷ []) ++ received_after (Some a.bytes) xs) ≡ last_bytes (Some a.bytes) xs
    by_test l true e later = ap (λ (t : Option (List ℕ)). last_bytes t (received_after (Some a.bytes) xs)) (sym (same_last l e)) ∙ later
    by_test l false e later = later

pub one_more : (pid : ℕ) (records : List Record) (r : Record) → OneRecordMore pid records r
one_more pid records r = record {
  arrived = at_end;
  received =
      ap (received_after None) at_end
      ∙ received_more None (arrivals pid records) (arrival_of pid (length records) r.moment r.bytes)
      ∙ ap (λ (t : Option (List ℕ)). received_packets pid records ++ received_after t (arrival_of pid (length records) r.moment r.bytes)) (sym (last_same None (arrivals pid records)));
}
  where
    at_end : arrivals pid (records ++ r ∷ []) ≡ arrivals pid records ++ arrival_of pid (length records) r.moment r.bytes
    at_end = let e : 0 + length records ≡ length records = omega arith in arrived pid 0 records r ∙ ap (λ (t : ℕ). arrivals pid records ++ arrival_of pid t r.moment r.bytes) e
