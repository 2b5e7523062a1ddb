-- Runs of known bytes of a table.
use Rattle.std.proofs.Common.{◌≡◌, ◌⊎◌, inl, inr, ℕ, zero, suc, ◌+◌, ◌-◌, ◌<◌, ◌≤◌, true, false, List, ◌∷◌, length, get_or, drop, take, Option, Some, None, refl, ap, sym, ◌∙◌, arith}
use Rattle.std.proofs.lemmas.Bool.{cond-true, cond-false, cases_lt}
use Rattle.std.proofs.lemmas.List.{drop_more}
use Rattle.fec_frame_spec.specs.Starts.{run_on, run_within}
use Rattle.fec_frame.specs.Marks.{is_known_mark, marked_byte, marked_run, IsRun}

-- the known bytes of a run
known_byte_is : (bytes marks : List ℕ) (place : ℕ) → is_known_mark (get_or marks place 0) ≡ true → marked_byte bytes marks place ≡ Some (get_or bytes place 0)
unfolding marked_byte
known_byte_is bytes marks place known = cond-true (is_known_mark (get_or marks place 0)) (Some (get_or bytes place 0)) None known

unknown_byte_is : (bytes marks : List ℕ) (place : ℕ) → is_known_mark (get_or marks place 0) ≡ false → marked_byte bytes marks place ≡ None
unfolding marked_byte
unknown_byte_is bytes marks place unknown = cond-false (is_known_mark (get_or marks place 0)) (Some (get_or bytes place 0)) None unknown

run_is : (bytes marks : List ℕ) (limit size most place : ℕ) → limit ≤ length bytes → size ≤ most → place + most ≡ limit
    → ((i : ℕ) → place ≤ i → i < place + size → is_known_mark (get_or marks i 0) ≡ true)
    → (place + size < limit → is_known_mark (get_or marks (place + size) 0) ≡ false)
    → run_within (marked_byte bytes marks) most place ≡ take size (drop place bytes)
unfolding run_within
run_is bytes marks limit zero zero place long order at known over = refl
run_is bytes marks limit zero (suc most) place long order at known over =
    let e : place + 0 ≡ place = omega arith in
    ap (λ (o : Option ℕ). run_on o (run_within (marked_byte bytes marks) most (place + 1)))
    (unknown_byte_is bytes marks place (ap (λ (p : ℕ). is_known_mark (get_or marks p 0)) (sym e) ∙ over (omega arith)))
run_is bytes marks limit (suc size) zero place long order at known over = absurd (omega arith)
run_is bytes marks limit (suc size) (suc most) place long order at known over =
    let e : place + 1 + size ≡ place + suc size = omega arith in
    ap (λ (o : Option ℕ). run_on o (run_within (marked_byte bytes marks) most (place + 1))) (known_byte_is bytes marks place (known place (omega arith) (omega arith)))
    ∙ ap (λ (l : List ℕ). get_or bytes place 0 ∷ l)
    (run_is bytes marks limit size most (place + 1) long (omega arith) (omega arith)
    (λ i from below. known i (omega (arith, from)) (omega (arith, below)))
    (λ below. ap (λ (p : ℕ). is_known_mark (get_or marks p 0)) e ∙ over (omega (arith, below))))
    ∙ ap (take (suc size)) (sym (drop_more bytes place 0 (omega arith)))

-- a run goes on after its first bytes
pub run_later : (marks : List ℕ) (limit start later end : ℕ) → IsRun marks limit start end → start ≤ later → later ≤ end → IsRun marks limit later end
run_later marks limit start later end run after before = record {
  order = before;
  within = run.within;
  known = λ place from below. run.known place (omega (arith, after, from)) below;
  over = run.over;
}

pub marked_run_is : (bytes marks : List ℕ) (limit place end : ℕ) → limit ≤ length bytes → place ≤ limit → IsRun marks limit place end
    → marked_run bytes marks limit place ≡ take (end - place) (drop place bytes)
unfolding marked_run
marked_run_is bytes marks limit place end long below run =
    let e : place + (end - place) ≡ end = omega (arith, run.order) in
    run_is bytes marks limit (end - place) (limit - place) place long (omega (arith, run.within)) (omega arith)
    (λ i from low. run.known i from (omega (arith, low, e)))
    (λ low. ap (λ (p : ℕ). is_known_mark (get_or marks p 0)) e ∙ run.over (omega (arith, low, e)))

clash : true ≡ false → ⊥
clash e = cc

-- a run whose first byte is known is not empty
pub run_some : (marks : List ℕ) (limit start end : ℕ) → IsRun marks limit start end → start < limit → is_known_mark (get_or marks start 0) ≡ true → start < end
run_some marks limit start end run below known = by_end (cases_lt start end)
  where
    by_end : (start < end) ⊎ (end ≤ start) → start < end
    by_end (inl some) = some
    by_end (inr none) =
        let e : start ≡ end = omega (arith, none, run.order) in
        absurd (clash (sym known ∙ ap (λ (p : ℕ). is_known_mark (get_or marks p 0)) e ∙ run.over (omega (arith, e, below))))

-- nor are unknown bytes, up to a known one, whose first is unknown
pub gap_some : (marks : List ℕ) (limit start end : ℕ) → start ≤ end → (end < limit → is_known_mark (get_or marks end 0) ≡ true) → start < limit
    → is_known_mark (get_or marks start 0) ≡ false → start < end
gap_some marks limit start end order over below unknown = by_end (cases_lt start end)
  where
    by_end : (start < end) ⊎ (end ≤ start) → start < end
    by_end (inl some) = some
    by_end (inr none) =
        let e : start ≡ end = omega (arith, none, order) in
        absurd (clash (sym (over (omega (arith, e, below))) ∙ ap (λ (p : ℕ). is_known_mark (get_or marks p 0)) (sym e) ∙ unknown))
