use Rattle.std.proofs.Common.{arith, ℕ, List, inl, inr, ◌≡◌, ◌⊎◌, ◌+◌, ◌<◌, ◌∙◌, ap, ap₂, sym, length, get_or, map, bit_xor, true}
use Rattle.std.specs.Int.Bits.{xor_zero_r}
use Rattle.std.proofs.lemmas.Bool.{cases_eq}
use Rattle.fec_spec.specs.Field.{field_power, field_product}
use Rattle.fec_spec.specs.Row.{is_among}
use Rattle.erasure_law.specs.Roots.{differences, place_power}
use Rattle.erasure_law.proofs.Unique.{length-map_powers}
use Rattle.rs_erasure.specs.Columns.{cell}
use Rattle.rs_erasure.proofs.Remains.{left_is_sum, left_term, none_left, sum_push, sum_to}
use Rattle.rs_erasure.proofs.left.find_by_columns.Goals as goal

pub loop-place-preserved : goal.loop-place-preserved
loop-place-preserved c = λ r ge lt m few.
    let run = c.args.run in
    let places : List ℕ = c.args.places.now in
    let table : List ℕ = c.args.table.now in
    let n : ℕ = c.loop-place.place in
    let low : n < 255 = omega arith in
    let roots : List ℕ = c.as_slice.result.now in
    let is_roots : roots ≡ map place_power places = c.as_slice.ensures.value ∙ c.powers_of-powers.ensures in
    let long : length roots ≡ length places = ap (λ (l : List ℕ). length l) is_roots ∙ length-map_powers places in
    let f : ℕ → ℕ = left_term places run.rows table r m in
    let was : cell run.rows c.loop-place.work (length places + m) r ≡ sum_to f n = c.loop-place.invariant r ge lt m few in
    let mark : ℕ = get_or c.args.marks.now c.from.result 0 in
    elim (cases_eq mark 0) [
      | inl zero ↦
          let empty : (is_among n places ≡ true) ⊎ (cell run.rows table n r ≡ 0) = elim (c.requires.empty n low (ap (λ (k : ℕ). get_or c.args.marks.now k 0) (sym c.from.ensures) ∙ zero)) [
            | inl among ↦ inl among
            | inr none ↦ inr (none r ge lt)
          ] in
          ap (λ (l : List ℕ). cell run.rows l (length places + m) r) (c.add_marked.ensures.kept zero)
          ∙ was ∙ sym (sum_push f n ∙ ap (λ (t : ℕ). bit_xor (sum_to f n) t) (none_left places run.rows table r m n empty) ∙ xor_zero_r (sum_to f n))
      | inr some ↦
          ap (λ (k : ℕ). cell run.rows c.add_marked.new.work (k + m) r) (sym long)
          ∙ c.add_marked.ensures.added some r ge lt m (omega arith)
          ∙ ap₂ (λ (s t : ℕ). bit_xor s t) (ap (λ (k : ℕ). cell run.rows c.loop-place.work (k + m) r) long ∙ was)
          (ap (λ (l : List ℕ). field_product (field_product (field_power (place_power n) m) (differences l (place_power n))) (cell run.rows table n r)) is_roots)
          ∙ sym (sum_push f n)
    ]

pub loop-place-init : goal.loop-place-init
loop-place-init c = λ r ge lt m few. c.clear_columns.ensures.here r ge lt (length c.args.places.now + m) (omega arith) (omega arith)

pub returns : goal.returns
returns c = λ r ge lt m few.
    let places : List ℕ = c.args.places.now in
    let table : List ℕ = c.args.table.now in
    let e : c.loop-place.place ≡ 255 = omega arith in
    c.loop-place.invariant r ge lt m few
    ∙ ap (λ (k : ℕ). sum_to (left_term places c.args.run.rows table r m) k) e
    ∙ sym (left_is_sum places c.args.run.rows table r m)
