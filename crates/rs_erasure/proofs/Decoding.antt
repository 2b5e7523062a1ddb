-- What the steps on columns leave of one row.
use Rattle.std.proofs.Common.{ℕ, List, [], ◌≡◌, ◌+◌, ◌-◌, ◌*◌, ◌<◌, ◌≤◌, ◌⊎◌, inl, inr, false, length, get_or, map, drop, ap, ap₂, sym, subst, ◌∙◌, arith}
use Rattle.std.specs.Prelude.{◌↔◌}
use Rattle.std.specs.List.{All}
use Rattle.std.specs.List.Sorted.{IsStrictlyIncreasing}
use Rattle.std.proofs.lemmas.Bool.{cases_Bool}
use Rattle.std.proofs.lemmas.Grind.{get_or_default_zero}
use Rattle.std.proofs.lemmas.List.{drop-map}
use Rattle.fec_spec.specs.Codeword.{IsCodeword}
use Rattle.fec_spec.specs.Row.{Agrees, HasCodeword, IsCorrectable, IsCorrected, is_among}
use Rattle.fec_spec.specs.Table.{table_row}
use Rattle.erasure_law.specs.Roots.{combined, eliminated, place_power, root_polynomial, syndromes_of}
use Rattle.erasure_law.proofs.Unique.{clash, length-map_powers, same_list}
use Rattle.erasure_law.proofs.Elimination.{nothing_left}
use Rattle.erasure_law.proofs.Tables.{get_or-table_row, length-table_row}
use Rattle.rs_erasure.specs.Columns.{cell}
use Rattle.rs_erasure.specs.Correction.{IsBeingCorrected, IsCorrectedBut}
use Rattle.rs_erasure.proofs.Corrections.{among_of_drop}
use Rattle.rs_erasure.proofs.Existing.{has_codeword, none_behind}
use Rattle.rs_erasure.proofs.Runs.{get_or-row}

-- the bytes of a row are bytes
pub row_bytes : (rows : ℕ) (table : List ℕ) (r : ℕ) → ((i : ℕ) → get_or table i 0 < 256) → All (λ b. b < 256) (table_row 255 rows table r)
row_bytes rows table r bytes = λ i d lt.
    let l : length (table_row 255 rows table r) ≡ 255 = length-table_row 255 rows table r in
    subst (λ t. t < 256) (sym (get_or_default_zero (table_row 255 rows table r) i d lt ∙ get_or-table_row 255 rows table r i (omega arith))) (bytes (i * rows + r))

-- rows of the same bytes
pub same_row : (rows : ℕ) (table new : List ℕ) (r : ℕ) → ((j : ℕ) → cell rows new j r ≡ cell rows table j r) → table_row 255 rows new r ≡ table_row 255 rows table r
same_row rows table new r same =
    let l : length (table_row 255 rows new r) ≡ 255 = length-table_row 255 rows new r in
    same_list (table_row 255 rows new r) (table_row 255 rows table r) (l ∙ sym (length-table_row 255 rows table r))
    (λ j lt. let low : j < 255 = omega arith in get_or-row rows new r j low ∙ same j ∙ sym (get_or-row rows table r j low))

-- the powers of the last places
pub powers_behind : (unknown powers : List ℕ) (j : ℕ) → powers ≡ map place_power unknown → drop (length powers - j) powers ≡ map place_power (drop (length unknown - j) unknown)
powers_behind unknown powers j is_powers =
    let long : length powers ≡ length unknown = ap (λ (l : List ℕ). length l) is_powers ∙ length-map_powers unknown in
    ap₂ (λ (k : ℕ) (l : List ℕ). drop (k - j) l) long is_powers ∙ drop-map place_power (length unknown - j) unknown

-- the columns after the elimination hold what is left of the row
pub left_in_column : (unknown powers : List ℕ) (syndromes left : ℕ → ℕ) (j : ℕ) → powers ≡ map place_power unknown
    → left j ≡ combined (root_polynomial (drop (length powers - j) powers)) syndromes (j - length powers)
    → left j ≡ eliminated (drop (length unknown - j) unknown) syndromes (j - length unknown)
left_in_column unknown powers syndromes left j is_powers is =
    let long : length powers ≡ length unknown = ap (λ (l : List ℕ). length l) is_powers ∙ length-map_powers unknown in
    is ∙ ap₂ (λ (l : List ℕ) (m : ℕ). combined (root_polynomial l) syndromes m) (powers_behind unknown powers j is_powers) (ap (λ k. j - k) long)

-- what is known of a row after all steps
pub record Steps (unknown : List ℕ) (lowest : ℕ) (row new : List ℕ) (left column : ℕ → ℕ) (mark : ℕ) : Type 0 where
  pub few : length unknown ≤ 64
  pub some : lowest ≤ length unknown
  pub rising : IsStrictlyIncreasing unknown
  pub low : All (λ p. p < 255) unknown
  pub row_long : length row ≡ 255
  pub new_long : length new ≡ 255
  pub new_bytes : All (λ b. b < 256) new
  pub is_left : (j : ℕ) → lowest ≤ j → j < 64 → left j ≡ eliminated (drop (length unknown - j) unknown) (syndromes_of row) (j - length unknown)
  pub marked : ((mark ≡ 0) × ((j : ℕ) → length unknown ≤ j → j < 64 → left j ≡ 0) × ((j : ℕ) → j < length unknown → column j ≡ left j))
      ⊎ ((mark ≡ 1) × ((j : ℕ) × (length unknown ≤ j) × (j < 64) × (left j ≡ 0 → ⊥)) × ((j : ℕ) → j < length unknown → column j ≡ 0))
  pub corrected : IsBeingCorrected unknown lowest 0 row column → (after : ℕ → ℕ) × IsBeingCorrected unknown lowest (length unknown - lowest) new after
  pub zero : ((j : ℕ) → lowest ≤ j → j < length unknown → column j ≡ 0) → new ≡ row
  pub known : (j : ℕ) → j < 255 → is_among j unknown ≡ false → get_or row j 0 ≡ get_or new j 0

-- all columns of all places, where nothing is left
left_whole : (unknown row : List ℕ) (j : ℕ) → length unknown ≤ j → eliminated (drop (length unknown - j) unknown) (syndromes_of row) (j - length unknown) ≡ eliminated unknown (syndromes_of row) (j - length unknown)
left_whole unknown row j ge =
    let e : length unknown - j ≡ 0 = omega arith in
    ap (λ k. eliminated (drop k unknown) (syndromes_of row) (j - length unknown)) e

good_start : (unknown : List ℕ) (lowest : ℕ) (row new : List ℕ) (left column : ℕ → ℕ) (mark : ℕ) → Steps unknown lowest row new left column mark
    → ((j : ℕ) → length unknown ≤ j → j < 64 → left j ≡ 0) → ((j : ℕ) → j < length unknown → column j ≡ left j)
    → IsBeingCorrected unknown lowest 0 row column
good_start unknown lowest row new left column mark is none same =
    let u : ℕ = length unknown in
    let few : u ≤ 64 = is.few in
    let some : lowest ≤ u = is.some in
    record {
      to_do = λ j from lt.
          let e : j - u ≡ 0 = omega arith in
          same j (omega arith) ∙ is.is_left j from (omega arith) ∙ ap (λ m. eliminated (drop (u - j) unknown) (syndromes_of row) m) e;
      done = λ j ge lt. absurd (omega arith);
      rest = λ m lt.
          let e : m + u - u ≡ m = omega arith in
          ap (λ k. eliminated unknown (syndromes_of row) k) (sym e) ∙ sym (left_whole unknown row (m + u) (omega arith)) ∙ sym (is.is_left (m + u) (omega arith) lt) ∙ none (m + u) (omega arith) lt;
    }

-- with the wanted places corrected some codeword agrees but at the others
good_end : (unknown : List ℕ) (lowest : ℕ) (row new : List ℕ) (left column after : ℕ → ℕ) (mark : ℕ) → Steps unknown lowest row new left column mark
    → IsBeingCorrected unknown lowest (length unknown - lowest) new after → HasCodeword (drop (length unknown - lowest) unknown) new
good_end unknown lowest row new left column after mark steps is =
    let u : ℕ = length unknown in
    let some : lowest ≤ u = steps.some in
    let end : u - lowest + lowest ≡ u = omega arith in
    let none : (m : ℕ) → m + (u - (u - lowest)) < 64 → eliminated (drop (u - lowest) unknown) (syndromes_of new) m ≡ 0 =
    none_behind unknown (syndromes_of new) (u - lowest) (omega arith) is.rest is.done in
    has_codeword unknown steps.rising steps.low lowest (u - lowest) end new steps.new_long steps.new_bytes (λ m lt. none m (omega arith))

-- a place that is no unknown one is none of the last
not_behind_known : (k j : ℕ) (xs : List ℕ) → is_among j xs ≡ false → is_among j (drop k xs) ≡ false
not_behind_known k j xs out = elim (cases_Bool (is_among j (drop k xs))) [
  | inl t ↦ clash (among_of_drop k xs j t) out
  | inr f ↦ f
]

-- what the row has become, and its mark
pub record Decoded (unknown others row new : List ℕ) (mark : ℕ) : Type 0 where
  pub corrected : IsCorrectedBut others unknown row new
  pub consistent : (mark ≡ 0) ↔ IsCorrectable unknown row
  pub inconsistent : (mark ≡ 1) ↔ (IsCorrectable unknown row → ⊥)

one_zero : ◌≡◌ {A = ℕ} 1 0 → ⊥
one_zero e = absurd (omega arith)

pub decoded : (unknown : List ℕ) (lowest : ℕ) (row new : List ℕ) (left column : ℕ → ℕ) (mark : ℕ) → Steps unknown lowest row new left column mark
    → Decoded unknown (drop (length unknown - lowest) unknown) row new mark
decoded unknown lowest row new left column mark is =
    elim is.marked [
      | inl good ↦
          let end = is.corrected (good_start unknown lowest row new left column mark is good.1 good.2) in
          let found : HasCodeword (drop (length unknown - lowest) unknown) new = good_end unknown lowest row new left column end.0 mark is end.1 in
          let agrees : Agrees unknown row found.0 = record { known = λ j jl out. is.known j jl out ∙ found.2.known j jl (not_behind_known (length unknown - lowest) j unknown out) } in
          let able : IsCorrectable unknown row = (is.few, (found.0, found.1, agrees)) in
          record {
            corrected = inl (is.few, (found.0, found.1, agrees, found.2));
            consistent = (λ e. able, λ a. good.0);
            inconsistent = (λ e. absurd (one_zero (sym e ∙ good.0)), λ n. absurd (n able));
          }
      | inr bad ↦
          let j : ℕ = bad.1.0 in
          let ge : length unknown ≤ j = bad.1.1 in
          let lt : j < 64 = bad.1.2 in
          let some : lowest ≤ length unknown = is.some in
          let unable : IsCorrectable unknown row → ⊥ = λ able.
          bad.1.3 (is.is_left j (omega arith) lt ∙ left_whole unknown row j ge ∙ nothing_left unknown row able.1.0 (j - length unknown) able.1.1 is.row_long able.1.2 (omega arith)) in
          record {
            corrected = inr (unable, is.zero (λ k from low. bad.2 k low));
            consistent = (λ e. absurd (one_zero (sym bad.0 ∙ e)), λ a. absurd (unable a));
            inconsistent = (λ e. unable, λ n. bad.0);
          }
    ]

-- a row that is corrected but at no place
pub corrected_all : (others unknown row new : List ℕ) → others ≡ [] → length new ≡ 255 → IsCorrectedBut others unknown row new → IsCorrected unknown row new
corrected_all others unknown row new none long (inr left) = inr left
corrected_all others unknown row new none long (inl done) =
    let code : List ℕ = done.1.0 in
    let code_long : length code ≡ 255 = done.1.1.long in
    let same : code ≡ new = same_list code new (code_long ∙ sym long) (λ j lt. sym (done.1.3.known j (omega arith) (ap (λ (l : List ℕ). is_among j l) none))) in
    inl (done.0, subst (λ (l : List ℕ). IsCodeword l) same done.1.1, subst (λ (l : List ℕ). Agrees unknown row l) same done.1.2)
