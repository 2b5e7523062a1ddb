-- One optional header of a chain.
use Rattle.std.proofs.Common.{◌≡◌, ℕ, zero, suc, ◌+◌, ◌-◌, ◌*◌, ◌/◌, ◌<◌, ◌≤◌, Bool, true, false, List, [], ◌∷◌, length, drop, refl, ap, ap₂, sym, ◌∙◌, arith}
use Rattle.std.specs.Prelude.{slice_index, ◌&&◌, nat_le, nat_lt, if◌then◌else◌}
use Rattle.std.proofs.lemmas.Bool.{leb-true}
use Rattle.std.proofs.lemmas.List.{length-drop, get_or-drop, drop-drop}
use Rattle.wire_spec.specs.Bytes.{u16_at}
use Rattle.ts_spec.specs.Chain.{is_optional, header_size, ChainEnd, ended, cut, end_behind, chain_end}

-- the end is that of the chain from the next Type on
end_behind_more : (words : ℕ) (bytes : List ℕ) → 2 * words + 2 ≤ length bytes
    → end_behind words bytes ≡ chain_end (u16_at bytes (2 * words)) (drop (2 * words + 2) bytes)
end_behind_more words [] fits = absurd (omega arith)
end_behind_more words (x ∷ []) fits = absurd (omega arith)
end_behind_more zero (x ∷ y ∷ bytes) fits = refl
end_behind_more (suc words) (x ∷ y ∷ bytes) fits =
    let at : 2 * suc words ≡ suc (suc (2 * words)) = omega arith in
    let past : 2 * suc words + 2 ≡ suc (suc (2 * words + 2)) = omega arith in
    let second : 2 * suc words + 1 ≡ suc (suc (2 * words + 1)) = omega arith in
    let low : slice_index (x ∷ y ∷ bytes) (2 * suc words + 1) ≡ slice_index bytes (2 * words + 1) = ap (slice_index (x ∷ y ∷ bytes)) second in
    let high : slice_index (x ∷ y ∷ bytes) (2 * suc words) ≡ slice_index bytes (2 * words) = ap (slice_index (x ∷ y ∷ bytes)) at in
    let behind : drop (2 * suc words + 2) (x ∷ y ∷ bytes) ≡ drop (2 * words + 2) bytes = ap (λ (n : ℕ). drop n (x ∷ y ∷ bytes)) past in
    end_behind_more words bytes (omega arith)
    ∙ ap₂ chain_end (ap₂ (λ (a b : ℕ). a * 256 + b) (sym high) (sym low)) (sym behind)

-- an optional header that the bytes do not hold
end_behind_cut : (words : ℕ) (bytes : List ℕ) → length bytes < 2 * words + 2 → end_behind words bytes ≡ cut
end_behind_cut words [] few = refl
end_behind_cut words (x ∷ []) few = refl
end_behind_cut zero (x ∷ y ∷ bytes) few = absurd (omega arith)
end_behind_cut (suc words) (x ∷ y ∷ bytes) few = end_behind_cut words bytes (omega arith)

-- H-LEN of an optional header is at least 1
least_of : (b c : Bool) → (b && c) ≡ true → b ≡ true
least_of true c h = refl
least_of false c h = h

pub least_words : (type_field : ℕ) → is_optional type_field ≡ true → 1 ≤ type_field / 256
least_words type_field optional =
    let least : 0x0100 ≤ type_field = leb-true 0x0100 type_field (least_of (nat_le 0x0100 type_field) (nat_lt type_field 0x0600) optional) in
    omega arith

-- the end of a chain that begins with an optional header
from_within : (type_field : ℕ) (bytes : List ℕ) → is_optional type_field ≡ true → chain_end type_field bytes ≡ end_behind (type_field / 256 - 1) bytes
from_within type_field bytes optional =
    ap (λ (b : Bool). if b then end_behind (type_field / 256 - 1) bytes else ended type_field bytes) optional

pub chain_end_more : (type_field size : ℕ) (bytes : List ℕ) → is_optional type_field ≡ true → header_size type_field ≡ size → size ≤ length bytes
    → chain_end type_field bytes ≡ chain_end (u16_at bytes (size - 2)) (drop size bytes)
chain_end_more type_field size bytes optional e fits =
    let words : ℕ = type_field / 256 - 1 in
    let some : 1 ≤ type_field / 256 = least_words type_field optional in
    let at : 2 * words ≡ size - 2 = omega arith in
    let past : 2 * words + 2 ≡ size = omega arith in
    from_within type_field bytes optional
    ∙ end_behind_more words bytes (omega arith)
    ∙ ap₂ (λ (i n : ℕ). chain_end (u16_at bytes i) (drop n bytes)) at past

pub chain_end_cut : (type_field : ℕ) (bytes : List ℕ) → is_optional type_field ≡ true → length bytes < header_size type_field
    → chain_end type_field bytes ≡ cut
chain_end_cut type_field bytes optional few =
    let some : 1 ≤ type_field / 256 = least_words type_field optional in
    from_within type_field bytes optional ∙ end_behind_cut (type_field / 256 - 1) bytes (omega arith)

pub chain_end_last : (type_field : ℕ) (bytes : List ℕ) → is_optional type_field ≡ false → chain_end type_field bytes ≡ ended type_field bytes
chain_end_last type_field bytes last =
    ap (λ (b : Bool). if b then end_behind (type_field / 256 - 1) bytes else ended type_field bytes) last

-- the same at a place of the bytes, which a reader has come to
pub skipped : (whole : ChainEnd) (type_field at size high low : ℕ) (bytes : List ℕ) → is_optional type_field ≡ true → header_size type_field ≡ size
    → at + size ≤ length bytes → chain_end type_field (drop at bytes) ≡ whole
    → high ≡ slice_index bytes (at + size - 2) → low ≡ slice_index bytes (at + size - 1)
    → chain_end (high * 256 + low) (drop (at + size) bytes) ≡ whole
skipped whole type_field at size high low bytes optional e fits same is_high is_low =
    let some : 1 ≤ type_field / 256 = least_words type_field optional in
    let rest : List ℕ = drop at bytes in
    let left : length rest ≡ length bytes - at = length-drop at bytes in
    let first : slice_index rest (size - 2) ≡ high = get_or-drop at bytes (size - 2) 0 ∙ ap (slice_index bytes) (omega arith) ∙ sym is_high in
    let second : slice_index rest (size - 2 + 1) ≡ low = get_or-drop at bytes (size - 2 + 1) 0 ∙ ap (slice_index bytes) (omega arith) ∙ sym is_low in
    ap₂ chain_end (ap₂ (λ (a b : ℕ). a * 256 + b) (sym first) (sym second)) (sym (drop-drop size at bytes))
    ∙ sym (chain_end_more type_field size rest optional e (omega arith))
    ∙ same

pub skipped_none : (whole : ChainEnd) (type_field at : ℕ) (bytes : List ℕ) → is_optional type_field ≡ true
    → length bytes - at < header_size type_field → chain_end type_field (drop at bytes) ≡ whole → whole ≡ cut
skipped_none whole type_field at bytes optional few same =
    sym same ∙ chain_end_cut type_field (drop at bytes) optional (omega (arith, length-drop at bytes))
