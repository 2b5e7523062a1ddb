-- Optional headers lead to the end that is read, and to no other.
use Rattle.std.proofs.Common.{◌≡◌, ℕ, zero, suc, ◌+◌, ◌-◌, ◌*◌, ◌/◌, ◌%◌, ◌^◌, ◌<◌, ◌≤◌, Bool, true, false, List, [], ◌∷◌, ◌++◌, length, take, drop, refl, ap, ap₂, sym, subst, ◌∙◌, append_assoc, length-append, arith}
use Rattle.std.specs.Prelude.{slice_index, ◌&&◌, nat_le, nat_lt, All}
use Rattle.std.specs.Int.{w16, to_be_bytes}
use Rattle.std.proofs.lemmas.Bool.{ltb-true, ltb-false}
use Rattle.std.proofs.lemmas.List.{drop_at, get_or-append-add, length-take-le, length-drop}
use Rattle.std.proofs.lemmas.List.Elements.{All-cons, All-drop, All-nil}
use Rattle.wire_spec.specs.Bytes.{AreBytes, u16_at}
use Rattle.ts_spec.specs.Chain.{Header, IsOptional, is_optional, header_size, first_type_of, chain_bytes, Leads, IsEnd, ChainEnd, ended, cut, chain_end}
use Rattle.ule_extension.proofs.Steps.{least_words, chain_end_more, chain_end_cut, chain_end_last}

-- a Type of 16 bits
below_all : (b c : Bool) (type_field : ℕ) → nat_lt type_field 0x0600 ≡ c → (b && c) ≡ true → type_field < 2 ^ 16
below_all true true type_field e h = omega (arith, ltb-true type_field 0x0600 e)
below_all true false type_field e h = cc
below_all false c type_field e h = cc

sixteen_bits : (type_field : ℕ) → is_optional type_field ≡ true → type_field < 2 ^ 16
sixteen_bits type_field optional = below_all (nat_le 0x0100 type_field) (nat_lt type_field 0x0600) type_field refl optional

first_below : (headers : List Header) (last_type : ℕ) → All IsOptional headers → last_type < 2 ^ 16 → first_type_of headers last_type < 2 ^ 16
first_below [] last_type all below = below
first_below (header ∷ headers) last_type all below = sixteen_bits header.type_field (all zero header (omega arith)).optional

-- a Type between contents and what stands after
u16_between : (contents tail : List ℕ) (n : ℕ) → n < 2 ^ 16 → u16_at (contents ++ to_be_bytes w16 n ++ tail) (length contents) ≡ n
u16_between contents tail n below =
    let two : List ℕ = to_be_bytes w16 n in
    let all : List ℕ = contents ++ two ++ tail in
    let split : all ≡ contents ++ (two ++ tail) = append_assoc contents two tail in
    let first : slice_index all (length contents) ≡ n / 256 % 256 =
    ap₂ slice_index split (omega arith) ∙ get_or-append-add contents (two ++ tail) 0 0 in
    let second : slice_index all (length contents + 1) ≡ n % 256 =
    ap (λ (l : List ℕ). slice_index l (length contents + 1)) split ∙ get_or-append-add contents (two ++ tail) 1 0 in
    ap₂ (λ (a b : ℕ). a * 256 + b) first second ∙ (omega arith)

-- headers that are spelled are skipped
chain_end-chain_bytes : (headers : List Header) (last_type : ℕ) (behind : List ℕ) → All IsOptional headers → last_type < 2 ^ 16
    → chain_end (first_type_of headers last_type) (chain_bytes headers last_type behind) ≡ chain_end last_type behind
chain_end-chain_bytes [] last_type behind all below = refl
chain_end-chain_bytes (header ∷ headers) last_type behind all below =
    let rest : All IsOptional headers = λ k d lt. all (suc k) d (omega arith) in
    let it : IsOptional header = all zero header (omega arith) in
    let next : ℕ = first_type_of headers last_type in
    let tail : List ℕ = chain_bytes headers last_type behind in
    let front : List ℕ = header.contents ++ to_be_bytes w16 next in
    let size : ℕ = length header.contents + 2 in
    let front_size : length front ≡ size = length-append header.contents (to_be_bytes w16 next) in
    let at : size - 2 ≡ length header.contents = omega arith in
    let read : u16_at (front ++ tail) (size - 2) ≡ next =
    ap (u16_at (front ++ tail)) at ∙ u16_between header.contents tail next (first_below headers last_type rest below) in
    chain_end_more header.type_field size (front ++ tail) it.optional (sym it.size) (omega (arith, length-append front tail, front_size))
    ∙ ap₂ chain_end read (drop_at front tail size front_size)
    ∙ chain_end-chain_bytes headers last_type behind rest below

-- so an end that headers lead to is the one that is read
end_of_leads : (first_type : ℕ) (bytes : List ℕ) (last_type : ℕ) (behind : List ℕ) → Leads first_type bytes last_type behind
    → chain_end first_type bytes ≡ chain_end last_type behind
end_of_leads first_type bytes last_type behind leads =
    ap₂ chain_end leads.first leads.spelled ∙ chain_end-chain_bytes leads.headers last_type behind leads.optional leads.sixteen_bits

pub only_end : (first_type : ℕ) (bytes : List ℕ) (end : ChainEnd) → IsEnd first_type bytes end → chain_end first_type bytes ≡ end
only_end first_type bytes (ended last_type behind) is_end =
    end_of_leads first_type bytes last_type behind is_end.0 ∙ chain_end_last last_type behind is_end.1
only_end first_type bytes cut is_cut =
    end_of_leads first_type bytes is_cut.last_type is_cut.behind is_cut.leads ∙ chain_end_cut is_cut.last_type is_cut.behind is_cut.optional is_cut.few

-- bytes, where a word of 16 bits among them is spelled anew
spelled_at : (n : ℕ) (bytes : List ℕ) → n + 2 ≤ length bytes → AreBytes bytes
    → bytes ≡ take n bytes ++ to_be_bytes w16 (u16_at bytes n) ++ drop (n + 2) bytes
spelled_at n [] fits all = absurd (omega arith)
spelled_at zero (x ∷ []) fits all = absurd (omega arith)
spelled_at zero (x ∷ y ∷ bytes) fits all =
    let first : x < 256 = all 0 0 (omega arith) in
    let second : y < 256 = all 1 0 (omega arith) in
    let high : x ≡ (x * 256 + y) / 256 % 256 = omega arith in
    let low : y ≡ (x * 256 + y) % 256 = omega arith in
    ap₂ (λ (a b : ℕ). a ∷ b ∷ bytes) high low
spelled_at (suc n) (x ∷ bytes) fits all =
    let rest : AreBytes bytes = λ k d lt. all (suc k) d (omega arith) in
    let second : suc n + 1 ≡ suc (n + 1) = omega arith in
    let past : suc n + 2 ≡ suc (n + 2) = omega arith in
    let word : u16_at bytes n ≡ u16_at (x ∷ bytes) (suc n) =
    ap (λ (b : ℕ). slice_index bytes n * 256 + b) (ap (slice_index (x ∷ bytes)) (sym second)) in
    let behind : drop (n + 2) bytes ≡ drop (suc n + 2) (x ∷ bytes) = ap (λ (k : ℕ). drop k (x ∷ bytes)) (sym past) in
    ap (λ (l : List ℕ). x ∷ l) (spelled_at n bytes (omega arith) rest)
    ∙ ap₂ (λ (w : ℕ) (l : List ℕ). x ∷ (take n bytes ++ to_be_bytes w16 w ++ l)) word behind

-- one optional header more before those that lead to a Type
leads_more : (first_type size : ℕ) (bytes : List ℕ) (last_type : ℕ) (behind : List ℕ) → is_optional first_type ≡ true → header_size first_type ≡ size
    → 2 ≤ size → size ≤ length bytes → AreBytes bytes → Leads (u16_at bytes (size - 2)) (drop size bytes) last_type behind
    → Leads first_type bytes last_type behind
leads_more first_type size bytes last_type behind optional e least fits all leads =
    let n : ℕ = size - 2 in
    let past : n + 2 ≡ size = omega arith in
    let header : Header = record { type_field = first_type; contents = take n bytes } in
    let it : IsOptional header = record { optional = optional; size = omega (arith, length-take-le n bytes (omega arith)) } in
    record {
      headers = header ∷ leads.headers;
      optional = All-cons IsOptional header leads.headers it leads.optional;
      first = refl;
      spelled =
          spelled_at n bytes (omega arith) all
          ∙ ap₂ (λ (w : ℕ) (l : List ℕ). take n bytes ++ to_be_bytes w16 w ++ l) leads.first
          (ap (λ (k : ℕ). drop k bytes) past ∙ leads.spelled);
      sixteen_bits = leads.sixteen_bits;
    }

end_more : (first_type size : ℕ) (bytes : List ℕ) (end : ChainEnd) → is_optional first_type ≡ true → header_size first_type ≡ size
    → 2 ≤ size → size ≤ length bytes → AreBytes bytes → IsEnd (u16_at bytes (size - 2)) (drop size bytes) end → IsEnd first_type bytes end
end_more first_type size bytes (ended last_type behind) optional e least fits all is_end =
    (leads_more first_type size bytes last_type behind optional e least fits all is_end.0, is_end.1)
end_more first_type size bytes cut optional e least fits all is_cut = record {
  last_type = is_cut.last_type;
  behind = is_cut.behind;
  leads = leads_more first_type size bytes is_cut.last_type is_cut.behind optional e least fits all is_cut.leads;
  optional = is_cut.optional;
  few = is_cut.few;
}

-- no header leads to the first Type
leads_none : (first_type : ℕ) (bytes : List ℕ) → first_type < 2 ^ 16 → Leads first_type bytes first_type bytes
leads_none first_type bytes below = record {
  headers = [];
  optional = All-nil IsOptional;
  first = refl;
  spelled = refl;
  sixteen_bits = below;
}

-- by the number of bytes, which each optional header makes less
some_within : (fuel first_type : ℕ) (bytes : List ℕ) (b c : Bool) → is_optional first_type ≡ b → nat_lt (length bytes) (header_size first_type) ≡ c
    → length bytes < fuel → first_type < 2 ^ 16 → AreBytes bytes → IsEnd first_type bytes (chain_end first_type bytes)
some_within zero first_type bytes b c optional cut_short few below all = absurd (omega arith)
some_within (suc fuel) first_type bytes false c optional cut_short few below all =
    subst (IsEnd first_type bytes) (sym (chain_end_last first_type bytes optional)) (leads_none first_type bytes below, optional)
some_within (suc fuel) first_type bytes true true optional cut_short few below all =
    let short : length bytes < header_size first_type = ltb-true (length bytes) (header_size first_type) cut_short in
    subst (IsEnd first_type bytes) (sym (chain_end_cut first_type bytes optional short)) (record {
      last_type = first_type;
      behind = bytes;
      leads = leads_none first_type bytes below;
      optional = optional;
      few = short;
    })
some_within (suc fuel) first_type bytes true false optional cut_short few below all =
    let size : ℕ = header_size first_type in
    let some : 1 ≤ first_type / 256 = least_words first_type optional in
    let least : 2 ≤ size = omega arith in
    let fits : size ≤ length bytes = ltb-false (length bytes) size cut_short in
    let next : ℕ = u16_at bytes (size - 2) in
    let rest : List ℕ = drop size bytes in
    let high : slice_index bytes (size - 2) < 256 = all (size - 2) 0 (omega arith) in
    let low : slice_index bytes (size - 2 + 1) < 256 = all (size - 2 + 1) 0 (omega arith) in
    let left : AreBytes rest = All-drop (λ byte. byte < 256) size bytes all in
    let is_end : IsEnd next rest (chain_end next rest) =
    some_within fuel next rest (is_optional next) (nat_lt (length rest) (header_size next)) refl refl (omega (arith, length-drop size bytes)) (omega arith) left in
    subst (IsEnd first_type bytes) (sym (chain_end_more first_type size bytes optional refl fits))
    (end_more first_type size bytes (chain_end next rest) optional refl least fits all is_end)

pub some_end : (first_type : ℕ) (bytes : List ℕ) → first_type < 2 ^ 16 → AreBytes bytes → IsEnd first_type bytes (chain_end first_type bytes)
some_end first_type bytes below all =
    some_within (suc (length bytes)) first_type bytes (is_optional first_type) (nat_lt (length bytes) (header_size first_type)) refl refl (omega arith) below all
