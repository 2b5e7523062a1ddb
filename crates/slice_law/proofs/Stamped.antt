-- The moments of records whose stamps are the moments of their slots.
use Rattle.std.proofs.Common.{◌≡◌, ℕ, zero, suc, ◌+◌, ◌-◌, ◌*◌, ◌/◌, ◌%◌, ◌^◌, ◌<◌, ◌≤◌, Bool, true, cond, ltb, List, ◌∷◌, ◌++◌, map, refl, ap, ap₂, ◌∙◌, arith, Option, Some, None}
use Rattle.std.specs.List.{range_with_len}
use Rattle.std.specs.Int.{w32, w64, to_be_bytes}
use Rattle.std.proofs.lemmas.Nat.{div-mul-add}
use Rattle.ts_spec.specs.Recording.{Record, stamped, m2ts, m2ts_stamp, microseconds, moment_behind, m2ts_records, stamped_record, records_of}
use Rattle.slice_spec.specs.Moments.{moment_of}
use Rattle.slice_law.proofs.Floors.{later_by, within_time}

four_bytes : (n : ℕ) → n < 2 ^ 32 → (n / 16777216 % 256 * 256 + n / 65536 % 256) * 65536 + (n / 256 % 256 * 256 + n % 256) ≡ n
four_bytes n below = omega arith

upper_bytes : (n : ℕ) → n < 2 ^ 64 → (n / 72057594037927936 % 256 * 256 + n / 281474976710656 % 256) * 65536 + (n / 1099511627776 % 256 * 256 + n / 4294967296 % 256) ≡ n / 4294967296
upper_bytes n below = omega arith

lower_bytes : (n : ℕ) → (n / 16777216 % 256 * 256 + n / 65536 % 256) * 65536 + (n / 256 % 256 * 256 + n % 256) ≡ n % 4294967296
lower_bytes n = omega arith

pub microseconds-written : (n : ℕ) (packet : List ℕ) → n < 2 ^ 64 → microseconds (to_be_bytes w64 n ++ packet) ≡ n
microseconds-written n packet below = whole (upper_bytes n below) (lower_bytes n)
  where
    whole : (n / 72057594037927936 % 256 * 256 + n / 281474976710656 % 256) * 65536 + (n / 1099511627776 % 256 * 256 + n / 4294967296 % 256) ≡ n / 4294967296
        → (n / 16777216 % 256 * 256 + n / 65536 % 256) * 65536 + (n / 256 % 256 * 256 + n % 256) ≡ n % 4294967296
        → microseconds (to_be_bytes w64 n ++ packet) ≡ n
    whole a b = ap₂ (λ (x y : ℕ). x * 2 ^ 32 + y) a b ∙ omega arith

pub m2ts_stamp-written : (n : ℕ) (packet : List ℕ) → m2ts_stamp (to_be_bytes w32 (n % 2 ^ 30) ++ packet) ≡ n % 2 ^ 30
m2ts_stamp-written n packet = ap (λ (m : ℕ). m % 2 ^ 30) (four_bytes (n % 1073741824) (omega arith)) ∙ omega arith

-- moments are counted on from a record to the next
one_more : (before n stamp : ℕ) → stamp ≡ n % 1073741824 → before ≤ n → n < before + 1073741824 → before + (stamp + 1073741824 - before % 1073741824) % 1073741824 ≡ n
one_more before n stamp is le less = omega (arith, is, le, less)

module _ (rate : ℕ) (above : 0 < rate) (piece : ℕ → List ℕ) (slots : ℕ)
    (stamps : (s : ℕ) → s < slots → m2ts_stamp (piece s) ≡ moment_of m2ts rate s % 2 ^ 30) where
  -- from slot to slot the moments of an m2ts recording do not fall, and rise by a second at most
  near : (s : ℕ) → (moment_of m2ts rate s ≤ moment_of m2ts rate (s + 1)) × (moment_of m2ts rate (s + 1) < moment_of m2ts rate s + 2 ^ 30)
  near s =
      let none : 0 * rate ≡ 0 = omega arith in
      let up : s * 27000000 / rate + 0 ≤ (s + 1) * 27000000 / rate = later_by 27000000 rate 0 s 0 (s + 1) above (omega (arith, none)) (omega arith) in
      let most : (s + 1) * 27000000 / rate ≤ s * 27000000 / rate + 27000000 = within_time 27000000 rate 27000000 s 1 (s + 1) above (omega (arith, above)) (omega arith) in
      (omega (arith, up), omega (arith, most))

  next_is : (s : ℕ) → s + 1 < slots → moment_behind (Some (moment_of m2ts rate s)) (m2ts_stamp (piece (s + 1))) ≡ moment_of m2ts rate (s + 1)
  next_is s within = one_more (moment_of m2ts rate s) (moment_of m2ts rate (s + 1)) (m2ts_stamp (piece (s + 1))) (stamps (s + 1) within) (near s).0 (near s).1

  later : (n s : ℕ) → s + 1 + n ≤ slots → map (λ (r : Record). r.moment) (m2ts_records (Some (moment_of m2ts rate s)) (map piece (range_with_len (s + 1) n)))
      ≡ map (λ (t : ℕ). Some (moment_of m2ts rate t)) (range_with_len (s + 1) n)
  later zero s within = refl
  later (suc n) s within =
      ap (λ (m : ℕ). Some m ∷ map (λ (r : Record). r.moment) (m2ts_records (Some m) (map piece (range_with_len (s + 1 + 1) n)))) (next_is s (omega (arith, within)))
      ∙ ap (λ (moments : List (Option ℕ)). Some (moment_of m2ts rate (s + 1)) ∷ moments) (later n (s + 1) (omega (arith, within)))

  none_first : moment_of m2ts rate 0 ≡ 0
  none_first =
      let none : 0 * rate ≡ 0 = omega arith in
      let same : 0 * 27000000 ≡ 0 * rate + 0 = omega (arith, none) in
      ap (λ (m : ℕ). m / rate) same ∙ div-mul-add 0 rate 0 above

  first_is : 0 < slots → m2ts_stamp (piece 0) ≡ moment_of m2ts rate 0
  first_is some = let none : moment_of m2ts rate 0 ≡ 0 = none_first in omega (arith, stamps 0 some, none)

  moments_within : (n : ℕ) → n ≤ slots → map (λ (r : Record). r.moment) (records_of m2ts (map piece (range_with_len 0 n)))
      ≡ map (λ (s : ℕ). Some (moment_of m2ts rate s)) (range_with_len 0 n)
  moments_within zero within = refl
  moments_within (suc n) within =
      ap (λ (m : ℕ). Some m ∷ map (λ (r : Record). r.moment) (m2ts_records (Some m) (map piece (range_with_len 1 n)))) (first_is (omega (arith, within)))
      ∙ ap (λ (moments : List (Option ℕ)). Some (moment_of m2ts rate 0) ∷ moments) (later n 0 (omega (arith, within)))

  pub m2ts_moments : map (λ (r : Record). r.moment) (records_of m2ts (map piece (range_with_len 0 slots))) ≡ map (λ (s : ℕ). Some (moment_of m2ts rate s)) (range_with_len 0 slots)
  m2ts_moments = moments_within slots (omega arith)

pub stamped_moments : (rate : ℕ) (piece : ℕ → List ℕ) (n from : ℕ)
    → ((s : ℕ) → from ≤ s → s < from + n → (microseconds (piece s) ≡ moment_of stamped rate s) × (moment_of stamped rate s < 2 ^ 62))
    → map (λ (r : Record). r.moment) (records_of stamped (map piece (range_with_len from n))) ≡ map (λ (s : ℕ). Some (moment_of stamped rate s)) (range_with_len from n)
stamped_moments rate piece zero from each = refl
stamped_moments rate piece (suc n) from each =
    ap₂ (λ (m : Option ℕ) (others : List (Option ℕ)). m ∷ others) moment_is (stamped_moments rate piece n (from + 1) (λ s low less. each s (omega (arith, low)) (omega (arith, less))))
  where
    early : (microseconds (piece from) ≡ moment_of stamped rate from) × (moment_of stamped rate from < 2 ^ 62)
    early = each from (omega arith) (omega arith)

    moment_is : (stamped_record (piece from)).moment ≡ Some (moment_of stamped rate from)
    moment_is =
        let is_early : ltb (moment_of stamped rate from) (2 ^ 62) ≡ true = grind (arith, early.1) in
        ap (λ (m : ℕ). cond (ltb m (2 ^ 62)) (Some m) None) early.0 ∙ ap (λ (b : Bool). cond b (Some (moment_of stamped rate from)) None) is_early
