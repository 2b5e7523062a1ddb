-- The arrivals of a recording: their order, and the records that they are.
use Rattle.std.proofs.Common.{◌≡◌, ◌⊎◌, inl, inr, ℕ, zero, suc, ◌+◌, ◌<◌, ◌≤◌, Bool, true, false, cond, Option, None, Some, List, [], ◌∷◌, ◌++◌, length, refl, ap, sym, ◌∙◌, subst, arith}
use Rattle.std.proofs.lemmas.Bool.{cases_order}
use Rattle.ts_spec.specs.Recording.{Record}
use Rattle.ts_spec.specs.Received.{record_at, Arrival, arrival_at, no_arrival, is_of, arrival_of, arrivals_from, arrivals}
use Rattle.channel_law.proofs.Member.{Member, member_parted, member_front, member_behind, member_at}

-- Their order.

-- the places rise, from j on
abbrev pub Above : ℕ → List Arrival → Type 0
Above j [] = Unit {0}
Above j (a ∷ behind) = (j ≤ a.place) × Above (a.place + 1) behind

-- places above one are above a lower one
pub above_less : (j k : ℕ) (xs : List Arrival) → j ≤ k → Above k xs → Above j xs
above_less j k [] order above = tt
above_less j k (a ∷ xs) order above = (omega (arith, above.0), above.1)

-- no arrival stands before the first place
pub above_member : (j : ℕ) (xs : List Arrival) (a : Arrival) → Above j xs → Member xs a → j ≤ a.place
above_member j [] a above there = absurd there
above_member j (x ∷ xs) a above (inl same) = omega (arith, above.0, ap (λ (t : Arrival). t.place) same)
above_member j (x ∷ xs) a above (inr there) = omega (arith, above.0, above_member (x.place + 1) xs a above.1 there)

-- what one record gives stands at its place
arrival_above : (pid j : ℕ) (moment : Option ℕ) (bytes : List ℕ) (xs : List Arrival) → Above (j + 1) xs → Above j (arrival_of pid j moment bytes ++ xs)
arrival_above pid j None bytes xs above = above_less j (j + 1) xs (omega arith) above
arrival_above pid j (Some moment) bytes xs above = by_test (is_of pid bytes)
  where
    by_test : (b : Bool) → Above j (cond {A = List Arrival} b (record { place = j; moment = moment; bytes = bytes } ∷ []) [] ++ xs)
    by_test true = (omega arith, above)
    by_test false = above_less j (j + 1) xs (omega arith) above

-- arrivals are in the order of their places
pub arrivals_above : (pid j : ℕ) (records : List Record) → Above j (arrivals_from pid j records)
arrivals_above pid j [] = tt
arrivals_above pid j (r ∷ records) = arrival_above pid j r.moment r.bytes (arrivals_from pid (j + 1) records) (arrivals_above pid (j + 1) records)

-- a later arrival has a later place
places_rise : (j : ℕ) (xs : List Arrival) (i k : ℕ) → Above j xs → i < k → k < length xs → (arrival_at xs i).place < (arrival_at xs k).place
places_rise j [] i k above less within = absurd (omega arith)
places_rise j (x ∷ xs) zero zero above less within = absurd (omega arith)
places_rise j (x ∷ xs) zero (suc k) above less within =
    omega (arith, above_member (x.place + 1) xs (arrival_at xs k) above.1 (member_at xs k no_arrival (omega arith)))
places_rise j (x ∷ xs) (suc i) zero above less within = absurd (omega arith)
places_rise j (x ∷ xs) (suc i) (suc k) above less within = places_rise (x.place + 1) xs i k above.1 (omega arith) (omega arith)

-- a later arrival of a recording has a later place
pub later_place : (pid : ℕ) (records : List Record) (i k : ℕ) → i < k → k < length (arrivals pid records)
    → (arrival_at (arrivals pid records) i).place < (arrival_at (arrivals pid records) k).place
later_place pid records i k less within = places_rise 0 (arrivals pid records) i k (arrivals_above pid 0 records) less within

-- an arrival of a later place is a later one
pub later_arrival : (pid : ℕ) (records : List Record) (i k : ℕ) → i < length (arrivals pid records) → k < length (arrivals pid records)
    → (arrival_at (arrivals pid records) i).place < (arrival_at (arrivals pid records) k).place → i < k
later_arrival pid records i k within_i within_k less = by_order (cases_order i k)
  where
    by_order : (i ≡ k) ⊎ ((i < k) ⊎ (k < i)) → i < k
    by_order (inl same) = absurd (omega (arith, less, ap (λ (t : ℕ). (arrival_at (arrivals pid records) t).place) same))
    by_order (inr (inl before)) = before
    by_order (inr (inr behind)) = absurd (omega (arith, less, later_place pid records k i behind within_i))

-- The records that they are.

-- an arrival is a record of the PID that can be read
pub record IsRecord (pid j : ℕ) (records : List Record) (a : Arrival) : Type 0 where
  pub number : ℕ
  pub place : j + number ≡ a.place
  pub within : number < length records
  pub moment : (record_at records number).moment ≡ Some a.moment
  pub bytes : (record_at records number).bytes ≡ a.bytes
  pub of_pid : is_of pid a.bytes ≡ true

-- with one record more in front
later_record : (pid j : ℕ) (r : Record) (records : List Record) (a : Arrival) → IsRecord pid (j + 1) records a → IsRecord pid j (r ∷ records) a
later_record pid j r records a is = record {
  number = suc is.number;
  place = omega (arith, is.place);
  within = omega (arith, is.within);
  moment = is.moment;
  bytes = is.bytes;
  of_pid = is.of_pid;
}

-- what the first record gives
first_record : (pid j : ℕ) (r : Record) (records : List Record) (a : Arrival) (moment : Option ℕ) → r.moment ≡ moment → Member (arrival_of pid j moment r.bytes) a
    → IsRecord pid j (r ∷ records) a
first_record pid j r records a None is there = absurd there
first_record pid j r records a (Some time) is there = by_test (is_of pid r.bytes) refl there
  where
    by_test : (b : Bool) → is_of pid r.bytes ≡ b → Member (cond {A = List Arrival} b (record { place = j; moment = time; bytes = r.bytes } ∷ []) []) a
        → IsRecord pid j (r ∷ records) a
    by_test false test given = absurd given
    by_test true test (inl same) = record {
      number = 0;
      place = omega (arith, ap (λ (x : Arrival). x.place) same);
      within = omega arith;
      moment = is ∙ ap (λ (x : Arrival). Some x.moment) same;
      bytes = ap (λ (x : Arrival). x.bytes) same;
      of_pid = ap (is_of pid) (sym (ap (λ (x : Arrival). x.bytes) same)) ∙ test;
    }
    by_test true test (inr never) = absurd never

-- what stands among the arrivals is a record
arrival_from : (pid j : ℕ) (records : List Record) (a : Arrival) → Member (arrivals_from pid j records) a → IsRecord pid j records a
arrival_from pid j [] a there = absurd there
arrival_from pid j (r ∷ records) a there =
    by_part (arrival_from pid (j + 1) records a) (member_parted (arrival_of pid j r.moment r.bytes) (arrivals_from pid (j + 1) records) a there)
  where
    by_part : (Member (arrivals_from pid (j + 1) records) a → IsRecord pid (j + 1) records a)
        → Member (arrival_of pid j r.moment r.bytes) a ⊎ Member (arrivals_from pid (j + 1) records) a → IsRecord pid j (r ∷ records) a
    by_part later (inl first) = first_record pid j r records a r.moment refl first
    by_part later (inr behind) = later_record pid j r records a (later behind)

-- an arrival is the record of its place
pub record ArrivesFrom (pid : ℕ) (records : List Record) (a : Arrival) : Type 0 where
  pub within : a.place < length records
  pub moment : (record_at records a.place).moment ≡ Some a.moment
  pub bytes : (record_at records a.place).bytes ≡ a.bytes
  pub of_pid : is_of pid a.bytes ≡ true

pub arrival_record : (pid : ℕ) (records : List Record) (a : Arrival) → Member (arrivals pid records) a → ArrivesFrom pid records a
arrival_record pid records a there = by_number (arrival_from pid 0 records a there)
  where
    by_number : IsRecord pid 0 records a → ArrivesFrom pid records a
    by_number is =
        let number : is.number ≡ a.place = omega (arith, is.place) in record {
          within = omega (arith, is.within, number);
          moment = ap (λ (t : ℕ). (record_at records t).moment) (sym number) ∙ is.moment;
          bytes = ap (λ (t : ℕ). (record_at records t).bytes) (sym number) ∙ is.bytes;
          of_pid = is.of_pid;
        }

-- what a record of the PID gives that can be read
arrives_one : (pid j : ℕ) (bytes : List ℕ) (time : ℕ) (moment : Option ℕ) → moment ≡ Some time → is_of pid bytes ≡ true
    → Member (arrival_of pid j moment bytes) (record { place = j; moment = time; bytes = bytes })
arrives_one pid j bytes time None is read = absurd (cc)
arrives_one pid j bytes time (Some moment) is read =
    let same : moment ≡ time = cc in
    subst (λ (b : Bool). Member (cond {A = List Arrival} b (record { place = j; moment = moment; bytes = bytes } ∷ []) []) (record { place = j; moment = time; bytes = bytes })) (sym read)
    (inl (ap (λ (t : ℕ). record { place = j; moment = t; bytes = bytes }) same))

-- so it is with the records after others
record_from : (pid j i : ℕ) (records : List Record) (time : ℕ) → i < length records → (record_at records i).moment ≡ Some time → is_of pid (record_at records i).bytes ≡ true
    → Member (arrivals_from pid j records) (record { place = j + i; moment = time; bytes = (record_at records i).bytes })
record_from pid j i [] time within is read = absurd (omega arith)
record_from pid j zero (r ∷ records) time within is read =
    let place : j ≡ j + 0 = omega arith in
    member_front (arrival_of pid j r.moment r.bytes) (arrivals_from pid (j + 1) records) (record { place = j + 0; moment = time; bytes = r.bytes })
    (subst (λ (k : ℕ). Member (arrival_of pid j r.moment r.bytes) (record { place = k; moment = time; bytes = r.bytes })) place (arrives_one pid j r.bytes time r.moment is read))
record_from pid j (suc i) (r ∷ records) time within is read =
    let place : j + 1 + i ≡ j + suc i = omega arith in
    member_behind (arrival_of pid j r.moment r.bytes) (arrivals_from pid (j + 1) records) (record { place = j + suc i; moment = time; bytes = (record_at records i).bytes })
    (subst (λ (k : ℕ). Member (arrivals_from pid (j + 1) records) (record { place = k; moment = time; bytes = (record_at records i).bytes })) place
    (record_from pid (j + 1) i records time (omega arith) is read))

-- a record of the PID that can be read and has a moment arrives
pub record_arrives : (pid i : ℕ) (records : List Record) (time : ℕ) (bytes : List ℕ) → i < length records → (record_at records i).moment ≡ Some time
    → (record_at records i).bytes ≡ bytes → is_of pid bytes ≡ true → Member (arrivals pid records) (record { place = i; moment = time; bytes = bytes })
record_arrives pid i records time bytes within is same read =
    subst (λ (t : List ℕ). Member (arrivals pid records) (record { place = i; moment = time; bytes = t })) same
    (subst (λ (k : ℕ). Member (arrivals pid records) (record { place = k; moment = time; bytes = (record_at records i).bytes })) (omega arith)
    (record_from pid 0 i records time within is (ap (is_of pid) same ∙ read)))
