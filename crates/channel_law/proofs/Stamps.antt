-- Moments of m2ts recordings: they are counted on from the stamp of the first record.
use Rattle.std.proofs.Common.{◌≡◌, ℕ, zero, suc, ◌+◌, ◌-◌, ◌%◌, ◌^◌, ◌<◌, ◌≤◌, Option, None, Some, List, [], ◌∷◌, length, get_or, refl, ap, sym, ◌∙◌, subst, arith}
use Rattle.std.specs.Prelude.{option_map}
use Rattle.ts_spec.specs.Recording.{Record, m2ts_stamp, moment_behind, m2ts_records}
use Rattle.ts_spec.specs.Received.{record_at}
use Rattle.channel_spec.specs.Channel.{Channel}
use Rattle.channel_spec.specs.Stamps.{stamp_of, KeepsTimes}

-- the piece of a record
abbrev pub piece_at : List (List ℕ) → ℕ → List ℕ
piece_at pieces j = get_or pieces j []

-- the moment of record j after one of this moment
abbrev pub moment_at : Option ℕ → List (List ℕ) → ℕ → ℕ
moment_at before [] j = 0
moment_at before (piece ∷ pieces) zero = moment_behind before (m2ts_stamp piece)
moment_at before (piece ∷ pieces) (suc j) = moment_at (Some (moment_behind before (m2ts_stamp piece))) pieces j

-- One record.

-- a moment has its stamp as remainder
remainder-moment : (before : Option ℕ) (stamp : ℕ) → stamp < 2 ^ 30 → moment_behind before stamp % 2 ^ 30 ≡ stamp
remainder-moment None stamp small = omega arith
remainder-moment (Some before) stamp small = omega arith

-- stamps have 30 bits
stamp_small : (piece : List ℕ) → m2ts_stamp piece < 2 ^ 30
stamp_small piece = omega arith

-- a moment is not below the one before, and less than 2^30 above it
moment_near : (before stamp : ℕ) → (before ≤ moment_behind (Some before) stamp) × (moment_behind (Some before) stamp < before + 2 ^ 30)
moment_near before stamp = (omega arith, omega arith)

-- All records.

-- each piece gives a record
pub length-m2ts : (before : Option ℕ) (pieces : List (List ℕ)) → length (m2ts_records before pieces) ≡ length pieces
length-m2ts before [] = refl
length-m2ts before (piece ∷ pieces) = ap suc (length-m2ts (Some (moment_behind before (m2ts_stamp piece))) pieces)

-- with its moment
pub moment-m2ts : (before : Option ℕ) (pieces : List (List ℕ)) (j : ℕ) → j < length pieces → (record_at (m2ts_records before pieces) j).moment ≡ Some (moment_at before pieces j)
moment-m2ts before [] j within = absurd (omega arith)
moment-m2ts before (piece ∷ pieces) zero within = refl
moment-m2ts before (piece ∷ pieces) (suc j) within = moment-m2ts (Some (moment_behind before (m2ts_stamp piece))) pieces j (omega arith)

-- each moment has its piece's stamp as remainder
pub stamp-moment : (before : Option ℕ) (pieces : List (List ℕ)) (j : ℕ) → j < length pieces → moment_at before pieces j % 2 ^ 30 ≡ m2ts_stamp (piece_at pieces j)
stamp-moment before [] j within = absurd (omega arith)
stamp-moment before (piece ∷ pieces) zero within = remainder-moment before (m2ts_stamp piece) (stamp_small piece)
stamp-moment before (piece ∷ pieces) (suc j) within = stamp-moment (Some (moment_behind before (m2ts_stamp piece))) pieces j (omega arith)

-- so a record has the stamp of its piece
pub stamp_of-m2ts : (pieces : List (List ℕ)) (j : ℕ) → j < length pieces → stamp_of (record_at (m2ts_records None pieces) j) ≡ Some (m2ts_stamp (piece_at pieces j))
stamp_of-m2ts pieces j within =
    ap (option_map (λ (moment : ℕ). moment % 2 ^ 30)) (moment-m2ts None pieces j within) ∙ ap (λ (t : ℕ). Some t) (stamp-moment None pieces j within)

-- moments of neighbours
pub moments_near : (before : Option ℕ) (pieces : List (List ℕ)) (j : ℕ) → suc j < length pieces
    → (moment_at before pieces j ≤ moment_at before pieces (suc j)) × (moment_at before pieces (suc j) < moment_at before pieces j + 2 ^ 30)
moments_near before [] j within = absurd (omega arith)
moments_near before (piece ∷ []) j within = absurd (omega arith)
moments_near before (piece ∷ next ∷ pieces) zero within = moment_near (moment_behind before (m2ts_stamp piece)) (m2ts_stamp next)
moments_near before (piece ∷ next ∷ pieces) (suc j) within = moments_near (Some (moment_behind before (m2ts_stamp piece))) (next ∷ pieces) j (omega arith)

-- Times of records that came through a channel.

-- a moment and a time that stand apart by a whole number of rounds stay so, where both go on by less than a round to the same remainder
shift_next : (before time stamp next shift : ℕ) → shift % 2 ^ 30 ≡ 0 → before + shift ≡ time → time ≤ next → next < time + 2 ^ 30
    → moment_behind (Some before) stamp % 2 ^ 30 ≡ next % 2 ^ 30 → moment_behind (Some before) stamp + shift ≡ next
shift_next before time stamp next shift whole same order near remainder = omega arith

-- the time before one of some times
abbrev time_before : ℕ → (ℕ → ℕ) → ℕ → ℕ
time_before first time zero = first
time_before first time (suc j) = time j

-- times go on by less than a round
abbrev AreNear : ℕ → (ℕ → ℕ) → ℕ → Type 0
AreNear first time count = (j : ℕ) → j < count → (time_before first time j ≤ time j) × (time j < time_before first time j + 2 ^ 30)

-- also without the first of them
near_later : (first : ℕ) (time : ℕ → ℕ) (count : ℕ) → AreNear first time (suc count) → AreNear (time 0) (λ j. time (suc j)) count
near_later first time count near zero within = near 1 (omega arith)
near_later first time count near (suc j) within = near (suc (suc j)) (omega arith)

-- the records after one whose moment stands apart by a whole number of rounds
shift_behind : (before first shift : ℕ) (pieces : List (List ℕ)) (time : ℕ → ℕ) → shift % 2 ^ 30 ≡ 0 → before + shift ≡ first → AreNear first time (length pieces)
    → ((j : ℕ) → j < length pieces → moment_at (Some before) pieces j % 2 ^ 30 ≡ time j % 2 ^ 30)
    → (j : ℕ) → j < length pieces → moment_at (Some before) pieces j + shift ≡ time j
shift_behind before first shift [] time whole same near remainder j within = absurd (omega arith)
shift_behind before first shift (piece ∷ pieces) time whole same near remainder j within =
    by_place j within (shift_behind (moment_behind (Some before) (m2ts_stamp piece)) (time 0) shift pieces (λ i. time (suc i)) whole here
    (near_later first time (length pieces) near) (λ i less. remainder (suc i) (omega arith)))
  where
    here : moment_behind (Some before) (m2ts_stamp piece) + shift ≡ time 0
    here =
        shift_next before first (m2ts_stamp piece) (time 0) shift whole same (near 0 (omega arith)).0 (near 0 (omega arith)).1 (remainder 0 (omega arith))

    by_place : (i : ℕ) → i < suc (length pieces)
        → ((k : ℕ) → k < length pieces → moment_at (Some (moment_behind (Some before) (m2ts_stamp piece))) pieces k + shift ≡ time (suc k))
        → moment_at (Some before) (piece ∷ pieces) i + shift ≡ time i
    by_place zero less later = here
    by_place (suc i) less later = later i (omega arith)

-- the records from the first on: its moment is its stamp
shift_all : (pieces : List (List ℕ)) (time : ℕ → ℕ) → ((j : ℕ) → suc j < length pieces → (time j ≤ time (suc j)) × (time (suc j) < time j + 2 ^ 30))
    → ((j : ℕ) → j < length pieces → moment_at None pieces j % 2 ^ 30 ≡ time j % 2 ^ 30)
    → (shift : ℕ) × (shift % 2 ^ 30 ≡ 0) × ((j : ℕ) → j < length pieces → moment_at None pieces j + shift ≡ time j)
shift_all [] time near remainder = (0, omega arith, λ j within. absurd (omega arith))
shift_all (piece ∷ pieces) time near remainder = (
  time 0 - time 0 % 2 ^ 30,
  omega arith,
  λ j within. by_place j within
      (shift_behind (m2ts_stamp piece) (time 0) (time 0 - time 0 % 2 ^ 30) pieces (λ i. time (suc i)) (omega arith) here near_behind (λ i less. remainder (suc i) (omega arith))),
)
  where
    here : m2ts_stamp piece + (time 0 - time 0 % 2 ^ 30) ≡ time 0
    here = omega (arith, remainder 0 (omega arith), stamp_small piece)

    near_behind : AreNear (time 0) (λ i. time (suc i)) (length pieces)
    near_behind zero within = near 0 (omega arith)
    near_behind (suc j) within = near (suc j) (omega arith)

    by_place : (i : ℕ) → i < suc (length pieces)
        → ((k : ℕ) → k < length pieces → moment_at (Some (m2ts_stamp piece)) pieces k + (time 0 - time 0 % 2 ^ 30) ≡ time (suc k))
        → moment_at None (piece ∷ pieces) i + (time 0 - time 0 % 2 ^ 30) ≡ time i
    by_place zero less later = here
    by_place (suc i) less later = later i (omega arith)

module _ (pids : List ℕ) (pieces : List (List ℕ)) (sent : List Record) (channel : Channel pids sent (m2ts_records None pieces)) (stamps : KeepsTimes channel) where
  -- the recorded moments differ from the times by one constant
  pub times_shifted : (shift : ℕ) × (shift % 2 ^ 30 ≡ 0) × ((j : ℕ) → j < length pieces → moment_at None pieces j + shift ≡ stamps.time j)
  times_shifted = shift_all pieces stamps.time near remainder
    where
      count : length (m2ts_records None pieces) ≡ length pieces
      count = length-m2ts None pieces

      near : (j : ℕ) → suc j < length pieces → (stamps.time j ≤ stamps.time (suc j)) × (stamps.time (suc j) < stamps.time j + 2 ^ 30)
      near j within =
          let next : j + 1 ≡ suc j = omega arith in
          subst (λ (t : ℕ). (stamps.time j ≤ stamps.time t) × (stamps.time t < stamps.time j + 2 ^ 30)) next
          (stamps.rises j (omega (arith, count)), stamps.near j (omega (arith, count)))

      remainder : (j : ℕ) → j < length pieces → moment_at None pieces j % 2 ^ 30 ≡ stamps.time j % 2 ^ 30
      remainder j within =
          let told : Some (moment_at None pieces j % 2 ^ 30) ≡ Some (stamps.time j % 2 ^ 30) =
          sym (ap (option_map (λ (moment : ℕ). moment % 2 ^ 30)) (moment-m2ts None pieces j within)) ∙ stamps.stamp j (omega (arith, count)) in
          cc
