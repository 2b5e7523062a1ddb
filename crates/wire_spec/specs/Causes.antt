-- Counters that stand still at the last value of a u64, and what a counter says of an answer.
use Rattle.std.specs.Prelude.{◌≡◌, ℕ, ◌+◌, ◌-◌, ◌^◌, ◌≤◌, min, Result, OnOk, OnErr}

-- the counter raised by n, which stays at 2^64 - 1 once it is there
abbrev pub raised : ℕ → ℕ → ℕ
raised count n = min (count + n) (2 ^ 64 - 1)

-- the counter rose by n or more, or is at 2^64 - 1
abbrev pub RoseBy : ℕ → ℕ → ℕ → Type 0
RoseBy before now n = raised before n ≤ now

-- the counter rose by one, or is at 2^64 - 1
abbrev pub Rose : ℕ → ℕ → Type 0
Rose before now = now ≡ raised before 1

-- a call's error has its cause in a counter of faults: an error raises it by one, and an Ok leaves it
pub record HasCause {T E : Type 0} (before now : ℕ) (result : Result T E) : Type 0 where
  pub later : before ≤ now
  pub failed : OnErr result (Rose before now)
  pub kept : OnOk result (now ≡ before)
