-- What is held in memory.
use Rattle.std.specs.Prelude.{ℕ, List}

-- the bytes that were written, and how often there was no memory for more
pub record HeldState : Type 0 where
  pub bytes : List ℕ
  pub faults : ℕ
