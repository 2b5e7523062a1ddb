-- What an object of the outside tells of itself: its content, where it tells that, and its counts. No count falls.
use Rattle.std.specs.Prelude.{ℕ, Bool, List, Option}
use Rattle.wire_spec.specs.Content.{File}

-- a source: the bytes that are left; how many were taken, a counter that stands still at 2^64 - 1; whether it has ended, which it has
-- where of the reads with room that did not fail the last gave nothing; and how often it has failed
pub record InputTold : Type 0 where
  pub left : Option (List ℕ)
  pub taken : ℕ
  pub ended : Bool
  pub faults : ℕ

-- a sink: the bytes that it holds; how many of them were flushed; and how often it has failed
pub record OutputTold : Type 0 where
  pub held : Option (List ℕ)
  pub flushed : Option ℕ
  pub faults : ℕ

-- a shelf: what the file of each name holds, of those that it knows, as of each that was loaded; and how often it has failed
pub record ShelfTold : Type 0 where
  pub file : List ℕ → Option (List ℕ)
  pub faults : List ℕ → ℕ

-- a rack: how many files were added; the files in order; and how often it has failed
pub record RackTold : Type 0 where
  pub count : ℕ
  pub files : Option (List File)
  pub faults : ℕ
