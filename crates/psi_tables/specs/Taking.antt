-- A finder as a taker of records. Where nothing was seen at the start, `HasSeen` says what was taken.
use Rattle.std.specs.Prelude.{◌≡◌, List, [], ◌∷◌, ◌++◌, true, None, is_some}
use Rattle.ts_spec.specs.Recording.{Record}
use Rattle.psi_spec.specs.Named.{pat_of}
use Rattle.psi_tables.specs.Watching.{FinderState, HasSeen}

-- from one state to another a finder took these records
pub record TookRecords (start now : FinderState) (records : List Record) : Type 0 where
  pub pid_is : now.pid ≡ start.pid
  pub seen : HasSeen start [] → HasSeen now records

-- it ran out of memory within the last of them, which completes the first PAT
pub record StoppedAtPat (start now : FinderState) (records : List Record) : Type 0 where
  pub pid_is : now.pid ≡ start.pid
  pub before : List Record
  pub last : Record
  pub records_are : records ≡ before ++ last ∷ []
  pub first : HasSeen start [] → (pat_of before ≡ None) × (is_some (pat_of records) ≡ true)
