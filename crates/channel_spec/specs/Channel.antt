-- The channel between what was sent and what was recorded: it drops, repeats and damages records, and inserts those of others.
-- A fact about two recordings, as lists of records, for a receiver of some PIDs. Of time stamps it says nothing: see Stamps.
use Rattle.std.specs.Prelude.{◌≡◌, ℕ, ◌<◌, ◌≤◌, List, [], ◌∷◌, length, Contains, Option, Some, None}
use Rattle.ts_spec.specs.Recording.{Record}
use Rattle.ts_spec.specs.Received.{record_at, Arrival, arrivals}

-- a receiver of these PIDs reads nothing in the record: it has no moment, is no packet that can be read, or is one of another PID
abbrev pub IsForeign : List ℕ → Record → Type 0
IsForeign pids r = (pid : ℕ) → Contains pids pid → arrivals pid (r ∷ []) ≡ []

-- How recorded record j came to be: it comes from a record of those sent, or was inserted; and it is a copy of a record that was recorded
-- before it, or none. place j is the place among the sent records from which it comes, and first j the place among the recorded ones of the
-- record that it is a copy of: j itself, where it is none.

abbrev pub ComesFrom : (place : ℕ → Option ℕ) → (j n : ℕ) → Type 0
ComesFrom place j n = place j ≡ Some n

abbrev pub IsInserted : (place : ℕ → Option ℕ) → (j : ℕ) → Type 0
IsInserted place j = place j ≡ None

abbrev pub IsCopy : (first : ℕ → ℕ) → (j : ℕ) → Type 0
IsCopy first j = first j < j

abbrev pub IsNoCopy : (first : ℕ → ℕ) → (j : ℕ) → Type 0
IsNoCopy first j = first j ≡ j

-- both records have the same bytes
abbrev pub SameBytes : Record → Record → Type 0
SameBytes r other = r.bytes ≡ other.bytes

-- each sent record is dropped, kept, or replaced by any record; after a kept one copies of it may stand, with no other readable packet of their PID between;
-- anywhere stand records that are foreign to a receiver of these PIDs; what was kept or replaced stays in order
pub record Channel (pids : List ℕ) (sent recorded : List Record) : Type 0 where
  pub place : ℕ → Option ℕ
  pub first : ℕ → ℕ
  pub within : (j n : ℕ) → j < length recorded → ComesFrom place j n → n < length sent
  -- the records that are no copies are in order, and at most one comes from each place
  pub in_order : (j k m n : ℕ) → j < k → k < length recorded → IsNoCopy first j → IsNoCopy first k → ComesFrom place j m → ComesFrom place k n → m < n
  -- a copy stands after a record that is none, comes from the same place and was kept, and has its bytes
  pub behind : (j : ℕ) → j < length recorded → first j ≤ j
  pub no_copy : (j : ℕ) → j < length recorded → IsNoCopy first (first j)
  pub same_place : (j : ℕ) → j < length recorded → place j ≡ place (first j)
  pub kept : (j n : ℕ) → j < length recorded → IsCopy first j → ComesFrom place j n → SameBytes (record_at recorded (first j)) (record_at sent n)
  pub same : (j : ℕ) → j < length recorded → SameBytes (record_at recorded j) (record_at recorded (first j))
  -- between a record and its copy stands no readable packet of their PID but such copies, where a receiver reads this PID
  pub alone : (pid : ℕ) (copy other : Arrival) → Contains pids pid → Contains (arrivals pid recorded) copy → Contains (arrivals pid recorded) other
      → first copy.place < other.place → other.place < copy.place → other.bytes ≡ copy.bytes
  -- what was inserted is foreign
  pub foreign : (j : ℕ) → j < length recorded → IsInserted place j → IsForeign pids (record_at recorded j)
