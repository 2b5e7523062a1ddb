-- The channel once more, record by record: laws say that both mean the same.
use Rattle.std.specs.Prelude.{◌≡◌, ℕ, ◌<◌, List, length, Contains, Option, Some, None}
use Rattle.ts_spec.specs.Recording.{Record}
use Rattle.ts_spec.specs.Received.{record_at, Arrival, arrivals}
use Rattle.channel_spec.specs.Channel.{IsForeign, ComesFrom, IsInserted, IsNoCopy, Channel}

-- what a recorded record is: sent record n as it was, or any record in its place; a copy of recorded record i; or one of others
pub data Fate : Type 0 where
  kept : (n : ℕ) → Fate
  damaged : (n : ℕ) → Fate
  copy : (i : ℕ) → Fate
  inserted : Fate

-- the sent record that it is, or in whose place it stands
abbrev pub source : Fate → Option ℕ
source (kept n) = Some n
source (damaged n) = Some n
source (copy i) = None
source inserted = None

-- a kept record has its bytes; a copy stands after a kept record, and has the bytes of that; a receiver of these PIDs reads nothing in an
-- inserted one
abbrev pub IsSo : List ℕ → (sent recorded : List Record) → (fate : ℕ → Fate) → (j : ℕ) → Fate → Type 0
IsSo pids sent recorded fate j (kept n) = (n < length sent) × ((record_at recorded j).bytes ≡ (record_at sent n).bytes)
IsSo pids sent recorded fate j (damaged n) = n < length sent
IsSo pids sent recorded fate j (copy i) = (i < j) × ((n : ℕ) × (fate i ≡ kept n)) × ((record_at recorded j).bytes ≡ (record_at recorded i).bytes)
IsSo pids sent recorded fate j inserted = IsForeign pids (record_at recorded j)

-- each recorded record has a fate; kept and damaged ones are in order, and no other readable packet of its PID stands between a record and its copy, where a
-- receiver reads this PID
pub record HasFates (pids : List ℕ) (sent recorded : List Record) : Type 0 where
  pub fate : ℕ → Fate
  pub is : (j : ℕ) → j < length recorded → IsSo pids sent recorded fate j (fate j)
  -- kept and damaged records are in order, and at most one comes from each
  pub in_order : (j k m n : ℕ) → j < k → k < length recorded → source (fate j) ≡ Some m → source (fate k) ≡ Some n → m < n
  -- between a record and its copy stands no readable packet of their PID but such copies, where a receiver reads this PID
  pub alone : (pid i : ℕ) (copied other : Arrival) → Contains pids pid → Contains (arrivals pid recorded) copied → Contains (arrivals pid recorded) other
      → fate copied.place ≡ copy i → i < other.place → other.place < copied.place → other.bytes ≡ copied.bytes

-- recorded record j has this fate in a channel. A copy of an inserted record is one that was inserted
abbrev pub HasFate : {pids : List ℕ} {sent recorded : List Record} → Channel pids sent recorded → ℕ → Fate → Type 0
HasFate channel j (kept n) = ComesFrom channel.place j n × IsNoCopy channel.first j
HasFate channel j (damaged n) = ComesFrom channel.place j n × IsNoCopy channel.first j
HasFate channel j (copy i) = (channel.first j ≡ i) × (channel.place j ≡ channel.place i)
HasFate channel j inserted = IsInserted channel.place j

-- a channel, and fates of all records in it
abbrev pub AreFatesOf : {pids : List ℕ} {sent recorded : List Record} → HasFates pids sent recorded → Channel pids sent recorded → Type 0
AreFatesOf {pids} {sent} {recorded} has channel = (j : ℕ) → j < length recorded → HasFate channel j (has.fate j)
