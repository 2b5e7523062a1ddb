-- Words of the laws of bursts in slots.
use Rattle.std.specs.Prelude.{ℕ, ◌≤◌, List, length, ◌==◌, if◌then◌else◌, Option, Some, None}
use Rattle.stream_spec.specs.Slots.{Slot, of_table, of_service, empty}

-- the number of the packet of service k that a slot carries, where it carries one
abbrev pub number_of : ℕ → Slot → Option ℕ
number_of k (of_table n) = None
number_of k (of_service j n) = if j == k then Some n else None
number_of k empty = None

-- no service has bursts in more cycles than these
abbrev pub AreWithin : ℕ → (ℕ → List ℕ) → Type 0
AreWithin cycles sizes = (k : ℕ) → length (sizes k) ≤ cycles
