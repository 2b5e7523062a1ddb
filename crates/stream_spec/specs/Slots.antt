-- The slots of a transmission: what each carries. Profile: the order is the sender's.
-- Some slots are kept by their place in the cycle; through the others the services go in rotation.
use Rattle.std.specs.Prelude.{◌≡◌, ℕ, zero, suc, ◌+◌, ◌-◌, ◌%◌, ◌≤◌, Bool, true, false, List, ◌++◌, length, slice_index, set, find, nat_lt, replicate, if◌then◌else◌, Option, Some, None, is_some}
use Rattle.std.specs.List.{range_with_len}
use Rattle.std.specs.Option.{unwrap_or}

-- what a slot carries: a packet of the INT, by its number in the cycle; packet n of service k; or a null packet
pub data Slot : Type 0 where
  of_table : (n : ℕ) → Slot
  of_service : (k n : ℕ) → Slot
  empty : Slot

-- the slot carries a packet of a service
abbrev pub is_of_service : Slot → Bool
is_of_service (of_table n) = false
is_of_service (of_service k n) = true
is_of_service empty = false

-- what slot s is kept for: in cycles of so many slots, the first are the INT's
abbrev pub kept_for_table : ℕ → ℕ → ℕ → Option Slot
kept_for_table cycle table s = if nat_lt (s % cycle) table then Some (of_table (s % cycle)) else None

-- the services, so many, in the order in which they are asked: from one on, and then those before it
abbrev pub asked : ℕ → ℕ → List ℕ
asked count first = range_with_len first (count - first) ++ range_with_len 0 first

-- how far the services are: how many packets of each are out, and which is asked first, the one after that served last
pub record Turns : Type 0 where
  pub sent : List ℕ
  pub first : ℕ

-- the service has packets left, of so many that each has
abbrev pub has_left : List ℕ → List ℕ → ℕ → Bool
has_left packets sent k = nat_lt (slice_index sent k) (slice_index packets k)

-- the first service asked that has packets left
abbrev pub next_service : List ℕ → Turns → Option ℕ
next_service packets turns = find (has_left packets turns.sent) (asked (length packets) turns.first)

-- one packet more of the service is out
abbrev pub served : Turns → Option ℕ → Turns
served turns None = turns
served turns (Some k) = record { sent = set turns.sent k (slice_index turns.sent k + 1); first = k + 1 }

-- how far the services are before slot s
unfoldable pub turns_at : (ℕ → Option Slot) → List ℕ → ℕ → Turns
turns_at kept packets zero = record { sent = replicate (length packets) 0; first = 0 }
turns_at kept packets (suc s) =
    if is_some (kept s) then turns_at kept packets s
    else served (turns_at kept packets s) (next_service packets (turns_at kept packets s))

-- what the slot carries in which this service, or none, has its turn
abbrev pub slot_of_service : Turns → Option ℕ → Slot
slot_of_service turns None = empty
slot_of_service turns (Some k) = of_service k (slice_index turns.sent k)

-- what slot s carries
abbrev pub slot_at : (ℕ → Option Slot) → List ℕ → ℕ → Slot
slot_at kept packets s =
    unwrap_or (kept s) (slot_of_service (turns_at kept packets s) (next_service packets (turns_at kept packets s)))

-- the transmission has so many slots: the last of them carries a packet of a service, and none after it does
pub record IsSlotCount (slot : ℕ → Slot) (slots : ℕ) : Type 0 where
  pub last : (s : ℕ) → slots ≡ s + 1 → is_of_service (slot s) ≡ true
  pub over : (s : ℕ) → slots ≤ s → is_of_service (slot s) ≡ false
