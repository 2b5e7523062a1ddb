-- The windows of a plan, and the slots of them: which packet of which burst stands there. Profile: all of it.
use Rattle.std.specs.Prelude.{ℕ, ◌+◌, ◌/◌, ◌%◌, List, [], ◌∷◌, take, sum, slice_index, nat_lt, if◌then◌else◌, Option, Some, None}
use Rattle.std.specs.List.{cons_option}
use Rattle.std.specs.Option.{option_or}
use Rattle.slice_spec.specs.Windows.{OwnedWindow, owner_of}
use Rattle.plan_spec.specs.Plan.{KindFields, PlanFields, kinds, SlicedFields, sliced_of}
use Rattle.stream_spec.specs.Slots.{Slot, of_service, kept_for_table}

-- the window of service k, where it is sliced
abbrev pub owned : ℕ → Option SlicedFields → Option OwnedWindow
owned k None = None
owned k (Some fields) = Some (record { service = k; start = fields.start; length = fields.length })

-- the windows of all services; k is the first of them
abbrev pub windows_from : ℕ → List KindFields → List OwnedWindow
windows_from k [] = []
windows_from k (kind ∷ kinds) = cons_option (owned k (sliced_of kind)) (windows_from (k + 1) kinds)

abbrev pub windows_of : PlanFields → List OwnedWindow
windows_of plan = windows_from 0 (kinds plan)

-- sizes are the numbers of packets of a service's bursts, one for each cycle from the first on; a cycle past the list has no burst.

-- the packets of the bursts in the cycles before this one
abbrev pub out_before : List ℕ → ℕ → ℕ
out_before sizes cycle = sum (take cycle sizes)

-- place n in the window of a cycle: packet n of its burst, where it has more than n packets
abbrev pub of_burst : ℕ → List ℕ → ℕ → ℕ → Option Slot
of_burst k sizes cycle n = if nat_lt n (slice_index sizes cycle) then Some (of_service k (out_before sizes cycle + n)) else None

-- the same for the owner of a slot, by service and place
abbrev pub of_owner : (ℕ → List ℕ) → ℕ → Option (ℕ × ℕ) → Option Slot
of_owner sizes cycle None = None
of_owner sizes cycle (Some owner) = of_burst owner.0 (sizes owner.0) cycle owner.1

-- what slot s is kept for: a packet of a burst, where one goes out there; any other slot of a window is kept for nothing
abbrev pub sliced_at : ℕ → List OwnedWindow → (ℕ → List ℕ) → ℕ → Option Slot
sliced_at cycle windows sizes s = of_owner sizes (s / cycle) (owner_of windows (s % cycle))

-- what slot s is kept for: a packet of the INT first, then one of a burst
abbrev pub kept_for_bursts : ℕ → ℕ → List OwnedWindow → (ℕ → List ℕ) → ℕ → Option Slot
kept_for_bursts cycle table windows sizes s = option_or (kept_for_table cycle table s) (sliced_at cycle windows sizes s)
