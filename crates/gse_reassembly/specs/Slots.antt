-- What the slots hold: the fragments that are open on each Frag ID.
use Rattle.std.specs.Prelude.{◌≡◌, ℕ, ◌+◌, ◌*◌, ◌<◌, ◌≤◌, List, take, drop, slice_index_or, Option, Some, None}
use Rattle.gse_spec.specs.Packet.{GsePacket}
use Rattle.gse_spec.specs.Reassembly.{PlacedPacket, Fragments}
use Rattle.gse_spec.specs.Slots.{still_open, open_after}
use Rattle.gse_reassembly.specs.declared.slots.Open.{Open}
use Rattle.gse_reassembly.specs.declared.slots.Slot.{Slot}
use Rattle.gse_reassembly.specs.declared.slots.Part.{Part}
use Rattle.gse_reassembly.specs.declared.slots.Part.TheVariants as part

-- the bytes of a Frag ID stand at its own part of the buffer
abbrev pub fragments_in : Open → ℕ → List ℕ → Fragments
fragments_in o id buffer = record {
  frame_number = o.frame_number;
  total = o.total;
  protocol = o.protocol;
  label = o.label;
  written = o.written;
  bytes = take o.fill (drop (id * 65540) buffer);
}

abbrev pub open_in : Option Open → ℕ → List ℕ → Option Fragments
open_in None id buffer = None
open_in (Some o) id buffer = Some (fragments_in o id buffer)

abbrev pub closed : Slot
closed = record { held = None }

abbrev pub slot_open : List Slot → List ℕ → ℕ → Option Fragments
slot_open slots buffer id = open_in (slice_index_or slots id closed).held id buffer

-- the bytes have not passed Total Length
abbrev pub FitsOpen : Option Open → Type 0
FitsOpen None = Unit {0}
FitsOpen (Some o) = (2 + o.written + o.fill ≤ o.total) × (o.total < 65536)

abbrev pub FitsSlot : Slot → Type 0
FitsSlot s = FitsOpen s.held

-- how many frames were counted, the slots of the Frag IDs, and their bytes
pub record SlotsState : Type 0 where
  pub frame_number : ℕ
  pub slots : List Slot
  pub buffer : List ℕ

-- what is open on a Frag ID
abbrev pub open_on : SlotsState → ℕ → Option Fragments
open_on state id = slot_open state.slots state.buffer id

-- what a start is answered, by what is open after it
abbrev pub start_answer : Option Fragments → Part
start_answer None = part.TooLong
start_answer (Some f) = part.Kept

-- what a middle is answered, by what is open before and after it
abbrev pub middle_answer : Option Fragments → Option Fragments → Part
middle_answer None behind = part.NoStart
middle_answer (Some f) behind = start_answer behind

-- the slots were given these packets, the latest first
abbrev pub Stands : SlotsState → List PlacedPacket → Type 0
Stands state packets = (id : ℕ) → open_on state id ≡ still_open id packets

-- what a call leaves of the slots when it takes a packet
abbrev pub Takes : SlotsState → GsePacket → SlotsState → Type 0
Takes old packet new = (other : ℕ) → open_on new other ≡ open_after other old.frame_number packet (open_on old other)
