-- The bursts of a service in time slicing: which datagrams each of them has, and the units of one of them.
use Rattle.std.specs.Prelude.{◌≡◌, ℕ, ◌*◌, ◌<◌, ◌≤◌, List, [], ◌∷◌, length, slice_index, All}
use Rattle.wire_spec.specs.Lists.{joined}
use Rattle.unit_stream.specs.Packers.{AreEnds, units_of}
use Rattle.stream_spec.specs.Units.{datagrams_by_burst, packet_of_section, units_with_delta}
use Rattle.fec_units.specs.Parts.{part_of}

-- the parts of a list that end at these places, the first from a place on
abbrev pub parts_from : ℕ → List ℕ → List (List ℕ) → List (List (List ℕ))
parts_from from [] list = []
parts_from from (end ∷ ends) list = part_of from end list ∷ parts_from end ends list

-- the bursts of these datagrams end at these places: they are parts of the list, of one datagram or more, and each fits its table
pub record AreBurstEnds (rows columns slots : ℕ) (datagrams : List (List ℕ)) (ends : List ℕ) : Type 0 where
  pub bursts_are : parts_from 0 ends datagrams ≡ datagrams_by_burst rows columns slots datagrams
  pub ends_are : AreEnds 1 (length datagrams) ends
  pub fit : All (λ (burst : List (List ℕ)). length (joined burst) ≤ 191 * rows) (datagrams_by_burst rows columns slots datagrams)

-- what a burst buffer holds: rows and sent columns of each frame, and the units of one burst, one after another, with the place where each ends
pub record HeldUnits : Type 0 where
  pub rows : ℕ
  pub columns : ℕ
  pub bytes : List ℕ
  pub ends : List ℕ

-- it holds these units, one after another
pub record HoldsUnits (held : HeldUnits) (units : List (List ℕ)) : Type 0 where
  pub units_are : units_of held.bytes held.ends ≡ units
  pub whole : held.bytes ≡ joined units
  pub ends_are : AreEnds 1 (length held.bytes) held.ends

-- the list has what delta gives for the first packets, so many
abbrev pub AreFirst : ℕ → (ℕ → ℕ) → List ℕ → Type 0
AreFirst count delta deltas = (n : ℕ) → n < count → slice_index deltas n ≡ delta n

-- the units of a burst in which a section has the delta_t of the packet with its first byte (EN 301 192 clause 9)
abbrev pub units_by_packet : ℕ → ℕ → List ℕ → (ℕ → ℕ) → List (List ℕ) → List (List ℕ)
units_by_packet rows columns unicast delta datagrams = units_with_delta rows columns unicast (λ i. delta (packet_of_section rows columns datagrams i)) datagrams
