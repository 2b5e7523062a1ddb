-- Datagrams of a received frame. Profile: where datagrams start, and which are found, is this receiver's own rule.
use Rattle.std.specs.Prelude.{◌≡◌, ◌⊎◌, ℕ, zero, suc, ◌+◌, ◌-◌, ◌*◌, ◌≤◌, Bool, true, false, ◌&&◌, ◌||◌, List, [], ◌∷◌, ◌++◌, take, flat_map, ◌==◌, nat_le, if◌then◌else◌, Contains, Option, Some, None}
use Rattle.std.specs.List.{list_any}
use Rattle.wire_spec.specs.Datagram.{front_length}
use Rattle.ip_datagram.specs.Hint.{hint_of}
use Rattle.ip_datagram.specs.declared.hint.Hint.{Hint}
use Rattle.ip_datagram.specs.declared.hint.Hint.TheVariants.{More, Padding, Length, Bad}
use Rattle.section_spec.specs.Mpe.{MpeFields}
use Rattle.fec_frame_spec.specs.Sections.{data_end}

-- a known byte before others
abbrev pub run_on : Option ℕ → List ℕ → List ℕ
run_on None run = []
run_on (Some byte) run = byte ∷ run

-- the known bytes from a place on, up to the first unknown one, at most so many
unfoldable pub run_within : (ℕ → Option ℕ) → ℕ → ℕ → List ℕ
run_within bytes zero place = []
run_within bytes (suc most) place = run_on (bytes place) (run_within bytes most (place + 1))

-- the known bytes from a place on in the application data table
abbrev pub known_run : ℕ → (ℕ → Option ℕ) → ℕ → List ℕ
known_run rows bytes place = run_within bytes (191 * rows - place) place

-- Where datagrams can start: at 0; where a datagram_section's datagram starts or ends; and where a datagram ends that starts at such a
-- place, as its known bytes tell, within the application data table.

-- a datagram_section's datagram starts here, or ends
abbrev pub is_edge : ℕ → MpeFields → Bool
is_edge place m = (m.real_time.address == place) || (data_end m == place)

-- datagrams can start at 0, or where a datagram_section's datagram starts or ends
abbrev pub is_first_start : List MpeFields → ℕ → Bool
is_first_start sections place = (place == 0) || list_any (is_edge place) sections

-- a datagram of this length from a place on ends at another
abbrev pub ends_at : Hint → ℕ → ℕ → Bool
ends_at More place end = false
ends_at Padding place end = false
ends_at (Length n) place end = place + n == end
ends_at Bad place end = false

-- the known bytes tell that a datagram that starts at a place ends at another, within the application data table
abbrev pub tells_end : ℕ → (ℕ → Option ℕ) → ℕ → ℕ → Bool
tells_end rows bytes end place = nat_le end (191 * rows) && ends_at (hint_of (known_run rows bytes place)) place end

-- the places below one where datagrams can start, rising
unfoldable pub starts_below : ℕ → (ℕ → Option ℕ) → List MpeFields → ℕ → List ℕ
starts_below rows bytes sections zero = []
starts_below rows bytes sections (suc n) =
    starts_below rows bytes sections n
    ++ (if is_first_start sections n || list_any (tells_end rows bytes n) (starts_below rows bytes sections n) then n ∷ [] else [])

-- the datagram of this length at the front of known bytes, where there is one
abbrev pub front_datagram : List ℕ → Option ℕ → List (List ℕ)
front_datagram run None = []
front_datagram run (Some n) = take n run ∷ []

-- the datagram that starts at a place, where all its bytes are known
abbrev pub datagram_from : ℕ → (ℕ → Option ℕ) → ℕ → List (List ℕ)
datagram_from rows bytes place = front_datagram (known_run rows bytes place) (front_length (known_run rows bytes place))

-- the datagrams of a frame: of each place where one can start, and all its bytes are known, in rising places
abbrev pub found_datagrams : ℕ → (ℕ → Option ℕ) → List MpeFields → List (List ℕ)
found_datagrams rows bytes sections = flat_map (datagram_from rows bytes) (starts_below rows bytes sections (191 * rows + 1))

-- The same places as a fact: a chain of told lengths leads to them.

-- the known bytes tell the length of a datagram that starts here, and that it ends within the application data table
pub record IsTold (rows : ℕ) (bytes : ℕ → Option ℕ) (place n : ℕ) : Type 0 where
  pub length_is : hint_of (known_run rows bytes place) ≡ Length n
  pub within : place + n ≤ 191 * rows

-- datagrams of these lengths, one after another, from place to place
abbrev pub AreTold : ℕ → (ℕ → Option ℕ) → ℕ → List ℕ → ℕ → Type 0
AreTold rows bytes place [] end = place ≡ end
AreTold rows bytes place (n ∷ lengths) end = IsTold rows bytes place n × AreTold rows bytes (place + n) lengths end

abbrev pub IsSectionEdge : List MpeFields → ℕ → Type 0
IsSectionEdge sections place = (m : MpeFields) × Contains sections m × ((place ≡ m.real_time.address) ⊎ (place ≡ data_end m))

-- a place where a datagram can start
pub record IsDatagramStart (rows : ℕ) (bytes : ℕ → Option ℕ) (sections : List MpeFields) (place : ℕ) : Type 0 where
  pub start : ℕ
  pub from : (start ≡ 0) ⊎ IsSectionEdge sections start
  pub lengths : List ℕ
  pub told : AreTold rows bytes start lengths place
