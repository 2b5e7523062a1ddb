-- The loops of a body, and what each tells, as functions of its bytes.
use Rattle.std.specs.Prelude.{ℕ, Bool, true, not, ◌&&◌, List, [], ◌∷◌, take, drop, slice_index, ◌==◌, if◌then◌else◌, Option, Some, None, is_some, option_map, option_and_then, unwrap_or}
use Rattle.std.specs.List.{list_all}
use Rattle.wire_spec.specs.Bytes.{u16_at}
use Rattle.int_spec.specs.Descriptors.{is_loop, is_right_descriptor}
use Rattle.int_spec.specs.Reading.{is_location, is_identifier}
use Rattle.int_spec.specs.Pieces.{loop_size, descriptor_size, pieces}

-- a transport stream of a network (EN 301 192 clause 8.4)
pub record NetworkFields : Type 0 where
  pub network_id : ℕ
  pub original_network_id : ℕ
  pub transport_stream_id : ℕ

-- where the stream of an entry is (EN 301 192 clause 8.4)
pub record LocationFields : Type 0 where
  pub network : NetworkFields
  pub service_id : ℕ
  pub component_tag : ℕ

-- what an operational loop tells: its one location, and three bytes of its first time_slice_fec_identifier (EN 301 192 clause 8.4)
pub record OperationalFields : Type 0 where
  pub location : LocationFields
  pub slices : Option (List ℕ)

-- the loops of a body
abbrev pub loops_in : List ℕ → List (List ℕ)
loops_in body = pieces loop_size (drop 9 body)

-- the descriptors of a loop
abbrev pub descriptors_in : List ℕ → List (List ℕ)
descriptors_in loop = pieces descriptor_size (drop 2 loop)

-- all loops are whole, and with those before them, an even or an odd number, their number is odd
abbrev pub has_pairs : Bool → List (List ℕ) → Bool
has_pairs odd [] = odd
has_pairs odd (loop ∷ loops) = is_loop loop && has_pairs (not odd) loops

-- all descriptors of the loop are right
abbrev pub is_right_loop : List ℕ → Bool
is_right_loop loop = list_all is_right_descriptor (descriptors_in loop)

-- what a location tells
abbrev pub location_of : List ℕ → LocationFields
location_of b = record {
  network = record { network_id = u16_at b 2; original_network_id = u16_at b 4; transport_stream_id = u16_at b 6 };
  service_id = u16_at b 8;
  component_tag = slice_index b 10;
}

-- after a location and an identifier, where there were some, what the descriptors tell with them
abbrev pub with_location : Option LocationFields → List ℕ → Option LocationFields
with_location known b = if is_location b then Some (location_of b) else known

abbrev pub with_identifier : Option (List ℕ) → List ℕ → Option (List ℕ)
with_identifier None b = if is_identifier b then Some (take 3 (drop 2 b)) else None
with_identifier (Some slices) b = Some slices

-- a right descriptor, and not a second location
abbrev pub goes_on : Option LocationFields → List ℕ → Bool
goes_on known b = is_right_descriptor b && not (is_some known && is_location b)

-- what an operational loop tells with these descriptors, after a location and an identifier, where there were some
abbrev pub operational_from : Option LocationFields → Option (List ℕ) → List (List ℕ) → Option OperationalFields
operational_from location slices [] = option_map (λ l. record { location = l; slices = slices }) location
operational_from location slices (b ∷ descriptors) =
    if goes_on location b then operational_from (with_location location b) (with_identifier slices b) descriptors else None

-- what an operational loop tells, where all its descriptors are right and one is a location
abbrev pub operational_in : List ℕ → Option OperationalFields
operational_in loop = operational_from None None (descriptors_in loop)

-- a network is the known one, where one is known
abbrev pub same_network : NetworkFields → NetworkFields → Bool
same_network m n =
    (m.network_id == n.network_id) && ((m.original_network_id == n.original_network_id) && (m.transport_stream_id == n.transport_stream_id))

abbrev pub agrees : Option NetworkFields → NetworkFields → Bool
agrees None n = true
agrees (Some known) n = same_network known n

-- the network of a table without entries: all numbers are 0
abbrev pub no_network : NetworkFields
no_network = record { network_id = 0; original_network_id = 0; transport_stream_id = 0 }

-- the network of pairs, where all are right and of one network; 0 of no pair
abbrev pub pairs_network : Option NetworkFields → List (List ℕ) → Option NetworkFields
pairs_network known [] = Some (unwrap_or known no_network)
pairs_network known (target ∷ []) = None
pairs_network known (target ∷ operational ∷ loops) =
    if is_right_loop target
    then option_and_then (λ told. if agrees known told.location.network then pairs_network (Some told.location.network) loops else None) (operational_in operational)
    else None

-- the network of a platform loop and pairs
abbrev pub found_network : List (List ℕ) → Option NetworkFields
found_network [] = None
found_network (platform ∷ loops) = if is_right_loop platform then pairs_network None loops else None
