-- A table of two IPv4 streams, the first of them sliced, to try the definitions on.
use Rattle.std.specs.Prelude.{ℕ, List, [], ◌∷◌, ◌++◌, take, drop, Some, None}
use Rattle.ip_datagram.specs.declared.address.IpAddress.TheVariants.{V4}
use Rattle.addr_rules.specs.declared.rules.Rule.{Rule}
use Rattle.int_spec.specs.Table.{EntryFields, TableFields}
use Rattle.int_spec.specs.Reading.{Loops}

-- the addresses that begin with 239 and this byte
abbrev pub group_rule : ℕ → Rule
group_rule last = record { address = V4 (239 ∷ last ∷ 0 ∷ 0 ∷ []); slash = 16 }

abbrev pub first_entry : EntryFields
first_entry = record { rules = group_rule 1 ∷ []; service_id = 10; component_tag = 1; slices = Some (0xBB ∷ 7 ∷ 0x70 ∷ []) }

abbrev pub second_entry : EntryFields
second_entry = record { rules = group_rule 2 ∷ []; service_id = 10; component_tag = 2; slices = None }

abbrev pub small_table : TableFields
small_table = record {
  version = 0;
  platform_id = 1;
  network_id = 2;
  original_network_id = 3;
  transport_stream_id = 4;
  entries = first_entry ∷ second_entry ∷ [];
}

-- the body of its section
abbrev pub small_head : List ℕ
small_head = 0x01 ∷ 0x01 ∷ 0xC1 ∷ 0 ∷ 0 ∷ 0 ∷ 0 ∷ 1 ∷ 0 ∷ 0xF0 ∷ 0 ∷ []

abbrev pub small_first : List ℕ
small_first =
    0xF0 ∷ 7 ∷ 0x0F ∷ 5 ∷ 239 ∷ 1 ∷ 0 ∷ 0 ∷ 16 ∷ 0xF0 ∷ 16 ∷ 0x13 ∷ 9 ∷ 0 ∷ 2 ∷ 0 ∷ 3 ∷ 0 ∷ 4 ∷ 0 ∷ 10 ∷ 1 ∷ 0x77 ∷ 3 ∷ 0xBB ∷ 7 ∷ 0x70 ∷ []

abbrev pub small_second : List ℕ
small_second = 0xF0 ∷ 7 ∷ 0x0F ∷ 5 ∷ 239 ∷ 2 ∷ 0 ∷ 0 ∷ 16 ∷ 0xF0 ∷ 11 ∷ 0x13 ∷ 9 ∷ 0 ∷ 2 ∷ 0 ∷ 3 ∷ 0 ∷ 4 ∷ 0 ∷ 10 ∷ 2 ∷ []

abbrev pub small_body : List ℕ
small_body = small_head ++ small_first ++ small_second

-- its loops
abbrev pub small_loops : Loops
small_loops = record {
  platform = 0xF0 ∷ 0 ∷ [];
  pairs = record { target = take 9 small_first; operational = drop 9 small_first } ∷ record { target = take 9 small_second; operational = drop 9 small_second } ∷ [];
}
