-- The descriptors of each loop, one by one.
use Rattle.std.proofs.Common.{refl, [], ◌∷◌, take, drop}
use Rattle.int_spec.specs.Reading.{CarriesEntry}
use Rattle.int_spec.specs.Examples.{small_table, small_first, small_second, first_entry, second_entry}
use Rattle.int_spec.proofs.a_small_table_is_read.Goals as goal

first : CarriesEntry small_table (record { target = take 9 small_first; operational = drop 9 small_first }) first_entry
first = record {
  target = drop 2 (take 9 small_first) ∷ [];
  operational = take 11 (drop 11 small_first) ∷ drop 22 small_first ∷ [];
  location = take 11 (drop 11 small_first);
  in_target = record { whole = refl; each = refl };
  in_operational = record { whole = refl; each = refl };
  rules = refl;
  one_location = refl;
  network_id = refl;
  original_network_id = refl;
  transport_stream_id = refl;
  service_id = refl;
  component_tag = refl;
  slices = refl;
}

second : CarriesEntry small_table (record { target = take 9 small_second; operational = drop 9 small_second }) second_entry
second = record {
  target = drop 2 (take 9 small_second) ∷ [];
  operational = drop 11 small_second ∷ [];
  location = drop 11 small_second;
  in_target = record { whole = refl; each = refl };
  in_operational = record { whole = refl; each = refl };
  rules = refl;
  one_location = refl;
  network_id = refl;
  original_network_id = refl;
  transport_stream_id = refl;
  service_id = refl;
  component_tag = refl;
  slices = refl;
}

pub returns-clause-table : goal.returns-clause-table
returns-clause-table c = record {
  version = refl;
  platform_id = refl;
  platform = [];
  in_platform = record { whole = refl; each = refl };
  entries = (first, (second, tt));
  without_entries = λ e. absurd (cc);
}
