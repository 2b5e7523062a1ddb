-- An SNDU of the code as the fields that its bytes carry, and the order of the refusals.
use Rattle.std.specs.Prelude.{ℕ, List, Option, Some, None, if◌then◌else◌}
use Rattle.wire_spec.specs.Crc.{ends_with_crc}
use Rattle.ts_spec.specs.Sndu.{SnduFields, has_right_length}
use Rattle.ule_unit.specs.declared.sndu.Sndu.{Sndu}
use Rattle.ule_unit.specs.declared.sndu.UleFault.{UleFault}
use Rattle.ule_unit.specs.declared.sndu.UleFault.TheVariants.{Length, Crc}

-- the fields of an SNDU
abbrev pub fields_in : Sndu → SnduFields
fields_in s = record { npa = s.npa; first_type = s.first_type; bytes = s.bytes.now }

-- why bytes are no SNDU: the first test that fails, Length, then Crc (RFC 4326 section 4)
abbrev pub refusal : List ℕ → Option UleFault
refusal b = if has_right_length b then (if ends_with_crc b then None else Some Crc) else Some Length
