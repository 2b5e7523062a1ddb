-- A section of the code as the fields that its bytes carry, and the order of the refusals.
use Rattle.std.specs.Prelude.{ℕ, List, length, nat_lt, Option, Some, None, if◌then◌else◌}
use Rattle.wire_spec.specs.Crc.{ends_with_crc}
use Rattle.section_spec.specs.Section.{SectionFields, has_right_length, has_syntax}
use Rattle.section_codec.specs.declared.section.SectionRef.{SectionRef}
use Rattle.section_codec.specs.declared.section.SectionFault.{SectionFault}
use Rattle.section_codec.specs.declared.section.SectionFault.TheVariants.{Short, Length, Syntax, Crc}

-- the fields of a section
abbrev pub fields_in : SectionRef → SectionFields
fields_in s = record { table_id = s.table_id; body = s.body.now }

-- why bytes are no section: the first test that fails, Short, Length, Syntax, then Crc (ISO/IEC 13818-1 clause 2.4.4)
abbrev pub refusal : List ℕ → Option SectionFault
refusal b =
    if nat_lt (length b) 3 then Some Short else
    if has_right_length b then (if has_syntax b then (if ends_with_crc b then None else Some Crc) else Some Syntax) else
    Some Length
