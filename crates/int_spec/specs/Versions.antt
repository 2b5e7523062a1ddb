-- Whether bytes are an IP/MAC notification table (EN 301 192 clause 8.4), and of which version, as functions of the bytes.
-- int_table proves that the first says exactly where there is a table that they carry (`IsInt`).
use Rattle.std.specs.Prelude.{ℕ, Bool, false, ◌&&◌, List, ◌==◌, if◌then◌else◌, Option, Some, None, is_some}
use Rattle.section_spec.specs.Section.{is_section, section_fields}
use Rattle.section_spec.specs.Mpe.{is_only_section}
use Rattle.int_spec.specs.Reading.{is_table, has_right_hash, platform_id_of, version_of}
use Rattle.int_spec.specs.Loops.{loops_in, has_pairs, found_network}

-- the loops are whole and in pairs, all descriptors right and of one network; the hash is right; there is one section (EN 301 192 clause 8.4)
abbrev pub is_int_body : List ℕ → Bool
is_int_body body =
    has_pairs false (loops_in body) && (is_some (found_network (loops_in body)) && (has_right_hash body && is_only_section body))

unfoldable pub is_int : List ℕ → Bool
is_int b = is_section b && (is_table (section_fields b) && is_int_body (section_fields b).body)

-- version_number, where the bytes are an INT of this platform (EN 301 192 clause 8.4)
abbrev pub version_of_platform : ℕ → List ℕ → Option ℕ
version_of_platform platform_id b =
    if is_int b && (platform_id_of (section_fields b).body == platform_id) then Some (version_of (section_fields b).body) else None
