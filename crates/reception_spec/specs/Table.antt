-- What is received of the IP/MAC notification table (EN 301 192 clause 8.4): the accepted sections on its PID.
use Rattle.std.specs.Prelude.{ℕ, Bool, List, length, slice_index, ◌==◌, Option, option_map}
use Rattle.ts_spec.specs.Recording.{Record}
use Rattle.section_spec.specs.Section.{section_form}
use Rattle.plan_spec.specs.Plan.{IntFields, PlanFields}
use Rattle.reception_spec.specs.Numbers.{units_on}

-- the INT's PID, where there is one
abbrev pub table_pid : Option IntFields → Option ℕ
table_pid table = option_map (λ (int : IntFields). int.pid) table

-- the accepted sections on the INT's PID, in order
abbrev pub table_sections : PlanFields → List Record → List (List ℕ)
table_sections plan records = units_on section_form (table_pid plan.table) records

-- how many there are
abbrev pub table_units : PlanFields → List Record → ℕ
table_units plan records = length (table_sections plan records)

-- a section with the table_id of an INT (EN 301 192 clause 8.4)
abbrev pub is_int_section : List ℕ → Bool
is_int_section section = slice_index section 0 == 0x4C
