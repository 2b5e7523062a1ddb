-- The INT that a report shows.
use Rattle.std.specs.Prelude.{ℕ, Bool, List, find, ◌==◌, if◌then◌else◌, Option}
use Rattle.ts_spec.specs.Recording.{Record}
use Rattle.plan_spec.specs.Plan.{PlanFields}
use Rattle.plan_spec.specs.Changes.{has_pid}
use Rattle.plan_spec.specs.InForce.{version_in}
use Rattle.reception_spec.specs.Table.{is_int_section, table_sections}
use Rattle.reception_spec.specs.Spans.{version_at_end}

-- a section says this version of the plan (EN 301 192 clause 8.4)
abbrev pub says_version : PlanFields → ℕ → List ℕ → Bool
says_version plan version section = has_pid (version_in plan section) version

-- the section that put the version in force: the first that says it. At version 0, which is in force from the first record on, the
-- first with the table_id of an INT
abbrev pub table_section : PlanFields → List Record → Option (List ℕ)
table_section plan records =
    if version_at_end plan records == 0 then find is_int_section (table_sections plan records)
    else find (says_version plan (version_at_end plan records)) (table_sections plan records)
