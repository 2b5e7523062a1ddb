-- The section of the INT that a report shows, by the sections alone.
use Rattle.std.specs.Prelude.{ℕ, List, find, ◌==◌, if◌then◌else◌, Option}
use Rattle.plan_spec.specs.Plan.{PlanFields}
use Rattle.plan_spec.specs.InForce.{version_behind}
use Rattle.reception_spec.specs.Table.{is_int_section}
use Rattle.reception_spec.specs.Shown.{says_version}

-- after these sections: the first that says the version in force; at version 0 the first of an INT
abbrev pub shown_behind : PlanFields → List (List ℕ) → Option (List ℕ)
shown_behind plan sections =
    if version_behind plan sections == 0 then find is_int_section sections else find (says_version plan (version_behind plan sections)) sections
