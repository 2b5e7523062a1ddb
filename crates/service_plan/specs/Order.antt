-- The checks over a whole plan, in their order.
use Rattle.std.specs.Prelude.{Bool, false, not, ◌&&◌, ◌||◌, List, [], ◌∷◌, Option, Some, None, if◌then◌else◌}
use Rattle.plan_spec.specs.Plan.{PlanFields}
use Rattle.plan_spec.specs.Checks.{has_wrong_carrier, has_same_name, has_same_pid, needs_stamps, has_wrong_window, has_short_gap, has_long_cycle}
use Rattle.plan_spec.specs.Changes.{has_wrong_change}
use Rattle.plan_spec.specs.Wholes.{has_wrong_rules, most_table_packets}
use Rattle.settings_spec.specs.Keys.{SettingsFault, no_document, missing, wrong_type, out_of_range, unknown_key, wrong_carrier, same_name, same_pid, wrong_change, wrong_rules, no_stamps, wrong_window, short_gap, long_cycle}
use Rattle.settings_spec.specs.Refusal.{whole_checks}

-- the first of some checks that a test is met by
abbrev pub first_failing : (SettingsFault → Bool) → List SettingsFault → Option SettingsFault
first_failing fails [] = None
first_failing fails (check ∷ checks) = if fails check then Some check else first_failing fails checks

-- a check fails of a plan whose rules are spelled, or not; where they are not, its windows are not asked
abbrev pub fails_of : Bool → PlanFields → SettingsFault → Bool
fails_of spelled plan wrong_carrier = has_wrong_carrier plan
fails_of spelled plan same_name = has_same_name plan
fails_of spelled plan same_pid = has_same_pid plan
fails_of spelled plan wrong_change = has_wrong_change plan
fails_of spelled plan wrong_rules = not spelled || has_wrong_rules plan
fails_of spelled plan no_stamps = needs_stamps plan
fails_of spelled plan wrong_window = spelled && has_wrong_window (most_table_packets plan) plan
fails_of spelled plan short_gap = has_short_gap plan
fails_of spelled plan long_cycle = has_long_cycle plan
fails_of spelled plan no_document = false
fails_of spelled plan (missing key) = false
fails_of spelled plan (wrong_type key) = false
fails_of spelled plan (out_of_range key) = false
fails_of spelled plan unknown_key = false

unfoldable pub whole_fault : Bool → PlanFields → Option SettingsFault
whole_fault spelled plan = first_failing (fails_of spelled plan) whole_checks
