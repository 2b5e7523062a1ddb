-- The first check that fails.
use Rattle.std.proofs.Common.{◌≡◌, ℕ, Bool, true, false, not, ◌||◌, ◌&&◌, Some, None, refl, ap, ◌∙◌}
use Rattle.plan_spec.specs.Plan.{PlanFields}
use Rattle.plan_spec.specs.Checks.{has_wrong_carrier, has_same_name, has_same_pid, needs_stamps, has_wrong_window, has_short_gap, has_long_cycle}
use Rattle.plan_spec.specs.Changes.{has_wrong_change}
use Rattle.plan_spec.specs.Wholes.{has_wrong_rules, most_table_packets}
use Rattle.settings_spec.specs.Keys.{SettingsFault, wrong_carrier, same_name, same_pid, wrong_change, wrong_rules, no_stamps, wrong_window, short_gap, long_cycle}
use Rattle.settings_spec.specs.Refusal.{whole_checks}
use Rattle.service_plan.specs.Order.{first_failing, fails_of, whole_fault}

-- where the rules are spelled, windows are asked
window_asked : (spelled wrong : Bool) (b window : Bool) → b ≡ window → false ≡ (not spelled || wrong) → b ≡ (spelled && window)
window_asked true wrong b window is right = is
window_asked false wrong b window is right = absurd (let h = right in cc)

window_is : (spelled : Bool) (plan : PlanFields) (t : ℕ) (b : Bool) → t ≡ most_table_packets plan → false ≡ (not spelled || has_wrong_rules plan) → b ≡ has_wrong_window t plan
    → b ≡ (spelled && has_wrong_window (most_table_packets plan) plan)
window_is spelled plan t b packets right is =
    window_asked spelled (has_wrong_rules plan) b (has_wrong_window (most_table_packets plan) plan) (is ∙ ap (λ (n : ℕ). has_wrong_window n plan) packets) right

first_carrier : (test : SettingsFault → Bool) → true ≡ test wrong_carrier → first_failing test whole_checks ≡ Some wrong_carrier
first_carrier test h0 = rw (← h0) refl

first_name : (test : SettingsFault → Bool) → false ≡ test wrong_carrier → true ≡ test same_name → first_failing test whole_checks ≡ Some same_name
first_name test h0 h1 = rw (← h0, ← h1) refl

first_pid : (test : SettingsFault → Bool) → false ≡ test wrong_carrier → false ≡ test same_name → true ≡ test same_pid → first_failing test whole_checks ≡ Some same_pid
first_pid test h0 h1 h2 = rw (← h0, ← h1, ← h2) refl

first_change : (test : SettingsFault → Bool) → false ≡ test wrong_carrier → false ≡ test same_name → false ≡ test same_pid → true ≡ test wrong_change → first_failing test whole_checks ≡ Some wrong_change
first_change test h0 h1 h2 h3 = rw (← h0, ← h1, ← h2, ← h3) refl

first_rules : (test : SettingsFault → Bool) → false ≡ test wrong_carrier → false ≡ test same_name → false ≡ test same_pid → false ≡ test wrong_change → true ≡ test wrong_rules → first_failing test whole_checks ≡ Some wrong_rules
first_rules test h0 h1 h2 h3 h4 = rw (← h0, ← h1, ← h2, ← h3, ← h4) refl

first_stamps : (test : SettingsFault → Bool) → false ≡ test wrong_carrier → false ≡ test same_name → false ≡ test same_pid → false ≡ test wrong_change → false ≡ test wrong_rules → true ≡ test no_stamps → first_failing test whole_checks ≡ Some no_stamps
first_stamps test h0 h1 h2 h3 h4 h5 = rw (← h0, ← h1, ← h2, ← h3, ← h4, ← h5) refl

first_window : (test : SettingsFault → Bool) → false ≡ test wrong_carrier → false ≡ test same_name → false ≡ test same_pid → false ≡ test wrong_change → false ≡ test wrong_rules → false ≡ test no_stamps → true ≡ test wrong_window → first_failing test whole_checks ≡ Some wrong_window
first_window test h0 h1 h2 h3 h4 h5 h6 = rw (← h0, ← h1, ← h2, ← h3, ← h4, ← h5, ← h6) refl

first_gap : (test : SettingsFault → Bool) → false ≡ test wrong_carrier → false ≡ test same_name → false ≡ test same_pid → false ≡ test wrong_change → false ≡ test wrong_rules → false ≡ test no_stamps → false ≡ test wrong_window → true ≡ test short_gap → first_failing test whole_checks ≡ Some short_gap
first_gap test h0 h1 h2 h3 h4 h5 h6 h7 = rw (← h0, ← h1, ← h2, ← h3, ← h4, ← h5, ← h6, ← h7) refl

first_delta : (test : SettingsFault → Bool) → false ≡ test wrong_carrier → false ≡ test same_name → false ≡ test same_pid → false ≡ test wrong_change → false ≡ test wrong_rules → false ≡ test no_stamps → false ≡ test wrong_window → false ≡ test short_gap → true ≡ test long_cycle → first_failing test whole_checks ≡ Some long_cycle
first_delta test h0 h1 h2 h3 h4 h5 h6 h7 h8 = rw (← h0, ← h1, ← h2, ← h3, ← h4, ← h5, ← h6, ← h7, ← h8) refl

first_none : (test : SettingsFault → Bool) → false ≡ test wrong_carrier → false ≡ test same_name → false ≡ test same_pid → false ≡ test wrong_change → false ≡ test wrong_rules → false ≡ test no_stamps → false ≡ test wrong_window → false ≡ test short_gap → false ≡ test long_cycle → first_failing test whole_checks ≡ None
first_none test h0 h1 h2 h3 h4 h5 h6 h7 h8 = rw (← h0, ← h1, ← h2, ← h3, ← h4, ← h5, ← h6, ← h7, ← h8) refl

pub fault_carrier : (spelled : Bool) (plan : PlanFields) → true ≡ has_wrong_carrier plan → whole_fault spelled plan ≡ Some wrong_carrier
unfolding whole_fault
fault_carrier spelled plan h0 = first_carrier (fails_of spelled plan) h0

pub fault_name : (spelled : Bool) (plan : PlanFields) → false ≡ has_wrong_carrier plan → true ≡ has_same_name plan → whole_fault spelled plan ≡ Some same_name
unfolding whole_fault
fault_name spelled plan h0 h1 = first_name (fails_of spelled plan) h0 h1

pub fault_pid : (spelled : Bool) (plan : PlanFields) → false ≡ has_wrong_carrier plan → false ≡ has_same_name plan → true ≡ has_same_pid plan → whole_fault spelled plan ≡ Some same_pid
unfolding whole_fault
fault_pid spelled plan h0 h1 h2 = first_pid (fails_of spelled plan) h0 h1 h2

pub fault_change : (spelled : Bool) (plan : PlanFields) → false ≡ has_wrong_carrier plan → false ≡ has_same_name plan → false ≡ has_same_pid plan → true ≡ has_wrong_change plan → whole_fault spelled plan ≡ Some wrong_change
unfolding whole_fault
fault_change spelled plan h0 h1 h2 h3 = first_change (fails_of spelled plan) h0 h1 h2 h3

pub fault_rules : (spelled : Bool) (plan : PlanFields) → false ≡ has_wrong_carrier plan → false ≡ has_same_name plan → false ≡ has_same_pid plan → false ≡ has_wrong_change plan → true ≡ (not spelled || has_wrong_rules plan) → whole_fault spelled plan ≡ Some wrong_rules
unfolding whole_fault
fault_rules spelled plan h0 h1 h2 h3 h4 = first_rules (fails_of spelled plan) h0 h1 h2 h3 h4

pub fault_stamps : (spelled : Bool) (plan : PlanFields) → false ≡ has_wrong_carrier plan → false ≡ has_same_name plan → false ≡ has_same_pid plan → false ≡ has_wrong_change plan → false ≡ (not spelled || has_wrong_rules plan) → true ≡ needs_stamps plan → whole_fault spelled plan ≡ Some no_stamps
unfolding whole_fault
fault_stamps spelled plan h0 h1 h2 h3 h4 h5 = first_stamps (fails_of spelled plan) h0 h1 h2 h3 h4 h5

pub fault_window : (spelled : Bool) (plan : PlanFields) (t : ℕ) → t ≡ most_table_packets plan → false ≡ has_wrong_carrier plan → false ≡ has_same_name plan → false ≡ has_same_pid plan → false ≡ has_wrong_change plan → false ≡ (not spelled || has_wrong_rules plan) → false ≡ needs_stamps plan → true ≡ has_wrong_window t plan → whole_fault spelled plan ≡ Some wrong_window
unfolding whole_fault
fault_window spelled plan t packets h0 h1 h2 h3 h4 h5 h6 = first_window (fails_of spelled plan) h0 h1 h2 h3 h4 h5 (window_is spelled plan t true packets h4 h6)

pub fault_gap : (spelled : Bool) (plan : PlanFields) (t : ℕ) → t ≡ most_table_packets plan → false ≡ has_wrong_carrier plan → false ≡ has_same_name plan → false ≡ has_same_pid plan → false ≡ has_wrong_change plan → false ≡ (not spelled || has_wrong_rules plan) → false ≡ needs_stamps plan → false ≡ has_wrong_window t plan → true ≡ has_short_gap plan → whole_fault spelled plan ≡ Some short_gap
unfolding whole_fault
fault_gap spelled plan t packets h0 h1 h2 h3 h4 h5 h6 h7 = first_gap (fails_of spelled plan) h0 h1 h2 h3 h4 h5 (window_is spelled plan t false packets h4 h6) h7

pub fault_delta : (spelled : Bool) (plan : PlanFields) (t : ℕ) → t ≡ most_table_packets plan → false ≡ has_wrong_carrier plan → false ≡ has_same_name plan → false ≡ has_same_pid plan → false ≡ has_wrong_change plan → false ≡ (not spelled || has_wrong_rules plan) → false ≡ needs_stamps plan → false ≡ has_wrong_window t plan → false ≡ has_short_gap plan → true ≡ has_long_cycle plan → whole_fault spelled plan ≡ Some long_cycle
unfolding whole_fault
fault_delta spelled plan t packets h0 h1 h2 h3 h4 h5 h6 h7 h8 = first_delta (fails_of spelled plan) h0 h1 h2 h3 h4 h5 (window_is spelled plan t false packets h4 h6) h7 h8

pub no_fault : (spelled : Bool) (plan : PlanFields) (t : ℕ) → t ≡ most_table_packets plan → false ≡ has_wrong_carrier plan → false ≡ has_same_name plan → false ≡ has_same_pid plan → false ≡ has_wrong_change plan → false ≡ (not spelled || has_wrong_rules plan) → false ≡ needs_stamps plan → false ≡ has_wrong_window t plan → false ≡ has_short_gap plan → false ≡ has_long_cycle plan → whole_fault spelled plan ≡ None
unfolding whole_fault
no_fault spelled plan t packets h0 h1 h2 h3 h4 h5 h6 h7 h8 = first_none (fails_of spelled plan) h0 h1 h2 h3 h4 h5 (window_is spelled plan t false packets h4 h6) h7 h8
