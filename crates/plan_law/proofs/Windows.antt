-- Windows hold with each number of INT packets that is not above one with which they hold.
use Rattle.std.proofs.Common.{◌≡◌, ℕ, ◌+◌, ◌<◌, ◌≤◌, Bool, true, false, ◌||◌, length, arith}
use Rattle.std.specs.Prelude.{nat_lt, nat_le}
use Rattle.std.specs.List.{list_any}
use Rattle.std.proofs.lemmas.Bool.Decides.{nat_tests}
use Rattle.plan_spec.specs.Plan.{PlanFields, SlicedFields, sliced}
use Rattle.plan_spec.specs.Checks.{has_pair, leaves_cycle, is_too_short, is_too_long, is_wrong_window, overlaps, has_wrong_window}
use Rattle.plan_spec.specs.Signalling.{table_packets}
use Rattle.plan_spec.specs.Changes.{plan_in}
use Rattle.plan_spec.specs.Wholes.{most_table_packets}
use Rattle.plan_law.proofs.Lists.{neither, any_fewer, most_is_above}

both_false : (a b : Bool) → a ≡ false → b ≡ false → (a || b) ≡ false
both_false true b no_a no_b = absurd (cc)
both_false false b no_a no_b = no_b

below : (start fewer more : ℕ) → fewer ≤ more → nat_lt start more ≡ false → nat_lt start fewer ≡ false
below start fewer more less is = grind (arith, nat_tests)

above : (cycle fewer more : ℕ) → fewer ≤ more → nat_le cycle more ≡ false → nat_le cycle fewer ≡ false
above cycle fewer more less is = grind (arith, nat_tests)

window_right : (plan : PlanFields) (fewer more : ℕ) → fewer ≤ more → (s : SlicedFields) → is_wrong_window more plan s ≡ false → is_wrong_window fewer plan s ≡ false
window_right plan fewer more less s is =
    let parts = neither (leaves_cycle more plan s) (is_too_short s || is_too_long plan s) is in
    let ends = neither (nat_lt s.start more) (nat_lt plan.cycle (s.start + s.length)) parts.0 in
    both_false (leaves_cycle fewer plan s) (is_too_short s || is_too_long plan s)
    (both_false (nat_lt s.start fewer) (nat_lt plan.cycle (s.start + s.length)) (below s.start fewer more less ends.0) ends.1) parts.1

pub windows_right : (plan : PlanFields) (fewer more : ℕ) → fewer ≤ more → has_wrong_window more plan ≡ false → has_wrong_window fewer plan ≡ false
windows_right plan fewer more less is =
    let parts = neither (nat_le plan.cycle more) (list_any (is_wrong_window more plan) (sliced plan) || has_pair overlaps (sliced plan)) is in
    let windows = neither (list_any (is_wrong_window more plan) (sliced plan)) (has_pair overlaps (sliced plan)) parts.1 in
    both_false (nat_le plan.cycle fewer) (list_any (is_wrong_window fewer plan) (sliced plan) || has_pair overlaps (sliced plan))
    (above plan.cycle fewer more less parts.0)
    (both_false (list_any (is_wrong_window fewer plan) (sliced plan)) (has_pair overlaps (sliced plan))
    (any_fewer (is_wrong_window more plan) (is_wrong_window fewer plan) (λ s. window_right plan fewer more less s) (sliced plan) windows.0) windows.1)

-- the INT of a version takes no more packets than that which takes most
pub most_packets : (plan : PlanFields) (version : ℕ) → version < length plan.changes + 1 → table_packets (plan_in plan version) ≤ most_table_packets plan
unfolding most_table_packets
most_packets plan version within = most_is_above (λ v. table_packets (plan_in plan v)) (length plan.changes + 1) version within
