-- All rules so far are right.
use Rattle.std.proofs.Common.{◌≡◌, true}
use Rattle.std.specs.List.{list_all}
use Rattle.int_spec.specs.Descriptors.{has_right_slash}
use Rattle.unit_tests.proofs.int_table_tests.same_rules.Given as goal

abbrev pub invariant-loop : goal.invariant-loop
invariant-loop l = list_all has_right_slash l.rules ≡ true
