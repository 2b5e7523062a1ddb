-- The rules so far.
use Rattle.std.proofs.Common.{◌≡◌, take}
use Rattle.std.specs.Prelude.{All}
use Rattle.int_spec.specs.Table.{IsRule}
use Rattle.ts_mux.proofs.plan_int.same_rules.Given as goal

abbrev pub invariant-loop-place : goal.invariant-loop-place
invariant-loop-place l = record {
  same : l.copy ≡ take l.place l.rules;
  are : All IsRule (take l.place l.rules);
}
