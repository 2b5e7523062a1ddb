-- A table of settings that is accepted.
use Rattle.std.specs.Prelude.{◌≡◌, None}
use Rattle.toml.specs.Data.{Members}
use Rattle.plan_spec.specs.Plan.{PlanFields}
use Rattle.settings_spec.specs.Settings.{tables_fault}
use Rattle.settings_spec.specs.Refusal.{Fails, whole_checks, NoneFails, IsPlan}

pub record IsAcceptedTable (top : Members) (plan : PlanFields) : Type 0 where
  pub tables : tables_fault top ≡ None
  pub whole : NoneFails (Fails top) whole_checks
  pub gives : IsPlan top plan
