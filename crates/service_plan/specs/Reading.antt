-- What a call that takes memory answers.
use Rattle.std.specs.Prelude.{◌≡◌, Option, None, Result, MatchResult}
use Rattle.settings_spec.specs.Keys.{SettingsFault}
use Rattle.service_plan.specs.Keys.{Faults}
use Rattle.service_plan.specs.declared.fault.PlanError.{PlanError}
pub use Rattle.settings_keys.specs.Reading.{rule_for, Answers, Reads, words_of, within, items_where, Always}

-- the same of a call that takes memory, and may want it
abbrev pub AnswersOrWants : {T : Type 0} → Result T PlanError → Option SettingsFault → (T → Type 0) → Type 0
AnswersOrWants result fault P = MatchResult result (λ x. (fault ≡ None) × P x) (λ e. Faults e fault)
