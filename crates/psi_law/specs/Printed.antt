-- The lines of a service in the text of what is named.
use Rattle.std.specs.Prelude.{◌≡◌, ℕ, List, ◌++◌, Some}
use Rattle.int_spec.specs.Table.{EntryFields}
use Rattle.psi_spec.specs.Named.{NamedRule, rules_by}
use Rattle.psi_tables.specs.Text.{find_text}

-- the text has, one after another, a line for each rule of an entry of the INT, with this PID
pub record PrintsEntry (entry : EntryFields) (pid : ℕ) (text : List ℕ) : Type 0 where
  pub before : List NamedRule
  pub after : List NamedRule
  pub text_is : text ≡ find_text (before ++ (rules_by entry (Some pid) ++ after))
