-- The rules of an entry, each with where it leads, and the PID of a program's component.
use Rattle.std.proofs.Common.{ℕ, List, map, Option}
use Rattle.addr_rules.specs.declared.rules.Rule.{Rule}
use Rattle.psi_spec.specs.Named.{NamedRule}

abbrev pub with_pid : ℕ → ℕ → Option ℕ → List Rule → List NamedRule
with_pid service_id component_tag pid rules =
    map (λ rule. record { rule = rule; service_id = service_id; component_tag = component_tag; pid = pid }) rules
