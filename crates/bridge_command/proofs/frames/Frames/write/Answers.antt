use Rattle.std.proofs.Common.{ℕ, ◌≤◌, List, length, sym, subst}
use Rattle.std.specs.Prelude.{All}
use Rattle.bridge_command.proofs.Sorted.{carried_short}
use Rattle.bridge_command.proofs.frames.Frames.write.Goals as goal

pub over_as-packer-requires-clause-items : goal.over_as-packer-requires-clause-items
over_as-packer-requires-clause-items g c =
    subst (λ (l : List (List ℕ)). All (λ (item : List ℕ). length item ≤ 65527) l) (sym c.requires.held.1.list_is) (carried_short c.requires.held.0)
