use Rattle.std.proofs.Common.{drop}
use Rattle.settings_keys.specs.Lists.{views}
use Rattle.settings_keys.proofs.ListLemmas.{AddressesSoFar}
use Rattle.settings_keys.proofs.lists.addresses.Given as goal

abbrev pub invariant-loop-item : goal.invariant-loop-item
invariant-loop-item l = AddressesSoFar (views l.items) (views (drop l.item-index l.items)) l.list
