use Rattle.std.proofs.Common.{drop}
use Rattle.settings_keys.specs.Lists.{views, texts_of}
use Rattle.settings_keys.proofs.ListLemmas.{RulesSoFar}
use Rattle.settings_keys.proofs.lists.rules.Given as goal

abbrev pub invariant-loop-item : goal.invariant-loop-item
invariant-loop-item l = RulesSoFar (texts_of (views l.items)) (texts_of (views (drop l.item-index l.items))) l.list
