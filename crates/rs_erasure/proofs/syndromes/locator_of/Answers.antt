use Rattle.std.proofs.Common.{ℕ, ◌∙◌, ap, get_or}
use Rattle.rs_erasure.specs.declared.powers.TheConstants.{POWERS}
use Rattle.rs_erasure.proofs.PlacePowers.{power_at}
use Rattle.rs_erasure.proofs.syndromes.locator_of.Goals as goal

pub returns : goal.returns
returns c = ap (λ (k : ℕ). get_or POWERS k 0) c.from.ensures ∙ power_at c.args.place c.requires
