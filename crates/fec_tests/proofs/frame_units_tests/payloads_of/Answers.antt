-- The units end where the caller says.
use Rattle.std.proofs.Common.{ℕ, List, subst, sym}
use Rattle.fec_units.specs.Ends.{AreFrameEnds}
use Rattle.fec_tests.proofs.frame_units_tests.payloads_of.Goals as goal

pub new-requires-clause-ends : goal.new-requires-clause-ends
new-requires-clause-ends c = subst (λ (ends : List ℕ). AreFrameEnds 256 c.args.columns c.args.list.now ends) (sym c.as_slice-ends.ensures.value) c.requires.ends
