use Rattle.slice_law.proofs.Owners.{owner_has, has_owner}
use Rattle.slice_law.proofs.windows.a_slot_has_one_owner.Goals as goal

pub returns : goal.returns
returns c = record {
  owner = λ windows are offset k n.
      (owner_has windows are offset k n, λ found. has_owner windows are offset k n found.0 found.1 found.2 found.3 found.4 found.5);
}
