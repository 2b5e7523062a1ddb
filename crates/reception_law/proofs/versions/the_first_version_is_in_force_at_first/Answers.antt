use Rattle.reception_law.proofs.VersionInForce.{first, without_table, without_changes}
use Rattle.reception_law.proofs.versions.the_first_version_is_in_force_at_first.Goals as goal

pub returns : goal.returns
returns c = record { first = first; without_table = without_table; without_changes = without_changes }
