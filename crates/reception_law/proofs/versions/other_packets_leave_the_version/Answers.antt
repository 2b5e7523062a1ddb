use Rattle.reception_law.proofs.VersionInForce.{none_ended, version_stays}
use Rattle.reception_law.proofs.versions.other_packets_leave_the_version.Goals as goal

pub returns : goal.returns
returns c = record { sections = none_ended; version = version_stays }
