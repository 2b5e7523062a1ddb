-- A finder has taken no record at the start.
use Rattle.std.proofs.Common.{[], refl}
use Rattle.psi_tables.specs.Watching.{FinderState}
use Rattle.psi_tables.specs.Taking.{TookRecords}

pub took_no_record : (start : FinderState) → TookRecords start start []
took_no_record start = record { pid_is = refl; seen = λ seen. seen }
