-- What `tables` ensures, by its answer.
use Rattle.std.specs.Prelude.{◌≡◌, ℕ, List, take, Result, Ok, Err, IsErrOf, ⊤}
use Rattle.std.specs.Io.KnownBytes.{Appends}
use Rattle.wire_spec.specs.Causes.{Rose}
use Rattle.wire_spec.specs.Content.{Stays}
use Rattle.wire_spec.specs.Lists.{joined}
use Rattle.ipe_io.specs.Told.{OutputTold}
use Rattle.ipe_io.specs.Counts.{IsFlushed}
use Rattle.plan_spec.specs.Plan.{PlanFields}
use Rattle.psi_spec.specs.Tables.{table_packets_of}
use Rattle.tables_command.specs.declared.writing.TablesFault.{TablesFault}
use Rattle.tables_command.specs.declared.writing.TablesFault.TheVariants as fault

-- the bytes of the packets of all tables
abbrev pub bytes_of_tables : PlanFields → List ℕ
bytes_of_tables plan = joined (table_packets_of plan)

-- the tables were put on an output, and flushed
pub record WritesAll (plan : PlanFields) (output now : OutputTold) : Type 0 where
  pub written : Appends output.held now.held (bytes_of_tables plan)
  pub flushed : IsFlushed now.held now.flushed

-- a prefix of their bytes was, and nothing more is flushed
pub record WritesPart (plan : PlanFields) (output now : OutputTold) : Type 0 where
  pub count : ℕ
  pub written : Appends output.held now.held (take count (bytes_of_tables plan))
  pub unflushed : Stays output.flushed now.flushed

-- all is made before anything is written
abbrev pub TablesEnd : Result ⊤ TablesFault → PlanFields → OutputTold → OutputTold → (Silent : Type 0) → Type 0
TablesEnd (Ok done) plan output now Silent = WritesAll plan output now
TablesEnd (Err fault.Sink) plan output now Silent = WritesPart plan output now
TablesEnd (Err fault.OutOfMemory) plan output now Silent = Silent

pub record WritesTables (result : Result ⊤ TablesFault) (plan : PlanFields) (output now : OutputTold) (Silent : Type 0) : Type 0 where
  -- what was written
  pub ends : TablesEnd result plan output now Silent
  -- the output failed exactly where the answer says so
  pub rose : IsErrOf result fault.Sink → Rose output.faults now.faults
  pub kept : ¬ IsErrOf result fault.Sink → now.faults ≡ output.faults
