-- Programs, streams, and why nothing was read, in the code's words and in those of the definitions.
use Rattle.psi_spec.specs.Pat.{ProgramFields}
use Rattle.psi_spec.specs.Pmt.{StreamFields}
use Rattle.psi_tables.specs.declared.pat.Program.{Program}
use Rattle.psi_tables.specs.declared.pmt.Stream.{Stream}

abbrev pub program_seen : Program → ProgramFields
program_seen program = record { number = program.number; pid = program.pid }

abbrev pub stream_seen : Stream → StreamFields
stream_seen stream = record { pid = stream.pid; tag = stream.tag }
