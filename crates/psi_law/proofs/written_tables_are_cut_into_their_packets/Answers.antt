use Rattle.std.proofs.Common.{[]}
use Rattle.psi_spec.specs.Tables.{table_packets_of}
use Rattle.tables_command.specs.Writing.{bytes_of_tables}
use Rattle.psi_law.proofs.CutTables.{tables_cut}
use Rattle.psi_law.proofs.written_tables_are_cut_into_their_packets.Goals as goal

pub returns : goal.returns
returns c = record {
  cut = tables_cut;
  one = λ plan pieces tail cut. (
    c.cuts_are_unique.ensures.pieces 188 (bytes_of_tables plan) pieces (table_packets_of plan) tail [] cut (tables_cut plan),
    c.cuts_are_unique.ensures.tail 188 (bytes_of_tables plan) pieces (table_packets_of plan) tail [] cut (tables_cut plan),
  );
}
