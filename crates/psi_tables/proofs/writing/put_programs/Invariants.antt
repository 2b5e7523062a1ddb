-- The programs from here on are left.
use Rattle.std.proofs.Common.{◌≡◌, ◌+◌, ◌*◌, length, drop}
use Rattle.std.specs.Prelude.{flat_map}
use Rattle.int_table.specs.Writing.{Leaves}
use Rattle.psi_spec.specs.Pat.{program_bytes}
use Rattle.psi_tables.proofs.writing.put_programs.Given as goal

abbrev pub invariant-loop-place : goal.invariant-loop-place
invariant-loop-place l = record {
  left : Leaves l.initial.into l.into l.initial.end l.end (flat_map program_bytes l.pat.programs) (flat_map program_bytes (drop l.place l.pat.programs));
  end_is : l.end ≡ l.initial.end + 4 * l.place;
  same : length l.into ≡ length l.initial.into;
}
