use Rattle.std.proofs.Common.{◌≡◌, ℕ, ◌+◌, List, ◌++◌, length, drop, arith, ap₂, ◌∙◌, refl}
use Rattle.std.specs.Prelude.{flat_map}
use Rattle.int_table.specs.Writing.{Puts}
use Rattle.int_table.proofs.Puts.{puts_join, puts_same, leaves_less}
use Rattle.psi_spec.specs.Pat.{ProgramFields, program_bytes}
use Rattle.psi_tables.specs.Views.{program_seen}
use Rattle.psi_tables.proofs.Writes.{bytes_from}
use Rattle.psi_tables.proofs.writing.put_programs.Goals as goal

four : (program : ProgramFields) → length (program_bytes program) ≡ 4
four program = refl

pub loop-place-preserved : goal.loop-place-preserved
loop-place-preserved c =
    let programs : List ProgramFields = c.args.pat.now.programs in
    let program : ProgramFields = program_seen c.at-program.result.now in
    let both : Puts c.loop-place.into c.put_piece-end-in-loop-place.new.into c.loop-place.end c.put_piece-end-in-loop-place.result (program_bytes program) =
    puts_same c.loop-place.into c.put_piece-end-in-loop-place.new.into c.loop-place.end c.put_piece-end-in-loop-place.result
    (c.to_be_bytes.result ++ c.to_be_bytes-in-loop-place.result) (program_bytes program)
    (ap₂ (λ (a b : List ℕ). a ++ b) c.to_be_bytes.ensures c.to_be_bytes-in-loop-place.ensures)
    (puts_join c.loop-place.into c.put_piece-end.new.into c.put_piece-end-in-loop-place.new.into c.loop-place.end c.put_piece-end.result c.put_piece-end-in-loop-place.result
    c.to_be_bytes.result c.to_be_bytes-in-loop-place.result c.put_piece-end.ensures.put c.put_piece-end-in-loop-place.ensures.put) in
    record {
      left = leaves_less c.args.into.now c.loop-place.into c.put_piece-end-in-loop-place.new.into c.args.at c.loop-place.end c.put_piece-end-in-loop-place.result
          (flat_map program_bytes programs) (program_bytes program) (flat_map program_bytes (drop c.loop-place.place programs))
          (flat_map program_bytes (drop (c.loop-place.place + 1) programs)) c.loop-place.invariant.left
          (bytes_from program_bytes programs c.loop-place.place program c.at-program.ensures) both;
      end_is = omega (arith, both.size, four program, c.loop-place.invariant.end_is);
      same = c.put_piece-end-in-loop-place.ensures.same ∙ c.put_piece-end.ensures.same ∙ c.loop-place.invariant.same;
    }
