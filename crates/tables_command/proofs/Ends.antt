-- How the writing of tables ends.
use Rattle.std.proofs.Common.{◌≡◌, ℕ, List, length, take, Option, refl, sym, subst, arith, Ok, Err}
use Rattle.std.specs.Bool.{⊤}
use Rattle.std.specs.Io.KnownBytes.{Appends, Keeps}
use Rattle.std.proofs.KnownBytes.{Appends-kept}
use Rattle.std.proofs.Math.Seq.{take_all}
use Rattle.wire_spec.specs.Causes.{Rose}
use Rattle.wire_spec.specs.Content.{Stays}
use Rattle.ipe_io.specs.Told.{OutputTold}
use Rattle.ipe_io.specs.Counts.{IsFlushed}
use Rattle.plan_spec.specs.Plan.{PlanFields}
use Rattle.tables_command.specs.declared.writing.TablesFault.TheVariants as fault
use Rattle.tables_command.specs.Writing.{bytes_of_tables, WritesTables}

-- the flush failed: all is a prefix
pub written_unflushed : (a b c : Option (List ℕ)) (text : List ℕ) → Appends a b text → Keeps b c → (n : ℕ) × Appends a c (take n text)
written_unflushed a b c text written kept =
    (length text, subst (λ (t : List ℕ). Appends a c t) (sym (take_all (length text) text (omega arith))) (Appends-kept a b c text written kept))

pub lacks_memory : (plan : PlanFields) (output : OutputTold) (Silent : Type 0) → Silent → WritesTables (Err fault.OutOfMemory) plan output output Silent
lacks_memory plan output Silent silent = record { ends = silent; rose = λ other. absurd (cc); kept = λ _. refl }

pub wrote_part : (plan : PlanFields) (output now : OutputTold) (Silent : Type 0) (bytes : List ℕ) → bytes ≡ bytes_of_tables plan
    → (n : ℕ) × Appends output.held now.held (take n bytes) → Stays output.flushed now.flushed → Rose output.faults now.faults
    → WritesTables (Err fault.Sink) plan output now Silent
wrote_part plan output now Silent bytes are written stays rose = record {
  ends = record { count = written.0; written = subst (λ (b : List ℕ). Appends output.held now.held (take written.0 b)) are written.1; unflushed = stays };
  rose = λ _. rose;
  kept = λ not. absurd (not refl);
}

pub wrote_all : (plan : PlanFields) (output now : OutputTold) (Silent : Type 0) (done : ⊤) (bytes : List ℕ) → bytes ≡ bytes_of_tables plan
    → Appends output.held now.held bytes → IsFlushed now.held now.flushed → now.faults ≡ output.faults → WritesTables (Ok done) plan output now Silent
wrote_all plan output now Silent done bytes are written flushed kept = record {
  ends = record { written = subst (λ (b : List ℕ). Appends output.held now.held b) are written; flushed = flushed };
  rose = λ other. absurd (cc);
  kept = λ _. kept;
}
