-- A text that was written, and what a flush leaves of it; what the whole command has done by then.
use Rattle.std.proofs.Common.{◌≡◌, ℕ, List, length, take, Option, refl, sym, subst, arith, Ok, Err}
use Rattle.std.specs.Bool.{⊤}
use Rattle.std.specs.Io.KnownBytes.{Appends, Keeps}
use Rattle.std.proofs.KnownBytes.{Appends-kept}
use Rattle.std.proofs.Math.Seq.{take_all}
use Rattle.wire_spec.specs.Causes.{Rose}
use Rattle.wire_spec.specs.Content.{Stays}
use Rattle.ipe_io.specs.Told.{InputTold, OutputTold}
use Rattle.ipe_io.specs.Counts.{IsFlushed}
use Rattle.find_command.specs.declared.fault.FindFault.{FindFault}
use Rattle.find_command.specs.declared.fault.FindFault.TheVariants as fault
use Rattle.find_command.specs.Finding.{IsFoundIn, FindsText, Finds}

-- the flush failed: all of it is a prefix
pub written_unflushed : (a b c : Option (List ℕ)) (text : List ℕ) → Appends a b text → Keeps b c → (n : ℕ) × Appends a c (take n text)
written_unflushed a b c text written kept =
    (length text, subst (λ (t : List ℕ). Appends a c t) (sym (take_all (length text) text (omega arith))) (Appends-kept a b c text written kept))

-- there is no text, and nothing was written
pub found_none : {T : Type 0} (bytes_of : T → List ℕ) (pid : ℕ) (input now : InputTold) (output : OutputTold) (Unread Silent : Type 0) → Silent → (e : FindFault)
    → FindsText bytes_of (Err e) pid input now Unread → Finds (Err e) pid input now output output Unread Silent
found_none bytes_of pid input now output Unread Silent silent fault.Source r = record {
  ends = r.ends;
  unchanged = λ _. silent;
  input_rose = λ _. r.input_rose refl;
  input_kept = λ not. absurd (not refl);
  output_rose = λ other. absurd (cc);
  output_kept = λ _. refl;
}
found_none bytes_of pid input now output Unread Silent silent fault.Sink r = absurd r.ends
found_none bytes_of pid input now output Unread Silent silent fault.TooLong r = record {
  ends = r.ends;
  unchanged = λ _. silent;
  input_rose = λ other. absurd (cc);
  input_kept = λ _. r.input_kept (λ other. absurd (cc));
  output_rose = λ other. absurd (cc);
  output_kept = λ _. refl;
}
found_none bytes_of pid input now output Unread Silent silent fault.OutOfMemory r = record {
  ends = r.ends;
  unchanged = λ _. silent;
  input_rose = λ other. absurd (cc);
  input_kept = λ _. r.input_kept (λ other. absurd (cc));
  output_rose = λ other. absurd (cc);
  output_kept = λ _. refl;
}

-- it was written
pub found_all : {T : Type 0} (bytes_of : T → List ℕ) (found : T) (pid : ℕ) (input now : InputTold) (output now_output : OutputTold) (Unread Silent : Type 0) (done : ⊤)
    (text : List ℕ) → text ≡ bytes_of found → FindsText bytes_of (Ok found) pid input now Unread → Appends output.held now_output.held text
    → IsFlushed now_output.held now_output.flushed → now_output.faults ≡ output.faults → Finds (Ok done) pid input now output now_output Unread Silent
found_all bytes_of found pid input now output now_output Unread Silent done text is r written flushed kept = record {
  ends = record { text = text; found = subst (λ (t : List ℕ). IsFoundIn pid input now t) (sym is) r.ends; written = written; flushed = flushed };
  unchanged = λ _. tt;
  input_rose = λ other. absurd (cc);
  input_kept = λ _. r.input_kept (λ other. absurd (cc));
  output_rose = λ other. absurd (cc);
  output_kept = λ _. kept;
}

-- a part of it was
pub found_part : {T : Type 0} (bytes_of : T → List ℕ) (found : T) (pid : ℕ) (input now : InputTold) (output now_output : OutputTold) (Unread Silent : Type 0)
    (text : List ℕ) → text ≡ bytes_of found → FindsText bytes_of (Ok found) pid input now Unread → (n : ℕ) × Appends output.held now_output.held (take n text)
    → Stays output.flushed now_output.flushed → Rose output.faults now_output.faults → Finds (Err fault.Sink) pid input now output now_output Unread Silent
found_part bytes_of found pid input now output now_output Unread Silent text is r written stays rose = record {
  ends = record { text = text; found = subst (λ (t : List ℕ). IsFoundIn pid input now t) (sym is) r.ends; count = written.0; written = written.1; unflushed = stays };
  unchanged = λ not. absurd (not refl);
  input_rose = λ other. absurd (cc);
  input_kept = λ _. r.input_kept (λ other. absurd (cc));
  output_rose = λ _. rose;
  output_kept = λ not. absurd (not refl);
}
