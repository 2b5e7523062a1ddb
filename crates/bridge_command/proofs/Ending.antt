-- What stands after each end of a bridge.
use Rattle.std.proofs.Common.{◌≡◌, ℕ, List, Option, Some, None, Result, Ok, Err, IfSome, refl, subst, inl, inr, option_map}
use Rattle.std.specs.Bool.{⊤}
use Rattle.ipe_io.specs.Told.{InputTold, OutputTold}
use Rattle.pcap_file.specs.declared.captured.LinkType.{LinkType}
use Rattle.bridge_spec.specs.Frames.{BridgeCarrier}
use Rattle.capture_intake.specs.Wanted.{is_ethernet}
use Rattle.capture_intake.specs.Taken.{Intakes, IsToldBy}
use Rattle.capture_intake.specs.declared.faults.PlacedFault.{PlacedFault}
use Rattle.capture_intake.specs.declared.faults.CaptureReadFault.TheVariants as read
use Rattle.capture_intake.specs.declared.ends.CaptureEnd.TheVariants as ends
use Rattle.bridge_command.specs.Bridging.{Bridges, bridged_stream}
use Rattle.bridge_command.specs.Ended.{end_by}
use Rattle.bridge_command.specs.Tally.{IsBridgeTally}
use Rattle.bridge_command.specs.Writing.{Writes}
use Rattle.bridge_command.specs.declared.pieces.WriteFault.{WriteFault}
use Rattle.bridge_command.specs.declared.pieces.WriteFault.TheVariants as fault
use Rattle.bridge_command.specs.declared.ends.BridgeTally.{BridgeTally}

-- what holds where the input tells its bytes
of_told : (left : Option (List ℕ)) (bytes : List ℕ) (P : List ℕ → Type 0) → IfSome left P → left ≡ Some bytes → P bytes
of_told left bytes P h is = subst (λ (o : Option (List ℕ)). IfSome o P) is h

-- the input failed, or memory ran out before writing
pub bridges_source : (carrier : BridgeCarrier) (input now : InputTold) (output : OutputTold) (Silent : Type 0) (Took : LinkType → List (List ℕ) → Type 0) → Silent
    → Intakes is_ethernet (Err read.Source) input now Took → Bridges carrier ends.SourceFault input now output output Silent
bridges_source carrier input now output Silent Took silent intakes = record {
  stands = λ bytes is. tt;
  flushed = λ e. absurd (cc);
  unflushed = λ e. absurd (cc);
  unchanged = inr silent;
  reads = record { bytes = intakes.reads.bytes; takes = intakes.reads.takes; ahead = intakes.reads.ahead; fault = tt; source = λ _. intakes.reads.shows };
  read = λ e. absurd (cc);
  cut = tt;
  goes_on = λ _. intakes.goes_on refl;
  source = λ _. intakes.source refl;
  sink = λ e. absurd (cc);
  input_kept = λ not. absurd (not refl);
  output_kept = λ _. refl;
}

pub bridges_memory : (carrier : BridgeCarrier) (input now : InputTold) (output : OutputTold) (Silent : Type 0) (Took : LinkType → List (List ℕ) → Type 0) → Silent
    → Intakes is_ethernet (Err read.OutOfMemory) input now Took → Bridges carrier ends.OutOfMemory input now output output Silent
bridges_memory carrier input now output Silent Took silent intakes = record {
  stands = λ bytes is. tt;
  flushed = λ e. absurd (cc);
  unflushed = λ e. absurd (cc);
  unchanged = inr silent;
  reads = record { bytes = intakes.reads.bytes; takes = intakes.reads.takes; ahead = intakes.reads.ahead; fault = tt; source = λ e. absurd (cc) };
  read = λ e. absurd (cc);
  cut = tt;
  goes_on = λ e. absurd (cc);
  source = λ e. absurd (cc);
  sink = λ e. absurd (cc);
  input_kept = λ _. intakes.kept (λ e. cc);
  output_kept = λ _. refl;
}

-- all was read, and written as far as the output took it
pub bridges : (carrier : BridgeCarrier) (found : Option PlacedFault) (tally : BridgeTally) (w : Result ⊤ WriteFault) (Held : List (List ℕ) → Type 0)
    (input now : InputTold) (output written : OutputTold) (Silent : Type 0) → Intakes is_ethernet (Ok found) input now (λ link captured. Held captured)
    → ((captured : List (List ℕ)) → Held captured → IsBridgeTally carrier captured tally)
    → ((captured : List (List ℕ)) → Held captured → Writes w (bridged_stream carrier captured) output written Silent) → (Silent → written.faults ≡ output.faults)
    → Bridges carrier (end_by w found tally) input now output written Silent
bridges carrier None tally (Ok done) Held input now output written Silent intakes counts writes silent =
    let has = intakes.taken in
    let wrote = writes has.captured has.took in
    record {
      stands = λ bytes is.
          let told = of_told input.left bytes (λ bytes. IsToldBy is_ethernet bytes has.link has.captured None) has.told is in
          record { captured = has.captured; told = told.told; written = wrote.written; numbers = counts has.captured has.took };
      flushed = λ _. wrote.flushed;
      unflushed = λ e. absurd (cc);
      unchanged = inl refl;
      reads = record { bytes = intakes.reads.bytes; takes = intakes.reads.takes; ahead = intakes.reads.ahead; fault = tt; source = λ e. absurd (cc) };
      read = λ _. intakes.ended refl;
      cut = tt;
      goes_on = λ e. absurd (cc);
      source = λ e. absurd (cc);
      sink = λ e. absurd (cc);
      input_kept = λ _. intakes.kept (λ e. cc);
      output_kept = λ _. wrote.kept;
    }
bridges carrier (Some found) tally (Ok done) Held input now output written Silent intakes counts writes silent =
    let has = intakes.taken in
    let wrote = writes has.captured has.took in
    record {
      stands = λ bytes is.
          let told = of_told input.left bytes (λ bytes. IsToldBy is_ethernet bytes has.link has.captured (Some found)) has.told is in
          record { captured = has.captured; told = told.told; written = wrote.written; place_is = told.place_is };
      flushed = λ _. wrote.flushed;
      unflushed = λ e. absurd (cc);
      unchanged = inl refl;
      reads = record { bytes = intakes.reads.bytes; takes = intakes.reads.takes; ahead = intakes.reads.ahead; fault = intakes.reads.shows; source = λ e. absurd (cc) };
      read = λ e. absurd (cc);
      cut = intakes.cut;
      goes_on = λ e. absurd (cc);
      source = λ e. absurd (cc);
      sink = λ e. absurd (cc);
      input_kept = λ _. intakes.kept (λ e. cc);
      output_kept = λ _. wrote.kept;
    }
bridges carrier found tally (Err fault.Sink) Held input now output written Silent intakes counts writes silent =
    let has = intakes.taken in
    let wrote = writes has.captured has.took in
    record {
      stands = λ bytes is.
          let told = of_told input.left bytes (λ bytes. IsToldBy is_ethernet bytes has.link has.captured found) has.told is in
          record { captured = has.captured; fault = option_map (λ found. found.fault) found; told = told.told; count = wrote.count; written = wrote.written };
      flushed = λ e. absurd (cc);
      unflushed = λ _. wrote.unflushed;
      unchanged = inl refl;
      reads = record { bytes = intakes.reads.bytes; takes = intakes.reads.takes; ahead = intakes.reads.ahead; fault = tt; source = λ e. absurd (cc) };
      read = λ e. absurd (cc);
      cut = tt;
      goes_on = λ e. absurd (cc);
      source = λ e. absurd (cc);
      sink = λ _. wrote.rose;
      input_kept = λ _. intakes.kept (λ e. cc);
      output_kept = λ not. absurd (not refl);
    }
bridges carrier found tally (Err fault.OutOfMemory) Held input now output written Silent intakes counts writes silent =
    let has = intakes.taken in
    let none = writes has.captured has.took in
    record {
      stands = λ bytes is. tt;
      flushed = λ e. absurd (cc);
      unflushed = λ e. absurd (cc);
      unchanged = inr none;
      reads = record { bytes = intakes.reads.bytes; takes = intakes.reads.takes; ahead = intakes.reads.ahead; fault = tt; source = λ e. absurd (cc) };
      read = λ e. absurd (cc);
      cut = tt;
      goes_on = λ e. absurd (cc);
      source = λ e. absurd (cc);
      sink = λ e. absurd (cc);
      input_kept = λ _. intakes.kept (λ e. cc);
      output_kept = λ _. silent none;
    }
