-- What a relay ensures, end by end.
use Rattle.std.proofs.Common.{◌≡◌, inl, inr, ℕ, List, refl}
use Rattle.wire_spec.specs.Causes.{Rose}
use Rattle.wire_spec.specs.Content.{Stays}
use Rattle.ipe_io.specs.Told.{InputTold, OutputTold}
use Rattle.ipe_io.specs.Counts.{IsFlushed}
use Rattle.plan_spec.specs.Plan.{PlanFields}
use Rattle.send_command.specs.Writing.{WritesAll, WritesFront}
use Rattle.send_command.specs.declared.ends.Tally.{Tally}
use Rattle.recording_spec.specs.Relayed.{as_records}
use Rattle.relay_command.specs.Gathered.{FailsToRead, HasTooMany}
use Rattle.relay_command.specs.Relaying.{Receives, RelayLacksMemory, Relays}
use Rattle.relay_command.specs.declared.ends.RelayEnd.TheVariants as ends

module _ (inner outer : PlanFields) (input now : InputTold) (output : OutputTold) (Silent : Type 0) where
  pub ends_in_source : FailsToRead inner input now → Silent → Relays ends.SourceFault inner outer input now output output Silent
  ends_in_source fails silent = record {
    stands = fails;
    flushed = λ is. absurd (cc);
    unflushed = λ is. absurd (cc);
    unchanged = inr silent;
    sink = λ is. absurd (cc);
    input_kept = λ other. absurd (other refl);
    output_kept = λ other. refl;
  }

  pub ends_too_long : HasTooMany inner input now → now.faults ≡ input.faults → Silent → Relays ends.TooLong inner outer input now output output Silent
  ends_too_long many kept silent = record {
    stands = many;
    flushed = λ is. absurd (cc);
    unflushed = λ is. absurd (cc);
    unchanged = inr silent;
    sink = λ is. absurd (cc);
    input_kept = λ other. kept;
    output_kept = λ other. refl;
  }

  module _ (written : OutputTold) (kept : now.faults ≡ input.faults) where
    pub lacks_memory : RelayLacksMemory inner input now → written.faults ≡ output.faults → Silent → Relays ends.OutOfMemory inner outer input now output written Silent
    lacks_memory lacks same silent = record {
      stands = lacks;
      flushed = λ is. absurd (cc);
      unflushed = λ is. absurd (cc);
      unchanged = inr silent;
      sink = λ is. absurd (cc);
      input_kept = λ other. kept;
      output_kept = λ other. same;
    }

    pub ends_done : (datagrams : List (List ℕ)) (tally : Tally) → Receives inner input now datagrams → WritesAll outer (as_records datagrams) tally output.held written.held
        → IsFlushed written.held written.flushed → written.faults ≡ output.faults → Relays (ends.Done tally) inner outer input now output written Silent
    ends_done datagrams tally receives writes flushed same = record {
      stands = record { datagrams = datagrams; receives = receives; writes = writes };
      flushed = λ is. flushed;
      unflushed = λ is. absurd (cc);
      unchanged = inl refl;
      sink = λ is. absurd (cc);
      input_kept = λ other. kept;
      output_kept = λ other. same;
    }

    pub ends_in_sink : (datagrams : List (List ℕ)) → Receives inner input now datagrams → WritesFront outer (as_records datagrams) output.held written.held
        → Stays output.flushed written.flushed → Rose output.faults written.faults → Relays ends.SinkFault inner outer input now output written Silent
    ends_in_sink datagrams receives writes stays rose = record {
      stands = record { datagrams = datagrams; receives = receives; writes = writes };
      flushed = λ is. absurd (cc);
      unflushed = λ is. stays;
      unchanged = inl refl;
      sink = λ is. rose;
      input_kept = λ other. kept;
      output_kept = λ other. absurd (other refl);
    }
