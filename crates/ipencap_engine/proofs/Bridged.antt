-- Runs of `bridge`.
use Rattle.std.proofs.Common.{◌≡◌, ◌⊎◌, inl, inr, ℕ, true, false, List, [], refl, ap, ◌∙◌, None, Some, length}
use Rattle.ipe_io.specs.Told.{InputTold, OutputTold, ShelfTold, RackTold}
use Rattle.ipe_io.proofs.Told.{stays-refl}
use Rattle.pcap_file.specs.declared.faults.CaptureFault.{CaptureFault}
use Rattle.bridge_spec.specs.Frames.{BridgeCarrier}
use Rattle.bridge_spec.specs.Sending.{frames_to_carry, too_short_count, too_long_count}
use Rattle.capture_intake.specs.declared.ends.CaptureEnd.TheVariants as ends
use Rattle.bridge_command.specs.Bridging.{Bridges, bridged_stream}
use Rattle.bridge_command.specs.Tally.{IsBridgeTally}
use Rattle.bridge_command.specs.Lines.{bridge_tally_line}
use Rattle.bridge_command.specs.declared.ends.BridgeTally.{BridgeTally}
use Rattle.send_command.specs.Lines.{fault_line}
use Rattle.capture_files.proofs.Adding.{adds_none}
use Rattle.command_words.specs.declared.carrier.Carrier.{Carrier}
use Rattle.ipencap_engine.specs.Statuses.{status_line}
use Rattle.ipencap_engine.specs.World.{World, world, Object, the_shelf, the_input, the_output, the_rack}
use Rattle.ipencap_engine.specs.Jobs.{to_bridge, bridge_carrier, may_use}
use Rattle.ipencap_engine.specs.Made.{bridge_line, status_of_capture}
use Rattle.ipencap_engine.specs.Stands.{in_memory}
use Rattle.ipencap_engine.specs.Runs.{Runs}
use Rattle.ipencap_engine.specs.declared.status.Status.{Status}
use Rattle.ipencap_engine.specs.declared.status.Status.TheVariants.{Done, Capture, SourceFault, SinkFault, OutOfMemory}
use Rattle.ipencap_engine.proofs.Sent.{not_begun}
use Rattle.ipencap_engine.proofs.Settings.{unjudged, keeps_same, without_files}

-- the numbers of a tally are its line
numbers_are : (carrier : BridgeCarrier) (captured : List (List ℕ)) (tally : BridgeTally) → IsBridgeTally carrier captured tally
    → bridge_tally_line tally
    ≡ bridge_tally_line (record { offered = length (frames_to_carry carrier captured); too_short = too_short_count captured; too_long = too_long_count carrier captured })
numbers_are carrier captured tally is =
    ap (λ (n : ℕ). bridge_tally_line (record { offered = n; too_short = tally.too_short; too_long = tally.too_long })) is.offered
    ∙ ap (λ (n : ℕ). bridge_tally_line (record { offered = length (frames_to_carry carrier captured); too_short = n; too_long = tally.too_long })) is.too_short
    ∙ ap (λ (n : ℕ). bridge_tally_line (record { offered = length (frames_to_carry carrier captured); too_short = too_short_count captured; too_long = n })) is.too_long

module _ (on : Carrier) (shelf : ShelfTold) (input taken : InputTold) (output held : OutputTold) (rack : RackTold) (same : Object → Type 0)
    (of_shelf : same the_shelf) (of_rack : same the_rack) (Silent : Type 0) (silent : Silent → same the_output) where
  abbrev carrier : BridgeCarrier
  carrier = bridge_carrier on

  abbrev before : World
  before = world shelf input output rack

  abbrev after : World
  after = world shelf taken held rack

  used : (end : Status) → may_use (to_bridge on) end the_input ≡ true → same the_output ⊎ (may_use (to_bridge on) end the_output ≡ true)
      → (object : Object) → may_use (to_bridge on) end object ≡ false → same object
  used end reads writes the_shelf f = of_shelf
  used end reads writes the_input f = absurd (cc)
  used end reads (inl unwritten) the_output f = unwritten
  used end reads (inr writes) the_output f = absurd (cc)
  used end reads writes the_rack f = of_rack

  pub bridge_done : (tally : BridgeTally) → Bridges carrier (ends.Done tally) input taken output held Silent
      → Runs (to_bridge on) Done (bridge_tally_line tally) before after same
  bridge_done tally all =
      without_files (to_bridge on) Done (bridge_tally_line tally) before after same refl refl
      (unjudged (to_bridge on) Done before same refl (λ e. absurd (cc))) (used Done refl (inr refl))
      (record { shelf = keeps_same (to_bridge on) shelf; input = all.input_kept (λ e. absurd (cc)); output = all.output_kept (λ e. absurd (cc)); rack = refl }) (
        all.read refl,
        record { bytes = all.reads.bytes; takes = all.reads.takes; ahead = all.reads.ahead; shows = tt },
        λ bytes told. let s = all.stands bytes told in (s.captured, s.told),
      )
      (λ plan bytes is told. let s = all.stands bytes told in record {
        made = record { files = []; output = bridged_stream carrier s.captured; line = bridge_line carrier bytes s.captured None; status = Done };
        makes = record { captured = s.captured; fault = None; told = s.told; made_is = refl };
        files = adds_none rack.files;
        output = s.written;
        flushed = λ e. all.flushed refl;
        line_is = numbers_are carrier s.captured tally s.numbers;
        end_is = refl;
      })
      (λ plan is e. absurd (cc)) (tally, refl)

  pub bridge_to_fault : (fault : CaptureFault) (place : ℕ) → Bridges carrier (ends.Capture fault place) input taken output held Silent
      → Runs (to_bridge on) Capture (fault_line fault place) before after same
  bridge_to_fault fault place all =
      without_files (to_bridge on) Capture (fault_line fault place) before after same refl refl
      (unjudged (to_bridge on) Capture before same refl (λ e. absurd (cc))) (used Capture refl (inr refl))
      (record { shelf = keeps_same (to_bridge on) shelf; input = all.input_kept (λ e. absurd (cc)); output = all.output_kept (λ e. absurd (cc)); rack = refl })
      tt
      (λ plan bytes is told. let s = all.stands bytes told in record {
        made = record { files = []; output = bridged_stream carrier s.captured; line = bridge_line carrier bytes s.captured (Some fault); status = Capture };
        makes = record { captured = s.captured; fault = Some fault; told = s.told; made_is = refl };
        files = adds_none rack.files;
        output = s.written;
        flushed = λ e. all.flushed refl;
        line_is = ap (fault_line fault) s.place_is;
        end_is = refl;
      })
      (λ plan is e. absurd (cc)) (record {
        fault = fault;
        place = place;
        line_is = refl;
        shown = record { bytes = all.reads.bytes; takes = all.reads.takes; ahead = all.reads.ahead; shows = all.reads.fault };
        cut = all.cut;
      })

  pub bridge_sink_fault : Bridges carrier ends.SinkFault input taken output held Silent → Runs (to_bridge on) SinkFault (status_line SinkFault) before after same
  bridge_sink_fault all =
      without_files (to_bridge on) SinkFault (status_line SinkFault) before after same refl refl
      (unjudged (to_bridge on) SinkFault before same refl (λ e. absurd (cc))) (used SinkFault refl (inr refl))
      (record { shelf = keeps_same (to_bridge on) shelf; input = all.input_kept (λ e. absurd (cc)); output = all.sink refl; rack = refl })
      (record { bytes = all.reads.bytes; takes = all.reads.takes; ahead = all.reads.ahead; shows = tt })
      (λ plan bytes is told. let s = all.stands bytes told in record {
        made = record { files = []; output = bridged_stream carrier s.captured; line = bridge_line carrier bytes s.captured s.fault; status = status_of_capture s.fault };
        makes = record { captured = s.captured; fault = s.fault; told = s.told; made_is = refl };
        files = adds_none rack.files;
        count = s.count;
        output = s.written;
        unflushed = all.unflushed refl;
      })
      (λ plan is e. absurd (cc)) refl

  pub bridge_source_fault : Bridges carrier ends.SourceFault input taken output held Silent → Runs (to_bridge on) SourceFault (status_line SourceFault) before after same
  bridge_source_fault all =
      without_files (to_bridge on) SourceFault (status_line SourceFault) before after same refl refl
      (unjudged (to_bridge on) SourceFault before same refl (λ e. absurd (cc))) (used SourceFault refl (inl (silent (not_begun all.unchanged))))
      (record { shelf = keeps_same (to_bridge on) shelf; input = all.source refl; output = all.output_kept (λ e. absurd (cc)); rack = refl })
      (all.goes_on refl, record { bytes = all.reads.bytes; takes = all.reads.takes; ahead = all.reads.ahead; shows = all.reads.source refl })
      (λ plan bytes is told. tt) (λ plan is e. absurd (cc)) refl

  pub bridge_lacking : Bridges carrier ends.OutOfMemory input taken output held Silent → Runs (to_bridge on) OutOfMemory (status_line OutOfMemory) before after same
  bridge_lacking all =
      without_files (to_bridge on) OutOfMemory (status_line OutOfMemory) before after same refl refl
      (unjudged (to_bridge on) OutOfMemory before same refl (λ e. absurd (cc))) (used OutOfMemory refl (inl (silent (not_begun all.unchanged))))
      (record { shelf = keeps_same (to_bridge on) shelf; input = all.input_kept (λ e. absurd (cc)); output = all.output_kept (λ e. absurd (cc)); rack = refl })
      tt (λ plan bytes is told. tt) (λ plan is e. in_memory (λ files. absurd (cc)) refl (stays-refl rack.files)) refl
