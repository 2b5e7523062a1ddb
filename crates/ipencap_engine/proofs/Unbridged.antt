-- Runs of `unbridge`.
use Rattle.std.proofs.Common.{◌≡◌, ◌≢◌, ◌⊎◌, inl, inr, ℕ, true, false, List, [], ◌∷◌, refl, subst, Option, None, Some, Result, Ok, Err}
use Rattle.std.specs.Bool.{⊤}
use Rattle.wire_spec.specs.Lists.{IsCut}
use Rattle.wire_spec.specs.Content.{File, AddsFile}
use Rattle.ts_record.proofs.Cuts.{one_cut}
use Rattle.ipe_io.specs.Told.{InputTold, OutputTold, ShelfTold, RackTold}
use Rattle.plan_spec.specs.Plan.{PlanFields}
use Rattle.bridge_spec.specs.Frames.{BridgeCarrier, size_of_piece}
use Rattle.capture_files.specs.Files.{file_with, AddsFiles}
use Rattle.capture_files.specs.declared.faults.ReceiveFault.{ReceiveFault}
use Rattle.capture_files.specs.declared.faults.ReceiveFault.TheVariants as fault
use Rattle.unbridge_command.specs.Unbridging.{EndsWhole, Unbridges, AddsBridge, bridge_name, bridge_capture}
use Rattle.unbridge_command.specs.Parts.{HasBridgePart}
use Rattle.unbridge_command.proofs.Prefixes.{bridge_part}
use Rattle.command_words.specs.declared.carrier.Carrier.{Carrier}
use Rattle.ipencap_engine.specs.Statuses.{status_line, status_of_fault}
use Rattle.ipencap_engine.specs.World.{World, world, Object, the_shelf, the_input, the_output, the_rack}
use Rattle.ipencap_engine.specs.Jobs.{a_recording, a_relayed, an_ethernet_recording, to_unbridge, bridge_carrier, may_end, may_use}
use Rattle.ipencap_engine.specs.Counts.{CountsFaults}
use Rattle.ipencap_engine.specs.Reads.{ReadsFrames}
use Rattle.ipencap_engine.specs.Stands.{Stands, LacksMemory, in_memory}
use Rattle.ipencap_engine.specs.Lines.{IsLine}
use Rattle.ipencap_engine.specs.Runs.{Runs}
use Rattle.ipencap_engine.specs.declared.status.Status.{Status}
use Rattle.ipencap_engine.specs.declared.status.Status.TheVariants.{Done, Settings, SourceFault, RackFault, OutOfMemory, TooLong}
use Rattle.ipencap_engine.proofs.Frames.{HasFramesPart, HasFramesWhole, frames_come, frames_by_themselves}
use Rattle.ipencap_engine.proofs.Received.{read_cut, appends_none}
use Rattle.ipencap_engine.proofs.Settings.{done_line, unjudged, keeps_same}

adds_one : (old new : Option (List File)) (file : File) → AddsFile old new file → AddsFiles old new (file ∷ [])
adds_one None new file added = tt
adds_one (Some old) None file added = absurd added
adds_one (Some old) (Some new) file added = added

module _ (on : Carrier) (shelf : ShelfTold) (input taken : InputTold) (output : OutputTold) (rack racked : RackTold) (same : Object → Type 0)
    (of_shelf : same the_shelf) (of_output : same the_output) (Unread : Type 0) (of_input : Unread → same the_input) (unread : Unread → taken ≡ input) where
  abbrev carrier : BridgeCarrier
  carrier = bridge_carrier on

  abbrev before : World
  before = world shelf input output rack

  abbrev after : World
  after = world shelf taken output racked

  -- parts and the whole of the told recording
  part : (result : Result ⊤ ReceiveFault) → Unbridges result carrier input taken rack racked Unread → HasFramesPart (to_unbridge on) before after
  part result all other pieces tells =
      let e : carrier ≡ other = one_carrier other tells.reads in
      subst (λ (c : BridgeCarrier). IsCut (size_of_piece c) tells.bytes pieces tells.tail → HasBridgePart (bridge_capture c pieces) rack.files racked.files) e
      (λ cut. bridge_part result carrier input taken rack racked Unread tells.bytes pieces tells.tail all tells.told cut) tells.cut
    where
      one_carrier : (c : BridgeCarrier) → an_ethernet_recording carrier ≡ an_ethernet_recording c → carrier ≡ c
      one_carrier c same_intake = cc

  whole : (ends : EndsWhole carrier input.left taken.left rack.files racked.files) (end : Status) → HasFramesWhole (to_unbridge on) end before after
  whole ends end other pieces tells done =
      let e : carrier ≡ other = one_carrier other tells.reads in
      subst (λ (c : BridgeCarrier). IsCut (size_of_piece c) tells.bytes pieces tells.tail → AddsBridge true (bridge_capture c pieces) rack.files racked.files) e
      (λ cut. subst (λ (ps : List (List ℕ)). AddsBridge true (bridge_capture carrier ps) rack.files racked.files)
      ((one_cut (size_of_piece carrier) tells.bytes ends.pieces pieces ends.tail tells.tail
      (read_cut (size_of_piece carrier) input.left taken.left tells.bytes ends.pieces ends.tail tells.told ends.read ends.at_end) cut).0) ends.file) tells.cut
    where
      one_carrier : (c : BridgeCarrier) → an_ethernet_recording carrier ≡ an_ethernet_recording c → carrier ≡ c
      one_carrier c same_intake = cc

  used : (end : Status) → same the_input ⊎ (may_use (to_unbridge on) end the_input ≡ true) → may_use (to_unbridge on) end the_rack ≡ true
      → (object : Object) → may_use (to_unbridge on) end object ≡ false → same object
  used end reads adds the_shelf f = of_shelf
  used end (inl unused) adds the_input f = unused
  used end (inr reads) adds the_input f = absurd (cc)
  used end reads adds the_output f = of_output
  used end reads adds the_rack f = absurd (cc)

  no_datagrams : an_ethernet_recording carrier ≡ a_recording → ⊥
  no_datagrams e = cc

  no_relay : an_ethernet_recording carrier ≡ a_relayed → ⊥
  no_relay e = cc

  reception : (end : Status) (line : List ℕ) → may_end (to_unbridge on) end ≡ true → end ≢ Settings
      → same the_input ⊎ (may_use (to_unbridge on) end the_input ≡ true) → may_use (to_unbridge on) end the_rack ≡ true
      → CountsFaults (to_unbridge on) end before after → ReadsFrames carrier end before after
      → ((plan : PlanFields) (bytes : List ℕ) → input.left ≡ Some bytes → Stands (to_unbridge on) plan bytes end line before after)
      → ((plan : PlanFields) → end ≡ OutOfMemory → LacksMemory (to_unbridge on) plan before after) → IsLine (to_unbridge on) end line before after
      → HasFramesPart (to_unbridge on) before after → HasFramesWhole (to_unbridge on) end before after → Runs (to_unbridge on) end line before after same
  reception end line ends other reads adds counts takes stands memory line_is some all = record {
    ends = ends;
    settings = unjudged (to_unbridge on) end before same refl other;
    unused = used end reads adds;
    counts = counts;
    reads = takes;
    stands = λ plan bytes is told. stands plan bytes told;
    memory = λ plan is e. memory plan e;
    line_is = line_is;
    loss = λ plan pieces tells packets. absurd (no_datagrams tells.reads);
    loss_in_frames = λ plan frames tells baseband. absurd (no_datagrams tells.reads);
    isolation = λ plan pieces tells packets recordings alike e. absurd (no_datagrams tells.reads);
    isolation_in_frames = λ plan frames tells baseband recordings alike e. absurd (no_datagrams tells.reads);
    loss_of_relay = λ plan pieces tells. absurd (no_relay tells.reads);
    loss_of_ethernet_frames = frames_come (to_unbridge on) end before after some all;
    isolation_of_ethernet_frames = frames_by_themselves (to_unbridge on) end before after all;
  }

  pub unbridge_done : (done : ⊤) → Unbridges (Ok done) carrier input taken rack racked Unread → Runs (to_unbridge on) Done (status_line Done) before after same
  unbridge_done done all =
      let ends = all.ends.0 in
      reception Done (status_line Done) refl (λ e. absurd (cc)) (inr refl) refl
      (record { shelf = keeps_same (to_unbridge on) shelf; input = all.input_faults.kept (λ f. absurd (cc)); output = refl; rack = all.rack_faults.kept (λ f. absurd (cc)) })
      (all.ends.1, all.ends.2)
      (λ plan bytes told. record {
        made = record { files = file_with true bridge_name (bridge_capture carrier ends.pieces) ∷ []; output = []; line = []; status = Done };
        makes = record {
          pieces = ends.pieces;
          tail = ends.tail;
          read = record {
            cut = read_cut (size_of_piece carrier) input.left taken.left bytes ends.pieces ends.tail told ends.read ends.at_end;
            fewer = ends.fewer;
            at_end = ends.at_end;
          };
          made_is = refl;
        };
        files = adds_one rack.files racked.files (file_with true bridge_name (bridge_capture carrier ends.pieces)) ends.file;
        output = appends_none output.held;
        flushed = λ e. absurd (cc);
        line_is = done_line;
        end_is = refl;
      })
      (λ plan e. absurd (cc)) done_line (part (Ok done) all) (whole ends Done)

  pub unbridge_fails : (why : ReceiveFault) → Unbridges (Err why) carrier input taken rack racked Unread
      → Runs (to_unbridge on) (status_of_fault why) (status_line (status_of_fault why)) before after same
  unbridge_fails fault.Source all =
      reception SourceFault (status_line SourceFault) refl (λ e. absurd (cc)) (inr refl) refl
      (record { shelf = keeps_same (to_unbridge on) shelf; input = all.input_faults.rose refl; output = refl; rack = all.rack_faults.kept (λ f. absurd (cc)) })
      (all.ends.1, all.ends.2) (λ plan bytes told. all.ends.0) (λ plan e. absurd (cc)) refl (part (Err fault.Source) all) (λ c pieces tells done. absurd (cc))
  unbridge_fails fault.Sink all = absurd all.ends
  unbridge_fails fault.Rack all =
      reception RackFault (status_line RackFault) refl (λ e. absurd (cc)) (inr refl) refl
      (record { shelf = keeps_same (to_unbridge on) shelf; input = all.input_faults.kept (λ f. absurd (cc)); output = refl; rack = all.rack_faults.rose refl })
      (all.ends.1, all.ends.2) (λ plan bytes told. all.ends.0) (λ plan e. absurd (cc)) refl (part (Err fault.Rack) all) (λ c pieces tells done. absurd (cc))
  unbridge_fails fault.TooLong all =
      reception TooLong (status_line TooLong) refl (λ e. absurd (cc)) (inr refl) refl
      (record { shelf = keeps_same (to_unbridge on) shelf; input = all.input_faults.kept (λ f. absurd (cc)); output = refl; rack = all.rack_faults.kept (λ f. absurd (cc)) })
      (all.ends.1, all.ends.2) (λ plan bytes told. all.ends.0) (λ plan e. absurd (cc)) refl (part (Err fault.TooLong) all) (λ c pieces tells done. absurd (cc))
  unbridge_fails fault.OutOfMemory all =
      reception OutOfMemory (status_line OutOfMemory) refl (λ e. absurd (cc)) (inl (of_input all.ends.0)) refl
      (record { shelf = keeps_same (to_unbridge on) shelf; input = all.input_faults.kept (λ f. absurd (cc)); output = refl; rack = all.rack_faults.kept (λ f. absurd (cc)) })
      (unread all.ends.0) (λ plan bytes told. tt) (λ plan e. in_memory (λ r. unread all.ends.0) all.ends.1 all.ends.2) refl (part (Err fault.OutOfMemory) all) (λ c pieces tells done. absurd (cc))
