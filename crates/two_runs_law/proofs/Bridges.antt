-- What a run of `bridge` put out, and what a run of `unbridge` added.
use Rattle.std.proofs.Common.{◌≡◌, ◌⊎◌, inl, inr, ℕ, ◌≤◌, true, List, [], ◌∷◌, map, flat_map, refl, ap, ◌∙◌, subst, arith}
use Rattle.std.proofs.lemmas.List.Folds.{flat_map-map}
use Rattle.wire_spec.specs.Lists.{IsCut, IsSubsequence}
use Rattle.wire_spec.specs.Content.{File}
use Rattle.ts_spec.specs.Recording.{Record, plain, records_of}
use Rattle.ts_spec.specs.Reassembly.{PlacedUnit, accepted_units}
use Rattle.ts_spec.specs.Packetized.{unit_at}
use Rattle.ts_spec.specs.Sndu.{sndu_form}
use Rattle.channel_law.proofs.Member.{contains_member}
use Rattle.channel_law.proofs.Sndu.{sndu_lawful}
use Rattle.channel_law.proofs.Spans.{whole_is_span}
use Rattle.channel_law.proofs.Subsequences.{subsequence_flat}
use Rattle.gse_law.proofs.ReceivedPdus.{delivers_intact}
use Rattle.intact_law.proofs.Chosen.{intact_among}
use Rattle.intact_law.proofs.Pdus.{pdus_delivered}
use Rattle.plan_spec.specs.Plan.{PlanFields}
use Rattle.plan_spec.specs.Given.{plan_of_pid}
use Rattle.capture_files.specs.Files.{file_with}
use Rattle.command_words.specs.Words.{AsksForBridge}
use Rattle.command_words.specs.declared.carrier.Carrier.{Carrier}
use Rattle.command_words.specs.declared.carrier.Carrier.TheVariants as carrier
use Rattle.bridge_spec.specs.Frames.{BridgeCarrier, on_pid, on_isi, frame_of_sndu, frame_of_pdu, size_of_piece, received_ethernet_frames}
use Rattle.bridge_spec.specs.Sending.{bridged_pieces}
use Rattle.bridge_spec.specs.Carried.{CarriesOnPid, CarriesOnIsi}
use Rattle.bridge_law.specs.Rooms.{HaveRoom}
use Rattle.bridge_law.proofs.Units.{arrives}
use Rattle.unbridge_command.specs.Unbridging.{bridge_name, bridge_capture}
use Rattle.ipencap_engine.specs.Jobs.{Job, to_bridge, to_unbridge, bridge_carrier}
use Rattle.ipencap_engine.specs.Laws.{DeliversFrames, DeliversIntactFrames}
use Rattle.ipencap_engine.specs.Made.{Made}
use Rattle.ipencap_engine.specs.Stands.{Stands, StandsWhole}
use Rattle.ipencap_engine.specs.declared.status.Status.{Status}
use Rattle.ipencap_engine.specs.declared.status.Status.TheVariants as status
use Rattle.two_runs_law.specs.Runs.{IsBridgeRun, IsUnbridgeRun}
use Rattle.two_runs_law.specs.Bridged.{AreBridgedBytes, CarriesOnCarrier}
use Rattle.two_runs_law.proofs.Known.{put_out, files_added}

-- A job of Ethernet frames reads no plan, so any stands for it.
abbrev any_plan : PlanFields
any_plan = plan_of_pid 0

module _ (on : Carrier) (capture bytes : List ℕ) (run : IsBridgeRun on capture bytes) where
  abbrev bridging : Job
  bridging = to_bridge on

  of_whole : (end : Status) → StandsWhole bridging any_plan capture end run.line run.before run.after → AreBridgedBytes (bridge_carrier on) capture bytes
  of_whole end whole = record {
    captured = (whole.makes).captured;
    fault = (whole.makes).fault;
    told = (whole.makes).told;
    bytes_are = put_out run.before run.after bytes (whole.made).output run.output whole.output ∙ ap (λ (m : Made). m.output) (whole.makes).made_is;
  }

  pub bridged : AreBridgedBytes (bridge_carrier on) capture bytes
  bridged = by_end run.ended (run.runs.stands any_plan capture tt run.capture_known)
    where
      by_end : (run.end ≡ status.Done) ⊎ (run.end ≡ status.Capture) → Stands bridging any_plan capture run.end run.line run.before run.after
          → AreBridgedBytes (bridge_carrier on) capture bytes
      by_end (inl done) stands = of_whole status.Done (subst (λ (e : Status). Stands bridging any_plan capture e run.line run.before run.after) done stands)
      by_end (inr fault) stands = of_whole status.Capture (subst (λ (e : Status). Stands bridging any_plan capture e run.line run.before run.after) fault stands)

-- the pieces of the recording, and the file of what these give
pub record AddsFrames (over : BridgeCarrier) (recording : List ℕ) (files : List File) : Type 0 where
  pub pieces : List (List ℕ)
  pub tail : List ℕ
  pub cut : IsCut (size_of_piece over) recording pieces tail
  pub files_are : files ≡ file_with true bridge_name (bridge_capture over pieces) ∷ []

pub unbridged : (on : Carrier) (recording : List ℕ) (files : List File) → IsUnbridgeRun on recording files → AddsFrames (bridge_carrier on) recording files
unbridged on recording files run =
    let whole : StandsWhole (to_unbridge on) any_plan recording status.Done run.line run.before run.after = run.runs.stands any_plan recording tt run.recording_known in
    record {
      pieces = (whole.makes).pieces;
      tail = (whole.makes).tail;
      cut = ((whole.makes).read).cut;
      files_are = files_added run.before run.after files (whole.made).files run.rack whole.files ∙ ap (λ (m : Made). m.files) (whole.makes).made_is;
    }

-- What is received.

pub arrived : (over : BridgeCarrier) (pieces : List (List ℕ)) → DeliversFrames over pieces (received_ethernet_frames over pieces)
arrived (on_pid pid) pieces = λ sent frames carries channel no_error.
    arrives (pid ∷ []) sent (records_of plain pieces) channel (records_of plain pieces) (whole_is_span (records_of plain pieces)) sndu_form frame_of_sndu pid
    (contains_member (pid ∷ []) pid (inl refl)) frames carries no_error
arrived (on_isi isi) pieces = λ sent frames carries channel no_error.
    delivers_intact (isi ∷ []) sent pieces channel isi (contains_member (isi ∷ []) isi (inl refl)) no_error frame_of_pdu [] frames carries

pub intact : (over : BridgeCarrier) (pieces : List (List ℕ)) → DeliversIntactFrames over pieces (received_ethernet_frames over pieces)
intact (on_pid pid) pieces = λ sent units begin packetized channel numbers are.
    let recorded : List Record = records_of plain pieces in
    subst (λ (l : List (List ℕ)). IsSubsequence l (received_ethernet_frames (on_pid pid) pieces)) (flat_map-map frame_of_sndu (unit_at units) numbers)
    (subst (λ (l : List (List ℕ)). IsSubsequence (flat_map frame_of_sndu (map (unit_at units) numbers)) l)
    (flat_map-map frame_of_sndu (λ (x : PlacedUnit). x.unit) (accepted_units sndu_form pid recorded))
    (subsequence_flat frame_of_sndu (map (unit_at units) numbers) (map (λ (x : PlacedUnit). x.unit) (accepted_units sndu_form pid recorded))
    (intact_among (pid ∷ []) sent recorded channel recorded (whole_is_span recorded) sndu_form pid (contains_member (pid ∷ []) pid (inl refl)) units begin
    (record { lawful = sndu_lawful; packetized = packetized }) numbers are.rising are.each)))
intact (on_isi isi) pieces = λ sent channel numbers are.
    pdus_delivered (isi ∷ []) sent pieces channel isi (contains_member (isi ∷ []) isi (inl refl)) numbers are.rising are.each frame_of_pdu []

-- What was sent, by carrier.

-- a PID has 13 bits
abbrev pub HasPidBits : BridgeCarrier → Type 0
HasPidBits (on_pid pid) = pid ≤ 8191
HasPidBits (on_isi isi) = Unit {0}

pub has_bits : (on : Carrier) (words : List (List ℕ)) → AsksForBridge words on → HasPidBits (bridge_carrier on)
has_bits (carrier.Ule pid) words asked = omega (arith, (asked.written).written.most)
has_bits (carrier.Gse isi) words asked = tt

pub on_carrier : (over : BridgeCarrier) (frames : List (List ℕ)) → HasPidBits over → HaveRoom over frames
    → ((pid : ℕ) (own : List (List ℕ)) → pid ≤ 8191 → HaveRoom (on_pid pid) own → CarriesOnPid pid (records_of plain (bridged_pieces (on_pid pid) own)) own)
    → ((isi : ℕ) (own : List (List ℕ)) → HaveRoom (on_isi isi) own → CarriesOnIsi isi (bridged_pieces (on_isi isi) own) own)
    → CarriesOnCarrier over (bridged_pieces over frames) frames
on_carrier (on_pid pid) frames bits room sndus pdus = sndus pid frames bits room
on_carrier (on_isi isi) frames bits room sndus pdus = pdus isi frames room

pub all_back : (over : BridgeCarrier) (frames : List (List ℕ)) → HasPidBits over → HaveRoom over frames
    → ((pid : ℕ) (own : List (List ℕ)) → pid ≤ 8191 → HaveRoom (on_pid pid) own → received_ethernet_frames (on_pid pid) (bridged_pieces (on_pid pid) own) ≡ own)
    → ((isi : ℕ) (own : List (List ℕ)) → HaveRoom (on_isi isi) own → received_ethernet_frames (on_isi isi) (bridged_pieces (on_isi isi) own) ≡ own)
    → received_ethernet_frames over (bridged_pieces over frames) ≡ frames
all_back (on_pid pid) frames bits room sndus pdus = sndus pid frames bits room
all_back (on_isi isi) frames bits room sndus pdus = pdus isi frames room
