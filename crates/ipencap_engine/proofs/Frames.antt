-- Ethernet frames that are received: what arrived of those sent, whatever others carry; and what stands of them in the file.
use Rattle.std.proofs.Common.{◌≡◌, ◌≢◌, inl, ℕ, true, List, [], ◌∷◌, map, flat_map, refl, sym, subst}
use Rattle.std.proofs.lemmas.List.Folds.{flat_map-map}
use Rattle.wire_spec.specs.Lists.{IsSubsequence}
use Rattle.wire_spec.specs.Content.{Stays}
use Rattle.ipe_io.specs.Told.{RackTold}
use Rattle.ipe_io.proofs.Told.{stays-refl}
use Rattle.ts_spec.specs.Recording.{plain, records_of, Record}
use Rattle.ts_spec.specs.Reassembly.{PlacedUnit, accepted_units}
use Rattle.ts_spec.specs.Packetized.{unit_at}
use Rattle.channel_law.proofs.Subsequences.{subsequence_flat}
use Rattle.channel_law.proofs.Sndu.{sndu_lawful}
use Rattle.intact_law.proofs.Chosen.{intact_among}
use Rattle.intact_law.proofs.Pdus.{pdus_delivered}
use Rattle.ts_spec.specs.Sndu.{sndu_form}
use Rattle.channel_law.proofs.Member.{contains_member}
use Rattle.channel_law.proofs.Spans.{whole_is_span}
use Rattle.channel_law.proofs.Isolation.{carried_same}
use Rattle.gse_law.proofs.ReceivedPdus.{delivers_intact}
use Rattle.gse_law.proofs.Isolation.{delivered_by_itself}
use Rattle.pcap_file.specs.Capture.{ethernet_capture}
use Rattle.bridge_spec.specs.Frames.{BridgeCarrier, on_pid, on_isi, frame_of_sndu, frame_of_pdu, received_ethernet_frames}
use Rattle.bridge_law.proofs.Units.{arrives}
use Rattle.unbridge_command.specs.Unbridging.{bridge_capture, AddsBridge}
use Rattle.unbridge_command.specs.Parts.{HasBridgePart}
use Rattle.ipencap_engine.specs.World.{World}
use Rattle.ipencap_engine.specs.Jobs.{Job}
use Rattle.ipencap_engine.specs.Laws.{TellsFrames, DeliversFrames, DeliversIntactFrames, FramesArrive, SameOnCarrier}
use Rattle.ipencap_engine.specs.declared.status.Status.{Status}
use Rattle.ipencap_engine.specs.declared.status.Status.TheVariants.{Done}

-- what is received is what arrived of what was sent
delivered : (carrier : BridgeCarrier) (pieces : List (List ℕ)) → DeliversFrames carrier pieces (received_ethernet_frames carrier pieces)
delivered (on_pid pid) pieces = λ sent frames carries channel no_error.
    arrives (pid ∷ []) sent (records_of plain pieces) channel (records_of plain pieces) (whole_is_span (records_of plain pieces)) sndu_form frame_of_sndu pid
    (contains_member (pid ∷ []) pid (inl refl)) frames carries no_error
delivered (on_isi isi) pieces = λ sent frames carries channel no_error.
    delivers_intact (isi ∷ []) sent pieces channel isi (contains_member (isi ∷ []) isi (inl refl)) no_error frame_of_pdu [] frames carries

-- those that arrived intact are received
intact_delivered : (carrier : BridgeCarrier) (pieces : List (List ℕ)) → DeliversIntactFrames carrier pieces (received_ethernet_frames carrier pieces)
intact_delivered (on_pid pid) pieces = λ sent units begin packetized channel intact are.
    let recorded : List Record = records_of plain pieces in
    subst (λ (l : List (List ℕ)). IsSubsequence l (received_ethernet_frames (on_pid pid) pieces)) (flat_map-map frame_of_sndu (unit_at units) intact)
    (subst (λ (l : List (List ℕ)). IsSubsequence (flat_map frame_of_sndu (map (unit_at units) intact)) l)
    (flat_map-map frame_of_sndu (λ (x : PlacedUnit). x.unit) (accepted_units sndu_form pid recorded))
    (subsequence_flat frame_of_sndu (map (unit_at units) intact) (map (λ (x : PlacedUnit). x.unit) (accepted_units sndu_form pid recorded))
    (intact_among (pid ∷ []) sent recorded channel recorded (whole_is_span recorded) sndu_form pid (contains_member (pid ∷ []) pid (inl refl)) units begin
    (record { lawful = sndu_lawful; packetized = packetized }) intact are.rising are.each)))
intact_delivered (on_isi isi) pieces = λ sent channel intact are.
    pdus_delivered (isi ∷ []) sent pieces channel isi (contains_member (isi ∷ []) isi (inl refl)) intact are.rising are.each frame_of_pdu []

-- and does not depend on others
received_alike : (carrier : BridgeCarrier) (pieces others : List (List ℕ)) → SameOnCarrier carrier pieces others
    → received_ethernet_frames carrier pieces ≡ received_ethernet_frames carrier others
received_alike (on_pid pid) pieces others same = carried_same pid (records_of plain pieces) (records_of plain others) same sndu_form frame_of_sndu
received_alike (on_isi isi) pieces others same = delivered_by_itself frame_of_pdu [] isi pieces others same

-- What stands of a told recording: at every end a file that is part of what it gives, or none, and at Done all of it.

abbrev pub HasFramesPart : Job → World → World → Type 0
HasFramesPart job before after =
    (carrier : BridgeCarrier) (pieces : List (List ℕ)) → TellsFrames job before carrier pieces → HasBridgePart (bridge_capture carrier pieces) before.rack.files after.rack.files

abbrev pub HasFramesWhole : Job → Status → World → World → Type 0
HasFramesWhole job end before after =
    (carrier : BridgeCarrier) (pieces : List (List ℕ)) → TellsFrames job before carrier pieces → end ≡ Done
    → AddsBridge true (bridge_capture carrier pieces) before.rack.files after.rack.files

pub frames_come : (job : Job) (end : Status) (before after : World) → HasFramesPart job before after → HasFramesWhole job end before after
    → (carrier : BridgeCarrier) (pieces : List (List ℕ)) → TellsFrames job before carrier pieces → FramesArrive carrier pieces end before after
frames_come job end before after part whole carrier pieces tells = record {
  received = received_ethernet_frames carrier pieces;
  intact = intact_delivered carrier pieces;
  arrived = delivered carrier pieces;
  whole = whole carrier pieces tells;
  front = part carrier pieces tells;
}

pub frames_by_themselves : (job : Job) (end : Status) (before after : World) → HasFramesWhole job end before after
    → (carrier : BridgeCarrier) (pieces others : List (List ℕ)) → TellsFrames job before carrier pieces → SameOnCarrier carrier pieces others → end ≡ Done
    → AddsBridge true (bridge_capture carrier others) before.rack.files after.rack.files
frames_by_themselves job end before after whole carrier pieces others tells same done =
    subst (λ (frames : List (List ℕ)). AddsBridge true (ethernet_capture frames) before.rack.files after.rack.files) (received_alike carrier pieces others same)
    (whole carrier pieces tells done)

-- no file was added
pub frames_of_none : (job : Job) (end : Status) (before after : World) → after.rack ≡ before.rack → end ≢ Done
    → (carrier : BridgeCarrier) (pieces : List (List ℕ)) → TellsFrames job before carrier pieces → FramesArrive carrier pieces end before after
frames_of_none job end before after same other =
    frames_come job end before after
    (λ carrier pieces tells. inl (subst (λ (r : RackTold). Stays before.rack.files r.files) (sym same) (stays-refl before.rack.files)))
    (λ carrier pieces tells done. absurd (other done))
