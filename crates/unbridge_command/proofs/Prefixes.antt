-- However it ends, the file has a prefix of the capture of what the whole told input gives.
use Rattle.std.proofs.Common.{◌≡◌, inl, inr, ℕ, ◌<◌, Bool, true, false, List, [], ◌∷◌, ◌++◌, length, take, drop, refl, ap, sym, ◌∙◌, append_assoc, length-append, arith, Option, None, Some, All, Result, Ok, Err}
use Rattle.std.specs.Bool.{⊤}
use Rattle.std.specs.List.{flat_map}
use Rattle.std.specs.Io.KnownBytes.{Consumes}
use Rattle.std.proofs.lemmas.List.{take_at, drop_at, take-append-le, take-append-drop}
use Rattle.std.proofs.lemmas.List.Elements.{All-head, All-tail}
use Rattle.std.proofs.lemmas.Grind.{flat_map-append}
use Rattle.wire_spec.specs.Content.{File}
use Rattle.wire_spec.specs.Lists.{joined, IsCut}
use Rattle.ipe_io.specs.Told.{InputTold, RackTold}
use Rattle.pcap_file.specs.Capture.{ethernet_head, ethernet_capture, capture_record}
use Rattle.bridge_spec.specs.Frames.{BridgeCarrier, size_of_piece, received_ethernet_frames}
use Rattle.capture_files.specs.declared.faults.ReceiveFault.{ReceiveFault}
use Rattle.capture_files.specs.declared.faults.ReceiveFault.TheVariants as fault
use Rattle.capture_files.specs.Files.{file_with, AddsPartOf}
use Rattle.recording_reader.specs.Taken.{HasRead}
use Rattle.unbridge_command.specs.Unbridging.{Unbridges, AddsBridge, EndsInFile, in_head, in_frame, in_flush, bridge_name, bridge_capture}
use Rattle.unbridge_command.specs.Parts.{HasBridgePart}
use Rattle.unbridge_command.proofs.Frames.{frames_go_on}

-- Pieces that were read are the first ones of all.

-- pieces of one size and a tail, of which the first bytes are these pieces
first_pieces : (size : ℕ) (read pieces : List (List ℕ)) (rest tail : List ℕ) → All (λ piece. length piece ≡ size) read → All (λ piece. length piece ≡ size) pieces
    → length tail < size → joined read ++ rest ≡ joined pieces ++ tail → (others : List (List ℕ)) × (pieces ≡ read ++ others)
first_pieces size [] pieces rest tail of_read of_pieces short e = (pieces, refl)
first_pieces size (x ∷ read) [] rest tail of_read of_pieces short e =
    absurd (omega (arith, ap length (sym (append_assoc x (joined read) rest) ∙ e), length-append x (joined read ++ rest), All-head (λ piece. length piece ≡ size) x read of_read, short))
first_pieces size (x ∷ read) (y ∷ pieces) rest tail of_read of_pieces short e =
    let both : x ++ (joined read ++ rest) ≡ y ++ (joined pieces ++ tail) = sym (append_assoc x (joined read) rest) ∙ e ∙ append_assoc y (joined pieces) tail in
    let of_x : length x ≡ size = All-head (λ piece. length piece ≡ size) x read of_read in
    let of_y : length y ≡ size = All-head (λ piece. length piece ≡ size) y pieces of_pieces in
    let same : x ≡ y = sym (take_at x (joined read ++ rest) size of_x) ∙ ap (take size) both ∙ take_at y (joined pieces ++ tail) size of_y in
    let behind : joined read ++ rest ≡ joined pieces ++ tail = sym (drop_at x (joined read ++ rest) size of_x) ∙ ap (drop size) both ∙ drop_at y (joined pieces ++ tail) size of_y in
    let more : (others : List (List ℕ)) × (pieces ≡ read ++ others) =
    first_pieces size read pieces rest tail (All-tail (λ piece. length piece ≡ size) x read of_read) (All-tail (λ piece. length piece ≡ size) y pieces of_pieces) short behind in
    (more.0, ap (λ (t : List (List ℕ)). y ∷ t) more.1 ∙ ap (λ (h : List ℕ). h ∷ (read ++ more.0)) (sym same))

-- the bytes of an input that were read stand in front
bytes_read : (bytes : List ℕ) (left now : Option (List ℕ)) (front : List ℕ) → left ≡ Some bytes → Consumes left now front → (rest : List ℕ) × (bytes ≡ front ++ rest)
bytes_read bytes None now front e h = absurd (cc)
bytes_read bytes (Some xs) None front e h = absurd h
bytes_read bytes (Some xs) (Some ys) front e h = (ys, (let same : xs ≡ bytes = cc in sym same ∙ h))

pieces_read : (size : ℕ) (bytes : List ℕ) (left now : Option (List ℕ)) (read pieces : List (List ℕ)) (behind tail : List ℕ) → left ≡ Some bytes
    → HasRead size left now read behind → IsCut size bytes pieces tail → (others : List (List ℕ)) × (pieces ≡ read ++ others)
pieces_read size bytes left now read pieces behind tail told has cut =
    let rest : (rest : List ℕ) × (bytes ≡ (joined read ++ behind) ++ rest) = bytes_read bytes left now (joined read ++ behind) told has.consumed in
    first_pieces size read pieces (behind ++ rest.0) tail has.each cut.each cut.short (sym (append_assoc (joined read) behind rest.0) ∙ sym rest.1 ∙ cut.whole)

-- Prefixes.

capture_goes_on : (frames more : List (List ℕ)) → ethernet_capture (frames ++ more) ≡ ethernet_capture frames ++ flat_map capture_record more
capture_goes_on frames more =
    ap (λ (t : List ℕ). ethernet_head ++ t) (flat_map-append capture_record frames more)
    ∙ sym (append_assoc ethernet_head (flat_map capture_record frames) (flat_map capture_record more))

take_front : (front more : List ℕ) → front ≡ take (length front) (front ++ more)
take_front front more = sym (take_at front more (length front) refl)

-- a file with a text that goes on to the whole
part_of : (is_flushed : Bool) (text more whole : List ℕ) (old new : Option (List File)) → whole ≡ text ++ more → AddsBridge is_flushed text old new → HasBridgePart whole old new
part_of is_flushed text more whole old new goes_on added = inr (record {
  file = file_with is_flushed bridge_name text;
  part = record { name_is = refl; count = length text; bytes = take_front text more ∙ ap (take (length text)) (sym goes_on) };
  added = added;
})

module _ (carrier : BridgeCarrier) (left now : Option (List ℕ)) (old new : Option (List File)) (bytes : List ℕ) (pieces : List (List ℕ)) (tail : List ℕ)
    (told : left ≡ Some bytes) (cut : IsCut (size_of_piece carrier) bytes pieces tail) where
  -- the capture of the pieces that were read, whole
  part_of_read : (is_flushed : Bool) (read : List (List ℕ)) (behind : List ℕ) → HasRead (size_of_piece carrier) left now read behind
      → AddsBridge is_flushed (bridge_capture carrier read) old new → HasBridgePart (bridge_capture carrier pieces) old new
  part_of_read is_flushed read behind has added =
      let more : (others : List (List ℕ)) × (pieces ≡ read ++ others) = pieces_read (size_of_piece carrier) bytes left now read pieces behind tail told has cut in
      let on : (more_frames : List (List ℕ)) × (received_ethernet_frames carrier (read ++ more.0) ≡ received_ethernet_frames carrier read ++ more_frames) = frames_go_on carrier read more.0 in
      part_of is_flushed (bridge_capture carrier read) (flat_map capture_record on.0) (bridge_capture carrier pieces) old new
      (ap (bridge_capture carrier) more.1 ∙ ap ethernet_capture on.1 ∙ capture_goes_on (received_ethernet_frames carrier read) on.0) added

  -- less than the head
  part_of_head : AddsPartOf ethernet_head bridge_name old new → HasBridgePart (bridge_capture carrier pieces) old new
  part_of_head part = elim part [
    | inl same ↦ inl same
    | inr some ↦ inr (record {
      file = file_with false bridge_name (take some.0 ethernet_head);
      part = record {
        name_is = refl;
        count = some.0;
        bytes = sym (take-append-le some.0 ethernet_head (flat_map capture_record (received_ethernet_frames carrier pieces)) (omega (arith, some.1)));
      };
      added = some.2;
    })
  ]

  -- less than a record of the last piece
  part_of_frame : (read : List (List ℕ)) (front : List (List ℕ)) (frame : List ℕ) (rest : List (List ℕ)) (count : ℕ) → HasRead (size_of_piece carrier) left now read []
      → received_ethernet_frames carrier read ≡ front ++ frame ∷ rest → count < length (capture_record frame)
      → AddsBridge false (ethernet_capture front ++ take count (capture_record frame)) old new → HasBridgePart (bridge_capture carrier pieces) old new
  part_of_frame read front frame rest count has are less added =
      let more : (others : List (List ℕ)) × (pieces ≡ read ++ others) = pieces_read (size_of_piece carrier) bytes left now read pieces [] tail told has cut in
      let on : (more_frames : List (List ℕ)) × (received_ethernet_frames carrier (read ++ more.0) ≡ received_ethernet_frames carrier read ++ more_frames) = frames_go_on carrier read more.0 in
      let behind : List (List ℕ) = rest ++ on.0 in
      let record_cut : List ℕ = take count (capture_record frame) in
      let cut_on : capture_record frame ≡ record_cut ++ drop count (capture_record frame) = sym (take-append-drop count (capture_record frame)) in
      let frames_are : received_ethernet_frames carrier pieces ≡ front ++ frame ∷ behind =
      ap (received_ethernet_frames carrier) more.1 ∙ on.1 ∙ ap (λ (t : List (List ℕ)). t ++ on.0) are ∙ append_assoc front (frame ∷ rest) on.0 in
      let later : List ℕ = drop count (capture_record frame) ++ flat_map capture_record behind in
      part_of false (ethernet_capture front ++ record_cut) later (bridge_capture carrier pieces) old new
      (ap ethernet_capture frames_are ∙ capture_goes_on front (frame ∷ behind)
      ∙ ap (λ (t : List ℕ). ethernet_capture front ++ t) (ap (λ (t : List ℕ). t ++ flat_map capture_record behind) cut_on
      ∙ append_assoc record_cut (drop count (capture_record frame)) (flat_map capture_record behind))
      ∙ sym (append_assoc (ethernet_capture front) record_cut later)) added

  part_in_file : EndsInFile carrier left now old new → HasBridgePart (bridge_capture carrier pieces) old new
  part_in_file (in_head stop) = part_of_head stop.file
  part_in_file (in_frame stop) =
      part_of_frame (stop.pieces ++ stop.piece ∷ []) (received_ethernet_frames carrier stop.pieces ++ stop.front) stop.frame stop.rest stop.count stop.read stop.frames stop.less stop.file
  part_in_file (in_flush stop) = part_of_read false stop.pieces stop.tail stop.read stop.file

-- by the answer
pub bridge_part : (result : Result ⊤ ReceiveFault) (carrier : BridgeCarrier) (input now : InputTold) (rack now_rack : RackTold) (Unread : Type 0)
    (bytes : List ℕ) (pieces : List (List ℕ)) (tail : List ℕ) → Unbridges result carrier input now rack now_rack Unread
    → input.left ≡ Some bytes → IsCut (size_of_piece carrier) bytes pieces tail → HasBridgePart (bridge_capture carrier pieces) rack.files now_rack.files
bridge_part (Ok done) carrier input now rack now_rack Unread bytes pieces tail ends told cut =
    part_of_read carrier input.left now.left rack.files now_rack.files bytes pieces tail told cut true ends.ends.0.pieces ends.ends.0.tail ends.ends.0.read ends.ends.0.file
bridge_part (Err fault.Source) carrier input now rack now_rack Unread bytes pieces tail ends told cut =
    part_of_read carrier input.left now.left rack.files now_rack.files bytes pieces tail told cut false ends.ends.0.pieces ends.ends.0.behind ends.ends.0.read ends.ends.0.file
bridge_part (Err fault.TooLong) carrier input now rack now_rack Unread bytes pieces tail ends told cut =
    part_of_read carrier input.left now.left rack.files now_rack.files bytes pieces tail told cut false ends.ends.0.pieces [] ends.ends.0.read ends.ends.0.file
bridge_part (Err fault.Rack) carrier input now rack now_rack Unread bytes pieces tail ends told cut =
    part_in_file carrier input.left now.left rack.files now_rack.files bytes pieces tail told cut ends.ends.0
bridge_part (Err fault.OutOfMemory) carrier input now rack now_rack Unread bytes pieces tail ends told cut = inl ends.ends.2
bridge_part (Err fault.Sink) carrier input now rack now_rack Unread bytes pieces tail ends told cut = absurd ends.ends
