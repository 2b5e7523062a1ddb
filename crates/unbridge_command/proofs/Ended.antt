-- How an unbridging ends, from what became of the file's head, of the reading after it and of the flush.
use Rattle.std.proofs.Common.{◌≡◌, inl, inr, ℕ, ◌+◌, ◌*◌, ◌^◌, ◌<◌, ◌≤◌, false, List, [], ◌∷◌, ◌++◌, length, take, refl, ap, sym, ◌∙◌, subst, append_assoc, arith, Option, IfSome, Result, Ok, Err}
use Rattle.std.specs.Bool.{⊤}
use Rattle.std.specs.List.{flat_map}
use Rattle.std.proofs.Math.Nat.{mul-le-mul_left}
use Rattle.std.proofs.lemmas.List.{length_push, map-append}
use Rattle.wire_spec.specs.Causes.{Rose, raised}
use Rattle.wire_spec.specs.Content.{File, ChangesFile, Stays, flushed_file}
use Rattle.ts_spec.specs.Recording.{Record, RecordingForm, plain, plain_record, records_of}
use Rattle.ipe_io.specs.Told.{InputTold, RackTold}
use Rattle.ipe_io.specs.Counts.{HasAddCause}
use Rattle.ipe_io.specs.declared.faults.AddFault.{AddFault}
use Rattle.ipe_io.specs.declared.faults.AddFault.TheVariants as add
use Rattle.outlet_spec.specs.Pairs.{pairs_of}
use Rattle.pcap_file.specs.Capture.{ethernet_head, ethernet_capture, capture_record}
use Rattle.recording_reader.specs.declared.fault.ReadFault.{ReadFault}
use Rattle.recording_reader.specs.declared.fault.ReadFault.TheVariants as read
use Rattle.recording_reader.specs.Reading.{Reads}
use Rattle.bridge_spec.specs.Frames.{BridgeCarrier, size_of_piece, received_ethernet_frames}
use Rattle.bridge_frame.specs.Taking.{frames_of_records}
use Rattle.bridge_frame.proofs.Taken.{frames_of_pieces}
use Rattle.capture_files.specs.declared.faults.ReceiveFault.{ReceiveFault}
use Rattle.capture_files.specs.declared.faults.ReceiveFault.TheVariants as fault
use Rattle.capture_files.specs.Faults.{Blames, fault_of_reading, fault_of_adding}
use Rattle.capture_files.proofs.CameUp.{stays}
use Rattle.capture_files.specs.Files.{AddsPartOf}
use Rattle.capture_files.specs.Growth.{records_at, records_and}
use Rattle.recording_reader.specs.Taken.{HasRead}
use Rattle.recording_reader.proofs.Taken.{below_product, by_last, init_same}
use Rattle.capture_files.proofs.Pairs.{none_before}
use Rattle.unbridge_command.specs.Writing.{HasWritten, HasStopped}
use Rattle.unbridge_command.specs.Unbridging.{Unbridges, AddsBridge, StopsInFrame, bridge_name, bridge_capture, in_head, in_frame, in_flush}
use Rattle.unbridge_command.proofs.Frames.{record_stays}
use Rattle.unbridge_command.proofs.Grown.{added_grown, added_flushed, added_stays, own_records, own_part, part_before}

-- Counters.

rises : (own : ReceiveFault) (before now : ℕ) → Rose before now → Blames {T = ⊤} (Err own) own before now
rises own before now rose = record { rose = λ is. rose; kept = λ not. absurd (not refl) }

-- as many files as were added
pub sized : (a : Option (List File)) (count place : ℕ) → place ≡ count → IfSome a (λ told. length told ≡ count) → IfSome a (λ told. length told ≡ place)
sized a count place e many = subst (λ (n : ℕ). IfSome a (λ told. length told ≡ n)) (sym e) many

-- a reading of the pieces of a carrier
pub as_plain : (result : Result ℕ ReadFault) (form : RecordingForm) (size other : ℕ) (input now : InputTold) (Took Stopped : List Record → Type 0) → form ≡ plain → size ≡ other
    → Reads result form size input now Took Stopped → Reads result plain other input now Took Stopped
as_plain result form size other input now Took Stopped of_form of_size reads =
    subst (λ (n : ℕ). Reads result plain n input now Took Stopped) of_size (subst (λ (f : RecordingForm). Reads result f size input now Took Stopped) of_form reads)

-- Nothing was read.

-- out of memory
pub lacks : (carrier : BridgeCarrier) (input : InputTold) (rack now_rack : RackTold) (Unread : Type 0) → Unread
    → now_rack.count ≡ rack.count → Stays rack.files now_rack.files → now_rack.faults ≡ rack.faults
    → Unbridges (Err fault.OutOfMemory) carrier input input rack now_rack Unread
lacks carrier input rack now_rack Unread unread count same kept = record {
  ends = (unread, count, same);
  input_faults = stays _ _ _ _ (λ is. absurd (cc)) refl;
  rack_faults = stays _ _ _ _ (λ is. absurd (cc)) kept;
}

abbrev unadded : AddFault → Result ℕ AddFault
unadded e = Err e

-- the file could not be added, by the fault
pub head_stopped : (e : AddFault) (carrier : BridgeCarrier) (input : InputTold) (rack now_rack : RackTold) (Unread : Type 0)
    → raised input.taken 0 ≡ input.taken → Unread
    → (unadded e ≡ Err add.Failed → AddsPartOf ethernet_head bridge_name rack.files now_rack.files)
    → (unadded e ≡ Err add.OutOfMemory → (now_rack.count ≡ rack.count) × Stays rack.files now_rack.files)
    → HasAddCause rack.faults now_rack.faults (unadded e) → now_rack.count ≤ rack.count + 1
    → Unbridges (Err (fault_of_adding e)) carrier input input rack now_rack Unread
head_stopped add.Failed carrier input rack now_rack Unread none unread part memory cause fewer = record {
  ends = (in_head (record { unread = refl; file = part refl }), record { count = 0; most = omega arith; taken = sym none }, fewer);
  input_faults = stays _ _ _ _ (λ is. absurd (cc)) refl;
  rack_faults = rises _ _ _ (cause.failed refl);
}
head_stopped add.OutOfMemory carrier input rack now_rack Unread none unread part memory cause fewer =
    lacks carrier input rack now_rack Unread unread (memory refl).0 (memory refl).1 (cause.kept (λ e. absurd (cc)))

-- The file has its head.

none_behind : (size before taken : ℕ) (pieces : List (List ℕ)) (behind : List ℕ) → behind ≡ [] → taken ≡ raised before (size * length pieces + length behind)
    → taken ≡ raised before (size * length pieces)
none_behind size before taken pieces behind none is =
    is ∙ ap (λ (n : ℕ). raised before n) (ap (λ (b : List ℕ). size * length pieces + length b) none ∙ omega arith)

-- the last of the records that pieces give is that of the last piece
record LastPiece (pieces : List (List ℕ)) (before : List Record) : Type 0 where
  pub front : List (List ℕ)
  pub piece : List ℕ
  pub pieces_are : pieces ≡ front ++ piece ∷ []
  pub before_is : before ≡ records_of plain front

last_piece : (pieces : List (List ℕ)) (before : List Record) (last : Record) → records_of plain pieces ≡ before ++ last ∷ [] → LastPiece pieces before
last_piece pieces before last are = elim (by_last pieces) [
  | inl none ↦ absurd (omega (arith, ap length (sym are ∙ ap (records_of plain) none), length_push before last))
  | inr more ↦ record {
    front = more.0;
    piece = more.1;
    pieces_are = more.2;
    before_is = sym (init_same (records_of plain more.0) before (plain_record more.1) last
        (sym (map-append plain_record more.0 (more.1 ∷ [])) ∙ ap (records_of plain) (sym more.2) ∙ are));
  }
]

module _ (carrier : BridgeCarrier) (place : ℕ) (input now : InputTold) (rack heads mid : RackTold) (Unread : Type 0)
    (many : IfSome rack.files (λ told. length told ≡ place)) (added : AddsBridge false ethernet_head rack.files heads.files) (kept : heads.faults ≡ rack.faults)
    (one : heads.count ≡ rack.count + 1) where
  abbrev Wrote : Result ℕ ReadFault → Type 0
  Wrote result = Reads result plain (size_of_piece carrier) input now (λ records. HasWritten carrier place heads mid records) (λ records. HasStopped carrier place heads mid records)

  read_of : (result : Result ℕ ReadFault) → (reads : Wrote result) → HasRead (size_of_piece carrier) input.left now.left reads.pieces reads.behind
  read_of result reads = record { each = reads.each; short = reads.short; consumed = reads.consumed }

  file_of : (pieces : List (List ℕ)) → HasWritten carrier place heads mid (records_of plain pieces) → AddsBridge false (bridge_capture carrier pieces) rack.files mid.files
  file_of pieces written =
      let frames : List (List ℕ) = frames_of_records carrier (records_of plain pieces) in
      added_grown rack.files heads.files mid.files bridge_name ethernet_head (flat_map capture_record (received_ethernet_frames carrier pieces)) place (records_at place (pairs_of 0 frames))
      many added written.files (λ at low. none_before place at (pairs_of 0 frames) low)
      (own_records place frames ∙ ap (flat_map capture_record) (frames_of_pieces carrier pieces))

  ended_front : Wrote (Err read.Source) → Unbridges (Err fault.Source) carrier input now rack mid Unread
  ended_front reads = record {
    ends = (
      record {
        pieces = reads.pieces;
        behind = reads.behind;
        read = read_of _ reads;
        fewer = reads.ends.0;
        file = file_of reads.pieces reads.ends.3;
      },
      record {
        going = reads.ends.1;
        count = size_of_piece carrier * length reads.pieces + length reads.behind;
        fewer = below_product (size_of_piece carrier) (length reads.pieces) (length reads.behind) reads.ends.0 reads.short;
        taken = reads.taken;
      },
      reads.ends.3.count ∙ one,
    );
    input_faults = rises _ _ _ reads.ends.2;
    rack_faults = stays _ _ _ _ (λ is. absurd (cc)) (reads.ends.3.kept ∙ kept);
  }

  ended_at_limit : Wrote (Err read.TooLong) → Unbridges (Err fault.TooLong) carrier input now rack mid Unread
  ended_at_limit reads = record {
    ends = (
      record {
        pieces = reads.pieces;
        read = subst (λ (b : List ℕ). HasRead (size_of_piece carrier) input.left now.left reads.pieces b) reads.ends.0 (read_of _ reads);
        limit = reads.ends.1;
        file = file_of reads.pieces reads.ends.3;
      },
      none_behind (size_of_piece carrier) input.taken now.taken reads.pieces reads.behind reads.ends.0 reads.taken
          ∙ ap (λ (n : ℕ). raised input.taken (size_of_piece carrier * n)) reads.ends.1,
      reads.ends.3.count ∙ one,
    );
    input_faults = stays _ _ _ _ (λ is. absurd (cc)) reads.ends.2;
    rack_faults = stays _ _ _ _ (λ is. absurd (cc)) (reads.ends.3.kept ∙ kept);
  }

  stops_in_frame : (pieces : List (List ℕ)) (behind : List ℕ) → behind ≡ [] → length pieces ≤ 2 ^ 32 → HasRead (size_of_piece carrier) input.left now.left pieces behind
      → HasStopped carrier place heads mid (records_of plain pieces) → StopsInFrame carrier input.left now.left rack.files mid.files
  stops_in_frame pieces behind none most read stop =
      let last : LastPiece pieces stop.before = last_piece pieces stop.before stop.last stop.records_are in
      let told : List (List ℕ) = frames_of_records carrier stop.before in
      let told_is : told ≡ received_ethernet_frames carrier last.front = ap (frames_of_records carrier) last.before_is ∙ frames_of_pieces carrier last.front in
      let all : List (List ℕ) = last.front ++ last.piece ∷ [] in
      let text : List ℕ = take stop.count (capture_record stop.frame) in
      let frames_are : received_ethernet_frames carrier pieces ≡ told ++ (stop.front ++ stop.frame ∷ stop.rest) =
      sym (frames_of_pieces carrier pieces) ∙ ap (frames_of_records carrier) stop.records_are ∙ record_stays carrier stop.before stop.last
      ∙ ap (λ (t : List (List ℕ)). told ++ t) stop.gives in
      let file = added_grown rack.files heads.files mid.files bridge_name ethernet_head (flat_map capture_record (told ++ stop.front) ++ text) place
      (records_and place 0 text (pairs_of 0 (told ++ stop.front))) many added stop.files
      (λ at low. part_before place at text (pairs_of 0 (told ++ stop.front)) low) (own_part place text (told ++ stop.front)) in
      record {
        pieces = last.front;
        piece = last.piece;
        read = subst (λ (b : List ℕ). HasRead (size_of_piece carrier) input.left now.left all b) none
            (subst (λ (p : List (List ℕ)). HasRead (size_of_piece carrier) input.left now.left p behind) last.pieces_are read);
        fewer = omega (arith, most, ap length last.pieces_are, length_push last.front last.piece);
        front = stop.front;
        frame = stop.frame;
        rest = stop.rest;
        frames = ap (received_ethernet_frames carrier) (sym last.pieces_are) ∙ frames_are ∙ sym (append_assoc told stop.front (stop.frame ∷ stop.rest))
            ∙ ap (λ (t : List (List ℕ)). (t ++ stop.front) ++ stop.frame ∷ stop.rest) told_is;
        count = stop.count;
        less = stop.less;
        file = subst (λ (t : List (List ℕ)). AddsBridge false (ethernet_capture (t ++ stop.front) ++ text) rack.files mid.files) told_is
            (subst (λ (t : List ℕ). AddsBridge false t rack.files mid.files) (sym (append_assoc ethernet_head (flat_map capture_record (told ++ stop.front)) text)) file);
      }

  ended_in_frame : Wrote (Err read.Taker) → Unbridges (Err fault.Rack) carrier input now rack mid Unread
  ended_in_frame reads = record {
    ends = (
      in_frame (stops_in_frame reads.pieces reads.behind reads.ends.0 reads.ends.1 (read_of _ reads) reads.ends.3),
      record {
        count = size_of_piece carrier * length reads.pieces;
        most = mul-le-mul_left (size_of_piece carrier) reads.ends.1;
        taken = none_behind (size_of_piece carrier) input.taken now.taken reads.pieces reads.behind reads.ends.0 reads.taken;
      },
      omega (arith, reads.ends.3.places, one),
    );
    input_faults = stays _ _ _ _ (λ is. absurd (cc)) reads.ends.2;
    rack_faults = rises _ _ _ (reads.ends.3.rose ∙ ap (λ (n : ℕ). raised n 1) kept);
  }

  pub ended_early : (e : ReadFault) → Wrote (Err e) → Unbridges (Err (fault_of_reading e)) carrier input now rack mid Unread
  ended_early read.Source reads = ended_front reads
  ended_early read.TooLong reads = ended_at_limit reads
  ended_early read.Taker reads = ended_in_frame reads

  -- and the flush
  module _ (now_rack : RackTold) (tail : ℕ) (reads : Wrote (Ok tail)) where
    pub ended_whole : (done : ⊤) → now_rack.count ≡ mid.count → ChangesFile mid.files now_rack.files place flushed_file
        → now_rack.faults ≡ mid.faults → Unbridges (Ok done) carrier input now rack now_rack Unread
    ended_whole done count flushed same = record {
      ends = (
        record {
          pieces = reads.pieces;
          tail = reads.behind;
          read = read_of _ reads;
          fewer = reads.ends.1;
          at_end = reads.ends.2;
          file = added_flushed rack.files mid.files now_rack.files bridge_name (bridge_capture carrier reads.pieces) place many (file_of reads.pieces reads.ends.5) flushed;
        },
        record {
          ended = reads.ends.3;
          count = size_of_piece carrier * length reads.pieces + length reads.behind;
          fewer = below_product (size_of_piece carrier) (length reads.pieces) (length reads.behind) reads.ends.1 reads.short;
          taken = reads.taken;
        },
        count ∙ (reads.ends.5.count ∙ one),
      );
      input_faults = stays _ _ _ _ (λ is. absurd (cc)) reads.ends.4;
      rack_faults = stays _ _ _ _ (λ is. absurd (cc)) (same ∙ (reads.ends.5.kept ∙ kept));
    }

    pub ended_in_flush : now_rack.count ≡ mid.count → Stays mid.files now_rack.files → Rose mid.faults now_rack.faults → Unbridges (Err fault.Rack) carrier input now rack now_rack Unread
    ended_in_flush count unflushed rose =
        let bound : size_of_piece carrier * length reads.pieces + length reads.behind < size_of_piece carrier * 2 ^ 32 =
        below_product (size_of_piece carrier) (length reads.pieces) (length reads.behind) reads.ends.1 reads.short in
        record {
          ends = (
            in_flush (record {
              pieces = reads.pieces;
              tail = reads.behind;
              read = read_of _ reads;
              fewer = reads.ends.1;
              at_end = reads.ends.2;
              file = added_stays rack.files mid.files now_rack.files _ (file_of reads.pieces reads.ends.5) unflushed;
            }),
            record {
              count = size_of_piece carrier * length reads.pieces + length reads.behind;
              most = omega (arith, bound);
              taken = reads.taken;
            },
            omega (arith, count, reads.ends.5.count, one),
          );
          input_faults = stays _ _ _ _ (λ is. absurd (cc)) reads.ends.4;
          rack_faults = rises _ _ _ (rose ∙ ap (λ (n : ℕ). raised n 1) (reads.ends.5.kept ∙ kept));
        }
