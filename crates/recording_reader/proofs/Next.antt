-- One record or frame more, or an end, as the readers tell it.
use Rattle.std.proofs.Common.{◌≡◌, ℕ, ◌+◌, ◌^◌, ◌<◌, All, true, false, List, [], ◌∷◌, ◌++◌, length, refl, sym, ◌∙◌, subst, arith, Option, Some, None, option_map, option_copied, Result, Ok, Err}
use denote.Ref.{Bor}
use Rattle.std.proofs.lemmas.List.{length_push, get_or-append-add, map-append}
use Rattle.wire_spec.specs.Causes.{Rose}
use Rattle.ts_spec.specs.Recording.{Record, RecordingForm, plain, stamped, m2ts, plain_record, record_size, records_of}
use Rattle.ipe_io.specs.Told.{InputTold}
use Rattle.ts_record.specs.Reading.{ReaderState, ReadsRecord, LendsRecord, ReadsEnd, TakesBytes, lent_seen}
use Rattle.ts_record.specs.declared.lending.LentRecord.{LentRecord}
use Rattle.bb_frame.specs.Reading.{ReaderState as FrameReaderState, TakesBytes as TakesFrameBytes, ReadsFrame, LendsFrame, ReadsEnd as ReadsFramesEnd}
use Rattle.recording_reader.specs.declared.fault.ReadFault.{ReadFault}
use Rattle.recording_reader.specs.declared.fault.ReadFault.TheVariants as fault
use Rattle.recording_reader.specs.Forms.{HasReadPackets, HasReadFrames}
use Rattle.recording_reader.specs.Reading.{HasTaken, Reads, StepsOn}
use Rattle.recording_reader.proofs.Advance.{taken_next, ends_in_piece, ends_all, ends_in_input, ends_at_limit}

pub records_none : (form : RecordingForm) → records_of form [] ≡ []
records_none plain = refl
records_none stamped = refl
records_none m2ts = refl

some_size : (form : RecordingForm) → 0 < record_size form
some_size plain = omega arith
some_size stamped = omega arith
some_size m2ts = omega arith

-- Records of packets.

-- none was lent, and all is as it was
pub still : (reader now_reader : ReaderState) (told now_told : InputTold) (pieces : List (List ℕ)) (lent : Option LentRecord) → lent ≡ None
    → LendsRecord reader now_reader told now_told pieces (option_map lent_seen lent) → (now_reader ≡ reader) × (now_told ≡ told)
still reader now_reader told now_told pieces lent none lends = subst (λ it. LendsRecord reader now_reader told now_told pieces (option_map lent_seen it)) none lends

-- one was lent
pub lent_one : (reader now_reader : ReaderState) (told now_told : InputTold) (pieces : List (List ℕ)) (lent : Option LentRecord) (r : LentRecord) → lent ≡ Some r
    → LendsRecord reader now_reader told now_told pieces (option_map lent_seen lent) → LendsRecord reader now_reader told now_told pieces (Some (lent_seen r))
lent_one reader now_reader told now_told pieces lent r is lends = subst (λ it. LendsRecord reader now_reader told now_told pieces (option_map lent_seen it)) is lends

-- the reading so far, where the reader and the input are told otherwise
pub taken_still : (reader now_reader : ReaderState) (input told now_told : InputTold) (Took : List Record → Type 0) (pieces : List (List ℕ)) → now_reader ≡ reader → now_told ≡ told
    → HasTaken reader.form (record_size reader.form) input told Took pieces → HasTaken now_reader.form (record_size now_reader.form) input now_told Took pieces
taken_still reader now_reader input told now_told Took pieces same_reader same given =
    subst (λ (r : ReaderState). HasTaken r.form (record_size r.form) input now_told Took pieces) (sym same_reader)
    (subst (λ (t : InputTold). HasTaken reader.form (record_size reader.form) input t Took pieces) (sym same) given)

module _ (reader now_reader : ReaderState) (input mid now : InputTold) (TookMid : List Record → Type 0) (pieces : List (List ℕ))
    (has_read : HasReadPackets reader pieces) (given : HasTaken reader.form (record_size reader.form) input mid TookMid pieces) where
  pub packet_next : (Took : List Record → Type 0) (r : Record) → ReadsRecord reader now_reader mid.left now.left mid.taken now.taken pieces r
      → (mid.ended ≡ false → now.ended ≡ false) → now.faults ≡ mid.faults → Took (records_of reader.form pieces ++ r ∷ [])
      → StepsOn reader.form (record_size reader.form) input now (λ ps. HasReadPackets now_reader ps) Took pieces
  packet_next Took r read going same took =
      taken_next reader.form (record_size reader.form) input mid now TookMid pieces given Took (λ ps. HasReadPackets now_reader ps) read.piece read.size
      read.takes.bytes_are read.takes.rose going same (record { stands = read.stands; unended = read.has_ended ∙ has_read.unended })
      (subst Took (sym read.last) took)

  pub packet_stopped : (Took Stopped : List Record → Type 0) (r : Record) → reader.count < 2 ^ 32 → ReadsRecord reader now_reader mid.left now.left mid.taken now.taken pieces r
      → now.faults ≡ mid.faults → Stopped (records_of reader.form pieces ++ r ∷ []) → Reads (Err fault.Taker) reader.form (record_size reader.form) input now Took Stopped
  packet_stopped Took Stopped r few read same stopped =
      ends_in_piece reader.form (record_size reader.form) input mid now TookMid pieces given Took Stopped read.piece (some_size reader.form) (omega (arith, few, has_read.stands.count)) read.size
      read.takes.bytes_are read.takes.rose same (subst Stopped (sym read.last) stopped)

  pub packets_end : (Stopped : List Record → Type 0) → reader.count < 2 ^ 32 → ReadsEnd reader now_reader mid.left now.left mid.taken now.taken pieces
      → now.ended ≡ true → now.faults ≡ mid.faults → Reads (Ok now_reader.tail) reader.form (record_size reader.form) input now TookMid Stopped
  packets_end Stopped few end ended same =
      ends_all reader.form (record_size reader.form) input mid now TookMid pieces given Stopped end.bytes now_reader.tail (omega (arith, few, has_read.stands.count)) end.short
      end.takes.bytes_are end.takes.rose end.at_end end.tail ended same

  pub packets_fail : (Stopped : List Record → Type 0) (bytes : List ℕ) → reader.count < 2 ^ 32 → length bytes < record_size reader.form
      → TakesBytes mid.left now.left mid.taken now.taken bytes → (mid.ended ≡ false → now.ended ≡ false) → Rose mid.faults now.faults
      → Reads (Err fault.Source) reader.form (record_size reader.form) input now TookMid Stopped
  packets_fail Stopped bytes few short takes going rose =
      ends_in_input reader.form (record_size reader.form) input mid now TookMid pieces given Stopped bytes (omega (arith, few, has_read.stands.count)) short
      takes.bytes_are takes.rose going rose

  pub packets_most : (Stopped : List Record → Type 0) → reader.count ≡ 2 ^ 32 → now ≡ mid → Reads (Err fault.TooLong) reader.form (record_size reader.form) input now TookMid Stopped
  packets_most Stopped full same =
      subst (λ (t : InputTold). Reads (Err fault.TooLong) reader.form (record_size reader.form) input t TookMid Stopped) (sym same)
      (ends_at_limit reader.form (record_size reader.form) input mid TookMid Stopped pieces given (some_size reader.form) (sym has_read.stands.count ∙ full))

-- Frames.

last_size : (size : ℕ) (frames : List (List ℕ)) (frame : List ℕ) → All (λ t. length t ≡ size) (frames ++ frame ∷ []) → length frame ≡ size
last_size size frames frame each =
    subst (λ (t : List ℕ). length t ≡ size) (get_or-append-add frames (frame ∷ []) 0 []) (each (length frames + 0) [] (omega (arith, length_push frames frame)))

plain_more : (frames : List (List ℕ)) (frame : List ℕ) → records_of plain (frames ++ frame ∷ []) ≡ records_of plain frames ++ plain_record frame ∷ []
plain_more frames frame = map-append plain_record frames (frame ∷ [])

module _ (reader now_reader : FrameReaderState) (input mid now : InputTold) (TookMid : List Record → Type 0) (frames : List (List ℕ))
    (has_read : HasReadFrames reader frames) (given : HasTaken plain reader.size input mid TookMid frames) where
  pub frame_next : (Took : List Record → Type 0) (frame : List ℕ) → ReadsFrame reader now_reader mid now frames frame
      → (mid.ended ≡ false → now.ended ≡ false) → now.faults ≡ mid.faults → Took (records_of plain frames ++ plain_record frame ∷ [])
      → StepsOn plain reader.size input now (λ fs. HasReadFrames now_reader fs) Took frames
  frame_next Took frame read going same took =
      taken_next plain reader.size input mid now TookMid frames given Took (λ fs. HasReadFrames now_reader fs) frame (last_size now_reader.size frames frame read.stands.each ∙ read.size)
      read.takes.bytes_are read.takes.rose going same (record { stands = read.stands; unended = read.has_ended ∙ has_read.unended; some = subst (λ (n : ℕ). 0 < n) (sym read.size) has_read.some })
      (subst Took (sym (plain_more frames frame)) took)

  pub frame_stopped : (Took Stopped : List Record → Type 0) (frame : List ℕ) → reader.count < 2 ^ 32 → ReadsFrame reader now_reader mid now frames frame
      → now.faults ≡ mid.faults → Stopped (records_of plain frames ++ plain_record frame ∷ []) → Reads (Err fault.Taker) plain reader.size input now Took Stopped
  frame_stopped Took Stopped frame few read same stopped =
      ends_in_piece plain reader.size input mid now TookMid frames given Took Stopped frame has_read.some (omega (arith, few, has_read.stands.count))
      (last_size now_reader.size frames frame read.stands.each ∙ read.size) read.takes.bytes_are read.takes.rose same (subst Stopped (sym (plain_more frames frame)) stopped)

  pub frames_end : (Stopped : List Record → Type 0) → reader.count < 2 ^ 32 → ReadsFramesEnd reader now_reader mid now frames
      → now.ended ≡ true → now.faults ≡ mid.faults → Reads (Ok now_reader.tail) plain reader.size input now TookMid Stopped
  frames_end Stopped few end ended same =
      ends_all plain reader.size input mid now TookMid frames given Stopped end.bytes now_reader.tail (omega (arith, few, has_read.stands.count)) end.short
      end.takes.bytes_are end.takes.rose end.at_end end.tail ended same

  pub frames_fail : (Stopped : List Record → Type 0) (bytes : List ℕ) → reader.count < 2 ^ 32 → length bytes < reader.size
      → TakesFrameBytes mid now bytes → (mid.ended ≡ false → now.ended ≡ false) → Rose mid.faults now.faults
      → Reads (Err fault.Source) plain reader.size input now TookMid Stopped
  frames_fail Stopped bytes few short takes going rose =
      ends_in_input plain reader.size input mid now TookMid frames given Stopped bytes (omega (arith, few, has_read.stands.count)) short
      takes.bytes_are takes.rose going rose

  pub frames_most : (Stopped : List Record → Type 0) → reader.count ≡ 2 ^ 32 → now ≡ mid → Reads (Err fault.TooLong) plain reader.size input now TookMid Stopped
  frames_most Stopped full same =
      subst (λ (t : InputTold). Reads (Err fault.TooLong) plain reader.size input t TookMid Stopped) (sym same)
      (ends_at_limit plain reader.size input mid TookMid Stopped frames given has_read.some (sym has_read.stands.count ∙ full))

-- none was lent, and all is as it was
pub still_frames : (reader now_reader : FrameReaderState) (told now_told : InputTold) (frames : List (List ℕ)) (lent : Option (Bor (List ℕ))) → lent ≡ None
    → LendsFrame reader now_reader told now_told frames (option_copied lent) → (now_reader ≡ reader) × (now_told ≡ told)
still_frames reader now_reader told now_told frames lent none lends = subst (λ it. LendsFrame reader now_reader told now_told frames (option_copied it)) none lends

-- one was lent
pub lent_frame : (reader now_reader : FrameReaderState) (told now_told : InputTold) (frames : List (List ℕ)) (lent : Option (Bor (List ℕ))) (frame : Bor (List ℕ)) → lent ≡ Some frame
    → LendsFrame reader now_reader told now_told frames (option_copied lent) → LendsFrame reader now_reader told now_told frames (Some frame.now)
lent_frame reader now_reader told now_told frames lent frame is lends = subst (λ it. LendsFrame reader now_reader told now_told frames (option_copied it)) is lends

-- the reading so far, where the reader and the input are told otherwise
pub taken_frames_still : (reader now_reader : FrameReaderState) (input told now_told : InputTold) (Took : List Record → Type 0) (frames : List (List ℕ)) → now_reader ≡ reader → now_told ≡ told
    → HasTaken plain reader.size input told Took frames → HasTaken plain now_reader.size input now_told Took frames
taken_frames_still reader now_reader input told now_told Took frames same_reader same given =
    subst (λ (r : FrameReaderState). HasTaken plain r.size input now_told Took frames) (sym same_reader)
    (subst (λ (t : InputTold). HasTaken plain reader.size input t Took frames) (sym same) given)

pub has_frames_still : (reader now_reader : FrameReaderState) (frames : List (List ℕ)) → now_reader ≡ reader → HasReadFrames reader frames → HasReadFrames now_reader frames
has_frames_still reader now_reader frames same has_read = subst (λ (r : FrameReaderState). HasReadFrames r frames) (sym same) has_read

pub frame_steps_still : (reader now_reader : FrameReaderState) (input now : InputTold) (HasRead : List (List ℕ) → Type 0) (Took : List Record → Type 0) (frames : List (List ℕ)) → now_reader ≡ reader
    → StepsOn plain now_reader.size input now HasRead Took frames → StepsOn plain reader.size input now HasRead Took frames
frame_steps_still reader now_reader input now HasRead Took frames same steps =
    subst (λ (r : FrameReaderState). StepsOn plain r.size input now HasRead Took frames) same steps

pub frame_reads_still : (reader now_reader : FrameReaderState) (result : Result ℕ ReadFault) (input now : InputTold) (Took Stopped : List Record → Type 0) → now_reader ≡ reader
    → Reads result plain now_reader.size input now Took Stopped → Reads result plain reader.size input now Took Stopped
frame_reads_still reader now_reader result input now Took Stopped same reads =
    subst (λ (r : FrameReaderState). Reads result plain r.size input now Took Stopped) same reads

-- a reader that lent none has read what it had
pub has_still : (reader now_reader : ReaderState) (pieces : List (List ℕ)) → now_reader ≡ reader → HasReadPackets reader pieces → HasReadPackets now_reader pieces
has_still reader now_reader pieces same has_read = subst (λ (r : ReaderState). HasReadPackets r pieces) (sym same) has_read

-- a step told of a reader that lent none, of the one before it
pub steps_still : (reader now_reader : ReaderState) (input now : InputTold) (HasRead : List (List ℕ) → Type 0) (Took : List Record → Type 0) (pieces : List (List ℕ)) → now_reader ≡ reader
    → StepsOn now_reader.form (record_size now_reader.form) input now HasRead Took pieces → StepsOn reader.form (record_size reader.form) input now HasRead Took pieces
steps_still reader now_reader input now HasRead Took pieces same steps =
    subst (λ (r : ReaderState). StepsOn r.form (record_size r.form) input now HasRead Took pieces) same steps

pub reads_still : (reader now_reader : ReaderState) (result : Result ℕ ReadFault) (input now : InputTold) (Took Stopped : List Record → Type 0) → now_reader ≡ reader
    → Reads result now_reader.form (record_size now_reader.form) input now Took Stopped → Reads result reader.form (record_size reader.form) input now Took Stopped
reads_still reader now_reader result input now Took Stopped same reads =
    subst (λ (r : ReaderState). Reads result r.form (record_size r.form) input now Took Stopped) same reads

-- where no record was lent, the reader has read what it had, and the taker has taken it
pub packets_on : (reader now_reader : ReaderState) (input told now_told : InputTold) (Took : List Record → Type 0) (pieces : List (List ℕ)) (lent : Option LentRecord) → lent ≡ None
    → LendsRecord reader now_reader told now_told pieces (option_map lent_seen lent) → HasReadPackets reader pieces → HasTaken reader.form (record_size reader.form) input told Took pieces
    → (now_reader ≡ reader) × HasReadPackets now_reader pieces × HasTaken now_reader.form (record_size now_reader.form) input now_told Took pieces
packets_on reader now_reader input told now_told Took pieces lent none lends has_read given =
    let same = still reader now_reader told now_told pieces lent none lends in
    (same.0, has_still reader now_reader pieces same.0 has_read, taken_still reader now_reader input told now_told Took pieces same.0 same.1 given)

-- the same of frames
pub frames_on : (reader now_reader : FrameReaderState) (input told now_told : InputTold) (Took : List Record → Type 0) (frames : List (List ℕ)) (lent : Option (Bor (List ℕ))) → lent ≡ None
    → LendsFrame reader now_reader told now_told frames (option_copied lent) → HasReadFrames reader frames → HasTaken plain reader.size input told Took frames
    → (now_reader ≡ reader) × HasReadFrames now_reader frames × HasTaken plain now_reader.size input now_told Took frames
frames_on reader now_reader input told now_told Took frames lent none lends has_read given =
    let same = still_frames reader now_reader told now_told frames lent none lends in
    (same.0, has_frames_still reader now_reader frames same.0 has_read, taken_frames_still reader now_reader input told now_told Took frames same.0 same.1 given)

-- one piece more was counted
pub one_more : (count now_count : ℕ) (pieces : List (List ℕ)) (piece : List ℕ) → count ≡ length pieces → now_count ≡ length (pieces ++ piece ∷ []) → now_count ≡ count + 1
one_more count now_count pieces piece before after = omega (arith, length_push pieces piece)
