-- How a reception into files ends, over an input, a rack and an output that may tell their content.
use Rattle.std.specs.Prelude.{◌≡◌, ℕ, ◌<◌, true, false, List, [], ◌∷◌, ◌++◌, length, take, Option}
use Rattle.std.specs.Io.KnownBytes.{Appends, IsAtEnd}
use Rattle.wire_spec.specs.Content.{File}
use Rattle.plan_spec.specs.Plan.{PlanFields}
use Rattle.pcap_file.specs.Capture.{capture_record, capture_text}
use Rattle.carrier_spec.specs.Stream.{piece_size}
use Rattle.recording_spec.specs.Pieces.{told_of, delivered_of, told_pairs, pairs_of_piece, pairs_of_end}
use Rattle.capture_files.specs.Files.{AddsCaptures, AddsHeadsPart, AddsFlushed, capture_of_pairs, capture_and}
use Rattle.recording_reader.specs.Reading.{most_pieces}
use Rattle.recording_reader.specs.Taken.{HasRead}
use Rattle.receive_command.specs.Report.{IsReport}

-- the capture of service k of what pieces tell
abbrev pub told_capture : PlanFields → List (List ℕ) → ℕ → List ℕ
told_capture plan pieces k = capture_text (told_of plan k pieces)

-- the capture of service k of what a recording of these pieces delivers
abbrev pub delivered_capture : PlanFields → List (List ℕ) → ℕ → List ℕ
delivered_capture plan pieces k = capture_text (delivered_of plan k pieces)

-- the input was read to its end, and the files are the captures of all that it delivers, flushed
pub record EndsWhole (plan : PlanFields) (left now : Option (List ℕ)) (old new : Option (List File)) : Type 0 where
  pub pieces : List (List ℕ)
  pub tail : List ℕ
  pub read : HasRead (piece_size plan) left now pieces tail
  pub fewer : length pieces < most_pieces
  pub at_end : IsAtEnd now
  pub files : AddsCaptures true (delivered_capture plan pieces) plan.services old new

-- the same where a receiver was given all pieces and has ended, and the number of bytes after the last
pub record WritesWhole (plan : PlanFields) (Given : List (List ℕ) → Type 0) (left now : Option (List ℕ)) (old new : Option (List File)) (tail : ℕ) : Type 0 where
  pub ends : EndsWhole plan left now old new
  pub tail_is : tail ≡ length ends.tail
  pub received : Given ends.pieces

-- the input could not be read on: fewer records than the most were read, and less than one after them; each file has what these
-- records tell, and nothing is flushed
pub record EndsFront (plan : PlanFields) (left now : Option (List ℕ)) (old new : Option (List File)) : Type 0 where
  pub pieces : List (List ℕ)
  pub behind : List ℕ
  pub read : HasRead (piece_size plan) left now pieces behind
  pub fewer : length pieces < most_pieces
  pub files : AddsCaptures false (capture_of_pairs (told_pairs plan pieces)) plan.services old new

-- the most pieces were read, and nothing after them; each file has what these tell, and nothing is flushed
pub record EndsAtLimit (plan : PlanFields) (left now : Option (List ℕ)) (old new : Option (List File)) : Type 0 where
  pub pieces : List (List ℕ)
  pub read : HasRead (piece_size plan) left now pieces []
  pub limit : length pieces ≡ most_pieces
  pub files : AddsCaptures false (capture_of_pairs (told_pairs plan pieces)) plan.services old new

-- the files stopped at the head of one of them: nothing was read, the heads before it are whole, and of this one less than all was written
pub record StopsInHeads (plan : PlanFields) (left now : Option (List ℕ)) (old new : Option (List File)) : Type 0 where
  pub unread : now ≡ left
  pub count : ℕ
  pub files : AddsHeadsPart plan.services count old new

-- the files stopped at a pair of the last piece that was read: each file has its datagrams among the pairs before it, that of its
-- service also less than all of the pair's capture record, and nothing is flushed
pub record StopsInPiece (plan : PlanFields) (left now : Option (List ℕ)) (old new : Option (List File)) : Type 0 where
  pub pieces : List (List ℕ)
  pub piece : List ℕ
  pub read : HasRead (piece_size plan) left now (pieces ++ piece ∷ []) []
  pub fewer : length pieces < most_pieces
  pub front : List (ℕ × List ℕ)
  pub service : ℕ
  pub datagram : List ℕ
  pub rest : List (ℕ × List ℕ)
  pub pairs : pairs_of_piece plan (pieces ++ piece ∷ []) (length pieces) ≡ front ++ (service, datagram) ∷ rest
  pub count : ℕ
  pub less : count < length (capture_record datagram)
  pub files : AddsCaptures false (capture_and service (take count (capture_record datagram)) (told_pairs plan pieces ++ front)) plan.services old new

-- the files stopped at a pair that the recording's end gives: the input was read to its end; each file has its datagrams among what the
-- pieces tell and the pairs before this one, that of its service also less than all of the pair's capture record, and nothing is flushed
pub record StopsAtEnd (plan : PlanFields) (left now : Option (List ℕ)) (old new : Option (List File)) : Type 0 where
  pub pieces : List (List ℕ)
  pub behind : List ℕ
  pub read : HasRead (piece_size plan) left now pieces behind
  pub fewer : length pieces < most_pieces
  pub at_end : IsAtEnd now
  pub front : List (ℕ × List ℕ)
  pub service : ℕ
  pub datagram : List ℕ
  pub rest : List (ℕ × List ℕ)
  pub pairs : pairs_of_end plan pieces ≡ front ++ (service, datagram) ∷ rest
  pub count : ℕ
  pub less : count < length (capture_record datagram)
  pub files : AddsCaptures false (capture_and service (take count (capture_record datagram)) (told_pairs plan pieces ++ front)) plan.services old new

-- the files stopped at the flush of one of them: the input was read to its end, all files are whole, and those before this one are flushed
pub record StopsInFlush (plan : PlanFields) (left now : Option (List ℕ)) (old new : Option (List File)) : Type 0 where
  pub pieces : List (List ℕ)
  pub behind : List ℕ
  pub read : HasRead (piece_size plan) left now pieces behind
  pub fewer : length pieces < most_pieces
  pub at_end : IsAtEnd now
  pub count : ℕ
  pub less : count < length plan.services
  pub files : AddsFlushed count (delivered_capture plan pieces) plan.services old new

-- a file could not be added, written or flushed
pub data EndsInFiles (plan : PlanFields) (left now : Option (List ℕ)) (old new : Option (List File)) : Type 0 where
  in_heads : StopsInHeads plan left now old new → EndsInFiles plan left now old new
  in_piece : StopsInPiece plan left now old new → EndsInFiles plan left now old new
  at_end : StopsAtEnd plan left now old new → EndsInFiles plan left now old new
  in_flush : StopsInFlush plan left now old new → EndsInFiles plan left now old new

-- an output grew by a text that is so
pub record Reports (IsText : List ℕ → Type 0) (old new : Option (List ℕ)) : Type 0 where
  pub text : List ℕ
  pub report : IsText text
  pub written : Appends old new text

-- by a prefix of it
pub record ReportsPart (IsText : List ℕ → Type 0) (old new : Option (List ℕ)) : Type 0 where
  pub text : List ℕ
  pub report : IsText text
  pub count : ℕ
  pub written : Appends old new (take count text)

-- the files are whole and flushed, and an output grew by the report
pub record EndsReported (plan : PlanFields) (left now : Option (List ℕ)) (old new : Option (List File)) (held held_now : Option (List ℕ)) : Type 0 where
  pub ends : EndsWhole plan left now old new
  pub reports : Reports (IsReport plan ends.pieces (length ends.tail)) held held_now

-- the files are whole and flushed, and an output grew by a prefix of the report
pub record EndsInReport (plan : PlanFields) (left now : Option (List ℕ)) (old new : Option (List File)) (held held_now : Option (List ℕ)) : Type 0 where
  pub ends : EndsWhole plan left now old new
  pub reports : ReportsPart (IsReport plan ends.pieces (length ends.tail)) held held_now
