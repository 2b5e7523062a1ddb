-- However a reception stops, each file is a prefix of a capture: of what the pieces read tell, or, where the input was read to its end, of what
-- they deliver.
use Rattle.std.proofs.Common.{◌≡◌, inl, inr, ℕ, ◌+◌, ◌<◌, ◌==◌, Bool, true, false, cond, List, [], ◌∷◌, ◌++◌, length, take, drop, refl, ap, sym, ◌∙◌, subst, arith, append_assoc, Option}
use Rattle.std.specs.Io.KnownBytes.{Consumes, IsAtEnd}
use Rattle.std.proofs.lemmas.List.{take-append-drop}
use Rattle.wire_spec.specs.Content.{File}
use Rattle.plan_spec.specs.Plan.{ServiceFields, PlanFields}
use Rattle.plan_spec.specs.Changes.{has_wrong_change}
use Rattle.carrier_spec.specs.Stream.{piece_size}
use Rattle.pcap_file.specs.Capture.{capture_head, capture_record}
use Rattle.recording_spec.specs.Pieces.{told_pairs, pairs_of_end, told_of}
use Rattle.capture_files.specs.Growth.{records_at, text_in}
use Rattle.capture_files.specs.Files.{file_with, files_from, head_of, capture_of_pairs, capture_and, AddsParts, AddsHeadsPart, AddsCaptures}
use Rattle.recording_reader.specs.Taken.{HasRead}
use Rattle.receive_command.specs.Ends.{told_capture, delivered_capture, EndsFront, EndsAtLimit, StopsInPiece, StopsAtEnd, EndsInFiles, in_heads, in_piece, at_end, in_flush}
use Rattle.capture_files.proofs.Parts.{parts_whole, parts_front, parts_next, flushed_parts, parts_go_on, heads_are_parts}
use Rattle.recording_reader.proofs.Taken.{consumes_none}
use Rattle.recording_reception.proofs.NextPiece.{last_pairs}
use Rattle.capture_files.proofs.Assembly.{captures_of_pairs}
use Rattle.capture_files.proofs.Grown.{records-append}
use Rattle.receive_command.proofs.Pairs.{capture_of_told, capture_of_delivered}

-- these pieces were read, and files were added: those of the first services, each with a prefix of the capture of what these pieces tell
pub record TellsPart (plan : PlanFields) (left now : Option (List ℕ)) (old new : Option (List File)) : Type 0 where
  pub pieces : List (List ℕ)
  pub behind : List ℕ
  pub read : HasRead (piece_size plan) left now pieces behind
  pub files : AddsParts (told_capture plan pieces) plan.services old new

-- the input was read to its end, and the files have each a prefix of the capture of what its pieces deliver
pub record DeliversPart (plan : PlanFields) (left now : Option (List ℕ)) (old new : Option (List File)) : Type 0 where
  pub pieces : List (List ℕ)
  pub behind : List ℕ
  pub read : HasRead (piece_size plan) left now pieces behind
  pub at_end : IsAtEnd now
  pub files : AddsParts (delivered_capture plan pieces) plan.services old new

pub data EndsPart (plan : PlanFields) (left now : Option (List ℕ)) (old new : Option (List File)) : Type 0 where
  tells_part : TellsPart plan left now old new → EndsPart plan left now old new
  delivers_part : DeliversPart plan left now old new → EndsPart plan left now old new

-- The captures of all told pairs.

pairs_parts : (plan : PlanFields) → has_wrong_change plan ≡ false → (pieces : List (List ℕ)) (old new : Option (List File))
    → AddsCaptures false (capture_of_pairs (told_pairs plan pieces)) plan.services old new → AddsParts (told_capture plan pieces) plan.services old new
pairs_parts plan right pieces old new added =
    parts_whole false (told_capture plan pieces) plan.services old new
    (captures_of_pairs plan.services (told_pairs plan pieces) (told_capture plan pieces) old new (capture_of_told plan right pieces) added)

pub part_of_front : (plan : PlanFields) → has_wrong_change plan ≡ false → (left now : Option (List ℕ)) (a b : Option (List File)) → EndsFront plan left now a b
    → EndsPart plan left now a b
part_of_front plan right left now a b front = tells_part (record {
  pieces = front.pieces;
  behind = front.behind;
  read = front.read;
  files = pairs_parts plan right front.pieces a b front.files;
})

pub part_of_limit : (plan : PlanFields) → has_wrong_change plan ≡ false → (left now : Option (List ℕ)) (a b : Option (List File)) → EndsAtLimit plan left now a b
    → EndsPart plan left now a b
part_of_limit plan right left now a b limit = tells_part (record {
  pieces = limit.pieces;
  behind = [];
  read = limit.read;
  files = pairs_parts plan right limit.pieces a b limit.files;
})

-- Stopped at a head.

none_read : (size : ℕ) (left now : Option (List ℕ)) → 0 < size → now ≡ left → HasRead size left now [] []
none_read size left now some unread = record {
  each = λ k d lt. absurd (omega (arith, lt));
  short = some;
  consumed = subst (λ (n : Option (List ℕ)). Consumes left n []) (sym unread) (consumes_none left);
}

parts_of_heads_part : (services : List ServiceFields) (count : ℕ) (a b : Option (List File)) → AddsHeadsPart services count a b → AddsParts head_of services a b
parts_of_heads_part services count a b heads = elim heads.files [
  | inl whole ↦ record {
    files = files_from false 0 head_of (take count services);
    parts = parts_front false 0 head_of services count;
    added = whole;
  }
  | inr some ↦ record {
    files = files_from false 0 head_of (take count services) ++ file_with false heads.service.name (take some.0 capture_head) ∷ [];
    parts = parts_next false 0 head_of services count heads.service (file_with false heads.service.name (take some.0 capture_head)) heads.next
        (record { name_is = refl; count = some.0; bytes = refl });
    added = some.2;
  }
]

-- Stopped at a pair.

-- in the file of its service a prefix of the record, in the others nothing
text_goes_on : (own : Bool) (count : ℕ) (text : List ℕ) → (more : List ℕ) × (cond own text [] ≡ cond own (take count text) [] ++ more)
text_goes_on true count text = (drop count text, sym (take-append-drop count text))
text_goes_on false count text = ([], refl)

-- the text of a file goes on in the one with all pairs
pair_goes_on : (service count : ℕ) (datagram : List ℕ) (before rest : List (ℕ × List ℕ)) (k : ℕ)
    → (more : List ℕ) × (capture_of_pairs (before ++ (service, datagram) ∷ rest) k ≡ capture_and service (take count (capture_record datagram)) before k ++ more)
pair_goes_on service count datagram before rest k =
    let one = text_goes_on (0 + service == k) count (capture_record datagram) in
    let left : List ℕ = records_at 0 before k in
    let cut : List ℕ = text_in 0 service (take count (capture_record datagram)) k in
    let right : List ℕ = records_at 0 rest k in (
      one.0 ++ right,
      ap (λ (t : List ℕ). capture_head ++ t) (sym (records-append 0 before ((service, datagram) ∷ rest) k) ∙ ap (λ (t : List ℕ). left ++ (t ++ right)) one.1
          ∙ ap (λ (t : List ℕ). left ++ t) (append_assoc cut one.0 right) ∙ sym (append_assoc left cut (one.0 ++ right)))
          ∙ sym (append_assoc capture_head (left ++ cut) (one.0 ++ right)),
    )

-- so each file has a part of its text, by what the captures of the services among all pairs are
pair_parts : (services : List ServiceFields) (pairs told front : List (ℕ × List ℕ)) (service : ℕ) (datagram : List ℕ) (rest : List (ℕ × List ℕ)) (count : ℕ) (text : ℕ → List ℕ)
    (old new : Option (List File)) → ((k : ℕ) → k < length services → capture_of_pairs pairs k ≡ text k) → pairs ≡ told ++ (front ++ (service, datagram) ∷ rest)
    → AddsCaptures false (capture_and service (take count (capture_record datagram)) (told ++ front)) services old new → AddsParts text services old new
pair_parts services pairs told front service datagram rest count text old new are all added =
    let cut : ℕ → List ℕ = capture_and service (take count (capture_record datagram)) (told ++ front) in
    parts_go_on cut text services old new
    (λ i low.
    let more = pair_goes_on service count datagram (told ++ front) rest (0 + i) in (
      more.0,
      sym (are (0 + i) (omega (arith, low)))
          ∙ ap (λ (ps : List (ℕ × List ℕ)). capture_of_pairs ps (0 + i)) (all ∙ sym (append_assoc told front ((service, datagram) ∷ rest)))
          ∙ more.1,
    ))
    (parts_whole false cut services old new added)

part_in_piece : (plan : PlanFields) → has_wrong_change plan ≡ false → (left now : Option (List ℕ)) (a b : Option (List File)) → StopsInPiece plan left now a b
    → EndsPart plan left now a b
part_in_piece plan right left now a b stop =
    let pieces : List (List ℕ) = stop.pieces ++ stop.piece ∷ [] in
    let told : List (ℕ × List ℕ) = told_pairs plan stop.pieces in tells_part (record {
      pieces = pieces;
      behind = [];
      read = stop.read;
      files = pair_parts plan.services (told_pairs plan pieces) told stop.front stop.service stop.datagram stop.rest stop.count (told_capture plan pieces) a b
          (capture_of_told plan right pieces) (last_pairs plan stop.pieces stop.piece ∙ ap (λ (ps : List (ℕ × List ℕ)). told ++ ps) stop.pairs) stop.files;
    })

part_at_end : (plan : PlanFields) → has_wrong_change plan ≡ false → (left now : Option (List ℕ)) (a b : Option (List File)) → StopsAtEnd plan left now a b
    → EndsPart plan left now a b
part_at_end plan right left now a b stop =
    let told : List (ℕ × List ℕ) = told_pairs plan stop.pieces in delivers_part (record {
      pieces = stop.pieces;
      behind = stop.behind;
      read = stop.read;
      at_end = stop.at_end;
      files = pair_parts plan.services (told ++ pairs_of_end plan stop.pieces) told stop.front stop.service stop.datagram stop.rest stop.count (delivered_capture plan stop.pieces) a b
          (capture_of_delivered plan right stop.pieces) (ap (λ (ps : List (ℕ × List ℕ)). told ++ ps) stop.pairs) stop.files;
    })

-- Stopped anywhere.

pub part_of_files : (plan : PlanFields) → has_wrong_change plan ≡ false → 0 < piece_size plan → (left now : Option (List ℕ)) (a b : Option (List File))
    → EndsInFiles plan left now a b → EndsPart plan left now a b
part_of_files plan right some left now a b (in_heads stop) = tells_part (record {
  pieces = [];
  behind = [];
  read = none_read (piece_size plan) left now some stop.unread;
  files = heads_are_parts (λ k. told_of plan k []) plan.services a b (parts_of_heads_part plan.services stop.count a b stop.files);
})
part_of_files plan right some left now a b (in_piece stop) = part_in_piece plan right left now a b stop
part_of_files plan right some left now a b (at_end stop) = part_at_end plan right left now a b stop
part_of_files plan right some left now a b (in_flush stop) = delivers_part (record {
  pieces = stop.pieces;
  behind = stop.behind;
  read = stop.read;
  at_end = stop.at_end;
  files = record {
    files = take stop.count (files_from true 0 (delivered_capture plan stop.pieces) plan.services)
        ++ drop stop.count (files_from false 0 (delivered_capture plan stop.pieces) plan.services);
    parts = flushed_parts 0 (delivered_capture plan stop.pieces) plan.services stop.count;
    added = stop.files;
  };
})
