-- The captures of a recording, from what one reading wrote after the heads, and from the flush.
use Rattle.std.proofs.Common.{◌≡◌, inl, inr, ℕ, ◌+◌, ◌*◌, ◌^◌, ◌<◌, ◌≤◌, false, List, [], ◌∷◌, ◌++◌, length, take, refl, ap, sym, ◌∙◌, subst, arith, Option, IfSome, Result, Ok, Err}
use Rattle.std.proofs.Math.Nat.{mul-le-mul_left}
use Rattle.std.proofs.lemmas.List.{length_push}
use Rattle.wire_spec.specs.Causes.{Rose, raised}
use Rattle.wire_spec.specs.Content.{File}
use Rattle.ipe_io.specs.Told.{InputTold, RackTold}
use Rattle.ipe_io.specs.Counts.{HasAddCause}
use Rattle.ipe_io.specs.declared.faults.AddFault.{AddFault}
use Rattle.ipe_io.specs.declared.faults.AddFault.TheVariants as add
use Rattle.plan_spec.specs.Plan.{PlanFields}
use Rattle.plan_spec.specs.Changes.{has_wrong_change}
use Rattle.pcap_file.specs.Capture.{capture_record}
use Rattle.demux_core.specs.declared.receiver.ByCarrier.{ByCarrier}
use Rattle.recording_reader.specs.declared.fault.ReadFault.{ReadFault}
use Rattle.recording_reader.specs.declared.fault.ReadFault.TheVariants as read
use Rattle.capture_files.specs.declared.faults.ReceiveFault.{ReceiveFault}
use Rattle.capture_files.specs.declared.faults.ReceiveFault.TheVariants as fault
use Rattle.carrier_spec.specs.Stream.{piece_size}
use Rattle.recording_spec.specs.Pieces.{told_pairs, pairs_of_end}
use Rattle.capture_files.specs.Faults.{Blames, fault_of_reading, fault_of_adding}
use Rattle.capture_files.proofs.CameUp.{stays}
use Rattle.capture_files.specs.Growth.{Grow, records_at, records_and}
use Rattle.capture_files.specs.Files.{AddsCaptures, AddsHeadsPart, head_of, capture_of_pairs, capture_and}
use Rattle.capture_files.specs.Flushes.{Flush}
use Rattle.receive_command.specs.Ends.{delivered_capture, in_heads, in_piece, at_end, in_flush}
use Rattle.receive_command.specs.Writing.{WritesPieces}
use Rattle.recording_reader.specs.Taken.{HasRead, TakesMostOf}
use Rattle.receive_command.specs.Receives.{HasMostFiles, HasHeads, Captures}
use Rattle.recording_reader.proofs.Taken.{below_product}
use Rattle.receive_command.proofs.Pairs.{capture_of_delivered}
use Rattle.capture_files.proofs.Assembly.{pairs_grown, pairs_and_grown, captures_of_pairs, captures_flushed, captures_flushed_to}

-- Counters.

pub sized : (a : Option (List File)) (count first : ℕ) → first ≡ count → IfSome a (λ told. length told ≡ count) → IfSome a (λ told. length told ≡ first)
sized a count first e many = subst (λ (n : ℕ). IfSome a (λ told. length told ≡ n)) (sym e) many

rises : (own : ReceiveFault) (before now : ℕ) → Rose before now → Blames {T = ℕ} (Err own) own before now
rises own before now rose = record { rose = λ is. rose; kept = λ not. absurd (not refl) }

-- No file was added whole, or not all, by the fault of the one that could not be added.

abbrev unadded : AddFault → Result ℕ AddFault
unadded e = Err e

pub heads_stopped : (e : AddFault) (plan : PlanFields) (input : InputTold) (rack now_rack : RackTold) (receiver : ByCarrier) (Unread : Type 0)
    → raised input.taken 0 ≡ input.taken → Unread
    → (unadded e ≡ Err add.Failed → (count : ℕ) × AddsHeadsPart plan.services count rack.files now_rack.files)
    → (unadded e ≡ Err add.OutOfMemory → HasHeads plan rack now_rack)
    → HasMostFiles plan rack now_rack → HasAddCause rack.faults now_rack.faults (unadded e)
    → Captures (Err (fault_of_adding e)) plan input input rack now_rack receiver Unread
heads_stopped add.Failed plan input rack now_rack receiver Unread none unread part heads most cause = record {
  ends = (in_heads (record { unread = refl; count = (part refl).0; files = (part refl).1 }), most, record { count = 0; most = omega arith; taken = sym none });
  input_faults = stays _ _ _ _ (λ is. absurd (cc)) refl;
  rack_faults = rises _ _ _ (cause.failed refl);
}
heads_stopped add.OutOfMemory plan input rack now_rack receiver Unread none unread part heads most cause = record {
  ends = (unread, heads refl);
  input_faults = stays _ _ _ _ (λ is. absurd (cc)) refl;
  rack_faults = stays _ _ _ _ (λ is. absurd (cc)) (cause.kept (λ e. absurd (cc)));
}

-- The heads of all are there.

none_behind : (size before taken : ℕ) (pieces : List (List ℕ)) (behind : List ℕ) → behind ≡ [] → taken ≡ raised before (size * length pieces + length behind)
    → taken ≡ raised before (size * length pieces)
none_behind size before taken pieces behind none is =
    is ∙ ap (λ (n : ℕ). raised before n) (ap (λ (b : List ℕ). size * length pieces + length b) none ∙ omega arith)

module _ (plan : PlanFields) (first : ℕ) (input now : InputTold) (rack heads mid : RackTold) (receiver : ByCarrier) (Unread : Type 0)
    (size : IfSome rack.files (λ told. length told ≡ first)) (added : AddsCaptures false head_of plan.services rack.files heads.files) (kept : heads.faults ≡ rack.faults)
    (all : heads.count ≡ rack.count + length plan.services) where
  -- how many bytes were taken, of fewer pieces than the most
  takes_most : {answer : Result ℕ ReadFault} (wrote : WritesPieces answer plan first input now heads mid receiver) → length wrote.pieces < 2 ^ 32 → TakesMostOf (piece_size plan) input now
  takes_most wrote few = record {
    count = piece_size plan * length wrote.pieces + length wrote.behind;
    most = omega (arith, below_product (piece_size plan) (length wrote.pieces) (length wrote.behind) few wrote.read.short);
    taken = wrote.taken;
  }

  grown_by : (pairs : List (ℕ × List ℕ)) → Grow heads.files mid.files (records_at first pairs) → AddsCaptures false (capture_of_pairs pairs) plan.services rack.files mid.files
  grown_by pairs grew = pairs_grown plan.services pairs rack.files heads.files mid.files first size added grew

  grown_part : (pairs : List (ℕ × List ℕ)) (service : ℕ) (text : List ℕ) → Grow heads.files mid.files (records_and first service text pairs)
      → AddsCaptures false (capture_and service text pairs) plan.services rack.files mid.files
  grown_part pairs service text grew = pairs_and_grown plan.services service text pairs rack.files heads.files mid.files first size added grew

  -- no more files than those are there
  most_places : (count : ℕ) → count ≡ heads.count → count ≤ rack.count + length plan.services
  most_places count same = omega (arith, same, all)

  stop_rose : WritesPieces (Err read.Taker) plan first input now heads mid receiver → Rose heads.faults mid.faults
  stop_rose wrote = elim wrote.ends.1 [
    | inl last ↦ last.2.stopped.rose
    | inr end ↦ end.3.stopped.rose
  ]

  pub captured_part : (e : ReadFault) → WritesPieces (Err e) plan first input now heads mid receiver → Captures (Err (fault_of_reading e)) plan input now rack mid receiver Unread
  captured_part read.Source wrote = record {
    ends = (
      record { pieces = wrote.pieces; behind = wrote.behind; read = wrote.read; fewer = wrote.ends.0; files = grown_by (told_pairs plan wrote.pieces) wrote.ends.3.files },
      wrote.ends.3.count ∙ all,
      record {
        going = wrote.ends.1;
        count = piece_size plan * length wrote.pieces + length wrote.behind;
        fewer = below_product (piece_size plan) (length wrote.pieces) (length wrote.behind) wrote.ends.0 wrote.read.short;
        taken = wrote.taken;
      },
    );
    input_faults = rises _ _ _ wrote.ends.2;
    rack_faults = stays _ _ _ _ (λ is. absurd (cc)) (wrote.ends.3.kept ∙ kept);
  }
  captured_part read.TooLong wrote = record {
    ends = (
      record {
        pieces = wrote.pieces;
        read = subst (λ (b : List ℕ). HasRead (piece_size plan) input.left now.left wrote.pieces b) wrote.ends.0 wrote.read;
        limit = wrote.ends.1;
        files = grown_by (told_pairs plan wrote.pieces) wrote.ends.3.files;
      },
      wrote.ends.3.count ∙ all,
      none_behind (piece_size plan) input.taken now.taken wrote.pieces wrote.behind wrote.ends.0 wrote.taken ∙ ap (λ (n : ℕ). raised input.taken (piece_size plan * n)) wrote.ends.1,
    );
    input_faults = stays _ _ _ _ (λ is. absurd (cc)) wrote.ends.2;
    rack_faults = stays _ _ _ _ (λ is. absurd (cc)) (wrote.ends.3.kept ∙ kept);
  }
  captured_part read.Taker wrote = record {
    ends = elim wrote.ends.1 [
      | inl last ↦
          let stop = last.2 in
          let many : length (stop.pieces ++ stop.piece ∷ []) ≤ 2 ^ 32 = subst (λ (all : List (List ℕ)). length all ≤ 2 ^ 32) stop.all_are last.1 in (
            in_piece (record {
              pieces = stop.pieces;
              piece = stop.piece;
              read = subst (λ (all : List (List ℕ)). HasRead (piece_size plan) input.left now.left all []) stop.all_are
                  (subst (λ (b : List ℕ). HasRead (piece_size plan) input.left now.left wrote.pieces b) last.0 wrote.read);
              fewer = omega (arith, many, length_push stop.pieces stop.piece);
              front = stop.front;
              service = stop.service;
              datagram = stop.datagram;
              rest = stop.rest;
              pairs = stop.pairs;
              count = stop.stopped.count;
              less = stop.stopped.less;
              files = grown_part (told_pairs plan stop.pieces ++ stop.front) stop.service (take stop.stopped.count (capture_record stop.datagram)) stop.stopped.files;
            }),
            most_places mid.count stop.stopped.places,
            record {
              count = piece_size plan * length wrote.pieces;
              most = mul-le-mul_left (piece_size plan) last.1;
              taken = none_behind (piece_size plan) input.taken now.taken wrote.pieces wrote.behind last.0 wrote.taken;
            },
          )
      | inr end ↦
          let stop = end.3 in (
            at_end (record {
              pieces = wrote.pieces;
              behind = wrote.behind;
              read = wrote.read;
              fewer = end.0;
              at_end = end.1;
              front = stop.front;
              service = stop.service;
              datagram = stop.datagram;
              rest = stop.rest;
              pairs = stop.pairs;
              count = stop.stopped.count;
              less = stop.stopped.less;
              files = grown_part (told_pairs plan wrote.pieces ++ stop.front) stop.service (take stop.stopped.count (capture_record stop.datagram)) stop.stopped.files;
            }),
            most_places mid.count stop.stopped.places,
            takes_most wrote end.0,
          )
    ];
    input_faults = stays _ _ _ _ (λ is. absurd (cc)) wrote.ends.0;
    rack_faults = rises _ _ _ (stop_rose wrote ∙ ap (λ (n : ℕ). raised n 1) kept);
  }

  -- and the flush
  module _ (now_rack : RackTold) (tail services : ℕ) (right : has_wrong_change plan ≡ false) (many : services ≡ length plan.services)
      (wrote : WritesPieces (Ok tail) plan first input now heads mid receiver) where
    whole_files : AddsCaptures false (delivered_capture plan wrote.pieces) plan.services rack.files mid.files
    whole_files =
        let told : List (ℕ × List ℕ) = told_pairs plan wrote.pieces in
        let last : List (ℕ × List ℕ) = pairs_of_end plan wrote.pieces in
        captures_of_pairs plan.services (told ++ last) (delivered_capture plan wrote.pieces) rack.files mid.files (capture_of_delivered plan right wrote.pieces)
        (grown_by (told ++ last) wrote.ends.5.files)

    pub captured_whole : now_rack.count ≡ mid.count → Flush mid.files now_rack.files first services
        → now_rack.faults ≡ mid.faults → Captures (Ok tail) plan input now rack now_rack receiver Unread
    captured_whole kept_all flushed same = record {
      ends = (
        record {
          ends = record {
            pieces = wrote.pieces;
            tail = wrote.behind;
            read = wrote.read;
            fewer = wrote.ends.1;
            at_end = wrote.ends.2;
            files = captures_flushed (delivered_capture plan wrote.pieces) plan.services rack.files mid.files now_rack.files first size whole_files
                (subst (λ (n : ℕ). Flush mid.files now_rack.files first n) many flushed);
          };
          tail_is = wrote.ends.0;
          received = wrote.ends.6;
        },
        kept_all ∙ (wrote.ends.5.count ∙ all),
        record {
          ended = wrote.ends.3;
          count = piece_size plan * length wrote.pieces + length wrote.behind;
          fewer = below_product (piece_size plan) (length wrote.pieces) (length wrote.behind) wrote.ends.1 wrote.read.short;
          taken = wrote.taken;
        },
      );
      input_faults = stays _ _ _ _ (λ is. absurd (cc)) wrote.ends.4;
      rack_faults = stays _ _ _ _ (λ is. absurd (cc)) (same ∙ (wrote.ends.5.kept ∙ kept));
    }

    pub captured_in_flush : now_rack.count ≡ mid.count → (count : ℕ) × (count < services) × Flush mid.files now_rack.files first count → Rose mid.faults now_rack.faults
        → Captures (Err fault.Rack) plan input now rack now_rack receiver Unread
    captured_in_flush kept_all stop rose =
        record {
          ends = (
            in_flush (record {
              pieces = wrote.pieces;
              behind = wrote.behind;
              read = wrote.read;
              fewer = wrote.ends.1;
              at_end = wrote.ends.2;
              count = stop.0;
              less = omega (arith, stop.1, many);
              files = captures_flushed_to (delivered_capture plan wrote.pieces) plan.services rack.files mid.files now_rack.files first stop.0 size whole_files stop.2;
            }),
            most_places now_rack.count (kept_all ∙ wrote.ends.5.count),
            takes_most wrote wrote.ends.1,
          );
          input_faults = stays _ _ _ _ (λ is. absurd (cc)) wrote.ends.4;
          rack_faults = rises _ _ _ (rose ∙ ap (λ (n : ℕ). raised n 1) (wrote.ends.5.kept ∙ kept));
        }
