-- One reading into a file: what a bridge took and an outlet was given, in the words of the rack.
use Rattle.std.proofs.Common.{◌≡◌, ℕ, List, [], ◌++◌, take, ap, sym, ◌∙◌, subst, Result, Ok, Err}
use Rattle.std.proofs.lemmas.List.{map-append}
use Rattle.ts_spec.specs.Recording.{Record, RecordingForm}
use Rattle.ipe_io.specs.Told.{InputTold, RackTold}
use Rattle.outlet_spec.specs.Pairs.{pairs_of}
use Rattle.pcap_file.specs.Capture.{capture_record}
use Rattle.recording_reader.specs.declared.fault.ReadFault.{ReadFault}
use Rattle.recording_reader.specs.declared.fault.ReadFault.TheVariants as fault
use Rattle.recording_reader.specs.Reading.{Reads, Ends}
use Rattle.bridge_spec.specs.Frames.{BridgeCarrier}
use Rattle.bridge_frame.specs.Bridge.{BridgeState}
use Rattle.bridge_frame.specs.Taking.{HasTaken, TookRecords, StoppedInRecord, frames_of_records, added_by_record}
use Rattle.capture_files.specs.declared.outlet.Progress.{Progress}
use Rattle.capture_files.specs.declared.outlet.Progress.TheVariants.{Whole}
use Rattle.capture_files.specs.Growth.{Grow, records_and}
use Rattle.capture_files.specs.Outlets.{RackSeen, StandsFor, Refuses, failures}
use Rattle.capture_files.proofs.Outlets.{seen, BeginsWith, writes_all, part_of}
use Rattle.unbridge_command.specs.Writing.{HasWritten, HasStopped}
use Rattle.unbridge_command.proofs.Frames.{Split, split}

-- A reading in other words of what a taker took.
module _ (form : RecordingForm) (size : ℕ) (input now : InputTold) (Took Stopped Takes Stops : List Record → Type 0)
    (took : (records : List Record) → Took records → Takes records) (stopped : (records : List Record) → Stopped records → Stops records) where
  ends_as : (result : Result ℕ ReadFault) (pieces : List (List ℕ)) (behind : List ℕ) → Ends result form input now Took Stopped pieces behind
      → Ends result form input now Takes Stops pieces behind
  ends_as (Ok tail) pieces behind ends = (ends.0, ends.1, ends.2, ends.3, ends.4, took _ ends.5)
  ends_as (Err fault.Source) pieces behind ends = (ends.0, ends.1, ends.2, took _ ends.3)
  ends_as (Err fault.TooLong) pieces behind ends = (ends.0, ends.1, ends.2, took _ ends.3)
  ends_as (Err fault.Taker) pieces behind ends = (ends.0, ends.1, ends.2, stopped _ ends.3)

  pub reads_as : (result : Result ℕ ReadFault) → Reads result form size input now Took Stopped → Reads result form size input now Takes Stops
  reads_as result reads = record {
    pieces = reads.pieces;
    behind = reads.behind;
    each = reads.each;
    short = reads.short;
    consumed = reads.consumed;
    taken = reads.taken;
    ends = ends_as result reads.pieces reads.behind reads.ends;
  }

module _ (carrier : BridgeCarrier) (place : ℕ) (rack had now_rack : RackTold) (began : RackSeen) (now_place : ℕ) (progress : Progress) (borrow now_borrow : ℕ)
    (start mid : BridgeState) (at_place : began.first ≡ place) (same : BeginsWith began rack) (is : borrow ≡ now_borrow → now_rack ≡ had) (fresh : HasTaken carrier start []) where
  abbrev Old : List (ℕ × List ℕ) → Type 0
  Old = StandsFor began (seen place rack) Whole borrow

  abbrev New : List (ℕ × List ℕ) → Type 0
  New = StandsFor began (seen now_place had) progress now_borrow

  pub wrote_all : (records : List Record) → TookRecords start mid Old New 0 (failures progress) records → HasWritten carrier place rack now_rack records
  wrote_all records took =
      let all = took carrier fresh in
      let wrote = writes_all began place now_place rack had now_rack progress borrow now_borrow (pairs_of 0 (frames_of_records carrier records)) all.outlet_faults at_place same all.delivers is in
      record { files = wrote.files; count = wrote.count; kept = wrote.kept }

  pub wrote_part : (records : List Record) → StoppedInRecord start mid Old New (Refuses began (seen now_place had) progress) 0 (failures progress) records
      → HasStopped carrier place rack now_rack records
  wrote_part records stopped =
      let stop = stopped carrier fresh in
      let own : Split (added_by_record carrier stop.before stop.last) stop.front stop.stops.service stop.stops.datagram =
      split (added_by_record carrier stop.before stop.last) stop.front stop.stops.service stop.stops.datagram stop.stops.behind stop.gives in
      let part = part_of began place now_place rack had now_rack progress borrow now_borrow stop.stops.front stop.stops.service stop.stops.datagram
      at_place same stop.stops.delivers stop.stops.refuses is in
      let told : List (List ℕ) = frames_of_records carrier stop.before in
      let text : List ℕ = take part.count (capture_record stop.stops.datagram) in
      let front_is : stop.stops.front ≡ pairs_of 0 (told ++ own.before) =
      stop.late ∙ ap (λ (t : List (ℕ × List ℕ)). pairs_of 0 told ++ t) own.front_is ∙ sym (map-append (λ (d : List ℕ). let pair : ℕ × List ℕ = (0, d) in pair) told own.before) in
      record {
        before = stop.before;
        last = stop.last;
        records_are = stop.records_are;
        front = own.before;
        frame = stop.stops.datagram;
        rest = own.rest;
        gives = own.frames_are;
        count = part.count;
        less = part.less;
        files = subst (λ (k : ℕ). Grow rack.files now_rack.files (records_and place k text (pairs_of 0 (told ++ own.before)))) own.zero_is
            (subst (λ (pairs : List (ℕ × List ℕ)). Grow rack.files now_rack.files (records_and place stop.stops.service text pairs)) front_is part.files);
        places = part.places;
        rose = part.rose;
      }
