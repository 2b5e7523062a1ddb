-- One reception of a recording of either carrier: what a receiver took and an outlet was given, in the words of the pieces.
use Rattle.std.proofs.Common.{◌≡◌, inl, inr, ℕ, ◌+◌, ◌*◌, ◌<◌, true, false, List, [], ◌∷◌, ◌++◌, length, ap, ap₂, sym, ◌∙◌, subst, arith, Option, None, Some, All, Result, Ok, Err, OnOk, OnErr}
use Rattle.std.specs.Bool.{⊤}
use Rattle.std.specs.Option.{unwrap_or}
use Rattle.std.proofs.lemmas.List.{append-nil, length_push}
use Rattle.wire_spec.specs.Causes.{raised}
use Rattle.ts_spec.specs.Recording.{Record, RecordingForm, record_size, records_of}
use Rattle.ipe_io.specs.Told.{InputTold}
use Rattle.plan_spec.specs.Plan.{PlanFields, is_baseband}
use Rattle.carrier_spec.specs.Stream.{piece_size}
use Rattle.reception_spec.specs.Delivered.{told_pairs as told_pairs_of_records, pairs_of_record, pairs_of_end as pairs_behind_records}
use Rattle.bb_reception_spec.specs.Delivered.{delivered_pairs as pairs_of_frames, pairs_of_frame}
use Rattle.recording_spec.specs.Pieces.{by_carrier, records_in, told_pairs, pairs_of_end}
use Rattle.outlet_spec.specs.Pairs.{Delivers, DeliversFront}
use Rattle.outlet_spec.proofs.Pairs.{delivers_then}
use Rattle.bb_demux.specs.Taking.{TookFrames, StoppedInFrame}
use Rattle.demux_core.specs.Taking.{TookRecords, StoppedInRecord}
use Rattle.demux_core.specs.Carriers.{plan_of, HasReceivedPackets, HasReceivedFrames}
use Rattle.demux_core.specs.Carried.{Took, Stopped as StoppedOn}
use Rattle.demux_core.specs.declared.receiver.ByCarrier.{ByCarrier}
use Rattle.demux_core.specs.declared.receiver.ByCarrier.TheVariants.{Packets, Frames}
use Rattle.recording_reader.specs.declared.fault.ReadFault.{ReadFault}
use Rattle.recording_reader.specs.declared.fault.ReadFault.TheVariants as fault
use Rattle.recording_reader.specs.Reading.{Reads}
use Rattle.recording_reader.proofs.Next.{records_none}
use Rattle.channel_law.proofs.Late.{length-records}
use Rattle.gse_law.proofs.Records.{frames_of_records}
use Rattle.recording_reader.specs.Taken.{HasRead}
use Rattle.recording_reader.proofs.Taken.{by_last, init_same}
use Rattle.recording_reception.specs.Reception.{IsGivenOn, IsGiven, IsFormOn, IsFormOf, TakesPairs, RefusesAfter, StopsInLast, StopsBehind, PiecesEnd, ReceivesPieces}
use Rattle.recording_reception.proofs.Begun.{plan_of_frames}
use Rattle.recording_reception.proofs.NextPiece.{records_next}

-- The words of pieces, on a carrier.

abbrev told_on : Option ℕ → PlanFields → List (List ℕ) → List (ℕ × List ℕ)
told_on carrier plan pieces = by_carrier carrier (told_pairs_of_records plan (records_in plan pieces)) (pairs_of_frames plan pieces)

abbrev of_piece_on : Option ℕ → PlanFields → List (List ℕ) → ℕ → List (ℕ × List ℕ)
of_piece_on carrier plan pieces place = by_carrier carrier (pairs_of_record plan (records_in plan pieces) place) (pairs_of_frame plan pieces place)

abbrev of_end_on : Option ℕ → PlanFields → List (List ℕ) → List (ℕ × List ℕ)
of_end_on carrier plan pieces = by_carrier carrier (pairs_behind_records plan (records_in plan pieces)) []

-- no pieces give no records
none_given : (plan : PlanFields) (start : ByCarrier) → IsGivenOn None false plan [] start → HasReceivedPackets false plan [] start
none_given plan start fresh = subst (λ (records : List Record). HasReceivedPackets false plan records start) (records_none plan.recording) fresh

-- What a receiver of a carrier took.

pub record TakenOn (carrier : Option ℕ) (plan : PlanFields) (now : ByCarrier) (old new : List (ℕ × List ℕ) → Type 0) (faults now_faults : ℕ) (pieces : List (List ℕ)) : Type 0 where
  pub given : IsGivenOn carrier false plan pieces now
  pub delivers : Delivers old new (told_on carrier plan pieces)
  pub kept : now_faults ≡ faults

pub taken_on : (carrier : Option ℕ) (plan : PlanFields) (start now : ByCarrier) (old new : List (ℕ × List ℕ) → Type 0) (faults now_faults : ℕ) (form : RecordingForm) (size : ℕ)
    (pieces : List (List ℕ)) → IsGivenOn carrier false plan [] start → IsFormOn carrier plan form size → Took start now old new faults now_faults (records_of form pieces)
    → TakenOn carrier plan now old new faults now_faults pieces
taken_on None plan (Packets start) (Packets now) old new faults now_faults form size pieces fresh fits took =
    let all = subst (λ (f : RecordingForm). TookRecords start now old new faults now_faults (records_of f pieces)) fits.0 took plan (none_given plan (Packets start) fresh) in
    record { given = all.received; delivers = all.delivers; kept = all.outlet_faults }
taken_on None plan (Packets start) (Frames now) old new faults now_faults form size pieces fresh fits took = absurd took
taken_on None plan (Frames start) now old new faults now_faults form size pieces fresh fits took = absurd fresh
taken_on (Some bytes) plan (Packets start) now old new faults now_faults form size pieces fresh fits took = absurd fresh
taken_on (Some bytes) plan (Frames start) (Packets now) old new faults now_faults form size pieces fresh fits took = absurd took
taken_on (Some bytes) plan (Frames start) (Frames now) old new faults now_faults form size pieces fresh fits took =
    let all = subst (λ (f : RecordingForm). TookFrames start now old new faults now_faults (records_of f pieces)) fits.0 took plan fresh in
    record {
      given = subst (λ (fs : List (List ℕ)). IsGivenOn (Some bytes) false plan fs (Frames now)) (frames_of_records pieces) all.received;
      delivers = subst (λ (fs : List (List ℕ)). Delivers old new (told_on (Some bytes) plan fs)) (frames_of_records pieces) all.delivers;
      kept = all.outlet_faults;
    }

-- and where it stopped
pub record StoppedLast (carrier : Option ℕ) (plan : PlanFields) (old new : List (ℕ × List ℕ) → Type 0) (refused : ℕ → List ℕ → Type 0) (all : List (List ℕ)) : Type 0 where
  pub pieces : List (List ℕ)
  pub piece : List ℕ
  pub all_are : all ≡ pieces ++ piece ∷ []
  pub front : List (ℕ × List ℕ)
  pub service : ℕ
  pub datagram : List ℕ
  pub rest : List (ℕ × List ℕ)
  pub pairs : of_piece_on carrier plan (pieces ++ piece ∷ []) (length pieces) ≡ front ++ (service, datagram) ∷ rest
  pub delivers : Delivers old new (told_on carrier plan pieces ++ front)
  pub refuses : refused service datagram

pub stopped_on : (carrier : Option ℕ) (plan : PlanFields) (start now : ByCarrier) (old new : List (ℕ × List ℕ) → Type 0) (refused : ℕ → List ℕ → Type 0) (faults now_faults : ℕ)
    (form : RecordingForm) (size : ℕ) (pieces : List (List ℕ)) → IsGivenOn carrier false plan [] start → IsFormOn carrier plan form size
    → StoppedOn start now old new refused faults now_faults (records_of form pieces) → StoppedLast carrier plan old new refused pieces
stopped_on None plan (Packets start) (Packets now) old new refused faults now_faults form size pieces fresh fits stopped =
    let all = subst (λ (f : RecordingForm). StoppedInRecord start now old new refused faults now_faults (records_of f pieces)) fits.0 stopped plan (none_given plan (Packets start) fresh) in
    elim (by_last pieces) [
      | inl none ↦ absurd (omega (arith, ap length (sym (records_none plan.recording) ∙ ap (records_of plan.recording) (sym none) ∙ all.records_are), length_push all.before all.last))
      | inr more ↦
          let next = records_next plan.recording more.0 more.1 in
          let are : records_in plan (more.0 ++ more.1 ∷ []) ≡ all.before ++ all.last ∷ [] = ap (records_of plan.recording) (sym more.2) ∙ all.records_are in
          let inits : records_in plan more.0 ≡ all.before = init_same (records_in plan more.0) all.before next.0 all.last (sym next.1 ∙ are) in
          record {
            pieces = more.0;
            piece = more.1;
            all_are = more.2;
            front = all.front;
            service = all.stops.service;
            datagram = all.stops.datagram;
            rest = all.stops.behind;
            pairs = ap₂ (λ (records : List Record) (n : ℕ). pairs_of_record plan records n) are (sym (length-records plan.recording more.0) ∙ ap length inits) ∙ all.gives;
            delivers = subst (λ (pairs : List (ℕ × List ℕ)). Delivers old new pairs)
                (all.late ∙ ap (λ (records : List Record). told_pairs_of_records plan records ++ all.front) (sym inits)) all.stops.delivers;
            refuses = all.stops.refuses;
          }
    ]
stopped_on None plan (Packets start) (Frames now) old new refused faults now_faults form size pieces fresh fits stopped = absurd stopped
stopped_on None plan (Frames start) now old new refused faults now_faults form size pieces fresh fits stopped = absurd fresh
stopped_on (Some bytes) plan (Packets start) now old new refused faults now_faults form size pieces fresh fits stopped = absurd fresh
stopped_on (Some bytes) plan (Frames start) (Packets now) old new refused faults now_faults form size pieces fresh fits stopped = absurd stopped
stopped_on (Some bytes) plan (Frames start) (Frames now) old new refused faults now_faults form size pieces fresh fits stopped =
    let all = subst (λ (f : RecordingForm). StoppedInFrame start now old new refused faults now_faults (records_of f pieces)) fits.0 stopped plan fresh in
    record {
      pieces = all.before;
      piece = all.last;
      all_are = sym (frames_of_records pieces) ∙ all.frames_are;
      front = all.front;
      service = all.stops.service;
      datagram = all.stops.datagram;
      rest = all.stops.behind;
      pairs = all.gives;
      delivers = subst (λ (pairs : List (ℕ × List ℕ)). Delivers old new pairs) all.late all.stops.delivers;
      refuses = all.stops.refuses;
    }

-- What its end gave.

pub record EndedOn {E : Type 0} (result : Result ⊤ E) (carrier : Option ℕ) (plan : PlanFields) (now : ByCarrier) (old new : List (ℕ × List ℕ) → Type 0) (refused : ℕ → List ℕ → Type 0)
    (pieces : List (List ℕ)) : Type 0 where
  pub given : IsGivenOn carrier true plan pieces now
  pub all : OnOk result (Delivers old new (of_end_on carrier plan pieces))
  pub part : OnErr result (DeliversFront old new refused (of_end_on carrier plan pieces))

-- an outlet that is as it was
module _ {T : Type 0} (Stands : T → List (ℕ × List ℕ) → Type 0) (old new : T) (same : new ≡ old) where
  pub delivers_nothing : Delivers (Stands old) (Stands new) []
  delivers_nothing = λ before stands. subst (λ (o : T). Stands o (before ++ [])) (sym same) (subst (Stands old) (sym (append-nil before)) stands)

module _ {E : Type 0} (Mid New : List (ℕ × List ℕ) → Type 0) (refused : ℕ → List ℕ → Type 0) (result : Result ⊤ E) (start now : ByCarrier)
    (packets : (plan : PlanFields) (records : List Record) → HasReceivedPackets false plan records start → HasReceivedPackets true plan records now)
    (written : (plan : PlanFields) (records : List Record) → HasReceivedPackets false plan records start → OnOk result (Delivers Mid New (pairs_behind_records plan records)))
    (failed : (plan : PlanFields) (records : List Record) → HasReceivedPackets false plan records start → OnErr result (DeliversFront Mid New refused (pairs_behind_records plan records)))
    (frames : (plan : PlanFields) (given : List (List ℕ)) → HasReceivedFrames plan given start → HasReceivedFrames plan given now)
    (done : is_baseband (plan_of start) ≡ true → result ≡ Ok tt)
    (unchanged : is_baseband (plan_of start) ≡ true → Delivers Mid New []) where
  pub ended_on : (carrier : Option ℕ) (plan : PlanFields) (form : RecordingForm) (size : ℕ) (pieces : List (List ℕ)) → IsFormOn carrier plan form size → IsGivenOn carrier false plan pieces start
      → EndedOn result carrier plan now Mid New refused pieces
  ended_on None plan form size pieces fits given =
      record { given = packets plan (records_in plan pieces) given; all = written plan (records_in plan pieces) given; part = failed plan (records_in plan pieces) given }
  ended_on (Some bytes) plan form size pieces fits given =
      let baseband : is_baseband (plan_of start) ≡ true = ap is_baseband (plan_of_frames start plan pieces given) ∙ fits.2 in
      record {
        given = frames plan pieces given;
        all = subst (λ (r : Result ⊤ E). OnOk r (Delivers Mid New [])) (sym (done baseband)) (unchanged baseband);
        part = subst (λ (r : Result ⊤ E). OnErr r (DeliversFront Mid New refused [])) (sym (done baseband)) tt;
      }

-- The whole.

size_on : (carrier : Option ℕ) (plan : PlanFields) (form : RecordingForm) (size : ℕ) → IsFormOn carrier plan form size → size ≡ unwrap_or carrier (record_size plan.recording)
size_on None plan form size fits = fits.1
size_on (Some bytes) plan form size fits = fits.1

module _ (plan : PlanFields) (form : RecordingForm) (size : ℕ) (fits : IsFormOf plan form size) (result : Result ℕ ReadFault) (input now : InputTold)
    (Took Stopped : List Record → Type 0) (reads : Reads result form size input now Took Stopped) where
  pub read_on : HasRead (piece_size plan) input.left now.left reads.pieces reads.behind
  read_on = record {
    each = subst (λ (n : ℕ). All (λ piece. length piece ≡ n) reads.pieces) (size_on plan.frame_bytes plan form size fits) reads.each;
    short = subst (λ (n : ℕ). length reads.behind < n) (size_on plan.frame_bytes plan form size fits) reads.short;
    consumed = reads.consumed;
  }

  pub taken_of : now.taken ≡ raised input.taken (piece_size plan * length reads.pieces + length reads.behind)
  taken_of = subst (λ (n : ℕ). now.taken ≡ raised input.taken (n * length reads.pieces + length reads.behind)) (size_on plan.frame_bytes plan form size fits) reads.taken

module _ (plan : PlanFields) (form : RecordingForm) (size : ℕ) (start : ByCarrier) (input now : InputTold) (Old New : List (ℕ × List ℕ) → Type 0) (Refused : ℕ → List ℕ → Type 0)
    (faults now_faults : ℕ) (fresh : IsGiven false plan [] start) (fits : IsFormOf plan form size) where
  abbrev pub Receives : Result ℕ ReadFault → ByCarrier → Type 0
  Receives result receiver = ReceivesPieces result plan input now receiver (TakesPairs Old New faults now_faults) (RefusesAfter Old New Refused)

  received : {result : Result ℕ ReadFault} {All Part : List Record → Type 0} (after : Result ℕ ReadFault) (receiver : ByCarrier) (reads : Reads result form size input now All Part)
      → PiecesEnd after plan input now receiver (TakesPairs Old New faults now_faults) (RefusesAfter Old New Refused) reads.pieces reads.behind → Receives after receiver
  received after receiver reads ends = record {
    pieces = reads.pieces;
    behind = reads.behind;
    read = read_on plan form size fits _ input now _ _ reads;
    taken = taken_of plan form size fits _ input now _ _ reads;
    ends = ends;
  }

  took_pairs : (mid : ByCarrier) (pieces : List (List ℕ)) → Took start mid Old New faults now_faults (records_of form pieces) → TakesPairs Old New faults now_faults (told_pairs plan pieces)
  took_pairs mid pieces took =
      let all = taken_on plan.frame_bytes plan start mid Old New faults now_faults form size pieces fresh fits took in
      record { delivers = all.delivers; kept = all.kept }

  -- the reading stopped
  pub received_front : (mid : ByCarrier) (e : ReadFault)
      → Reads (Err e) form size input now (λ records. Took start mid Old New faults now_faults records)
      (λ records. StoppedOn start mid Old New Refused faults now_faults records)
      → Receives (Err e) mid
  received_front mid fault.Source reads = received (Err fault.Source) mid reads (reads.ends.0, reads.ends.1, reads.ends.2, took_pairs mid reads.pieces reads.ends.3)
  received_front mid fault.TooLong reads = received (Err fault.TooLong) mid reads (reads.ends.0, reads.ends.1, reads.ends.2, took_pairs mid reads.pieces reads.ends.3)
  received_front mid fault.Taker reads =
      let stop = stopped_on plan.frame_bytes plan start mid Old New Refused faults now_faults form size reads.pieces fresh fits reads.ends.3 in
      let stops : StopsInLast plan (RefusesAfter Old New Refused) reads.pieces = record {
        pieces = stop.pieces;
        piece = stop.piece;
        all_are = stop.all_are;
        front = stop.front;
        service = stop.service;
        datagram = stop.datagram;
        rest = stop.rest;
        pairs = stop.pairs;
        stopped = record { delivers = stop.delivers; refuses = stop.refuses };
      } in received (Err fault.Taker) mid reads (reads.ends.2, inl (reads.ends.0, reads.ends.1, stops))

  -- The reading came to the end, which gave what it gives, or stopped in it. The outlet between stands for what the pieces tell, and by that
  -- what the end does is known.
  module _ (mid ended : ByCarrier) (Mid : List (ℕ × List ℕ) → Type 0) (mid_faults tail : ℕ) (Stops : List Record → Type 0)
      (reads : Reads (Ok tail) form size input now (λ records. Took start mid Old Mid faults mid_faults records) Stops) where
    abbrev Ends : {E : Type 0} → Result ⊤ E → Type 0
    Ends result = IsGiven false plan reads.pieces mid → EndedOn result plan.frame_bytes plan ended Mid New Refused reads.pieces

    took_all : TakenOn plan.frame_bytes plan mid Old Mid faults mid_faults reads.pieces
    took_all = taken_on plan.frame_bytes plan start mid Old Mid faults mid_faults form size reads.pieces fresh fits reads.ends.5

    pub received_whole : {E : Type 0} (x : ⊤) → now_faults ≡ mid_faults → Ends {E = E} (Ok x) → Receives (Ok tail) ended
    received_whole x none ends =
        let told : List (ℕ × List ℕ) = told_pairs plan reads.pieces in
        let end = ends took_all.given in
        let all : TakesPairs Old New faults now_faults (told ++ pairs_of_end plan reads.pieces) = record {
          delivers = delivers_then Old Mid New told (pairs_of_end plan reads.pieces) took_all.delivers end.all;
          kept = none ∙ took_all.kept;
        } in received (Ok tail) ended reads (reads.ends.0, reads.ends.1, reads.ends.2, reads.ends.3, reads.ends.4, all, end.given)

    pub received_behind : {E : Type 0} (e : E) → Ends (Err e) → Receives (Err fault.Taker) ended
    received_behind e ends =
        let told : List (ℕ × List ℕ) = told_pairs plan reads.pieces in
        let stop = (ends took_all.given).part in
        let stops : StopsBehind plan (RefusesAfter Old New Refused) reads.pieces = record {
          front = stop.front;
          service = stop.service;
          datagram = stop.datagram;
          rest = stop.behind;
          pairs = stop.pairs_are;
          stopped = record { delivers = delivers_then Old Mid New told stop.front took_all.delivers stop.delivers; refuses = stop.refuses };
        } in received (Err fault.Taker) ended reads (reads.ends.4, inr (reads.ends.1, reads.ends.2, reads.ends.3, stops))

-- A reception in other words of what its outlet took.
module _ (plan : PlanFields) (input now : InputTold) (receiver : ByCarrier) (All Takes : List (ℕ × List ℕ) → Type 0) (Part Stops : List (ℕ × List ℕ) → ℕ → List ℕ → Type 0)
    (all : (pairs : List (ℕ × List ℕ)) → All pairs → Takes pairs)
    (part : (pairs : List (ℕ × List ℕ)) (service : ℕ) (datagram : List ℕ) → Part pairs service datagram → Stops pairs service datagram) where
  in_last_as : (pieces : List (List ℕ)) → StopsInLast plan Part pieces → StopsInLast plan Stops pieces
  in_last_as pieces stop = record {
    pieces = stop.pieces;
    piece = stop.piece;
    all_are = stop.all_are;
    front = stop.front;
    service = stop.service;
    datagram = stop.datagram;
    rest = stop.rest;
    pairs = stop.pairs;
    stopped = part _ stop.service stop.datagram stop.stopped;
  }

  behind_as : (pieces : List (List ℕ)) → StopsBehind plan Part pieces → StopsBehind plan Stops pieces
  behind_as pieces stop = record {
    front = stop.front;
    service = stop.service;
    datagram = stop.datagram;
    rest = stop.rest;
    pairs = stop.pairs;
    stopped = part _ stop.service stop.datagram stop.stopped;
  }

  end_as : (result : Result ℕ ReadFault) (pieces : List (List ℕ)) (behind : List ℕ) → PiecesEnd result plan input now receiver All Part pieces behind
      → PiecesEnd result plan input now receiver Takes Stops pieces behind
  end_as (Ok tail) pieces behind ends = (ends.0, ends.1, ends.2, ends.3, ends.4, all _ ends.5, ends.6)
  end_as (Err fault.Source) pieces behind ends = (ends.0, ends.1, ends.2, all _ ends.3)
  end_as (Err fault.TooLong) pieces behind ends = (ends.0, ends.1, ends.2, all _ ends.3)
  end_as (Err fault.Taker) pieces behind ends = (
    ends.0,
    elim ends.1 [
      | inl last ↦ inl (last.0, last.1, in_last_as pieces last.2)
      | inr end ↦ inr (end.0, end.1, end.2, behind_as pieces end.3)
    ],
  )

  pub received_as : (result : Result ℕ ReadFault) → ReceivesPieces result plan input now receiver All Part → ReceivesPieces result plan input now receiver Takes Stops
  received_as result has = record {
    pieces = has.pieces;
    behind = has.behind;
    read = has.read;
    taken = has.taken;
    ends = end_as result has.pieces has.behind has.ends;
  }
