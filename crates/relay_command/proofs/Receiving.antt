-- What was received into what gathers, in its words.
use Rattle.std.proofs.Common.{◌≡◌, ◌≢◌, inl, inr, ℕ, ◌+◌, ◌*◌, ◌<◌, ◌≤◌, true, List, [], ◌∷◌, ◌++◌, length, refl, ap, sym, ◌∙◌, subst, arith, Result, Ok, Err, append_assoc}
use Rattle.std.proofs.Math.Nat.{mul-le-mul_left}
use Rattle.std.specs.Io.KnownBytes.{IsAtEnd}
use Rattle.wire_spec.specs.Causes.{raised}
use Rattle.ipe_io.specs.Told.{InputTold}
use Rattle.plan_spec.specs.Plan.{PlanFields}
use Rattle.carrier_spec.specs.Stream.{piece_size}
use Rattle.demux_core.specs.declared.receiver.ByCarrier.{ByCarrier}
use Rattle.recording_reader.specs.declared.fault.ReadFault.{ReadFault}
use Rattle.recording_reader.specs.declared.fault.ReadFault.TheVariants as fault
use Rattle.recording_spec.specs.Pieces.{told_pairs, pairs_of_end}
use Rattle.recording_spec.specs.Relayed.{relayed}
use Rattle.recording_reader.specs.Reading.{most_pieces}
use Rattle.recording_reader.specs.Taken.{HasRead, TakesMostOf}
use Rattle.recording_reception.specs.Reception.{TakesPairs, RefusesAfter, StopsInLast, StopsBehind, ReceivesPieces}
use Rattle.recording_reader.proofs.Taken.{below_product}
use Rattle.recording_reception.proofs.NextPiece.{last_pairs}
use Rattle.relay_core.specs.Gathering.{GatherState, IsGathered, IsCauseOf}
use Rattle.relay_core.specs.declared.gather.GatherFault.TheVariants as gather_fault
use Rattle.relay_command.specs.Gathered.{IsReadToEnd, FailsToRead, HasTooMany, at_most, within, after, LacksForDatagram, in_piece, at_end, GathersAll}
use Rattle.relay_command.proofs.Limits.{pairs_pass, one_more_fits, front_fits, full, no_memory, some_cause}

-- the bytes of at most the most pieces
most_bytes_of : (size pieces : ℕ) → pieces ≤ most_pieces → size * pieces + 0 ≤ size * most_pieces
most_bytes_of size pieces few = omega (arith, mul-le-mul_left size few)

module _ (plan outer : PlanFields) (input now : InputTold) (receiver : ByCarrier) (old new : GatherState) (faults now_faults : ℕ) (empty : IsGathered outer old []) where
  abbrev Took : List (ℕ × List ℕ) → Type 0
  Took = TakesPairs (IsGathered outer old) (IsGathered outer new) faults now_faults

  abbrev Stopped : List (ℕ × List ℕ) → ℕ → List ℕ → Type 0
  Stopped = RefusesAfter (IsGathered outer old) (IsGathered outer new) (λ service datagram. IsCauseOf new datagram new.cause)

  abbrev Received : Result ℕ ReadFault → Type 0
  Received result = ReceivesPieces result plan input now receiver Took Stopped

  -- the input was read to its end
  read_all : {result : Result ℕ ReadFault} (has : Received result) → length has.pieces < most_pieces → IsAtEnd now.left → now.ended ≡ true → IsReadToEnd plan input now has.pieces
  read_all has fewer there ended = record {
    behind = has.behind;
    read = has.read;
    fewer = fewer;
    at_end = there;
    takes = record {
      ended = ended;
      count = piece_size plan * length has.pieces + length has.behind;
      fewer = below_product (piece_size plan) (length has.pieces) (length has.behind) fewer has.read.short;
      taken = has.taken;
    };
  }

  pub gathers_all : (tail : ℕ) → Received (Ok tail) → GathersAll plan outer input now new
  gathers_all tail has = record {
    datagrams = relayed plan has.pieces;
    gathers = record { pieces = has.pieces; read = read_all has has.ends.1 has.ends.2 has.ends.3; datagrams_are = refl };
    gathered = has.ends.5.delivers [] empty;
  }

  -- every fault but that of the input leaves its count
  pub input_kept : (result : Result ℕ ReadFault) → Received result → result ≢ Err fault.Source → now.faults ≡ input.faults
  input_kept (Ok tail) has other = has.ends.4
  input_kept (Err fault.Source) has other = absurd (other refl)
  input_kept (Err fault.TooLong) has other = has.ends.2
  input_kept (Err fault.Taker) has other = has.ends.0

  pub fails_to_read : Received (Err fault.Source) → FailsToRead plan input now
  fails_to_read has = record {
    pieces = has.pieces;
    behind = has.behind;
    read = has.read;
    fewer = has.ends.0;
    fits = (has.ends.3.delivers [] empty).fits;
    takes = record {
      going = has.ends.1;
      count = piece_size plan * length has.pieces + length has.behind;
      fewer = below_product (piece_size plan) (length has.pieces) (length has.behind) has.ends.0 has.read.short;
      taken = has.taken;
    };
    rose = has.ends.2;
  }

  pub has_most : Received (Err fault.TooLong) → HasTooMany plan input now
  has_most has = at_most (record {
    pieces = has.pieces;
    read = subst (λ (behind : List ℕ). HasRead (piece_size plan) input.left now.left has.pieces behind) has.ends.0 has.read;
    most = has.ends.1;
    fits = (has.ends.3.delivers [] empty).fits;
    taken = has.taken
        ∙ ap (λ (n : ℕ). raised input.taken n)
        (let none : length has.behind ≡ 0 = ap (λ (behind : List ℕ). length behind) has.ends.0 in
        ap (λ (n : ℕ). piece_size plan * length has.pieces + n) none ∙ ap (λ (n : ℕ). piece_size plan * n + 0) has.ends.1 ∙ omega arith);
  })

  -- A datagram of the last piece was refused.
  module _ (pieces : List (List ℕ)) (stop : StopsInLast plan Stopped pieces) where
    all_in_last : told_pairs plan (stop.pieces ++ stop.piece ∷ []) ≡ told_pairs plan stop.pieces ++ stop.front ++ (stop.service, stop.datagram) ∷ stop.rest
    all_in_last =
        last_pairs plan stop.pieces stop.piece ∙ ap (λ (ps : List (ℕ × List ℕ)). told_pairs plan stop.pieces ++ ps) stop.pairs
        ∙ sym (append_assoc (told_pairs plan stop.pieces) stop.front ((stop.service, stop.datagram) ∷ stop.rest))

    in_last : IsGathered outer new (told_pairs plan stop.pieces ++ stop.front)
    in_last = stop.stopped.delivers [] empty

    read_last : HasRead (piece_size plan) input.left now.left pieces [] → HasRead (piece_size plan) input.left now.left (stop.pieces ++ stop.piece ∷ []) []
    read_last read = subst (λ (pieces : List (List ℕ)). HasRead (piece_size plan) input.left now.left pieces []) stop.all_are read

    most_last : length pieces ≤ most_pieces → length (stop.pieces ++ stop.piece ∷ []) ≤ most_pieces
    most_last most = subst (λ (pieces : List (List ℕ)). length pieces ≤ most_pieces) stop.all_are most

    module _ (read : HasRead (piece_size plan) input.left now.left pieces []) (most : length pieces ≤ most_pieces) (takes : TakesMostOf (piece_size plan) input now) where
      pub passes_in_last : new.cause ≡ gather_fault.Full → HasTooMany plan input now
      passes_in_last is = within (record {
        before = stop.pieces;
        piece = stop.piece;
        read = read_last read;
        most = most_last most;
        fits = front_fits outer new (told_pairs plan stop.pieces) stop.front in_last;
        many = pairs_pass outer new (told_pairs plan stop.pieces ++ stop.front) in_last (told_pairs plan (stop.pieces ++ stop.piece ∷ [])) stop.rest stop.service stop.datagram
            all_in_last (full new stop.datagram new.cause is stop.stopped.refuses);
        takes = takes;
      })

      pub lacks_in_last : new.cause ≡ gather_fault.OutOfMemory → LacksForDatagram plan input now
      lacks_in_last is = in_piece (record {
        before = stop.pieces;
        piece = stop.piece;
        given = stop.front;
        service = stop.service;
        datagram = stop.datagram;
        behind = stop.rest;
        read = read_last read;
        most = most_last most;
        gives = all_in_last;
        fits = one_more_fits outer new (told_pairs plan stop.pieces ++ stop.front) in_last stop.service stop.datagram (no_memory new stop.datagram new.cause is stop.stopped.refuses);
        takes = takes;
      })

  -- One that the end gives was.
  module _ (pieces : List (List ℕ)) (stop : StopsBehind plan Stopped pieces) (read : IsReadToEnd plan input now pieces) where
    all_behind : told_pairs plan pieces ++ pairs_of_end plan pieces ≡ told_pairs plan pieces ++ stop.front ++ (stop.service, stop.datagram) ∷ stop.rest
    all_behind =
        ap (λ (ps : List (ℕ × List ℕ)). told_pairs plan pieces ++ ps) stop.pairs ∙ sym (append_assoc (told_pairs plan pieces) stop.front ((stop.service, stop.datagram) ∷ stop.rest))

    before_it : IsGathered outer new (told_pairs plan pieces ++ stop.front)
    before_it = stop.stopped.delivers [] empty

    pub passes_behind : new.cause ≡ gather_fault.Full → HasTooMany plan input now
    passes_behind is = after (record {
      pieces = pieces;
      read = read;
      fits = front_fits outer new (told_pairs plan pieces) stop.front before_it;
      many = pairs_pass outer new (told_pairs plan pieces ++ stop.front) before_it (told_pairs plan pieces ++ pairs_of_end plan pieces) stop.rest stop.service stop.datagram
          all_behind (full new stop.datagram new.cause is stop.stopped.refuses);
    })

    pub lacks_behind : new.cause ≡ gather_fault.OutOfMemory → LacksForDatagram plan input now
    lacks_behind is = at_end (record {
      pieces = pieces;
      given = stop.front;
      service = stop.service;
      datagram = stop.datagram;
      behind = stop.rest;
      read = read;
      gives = all_behind;
      fits = one_more_fits outer new (told_pairs plan pieces ++ stop.front) before_it stop.service stop.datagram (no_memory new stop.datagram new.cause is stop.stopped.refuses);
    })

  -- What was refused has a cause: there were too many, or memory lacked.
  module _ (has : Received (Err fault.Taker)) where
    pub has_cause : new.cause ≢ gather_fault.None
    has_cause = elim has.ends.1 [
      | inl last ↦ some_cause new last.2.datagram new.cause last.2.stopped.refuses
      | inr end ↦ some_cause new end.3.datagram new.cause end.3.stopped.refuses
    ]

    whole : has.behind ≡ [] → HasRead (piece_size plan) input.left now.left has.pieces []
    whole none = subst (λ (behind : List ℕ). HasRead (piece_size plan) input.left now.left has.pieces behind) none has.read

    takes_most : has.behind ≡ [] → length has.pieces ≤ most_pieces → TakesMostOf (piece_size plan) input now
    takes_most none most = record {
      count = piece_size plan * length has.pieces + 0;
      most = most_bytes_of (piece_size plan) (length has.pieces) most;
      taken = has.taken ∙ ap (λ (behind : List ℕ). raised input.taken (piece_size plan * length has.pieces + length behind)) none;
    }

    pub too_many : new.cause ≡ gather_fault.Full → HasTooMany plan input now
    too_many is = elim has.ends.1 [
      | inl last ↦ passes_in_last has.pieces last.2 (whole last.0) last.1 (takes_most last.0 last.1) is
      | inr end ↦ passes_behind has.pieces end.3 (read_all has end.0 end.1 end.2) is
    ]

    pub lacks : new.cause ≡ gather_fault.OutOfMemory → LacksForDatagram plan input now
    lacks is = elim has.ends.1 [
      | inl last ↦ lacks_in_last has.pieces last.2 (whole last.0) last.1 (takes_most last.0 last.1) is
      | inr end ↦ lacks_behind has.pieces end.3 (read_all has end.0 end.1 end.2) is
    ]
