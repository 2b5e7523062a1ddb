-- Runs of `relay` that have both plans.
use Rattle.std.proofs.Common.{◌≡◌, ◌⊎◌, inl, inr, ℕ, ◌*◌, ◌≤◌, true, false, List, [], All, refl, ap, subst, arith, Some}
use Rattle.wire_spec.specs.Bytes.{AreBytes}
use Rattle.wire_spec.specs.Lists.{joined}
use Rattle.ipe_io.specs.Told.{InputTold, OutputTold, ShelfTold, RackTold}
use Rattle.ipe_io.proofs.Told.{stays-refl}
use Rattle.plan_spec.specs.Plan.{PlanFields}
use Rattle.plan_spec.specs.Offered.{offered_in}
use Rattle.plan_spec.specs.Wholes.{is_whole_plan}
use Rattle.carrier_spec.specs.Stream.{piece_size, IsSentStream}
use Rattle.recording_spec.specs.Relayed.{as_records}
use Rattle.settings_load.specs.Settings.{IsAcceptedFile}
use Rattle.send_command.specs.Lines.{tally_line}
use Rattle.send_command.specs.declared.ends.Tally.{Tally}
use Rattle.recording_reader.specs.Reading.{most_pieces as most_records}
use Rattle.recording_reader.specs.Taken.{TakesAllOf, TakesMostOf}
use Rattle.capture_files.proofs.Adding.{adds_none}
use Rattle.relay_core.specs.Gathering.{FitsCapture}
use Rattle.relay_command.specs.Gathered.{FailsToRead, HasTooMany, at_most, within, after as after_end}
use Rattle.relay_command.specs.Relaying.{RelayLacksMemory, Receives, Relays}
use Rattle.relay_command.specs.declared.ends.RelayEnd.{RelayEnd}
use Rattle.relay_command.specs.declared.ends.RelayEnd.TheVariants as ends
use Rattle.ipencap_engine.specs.Statuses.{status_line, status_of, outcome_line, outcome_of_relay}
use Rattle.ipencap_engine.specs.World.{World, world, Object, the_shelf, the_input, the_output, the_rack}
use Rattle.ipencap_engine.specs.Jobs.{to_relay, may_use, IsPlanOf}
use Rattle.ipencap_engine.specs.Settings.{GivesPlan, GivesOuter, IsRefusedBy, in_first, in_outer, HasSettings}
use Rattle.ipencap_engine.specs.Counts.{KeepsShelf}
use Rattle.ipencap_engine.specs.Made.{Made, MakesRelayed, IsRelayOf, numbers_line}
use Rattle.ipencap_engine.specs.Reads.{TakesPieces, ReadsAll}
use Rattle.ipencap_engine.specs.Stands.{Stands, in_memory}
use Rattle.ipencap_engine.specs.Runs.{Runs}
use Rattle.ipencap_engine.specs.declared.status.Status.{Status}
use Rattle.ipencap_engine.specs.declared.status.Status.TheVariants.{Done, SourceFault, SinkFault, OutOfMemory, TooLong}
use Rattle.ipencap_engine.proofs.Plans.{IsFileOf, RefusesNone, known_of, told_name, gives_plan, given_is, is_given, is_outer}
use Rattle.ipencap_engine.proofs.Received.{read_cut}
use Rattle.ipencap_engine.proofs.Sent.{numbers_are}
use Rattle.ipencap_engine.proofs.Settings.{judged, without_files}
use Rattle.settings_law.proofs.Spellings.{one_plan}

module _ (first second : List ℕ) (inner outer : PlanFields) (whole : is_whole_plan inner ≡ true) (old new : ShelfTold) (input taken : InputTold) (output held : OutputTold)
    (rack : RackTold) (same : Object → Type 0) (shelf : KeepsShelf (to_relay first second) false old new)
    (read_first : IsFileOf (new.file first) inner) (none_first : RefusesNone (new.file first))
    (read_second : IsFileOf (new.file second) outer) (none_second : RefusesNone (new.file second))
    (of_rack : same the_rack) (Silent : Type 0) (of_output : Silent → same the_output) where
  abbrev before : World
  before = world old input output rack

  abbrev after : World
  after = world new taken held rack

  -- Settings: both files give their plans.

  gives_second : (text : List ℕ) → new.file second ≡ Some text → IsAcceptedFile text outer
  gives_second text told = known_of (λ b. IsAcceptedFile b outer) (new.file second) text told read_second

  answer : (bytes : List ℕ) → (n : List ℕ) × (Some first ≡ Some n) × (new.file n ≡ Some bytes) → GivesPlan bytes × GivesOuter (to_relay first second) new
  answer bytes told = (
    gives_plan (to_relay first second) first new inner refl read_first bytes told,
    λ text of_text. (outer, gives_second text (told_name (Some second) second new text refl of_text)),
  )

  not_refused : (refusal : _) → IsRefusedBy (to_relay first second) new refusal → ⊥
  not_refused refusal (in_first bytes told refuses) = none_first bytes refusal (told_name (Some first) first new bytes refl told) refuses
  not_refused refusal (in_outer plan given bytes told refuses) = none_second bytes refusal (told_name (Some second) second new bytes refl told) refuses

  has_both : HasSettings (to_relay first second) new
  has_both = record {
    first = inr (inner, is_given (to_relay first second) first new inner refl read_first);
    outer = inr (outer, is_outer (to_relay first second) second new outer refl read_second);
  }

  one_inner : (plan : PlanFields) → IsPlanOf (to_relay first second) new plan → inner ≡ plan
  one_inner plan given = given_is (to_relay first second) first new inner refl read_first plan given

  -- What was read.

  reads_all : TakesAllOf (piece_size inner) input taken → ReadsAll (to_relay first second) before after
  reads_all all = record {
    ended = all.ended;
    takes = record { plan = inner; whole = whole; is = one_inner; count = all.count; is_bound = all.fewer; taken = all.taken };
    files = λ e. absurd (cc);
  }

  reads_most : TakesMostOf (piece_size inner) input taken → TakesPieces (to_relay first second) before after (λ count most. count ≤ most)
  reads_most all = record { plan = inner; whole = whole; is = one_inner; count = all.count; is_bound = all.most; taken = all.taken }

  reads_many : HasTooMany inner input taken → TakesPieces (to_relay first second) before after (λ count most. count ≤ most)
  reads_many (at_most stops) =
      record { plan = inner; whole = whole; is = one_inner; count = piece_size inner * most_records; is_bound = omega arith; taken = stops.taken }
  reads_many (within stops) = reads_most stops.takes
  reads_many (after_end stops) =
      record { plan = inner; whole = whole; is = one_inner; count = stops.read.takes.count; is_bound = omega (arith, stops.read.takes.fewer); taken = stops.read.takes.taken }

  used : (end : Status) → may_use (to_relay first second) end the_shelf ≡ true → may_use (to_relay first second) end the_input ≡ true
      → same the_output ⊎ (may_use (to_relay first second) end the_output ≡ true)
      → (object : Object) → may_use (to_relay first second) end object ≡ false → same object
  used end loads reads writes the_shelf f = absurd (cc)
  used end loads reads writes the_input f = absurd (cc)
  used end loads reads (inl unwritten) the_output f = unwritten
  used end loads reads (inr writes) the_output f = absurd (cc)
  used end loads reads writes the_rack f = of_rack

  -- What was made of it.

  abbrev made_of : List (List ℕ) → List (List ℕ) → Made
  made_of datagrams stream = record { files = []; output = joined stream; line = numbers_line outer (as_records datagrams); status = Done }

  makes : (datagrams stream : List (List ℕ)) (bytes : List ℕ) → Receives inner input taken datagrams → IsSentStream outer (offered_in outer (as_records datagrams)) stream
      → input.left ≡ Some bytes → MakesRelayed second new inner bytes taken.left (made_of datagrams stream)
  makes datagrams stream bytes receives is told =
      let gathers = receives.gathers in
      record {
        pieces = gathers.pieces;
        tail = gathers.read.behind;
        read = record {
          cut = read_cut (piece_size inner) input.left taken.left bytes gathers.pieces gathers.read.behind told gathers.read.read gathers.read.at_end;
          fewer = gathers.read.fewer;
          at_end = gathers.read.at_end;
        };
        fits = subst (λ (ds : List (List ℕ)). FitsCapture ds) gathers.datagrams_are receives.fits;
        of_bytes = subst (λ (ds : List (List ℕ)). All AreBytes ds) gathers.datagrams_are receives.of_bytes;
        is = λ text other told_text accepts.
            subst (λ (q : PlanFields). IsRelayOf inner q gathers.pieces (made_of datagrams stream)) (one_plan text outer other (gives_second text told_text).accepted accepts.accepted) (
              stream,
              subst (λ (ds : List (List ℕ)). IsSentStream outer (offered_in outer (as_records ds)) stream) gathers.datagrams_are is,
              ap (λ (ds : List (List ℕ)). made_of ds stream) gathers.datagrams_are,
            );
      }

  relay_done : (tally : Tally) → Relays (ends.Done tally) inner outer input taken output held Silent
      → Runs (to_relay first second) Done (tally_line tally) before after same
  relay_done tally all =
      let sends = all.stands in
      without_files (to_relay first second) Done (tally_line tally) before after same refl refl
      (judged (to_relay first second) Done new same answer has_both (λ e. absurd (cc)) not_refused) (used Done refl refl (inr refl))
      (record { shelf = shelf; input = all.input_kept (λ e. absurd (cc)); output = all.output_kept (λ e. absurd (cc)); rack = refl })
      (reads_all sends.receives.gathers.read.takes)
      (λ plan bytes is told. subst (λ (q : PlanFields). Stands (to_relay first second) q bytes Done (tally_line tally) before after) (one_inner plan is)
      (record {
        made = made_of sends.datagrams sends.writes.stream;
        makes = makes sends.datagrams sends.writes.stream bytes sends.receives sends.writes.stream_is told;
        files = adds_none rack.files;
        output = sends.writes.written;
        flushed = λ e. all.flushed refl;
        line_is = numbers_are outer (as_records sends.datagrams) tally sends.writes.numbers;
        end_is = refl;
      }))
      (λ plan is e. absurd (cc)) (tally, refl)

  relay_sink_fault : Relays ends.SinkFault inner outer input taken output held Silent
      → Runs (to_relay first second) SinkFault (status_line SinkFault) before after same
  relay_sink_fault all =
      let sends = all.stands in
      without_files (to_relay first second) SinkFault (status_line SinkFault) before after same refl refl
      (judged (to_relay first second) SinkFault new same answer has_both (λ e. absurd (cc)) not_refused) (used SinkFault refl refl (inr refl))
      (record { shelf = shelf; input = all.input_kept (λ e. absurd (cc)); output = all.sink refl; rack = refl })
      (reads_all sends.receives.gathers.read.takes)
      (λ plan bytes is told. subst (λ (q : PlanFields). Stands (to_relay first second) q bytes SinkFault (status_line SinkFault) before after) (one_inner plan is)
      (record {
        made = made_of sends.datagrams sends.writes.stream;
        makes = makes sends.datagrams sends.writes.stream bytes sends.receives sends.writes.stream_is told;
        files = adds_none rack.files;
        count = sends.writes.count;
        output = sends.writes.written;
        unflushed = all.unflushed refl;
      }))
      (λ plan is e. absurd (cc)) refl

  silent : (false ≡ true) ⊎ Silent → Silent
  silent (inl e) = absurd (cc)
  silent (inr is) = is

  relay_source_fault : Relays ends.SourceFault inner outer input taken output held Silent
      → Runs (to_relay first second) SourceFault (status_line SourceFault) before after same
  relay_source_fault all =
      without_files (to_relay first second) SourceFault (status_line SourceFault) before after same refl refl
      (judged (to_relay first second) SourceFault new same answer has_both (λ e. absurd (cc)) not_refused)
      (used SourceFault refl refl (inl (of_output (silent all.unchanged))))
      (record { shelf = shelf; input = all.stands.rose; output = all.output_kept (λ e. absurd (cc)); rack = refl }) (
        record { plan = inner; whole = whole; is = one_inner; count = all.stands.takes.count; is_bound = all.stands.takes.fewer; taken = all.stands.takes.taken },
        all.stands.takes.going,
        λ e. absurd (cc),
      )
      (λ plan bytes is told. subst (λ (q : PlanFields). FailsToRead q input taken) (one_inner plan is) all.stands)
      (λ plan is e. absurd (cc)) refl

  relay_too_long : Relays ends.TooLong inner outer input taken output held Silent
      → Runs (to_relay first second) TooLong (status_line TooLong) before after same
  relay_too_long all =
      without_files (to_relay first second) TooLong (status_line TooLong) before after same refl refl
      (judged (to_relay first second) TooLong new same answer has_both (λ e. absurd (cc)) not_refused)
      (used TooLong refl refl (inl (of_output (silent all.unchanged))))
      (record { shelf = shelf; input = all.input_kept (λ e. absurd (cc)); output = all.output_kept (λ e. absurd (cc)); rack = refl })
      (reads_many all.stands)
      (λ plan bytes is told. subst (λ (q : PlanFields). HasTooMany q input taken) (one_inner plan is) all.stands)
      (λ plan is e. absurd (cc)) refl

  relay_lacking : Relays ends.OutOfMemory inner outer input taken output held Silent
      → Runs (to_relay first second) OutOfMemory (status_line OutOfMemory) before after same
  relay_lacking all =
      without_files (to_relay first second) OutOfMemory (status_line OutOfMemory) before after same refl refl
      (judged (to_relay first second) OutOfMemory new same (λ bytes told. tt) has_both (λ e. absurd (cc)) not_refused)
      (used OutOfMemory refl refl (inl (of_output (silent all.unchanged))))
      (record { shelf = shelf; input = all.input_kept (λ e. absurd (cc)); output = all.output_kept (λ e. absurd (cc)); rack = refl })
      (λ files. absurd (cc))
      (λ plan bytes is told. subst (λ (q : PlanFields). RelayLacksMemory q input taken) (one_inner plan is) all.stands)
      (λ plan is e. in_memory (λ files. absurd (cc)) refl (stays-refl rack.files)) refl

  pub relay_ends : (end : RelayEnd) → Relays end inner outer input taken output held Silent
      → Runs (to_relay first second) (status_of (outcome_of_relay end)) (outcome_line (outcome_of_relay end)) before after same
  relay_ends (ends.Done tally) all = relay_done tally all
  relay_ends ends.SourceFault all = relay_source_fault all
  relay_ends ends.SinkFault all = relay_sink_fault all
  relay_ends ends.TooLong all = relay_too_long all
  relay_ends ends.OutOfMemory all = relay_lacking all
