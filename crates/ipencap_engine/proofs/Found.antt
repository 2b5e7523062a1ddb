-- Runs of `find`.
use Rattle.std.proofs.Common.{◌≡◌, ◌⊎◌, inl, inr, ℕ, ◌+◌, ◌*◌, ◌^◌, ◌<◌, ◌≤◌, true, false, List, [], length, refl, sym, subst, arith, Some, Ok, Err}
use Rattle.std.specs.Bool.{⊤}
use Rattle.ipe_io.specs.Told.{InputTold, OutputTold, ShelfTold, RackTold}
use Rattle.ipe_io.proofs.Told.{stays-refl}
use Rattle.plan_spec.specs.Plan.{PlanFields}
use Rattle.plan_spec.specs.Given.{plan_of_pid}
use Rattle.recording_reader.specs.Reading.{most_pieces as most_records}
use Rattle.capture_files.proofs.Adding.{adds_none}
use Rattle.find_command.specs.Finding.{HasRead, ReadsWhole, IsFoundIn, Finds}
use Rattle.find_command.specs.declared.fault.FindFault.{FindFault}
use Rattle.find_command.specs.declared.fault.FindFault.TheVariants as fault
use Rattle.ipencap_engine.specs.Statuses.{status_line, status_of_search}
use Rattle.ipencap_engine.specs.World.{World, world, Object, the_shelf, the_input, the_output, the_rack}
use Rattle.ipencap_engine.specs.Jobs.{to_find, may_use}
use Rattle.ipencap_engine.specs.Made.{MakesFound, puts_out}
use Rattle.ipencap_engine.specs.Reads.{TakesPieces, ReadsAll}
use Rattle.ipencap_engine.specs.Stands.{in_memory}
use Rattle.ipencap_engine.specs.Runs.{Runs}
use Rattle.ipencap_engine.specs.declared.status.Status.{Status}
use Rattle.ipencap_engine.specs.declared.status.Status.TheVariants.{Done, SourceFault, SinkFault, OutOfMemory, TooLong}
use Rattle.ipencap_engine.proofs.Plans.{pid_is_whole}
use Rattle.ipencap_engine.proofs.Received.{read_cut}
use Rattle.ipencap_engine.proofs.Settings.{done_line, unjudged, keeps_same, without_files}

few_bytes : (pieces behind : ℕ) → pieces < 2 ^ 32 → behind < 188 → 188 * pieces + behind < 188 * most_records
few_bytes pieces behind few short = omega (arith, few, short)

module _ (pid : ℕ) (within : pid ≤ 8190) (shelf : ShelfTold) (input taken : InputTold) (output held : OutputTold) (rack : RackTold) (same : Object → Type 0)
    (of_shelf : same the_shelf) (of_rack : same the_rack) (Unread Silent : Type 0) (of_output : Silent → same the_output) where
  abbrev before : World
  before = world shelf input output rack

  abbrev after : World
  after = world shelf taken held rack

  used : (end : Status) → may_use (to_find pid) end the_input ≡ true → same the_output ⊎ (may_use (to_find pid) end the_output ≡ true)
      → (object : Object) → may_use (to_find pid) end object ≡ false → same object
  used end reads writes the_shelf f = of_shelf
  used end reads writes the_input f = absurd (cc)
  used end reads (inl unwritten) the_output f = unwritten
  used end reads (inr writes) the_output f = absurd (cc)
  used end reads writes the_rack f = of_rack

  takes : (pieces : List (List ℕ)) (behind : List ℕ) (bound : ℕ → ℕ → Type 0) → HasRead input taken pieces behind
      → bound (188 * length pieces + length behind) (188 * most_records) → TakesPieces (to_find pid) before after bound
  takes pieces behind bound read is_bound = record {
    plan = plan_of_pid pid;
    whole = pid_is_whole pid within;
    is = λ told is. sym is;
    count = 188 * length pieces + length behind;
    is_bound = is_bound;
    taken = read.taken;
  }

  reads_all : ReadsWhole input taken → ReadsAll (to_find pid) before after
  reads_all all = record {
    ended = all.ended;
    takes = takes all.pieces all.behind (λ count most. count < most) all.read (few_bytes (length all.pieces) (length all.behind) all.fewer all.read.short);
    files = λ e. absurd (cc);
  }

  -- what the recording names, where it is told
  made_of : (plan : PlanFields) (bytes text : List ℕ) → plan ≡ plan_of_pid pid → input.left ≡ Some bytes → IsFoundIn pid input taken text
      → MakesFound pid plan bytes taken.left (puts_out text)
  made_of plan bytes text is told found =
      subst (λ (q : PlanFields). MakesFound pid q bytes taken.left (puts_out text)) (sym is)
      (record {
        pieces = found.reads.pieces;
        tail = found.reads.behind;
        read = record {
          cut = read_cut 188 input.left taken.left bytes found.reads.pieces found.reads.behind told
              (record { each = found.reads.read.each; short = found.reads.read.short; consumed = found.reads.read.consumed }) found.reads.at_end;
          fewer = found.reads.fewer;
          at_end = found.reads.at_end;
        };
        text_is = found.text_is;
        made_is = refl;
      })

  pub find_done : (done : ⊤) → Finds (Ok done) pid input taken output held Unread Silent → Runs (to_find pid) Done (status_line Done) before after same
  find_done done all =
      without_files (to_find pid) Done (status_line Done) before after same refl refl
      (unjudged (to_find pid) Done before same refl (λ e. absurd (cc))) (used Done refl (inr refl))
      (record { shelf = keeps_same (to_find pid) shelf; input = all.input_kept (λ f. absurd (cc)); output = all.output_kept (λ f. absurd (cc)); rack = refl })
      (reads_all all.ends.found.reads)
      (λ plan bytes is told. record {
        made = puts_out all.ends.text;
        makes = made_of plan bytes all.ends.text is told all.ends.found;
        files = adds_none rack.files;
        output = all.ends.written;
        flushed = λ e. all.ends.flushed;
        line_is = done_line;
        end_is = refl;
      })
      (λ plan is e. absurd (cc)) done_line

  pub find_fails : (why : FindFault) → Finds (Err why) pid input taken output held Unread Silent
      → Runs (to_find pid) (status_of_search why) (status_line (status_of_search why)) before after same
  find_fails fault.Source all =
      without_files (to_find pid) SourceFault (status_line SourceFault) before after same refl refl
      (unjudged (to_find pid) SourceFault before same refl (λ e. absurd (cc))) (used SourceFault refl (inl (of_output (all.unchanged (λ f. absurd (cc))))))
      (record { shelf = keeps_same (to_find pid) shelf; input = all.input_rose refl; output = all.output_kept (λ f. absurd (cc)); rack = refl }) (
        takes all.ends.pieces all.ends.behind (λ count most. count < most) all.ends.read
            (few_bytes (length all.ends.pieces) (length all.ends.behind) all.ends.fewer all.ends.read.short),
        all.ends.going,
        λ e. absurd (cc),
      )
      (λ plan bytes is told. all.ends) (λ plan is e. absurd (cc)) refl
  find_fails fault.Sink all =
      without_files (to_find pid) SinkFault (status_line SinkFault) before after same refl refl
      (unjudged (to_find pid) SinkFault before same refl (λ e. absurd (cc))) (used SinkFault refl (inr refl))
      (record { shelf = keeps_same (to_find pid) shelf; input = all.input_kept (λ f. absurd (cc)); output = all.output_rose refl; rack = refl })
      (reads_all all.ends.found.reads)
      (λ plan bytes is told. record {
        made = puts_out all.ends.text;
        makes = made_of plan bytes all.ends.text is told all.ends.found;
        files = adds_none rack.files;
        count = all.ends.count;
        output = all.ends.written;
        unflushed = all.ends.unflushed;
      })
      (λ plan is e. absurd (cc)) refl
  find_fails fault.TooLong all =
      without_files (to_find pid) TooLong (status_line TooLong) before after same refl refl
      (unjudged (to_find pid) TooLong before same refl (λ e. absurd (cc))) (used TooLong refl (inl (of_output (all.unchanged (λ f. absurd (cc))))))
      (record { shelf = keeps_same (to_find pid) shelf; input = all.input_kept (λ f. absurd (cc)); output = all.output_kept (λ f. absurd (cc)); rack = refl })
      (takes all.ends.pieces [] (λ count most. count ≡ most) all.ends.read (omega (arith, all.ends.limit)), λ e. absurd (cc))
      (λ plan bytes is told. all.ends) (λ plan is e. absurd (cc)) refl
  find_fails fault.OutOfMemory all =
      without_files (to_find pid) OutOfMemory (status_line OutOfMemory) before after same refl refl
      (unjudged (to_find pid) OutOfMemory before same refl (λ e. absurd (cc))) (used OutOfMemory refl (inl (of_output (all.unchanged (λ f. absurd (cc))))))
      (record { shelf = keeps_same (to_find pid) shelf; input = all.input_kept (λ f. absurd (cc)); output = all.output_kept (λ f. absurd (cc)); rack = refl })
      (λ files. absurd (cc))
      (λ plan bytes is told. tt) (λ plan is e. in_memory (λ files. absurd (cc)) refl (stays-refl rack.files)) refl
