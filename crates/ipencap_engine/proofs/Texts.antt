-- Runs of jobs that read no input, add no file and put out a text: `check`, `sample`, `tables`.
use Rattle.std.proofs.Common.{◌≡◌, ℕ, true, false, List, refl, ap, sym, subst, take, is_some, None, Some}
use Rattle.std.specs.Io.KnownBytes.{Appends}
use Rattle.wire_spec.specs.Causes.{Rose}
use Rattle.wire_spec.specs.Content.{Stays}
use Rattle.ipe_io.specs.Counts.{IsFlushed}
use Rattle.ipe_io.specs.Told.{InputTold, OutputTold, ShelfTold, RackTold}
use Rattle.plan_spec.specs.Plan.{PlanFields}
use Rattle.capture_files.proofs.Adding.{adds_none}
use Rattle.ipencap_engine.specs.Statuses.{status_line}
use Rattle.ipencap_engine.specs.World.{World, world, Object, the_shelf, the_input, the_output, the_rack}
use Rattle.ipencap_engine.specs.Jobs.{Job, Intake, no_input, a_capture, a_recording, a_relayed, an_ethernet_capture, an_ethernet_recording, row, is_command, may_use, IsPlanOf, IsGiven}
use Rattle.ipencap_engine.specs.Made.{Makes, puts_out}
use Rattle.ipencap_engine.specs.Settings.{JudgesSettings}
use Rattle.ipencap_engine.specs.Counts.{KeepsShelf}
use Rattle.ipencap_engine.specs.Reads.{Reads}
use Rattle.ipencap_engine.specs.Lines.{IsDoneLine}
use Rattle.ipencap_engine.specs.Runs.{Runs}
use Rattle.ipencap_engine.specs.declared.status.Status.{Status}
use Rattle.ipencap_engine.specs.declared.status.Status.TheVariants.{Done, SinkFault, OutOfMemory}
use Rattle.ipencap_engine.proofs.Plans.{IsFileOf, RefusesNone, gives, given_is}
use Rattle.ipencap_engine.proofs.Settings.{done_line, judged_loaded, without_files, runs_no_memory}

pub record PutsText (job : Job) : Type 0 where
  pub no_intake : (row job).intake ≡ no_input
  pub puts : (row job).has_output ≡ true
  pub no_files : (row job).has_files ≡ false
  pub one_file : (row job).outer ≡ None
  pub command : is_command job ≡ true

reads_none : (intake : Intake) (job : Job) (end : Status) (before after : World) → intake ≡ no_input → Reads intake job end before after
reads_none no_input job end before after e = tt
reads_none a_capture job end before after e = absurd (cc)
reads_none a_recording job end before after e = absurd (cc)
reads_none a_relayed job end before after e = absurd (cc)
reads_none an_ethernet_capture job end before after e = absurd (cc)
reads_none (an_ethernet_recording carrier) job end before after e = absurd (cc)

no_line : (intake : Intake) → intake ≡ no_input → IsDoneLine intake (status_line Done)
no_line no_input e = done_line
no_line a_capture e = absurd (cc)
no_line a_recording e = absurd (cc)
no_line a_relayed e = absurd (cc)
no_line an_ethernet_capture e = absurd (cc)
no_line (an_ethernet_recording carrier) e = absurd (cc)

-- memory ran out
pub text_lacking : (job : Job) (old new : ShelfTold) (input : InputTold) (held now : OutputTold) (rack : RackTold) (same : Object → Type 0) → is_command job ≡ true
    → KeepsShelf job false old new → (is_some (row job).settings ≡ false → same the_shelf) → same the_input → same the_rack → now ≡ held → same the_output
    → Runs job OutOfMemory (status_line OutOfMemory) (world old input held rack) (world new input now rack) same
text_lacking job old new input held now rack same command shelf of_shelf of_input of_rack unchanged of_output =
    subst (λ (o : OutputTold). Runs job OutOfMemory (status_line OutOfMemory) (world old input held rack) (world new input o rack) same) (sym unchanged)
    (runs_no_memory job old new input held rack same command shelf of_shelf of_input of_output of_rack)

module _ (job : Job) (puts : PutsText job) (text : List ℕ) (old new : ShelfTold) (input : InputTold) (held now : OutputTold) (rack : RackTold) (same : Object → Type 0)
    (shelf : KeepsShelf job false old new) (of_shelf : is_some (row job).settings ≡ false → same the_shelf) (of_input : same the_input) (of_rack : same the_rack)
    (makes : (plan : PlanFields) (bytes : List ℕ) → IsPlanOf job new plan → Makes job new plan bytes input.left (puts_out text)) where
  abbrev before : World
  before = world old input held rack

  abbrev after : World
  after = world new input now rack

  -- the whole text was put out
  pub text_done : JudgesSettings job Done after.shelf same → Appends held.held now.held text → IsFlushed now.held now.flushed → now.faults ≡ held.faults
      → Runs job Done (status_line Done) before after same
  text_done settings written flushed count =
      without_files job Done (status_line Done) before after same puts.no_files puts.command settings unused
      (record { shelf = shelf; input = refl; output = count; rack = refl })
      (reads_none (row job).intake job Done before after puts.no_intake)
      (λ plan bytes is told. record {
        made = puts_out text;
        makes = makes plan bytes is;
        files = adds_none rack.files;
        output = written;
        flushed = λ e. flushed;
        line_is = done_line;
        end_is = refl;
      })
      (λ plan is e. absurd (cc)) (no_line (row job).intake puts.no_intake)
    where
      unused : (object : Object) → may_use job Done object ≡ false → same object
      unused the_shelf f = of_shelf f
      unused the_input f = of_input
      unused the_output f = let out : (row job).has_output ≡ true = puts.puts in absurd (cc)
      unused the_rack f = of_rack

  -- the output failed
  pub text_part : (count : ℕ) → JudgesSettings job SinkFault after.shelf same → Appends held.held now.held (take count text) → Stays held.flushed now.flushed
      → Rose held.faults now.faults → Runs job SinkFault (status_line SinkFault) before after same
  text_part count settings written unflushed rose =
      without_files job SinkFault (status_line SinkFault) before after same puts.no_files puts.puts settings unused
      (record { shelf = shelf; input = refl; output = rose; rack = refl })
      (reads_none (row job).intake job SinkFault before after puts.no_intake)
      (λ plan bytes is told. record {
        made = puts_out text;
        makes = makes plan bytes is;
        files = adds_none rack.files;
        count = count;
        output = written;
        unflushed = unflushed;
      })
      (λ plan is e. absurd (cc)) refl
    where
      unused : (object : Object) → may_use job SinkFault object ≡ false → same object
      unused the_shelf f = of_shelf f
      unused the_input f = of_input
      unused the_output f = let out : (row job).has_output ≡ true = puts.puts in absurd (cc)
      unused the_rack f = of_rack

-- The same of a job that makes its text of the plan that its settings give.
module _ (job : Job) (puts : PutsText job) (text : PlanFields → List ℕ) (name : List ℕ) (plan : PlanFields) (old new : ShelfTold) (input : InputTold)
    (held now : OutputTold) (rack : RackTold) (same : Object → Type 0) (of_name : (row job).settings ≡ Some name) (given : (p : PlanFields) → IsPlanOf job new p → IsGiven job new p)
    (makes : (p : PlanFields) (bytes : List ℕ) → Makes job new p bytes input.left (puts_out (text p))) (shelf : KeepsShelf job false old new) (read : IsFileOf (new.file name) plan)
    (none : RefusesNone (new.file name)) (of_input : same the_input) (of_rack : same the_rack) where
  made_of : (p : PlanFields) (bytes : List ℕ) → IsPlanOf job new p → Makes job new p bytes input.left (puts_out (text plan))
  made_of p bytes is =
      subst (λ (q : PlanFields). Makes job new p bytes input.left (puts_out (text q))) (sym (given_is job name new plan of_name read p (given p is))) (makes p bytes)

  used_shelf : is_some (row job).settings ≡ false → same the_shelf
  used_shelf f = absurd (let some : is_some (row job).settings ≡ true = ap is_some of_name in cc)

  pub loaded_done : Appends held.held now.held (text plan) → IsFlushed now.held now.flushed → now.faults ≡ held.faults
      → Runs job Done (status_line Done) (world old input held rack) (world new input now rack) same
  loaded_done =
      text_done job puts (text plan) old new input held now rack same shelf used_shelf of_input of_rack made_of
      (judged_loaded job name Done new same of_name puts.one_file (λ e. absurd (cc)) (gives job name new plan of_name puts.one_file read) none plan read)

  pub loaded_part : (count : ℕ) → Appends held.held now.held (take count (text plan)) → Stays held.flushed now.flushed → Rose held.faults now.faults
      → Runs job SinkFault (status_line SinkFault) (world old input held rack) (world new input now rack) same
  loaded_part count =
      text_part job puts (text plan) old new input held now rack same shelf used_shelf of_input of_rack made_of count
      (judged_loaded job name SinkFault new same of_name puts.one_file (λ e. absurd (cc)) (gives job name new plan of_name puts.one_file read) none plan read)

  pub loaded_lacking : now ≡ held → same the_output → Runs job OutOfMemory (status_line OutOfMemory) (world old input held rack) (world new input now rack) same
  loaded_lacking = text_lacking job old new input held now rack same puts.command shelf used_shelf of_input of_rack
