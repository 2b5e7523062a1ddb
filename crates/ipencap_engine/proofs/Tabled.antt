-- Runs of `tables` that have a plan.
use Rattle.std.proofs.Common.{◌≡◌, ℕ, false, List, refl, Ok, Err}
use Rattle.std.specs.Bool.{⊤}
use Rattle.ipe_io.specs.Told.{InputTold, OutputTold, ShelfTold, RackTold}
use Rattle.plan_spec.specs.Plan.{PlanFields}
use Rattle.tables_command.specs.Writing.{bytes_of_tables, WritesTables}
use Rattle.tables_command.specs.declared.writing.TablesFault.{TablesFault}
use Rattle.tables_command.specs.declared.writing.TablesFault.TheVariants as fault
use Rattle.ipencap_engine.specs.Statuses.{status_line, status_of_tables}
use Rattle.ipencap_engine.specs.World.{world, Object, the_input, the_output, the_rack}
use Rattle.ipencap_engine.specs.Jobs.{to_tables}
use Rattle.ipencap_engine.specs.Counts.{KeepsShelf}
use Rattle.ipencap_engine.specs.Runs.{Runs}
use Rattle.ipencap_engine.specs.declared.status.Status.TheVariants.{Done}
use Rattle.ipencap_engine.proofs.Plans.{IsFileOf, RefusesNone}
use Rattle.ipencap_engine.proofs.Texts.{PutsText, loaded_done, loaded_part, loaded_lacking}

puts : (name : List ℕ) → PutsText (to_tables name)
puts name = record { no_intake = refl; puts = refl; no_files = refl; one_file = refl; command = refl }

module _ (name : List ℕ) (plan : PlanFields) (old new : ShelfTold) (input : InputTold) (held now : OutputTold) (rack : RackTold) (same : Object → Type 0)
    (shelf : KeepsShelf (to_tables name) false old new) (read : IsFileOf (new.file name) plan) (none : RefusesNone (new.file name))
    (of_input : same the_input) (of_rack : same the_rack) (Silent : Type 0) (silent : Silent → now ≡ held) (of_output : Silent → same the_output) where
  pub tables_done : (done : ⊤) → WritesTables (Ok done) plan held now Silent
      → Runs (to_tables name) Done (status_line Done) (world old input held rack) (world new input now rack) same
  tables_done done all =
      loaded_done (to_tables name) (puts name) bytes_of_tables name plan old new input held now rack same refl (λ p is. is) (λ p bytes. refl) shelf read none of_input of_rack
      all.ends.written all.ends.flushed (all.kept (λ f. absurd (cc)))

  pub tables_fail : (why : TablesFault) → WritesTables (Err why) plan held now Silent
      → Runs (to_tables name) (status_of_tables why) (status_line (status_of_tables why)) (world old input held rack) (world new input now rack) same
  tables_fail fault.Sink all =
      loaded_part (to_tables name) (puts name) bytes_of_tables name plan old new input held now rack same refl (λ p is. is) (λ p bytes. refl) shelf read none of_input of_rack
      all.ends.count all.ends.written all.ends.unflushed (all.rose refl)
  tables_fail fault.OutOfMemory all =
      loaded_lacking (to_tables name) (puts name) bytes_of_tables name plan old new input held now rack same refl (λ p is. is) (λ p bytes. refl) shelf read none of_input of_rack
      (silent all.ends) (of_output all.ends)
