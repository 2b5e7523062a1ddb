-- How a run ends that nothing stops.
use Rattle.std.proofs.Common.{◌≡◌, inl, inr, ℕ, ◌*◌, true, List, [], refl, ap, subst, ◌∙◌}
use Rattle.std.specs.Bool.{⊤}
use Rattle.plan_spec.specs.Plan.{PlanFields}
use Rattle.carrier_spec.specs.Stream.{piece_size}
use Rattle.bridge_spec.specs.Frames.{size_of_piece}
use Rattle.recording_reader.specs.Reading.{most_pieces as most_records}
use Rattle.ipe_io.specs.Told.{ShelfTold}
use Rattle.ipencap_engine.specs.World.{World}
use Rattle.ipencap_engine.specs.Jobs.{Job, no_job, to_ule, to_check, to_send, to_receive, to_sample, to_tables, to_find, to_bridge, to_unbridge, to_relay, bridge_carrier, may_end, HasOuter, IsPlanOf}
use Rattle.ipencap_engine.specs.Made.{Made}
use Rattle.ipencap_engine.specs.Counts.{ShelfRose, of_settings, of_outer}
use Rattle.ipencap_engine.specs.Complete.{NoneRose}
use Rattle.ipencap_engine.specs.Runs.{Runs}
use Rattle.ipencap_engine.specs.declared.status.Status.{Status}
use Rattle.ipencap_engine.specs.declared.status.Status.TheVariants.{Done, Usage, Settings, Capture, ShelfFault, SourceFault, SinkFault, RackFault, OutOfMemory, TooLong}
use Rattle.run_law.specs.Accepted.{TellsFewPieces, HasInput, IsDone}
use Rattle.run_law.proofs.Few.{by_count, by_pieces, by_limits}
use Rattle.run_law.proofs.Captures.{no_fault, no_ethernet_fault, not_faulty}

no_shelf_fault : (job : Job) (before after : World) → ShelfRose job before.shelf after.shelf → NoneRose before after → ⊥
no_shelf_fault job before after (of_settings name e rose) none = none.shelf name rose
no_shelf_fault job before after (of_outer name e gives rose) none = none.shelf name rose

-- words of a command are no wrong use
not_usage : (job : Job) (shelf : ShelfTold) (plan : PlanFields) → IsPlanOf job shelf plan → may_end job Usage ≡ true → ⊥
not_usage no_job shelf plan is ends = is
not_usage (to_ule pid) shelf plan is ends = cc
not_usage (to_check name) shelf plan is ends = cc
not_usage (to_send name) shelf plan is ends = cc
not_usage (to_receive name) shelf plan is ends = cc
not_usage (to_sample number) shelf plan is ends = cc
not_usage (to_tables name) shelf plan is ends = cc
not_usage (to_find pid) shelf plan is ends = cc
not_usage (to_bridge on) shelf plan is ends = cc
not_usage (to_unbridge on) shelf plan is ends = cc
not_usage (to_relay inner outer) shelf plan is ends = cc

module _ (line : List ℕ) (before after : World) (plan : PlanFields) where
  -- a capture without fault
  not_capture : (job : Job) → Runs job Capture line before after (λ object. ⊤) → IsPlanOf job after.shelf plan → HasInput job plan before after → ⊥
  not_capture no_job runs is input = is
  not_capture (to_ule pid) runs is input = let e = runs.ends in absurd (cc)
  not_capture (to_check name) runs is input = let e = runs.ends in absurd (cc)
  not_capture (to_receive name) runs is input = let e = runs.ends in absurd (cc)
  not_capture (to_sample number) runs is input = let e = runs.ends in absurd (cc)
  not_capture (to_tables name) runs is input = let e = runs.ends in absurd (cc)
  not_capture (to_find pid) runs is input = let e = runs.ends in absurd (cc)
  not_capture (to_unbridge on) runs is input = let e = runs.ends in absurd (cc)
  not_capture (to_relay inner outer) runs is input = let e = runs.ends in absurd (cc)
  not_capture (to_send name) runs is input =
      let stands = runs.stands plan input.bytes is input.told in
      not_faulty stands.makes.fault (no_fault input.bytes input.captured stands.makes.captured stands.makes.fault input.tells stands.makes.is.told)
      (stands.end_is ∙ ap (λ (made : Made). made.status) stands.makes.made_is)
  not_capture (to_bridge on) runs is input =
      let stands = runs.stands plan input.bytes is input.told in
      not_faulty stands.makes.fault (no_ethernet_fault input.bytes input.captured stands.makes.captured stands.makes.fault input.tells stands.makes.told)
      (stands.end_is ∙ ap (λ (made : Made). made.status) stands.makes.made_is)

  -- fewer than 2^32 pieces
  not_long : (job : Job) → Runs job TooLong line before after (λ object. ⊤) → IsPlanOf job after.shelf plan → HasInput job plan before after → ⊥
  not_long no_job runs is input = is
  not_long (to_check name) runs is input = let e = runs.ends in absurd (cc)
  not_long (to_send name) runs is input = let e = runs.ends in absurd (cc)
  not_long (to_sample number) runs is input = let e = runs.ends in absurd (cc)
  not_long (to_tables name) runs is input = let e = runs.ends in absurd (cc)
  not_long (to_bridge on) runs is input = let e = runs.ends in absurd (cc)
  not_long (to_ule pid) runs is (inl few) =
      by_count (piece_size plan) before.input.taken after.input.taken runs.reads.0.count
      (runs.reads.0.is_bound ∙ ap (λ (p : PlanFields). piece_size p * most_records) (runs.reads.0.is plan is)) runs.reads.0.taken few
  not_long (to_ule pid) runs is (inr told) =
      let stands = runs.stands plan told.1.bytes is told.1.told in
      by_pieces (piece_size plan) before told.0 after.input.left stands.pieces _ told.1 stands.read stands.limit
  not_long (to_receive name) runs is (inl few) =
      by_count (piece_size plan) before.input.taken after.input.taken runs.reads.0.count
      (runs.reads.0.is_bound ∙ ap (λ (p : PlanFields). piece_size p * most_records) (runs.reads.0.is plan is)) runs.reads.0.taken few
  not_long (to_receive name) runs is (inr told) =
      let stands = runs.stands plan told.1.bytes is told.1.told in
      by_pieces (piece_size plan) before told.0 after.input.left stands.pieces _ told.1 stands.read stands.limit
  not_long (to_find pid) runs is (inl few) =
      by_count (piece_size plan) before.input.taken after.input.taken runs.reads.0.count
      (runs.reads.0.is_bound ∙ ap (λ (p : PlanFields). piece_size p * most_records) (runs.reads.0.is plan is)) runs.reads.0.taken few
  not_long (to_find pid) runs is (inr told) =
      let stands = runs.stands plan told.1.bytes is told.1.told in
      by_pieces 188 before told.0 after.input.left stands.pieces [] (subst (λ (p : PlanFields). TellsFewPieces (piece_size p) before told.0) is told.1)
      (record { each = stands.read.each; short = stands.read.short; consumed = stands.read.consumed }) stands.limit
  not_long (to_unbridge on) runs is (inl few) =
      by_count (size_of_piece (bridge_carrier on)) before.input.taken after.input.taken (size_of_piece (bridge_carrier on) * most_records) refl runs.reads.0 few
  not_long (to_unbridge on) runs is (inr told) =
      let stands = runs.stands plan told.1.bytes is told.1.told in
      by_pieces (size_of_piece (bridge_carrier on)) before told.0 after.input.left stands.pieces _ told.1 stands.read stands.limit
  not_long (to_relay inner outer) runs is input =
      by_limits plan before after.input input.pieces input.few input.fits (runs.stands plan input.few.bytes is input.few.told)

  pub is_done : (job : Job) (end : Status) → Runs job end line before after (λ object. ⊤) → IsPlanOf job after.shelf plan → HasOuter job after.shelf
      → HasInput job plan before after → NoneRose before after → IsDone job plan end line before after
  is_done job Done runs is outer input none = inl (refl, λ bytes told. runs.stands plan bytes is told)
  is_done job OutOfMemory runs is outer input none = inr refl
  is_done job Usage runs is outer input none = absurd (not_usage job after.shelf plan is runs.ends)
  is_done job Settings runs is outer input none = absurd (runs.settings.accepted plan is outer refl)
  is_done job Capture runs is outer input none = absurd (not_capture job runs is input)
  is_done job ShelfFault runs is outer input none = absurd (no_shelf_fault job before after (runs.counts.shelf.rose refl) none)
  is_done job SourceFault runs is outer input none = absurd (none.input runs.counts.input)
  is_done job SinkFault runs is outer input none = absurd (none.output runs.counts.output)
  is_done job RackFault runs is outer input none = absurd (none.rack runs.counts.rack)
  is_done job TooLong runs is outer input none = absurd (not_long job runs is input)
