use Rattle.std.proofs.Common.{◌≡◌, ◌<◌, Some, length, refl, arith, ◌∙◌}
use Rattle.std.specs.Prelude.{slice_get}
use Rattle.std.proofs.lemmas.List.{length-set}
use Rattle.std.proofs.lemmas.Option.{slice_get_read}
use Rattle.service_reception.specs.Reception.{packet_record}
use Rattle.psi_tables.proofs.Places.{set_next, left_next}
use Rattle.psi_tables.proofs.Seen.{HasTaken, all_taken_none, all_taken_programs}
use Rattle.psi_tables.proofs.finder.take_all.Goals as goal

pub loop-at-preserved : goal.loop-at-preserved
loop-at-preserved c =
    let below : c.loop-at.at < length c.loop-at.watches.items = grind (arith, c.loop-at-test.true, c.len-at-end.ensures, c.loop-at.invariant.0) in
    let there : slice_get c.loop-at.watches.items c.loop-at.at ≡ Some c.index_mut.result.now
    = slice_get_read c.loop-at.watches.items (length c.loop-at.watches.items) c.loop-at.at c.index_mut.result.now refl below c.index_mut.ensures.value in (
      length-set c.loop-at.watches.items c.loop-at.at c.take.new.self ∙ c.loop-at.invariant.0,
      grind (arith, c.loop-at-test.true, c.len-at-end.ensures),
      set_next (HasTaken (packet_record c.args.moment c.args.bytes.now)) c.args.watches.now.items c.loop-at.watches.items c.loop-at.at c.index_mut.result.now c.take.new.self
          c.loop-at.invariant.2 c.loop-at.invariant.3 there
          (record { watched = c.take.ensures.watched; pid_is = c.take.ensures.pid; wanted_is = c.take.ensures.wanted }),
      left_next c.args.watches.now.items c.loop-at.watches.items c.loop-at.at c.take.new.self c.loop-at.invariant.3,
    )

pub returns-clause-none : goal.returns-clause-none
returns-clause-none c = λ none. all_taken_none c.args.watches.now.items c.loop-at.watches.items c.loop-at.invariant.0 none

pub returns-clause-watched : goal.returns-clause-watched
returns-clause-watched c = λ programs records watches.
    all_taken_programs (packet_record c.args.moment c.args.bytes.now) c.args.watches.now.items c.loop-at.watches.items c.loop-at.at c.loop-at.invariant.0
    (grind (arith, c.loop-at-test.false, c.len-at-end.ensures, c.loop-at.invariant.0)) c.loop-at.invariant.2 programs records watches
