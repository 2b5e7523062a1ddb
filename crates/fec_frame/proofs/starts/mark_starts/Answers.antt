use Rattle.std.proofs.Common.{◌≡◌, ◌+◌, ◌*◌, ◌≤◌, ℕ, List, subst, arith}
use Rattle.fec_frame.specs.Marking.{AreMarkedUpTo}
use Rattle.fec_frame.proofs.KnownRuns.{run_later}
use Rattle.fec_frame.proofs.Marking.{all_marked, marked_none, marked_on, marked_rest}
use Rattle.fec_frame.proofs.starts.mark_starts.Goals as goal

pub loop-place-init : goal.loop-place-init
loop-place-init c =
    let limit : ℕ = 191 * c.args.rows in
    record {
      within = c.next_start-place.ensures.within;
      marked =
          marked_on c.args.bytes.now c.args.marks.now c.args.marks.now limit 0 c.next_start-place.result (marked_none c.args.bytes.now c.args.marks.now limit)
          c.next_start-place.ensures.order c.next_start-place.ensures.none;
      start = c.next_start-place.ensures.start;
      run = λ some.
          run_later c.args.marks.now limit 0 c.next_start-place.result c.told_end-end.result
          (c.told_end-end.ensures.run c.args.bytes.now c.args.marks.now c.requires.told (omega (arith, some))) (omega arith) (omega (arith, some));
    }

pub loop-place-preserved : goal.loop-place-preserved
loop-place-preserved c =
    let limit : ℕ = 191 * c.args.rows in
    let marks : List ℕ = c.mark_at-end.new.marks in
    let place : ℕ = c.loop-place.place in
    let next : ℕ = c.next_start-place-in-loop-place.result in
    let order : place + 1 ≤ next = c.next_start-place-in-loop-place.ensures.order in
    record {
      within = c.next_start-place-in-loop-place.ensures.within;
      marked =
          marked_on c.args.bytes.now c.args.marks.now marks limit (place + 1) next
          (c.mark_at-end.ensures.more c.args.marks.now c.loop-place.invariant.marked) order c.next_start-place-in-loop-place.ensures.none;
      start = c.next_start-place-in-loop-place.ensures.start;
      run = λ some.
          run_later marks limit place next c.mark_at-end.result c.mark_at-end.ensures.run (omega (arith, order)) (omega (arith, some));
    }

pub returns : goal.returns
returns c = record {
  known = c.loop-place.invariant.marked.known;
  marked = λ sections edges.
      let at : c.loop-place.place ≡ c.args.state.now.zeros_from = omega arith in
      all_marked c.args.rows c.args.bytes.now c.args.marks.now c.loop-place.marks sections edges
      (marked_rest c.args.bytes.now c.args.marks.now c.loop-place.marks (191 * c.args.rows) c.args.state.now.zeros_from c.requires.told.most c.requires.told.zeros
      (subst (λ (t : ℕ). AreMarkedUpTo c.args.bytes.now c.args.marks.now c.loop-place.marks (191 * c.args.rows) t) at c.loop-place.invariant.marked));
}
