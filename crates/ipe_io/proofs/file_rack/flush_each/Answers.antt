use Rattle.std.proofs.Common.{rules, subst, sym, ◌≤◌, ◌+◌, take, set}
use Rattle.ipe_io.specs.Real.{unwritten}
use Rattle.ipe_io.proofs.Racks.{kept_after, counted_failed, counted_flushed}
use Rattle.ipe_io.proofs.file_rack.flush_each.Goals as goal
use Rattle.ipe_io.proofs.file_rack.flush_each.Goals.{then-is_err, else-is_err}

pub loop-at-preserved : goal.loop-at-preserved
loop-at-preserved g c =
    let files = c.loop-at.files in
    let at = c.loop-at.at in
    let now = c.flush.new.self in
    let kept = kept_after c.args.files.now files at c.index-files-at.result now c.loop-at.invariant.kept (search rules) (search rules) (search rules) (search rules) in
    elim c.if-is_err.branch [
      | then-is_err w ↦ record {
        most = search rules;
        kept = kept;
        counted = subst (λ n. unwritten (take (at + 1) (set files at now)) ≤ n) (sym w.failed-is) (counted_failed files at now c.loop-at.failed (search rules) c.loop-at.invariant.counted);
      }
      | else-is_err w ↦ record {
        most = search rules;
        kept = kept;
        counted = subst (λ n. unwritten (take (at + 1) (set files at now)) ≤ n) (sym w.failed-is) (counted_flushed files at now c.loop-at.failed (search rules) c.loop-at.invariant.counted (search rules));
      }
    ]
