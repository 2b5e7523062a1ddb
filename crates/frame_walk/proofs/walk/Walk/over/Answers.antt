use Rattle.std.proofs.Common.{◌*◌, ℕ, List, ap, ◌∙◌}
use Rattle.frame_walk.specs.Found.{found_from}
use Rattle.frame_walk.proofs.Marked.{walk_finds}
use Rattle.frame_walk.proofs.walk.Walk.over.Goals as goal

pub returns : goal.returns
returns g c = record {
  datagrams = λ sections solved.
      ap (λ (l : List ℕ). found_from l c.marks.result.now (191 * c.rows.result) 0) c.bytes.ensures.read
      ∙ ap (λ (l : List ℕ). found_from c.args.table.now.bytes l (191 * c.rows.result) 0) c.marks.ensures.read
      ∙ ap (λ (n : ℕ). found_from c.args.table.now.bytes c.args.table.now.marks (191 * n) 0) c.rows.ensures
      ∙ walk_finds c.args.table.now sections solved;
}
