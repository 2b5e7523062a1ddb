-- The second piece of the body is put after the head.
use Rattle.std.proofs.Common.{ℕ, ◌+◌, List, ◌++◌, drop, length, refl, ap, sym, ◌∙◌}
use Rattle.byte_slices.proofs.Puts.{put_behind}
use Rattle.section_codec.specs.Heads.{section_head}
use Rattle.section_codec.proofs.Heads.{head_and_rest, length-section_head}
use Rattle.section_codec.proofs.section.write_front.Goals as goal

pub returns-clause-written : goal.returns-clause-written
returns-clause-written c =
    let head : List ℕ = section_head c.args.table_id c.args.top c.args.head.now (length c.args.rest.now) in
    let start : ℕ = c.write_head-start.result in
    let end : ℕ = start + length c.args.rest.now in
    put_behind head c.args.rest.now c.args.into.now c.write_head-start.new.into c.put.new.into start end
    (length-section_head c.args.table_id c.args.top c.args.head.now (length c.args.rest.now) ∙ sym c.write_head-start.ensures.size) refl c.write_head-start.ensures.written c.put.ensures.put
    ∙ ap (λ (l : List ℕ). l ++ drop end c.args.into.now) (head_and_rest c.args.table_id c.args.top c.args.head.now c.args.rest.now)
