use Rattle.std.proofs.Common.{◌≡◌, ◌⊎◌, inl, inr, ℕ, ◌-◌, ◌≤◌, List, [], length, replicate, drop, refl, ap, ◌∙◌, arith, length-drop}
use Rattle.std.proofs.lemmas.List.{take_rest}
use Rattle.wire_spec.specs.Lists.{joined}
use Rattle.fec_units.specs.Parts.{bytes_left, padded, part_of}
use Rattle.fec_units.proofs.Filling.{column_is, column_rest, none_left, piece_more, piece_within, put_rest}
use Rattle.fec_units.proofs.columns.fill_column.Goals as goal
use Rattle.fec_units.proofs.columns.fill_column.Goals.{then-loop-done-test+else-at-end, else-loop-done-test}

pub loop-done-preserved : goal.loop-done-preserved
loop-done-preserved c =
    let into : List ℕ = c.loop-done.into in
    let new : List ℕ = c.copy_piece-done.new.into in
    let done : ℕ = c.loop-done.done in
    let n : ℕ = c.copy_piece-done.result in
    let some : n ≤ length new = omega (arith, c.copy_piece-done.ensures.room, c.copy_piece-done.auto.into) in
    record {
      within = c.copy_piece-done.ensures.within;
      most = piece_within into new done (length into - done) n c.loop-done.invariant.most some;
      read =
          piece_more (bytes_left c.args.list.now c.args.end c.args.at.now) into new (bytes_left c.args.list.now c.args.end c.loop-done.at)
          (bytes_left c.args.list.now c.args.end c.copy_piece-done.new.at) done (length into - done) n c.loop-done.invariant.most some
          c.loop-done.invariant.read c.copy_piece-done.ensures.read;
    }

pub returns-clause-filled : goal.returns-clause-filled
returns-clause-filled c =
    let list : List (List ℕ) = c.args.list.now in
    let end : ℕ = c.args.end in
    let into : List ℕ = c.loop-done.into in
    let done : ℕ = c.loop-done.done in
    let size : ℕ = length into in
    let left : List ℕ = bytes_left list end c.args.at.now in
    let rest : List ℕ = bytes_left list end c.loop-done.at in
    let side : (size ≤ done) ⊎ (rest ≡ []) = elim c.loop-done-test.branch [
      | then-loop-done-test+else-at-end w ↦
          let same : c.loop-done.at.datagram ≡ end = omega (arith, w.if-at-end.false, c.loop-done.invariant.within.most) in
          inr (ap (λ (p : ℕ). drop c.loop-done.at.out (joined (part_of p end list))) same ∙ none_left list end c.loop-done.at.out)
      | else-loop-done-test w ↦ inl (w.loop-done-test.false)
    ] in
    put_rest into c.fill.new.self done size refl c.loop-done.invariant.most
    (c.fill.ensures.after (λ y e. e) ∙ ap (λ (l : List ℕ). replicate (length l) 0) (take_rest into done) ∙ ap (λ (n : ℕ). replicate n 0) (length-drop done into))
    ∙ column_is left into rest done size refl c.loop-done.invariant.most c.loop-done.invariant.read side
    ∙ ap (λ (n : ℕ). padded n left) c.loop-done.auto.into

pub returns-clause-rest : goal.returns-clause-rest
returns-clause-rest c =
    let list : List (List ℕ) = c.args.list.now in
    let end : ℕ = c.args.end in
    let into : List ℕ = c.loop-done.into in
    let done : ℕ = c.loop-done.done in
    let size : ℕ = length into in
    let left : List ℕ = bytes_left list end c.args.at.now in
    let rest : List ℕ = bytes_left list end c.loop-done.at in
    let side : (size ≤ done) ⊎ (rest ≡ []) = elim c.loop-done-test.branch [
      | then-loop-done-test+else-at-end w ↦
          let same : c.loop-done.at.datagram ≡ end = omega (arith, w.if-at-end.false, c.loop-done.invariant.within.most) in
          inr (ap (λ (p : ℕ). drop c.loop-done.at.out (joined (part_of p end list))) same ∙ none_left list end c.loop-done.at.out)
      | else-loop-done-test w ↦ inl (w.loop-done-test.false)
    ] in
    column_rest left into rest done size refl c.loop-done.invariant.most c.loop-done.invariant.read side
    ∙ ap (λ (n : ℕ). drop n left) c.loop-done.auto.into
