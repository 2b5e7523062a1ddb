use Rattle.std.proofs.Common.{ℕ, List, ◌++◌, length, take, drop, ap, ◌∙◌, arith, length-drop}
use Rattle.std.proofs.lemmas.List.{length-take-le, take_at, take_rest}
use Rattle.fec_units.proofs.Filling.{copied_all, copied_some}
use Rattle.fec_units.proofs.Parts.{got}
use Rattle.fec_units.proofs.columns.copy_piece.Goals as goal

pub returns-then-at-datagram-clause-read : goal.returns-then-at-datagram-clause-read
returns-then-at-datagram-clause-read c =
    let d : List ℕ = c.at-datagram.result.now in
    let out : ℕ = c.args.at.now.out in
    let count : ℕ = c.min-count.result in
    let is = got c.args.list.now c.args.at.now.datagram d c.at-datagram.ensures.read in
    copied_all c.args.list.now c.args.end c.args.at.now.datagram out d c.requires.some c.requires.within.end_most is.1 count
    (take count (c.copy_from_slice.new.self ++ drop count c.args.into.now)) c.if-at-datagram.true
    (take_at c.copy_from_slice.new.self (drop count c.args.into.now) count (omega (arith, length-take-le count c.args.into.now (omega (arith, c.min-count.ensures)), c.copy_from_slice.auto.self)) ∙ c.copy_from_slice.ensures.after ∙ ap (λ (l : List ℕ). take count l) (take_rest d out))

pub returns-else-at-datagram-clause-read : goal.returns-else-at-datagram-clause-read
returns-else-at-datagram-clause-read c =
    let d : List ℕ = c.at-datagram.result.now in
    let out : ℕ = c.args.at.now.out in
    let count : ℕ = c.min-count.result in
    let is = got c.args.list.now c.args.at.now.datagram d c.at-datagram.ensures.read in
    copied_some c.args.list.now c.args.end c.args.at.now.datagram out d c.requires.some c.requires.within.end_most is.1 count
    (take count (c.copy_from_slice.new.self ++ drop count c.args.into.now)) (omega (arith, c.min-count.ensures, length-drop out d, ap (λ (l : List ℕ). length l) (take_rest d out), c.requires.within.out c.requires.some, ap (λ (l : List ℕ). length l) is.1))
    (take_at c.copy_from_slice.new.self (drop count c.args.into.now) count (omega (arith, length-take-le count c.args.into.now (omega (arith, c.min-count.ensures)), c.copy_from_slice.auto.self)) ∙ c.copy_from_slice.ensures.after ∙ ap (λ (l : List ℕ). take count l) (take_rest d out))

pub returns-else-at-datagram-clause-within : goal.returns-else-at-datagram-clause-within
returns-else-at-datagram-clause-within c =
    let d : List ℕ = c.at-datagram.result.now in
    let is = got c.args.list.now c.args.at.now.datagram d c.at-datagram.ensures.read in
    record {
      end_most = c.requires.within.end_most;
      most = c.requires.within.most;
      out = λ less. omega (
        arith,
        ap (λ (l : List ℕ). length l) is.1,
        c.requires.within.out c.requires.some,
        c.min-count.ensures,
        length-drop c.args.at.now.out d,
        c.if-at-datagram.false,
      );
      none = λ same. absurd (omega (arith, same, c.requires.some));
    }

pub returns-else-at-datagram-clause-some : goal.returns-else-at-datagram-clause-some
returns-else-at-datagram-clause-some c =
    let d : List ℕ = c.at-datagram.result.now in
    let is = got c.args.list.now c.args.at.now.datagram d c.at-datagram.ensures.read in
    omega (
      arith,
      ap (λ (l : List ℕ). length l) is.1,
      c.requires.within.out c.requires.some,
      c.min-count.ensures,
      length-drop c.args.at.now.out d,
      c.requires.room,
    )
