use Rattle.std.proofs.Common.{◌≤◌, ℕ, ◌-◌, List, ◌++◌, length, take, refl, ap, sym, ◌∙◌, append_assoc, arith}
use Rattle.std.proofs.lemmas.List.{length-append, length-take-le, take_all}
use Rattle.burst_packets.specs.Frames.{bytes_left}
use Rattle.burst_packets.proofs.Carried.{taken, within_put}
use Rattle.burst_packets.proofs.frame_bytes.FrameBytes.read.Goals as goal

pub loop-done-init : goal.loop-done-init
loop-done-init c = record { reading = c.requires.reading; within = omega arith; read = refl; shape = refl }

pub read_piece-done-requires-clause-reading : goal.read_piece-done-requires-clause-reading
read_piece-done-requires-clause-reading c = c.loop-done.invariant.reading

pub read_piece-done-requires-clause-left : goal.read_piece-done-requires-clause-left
read_piece-done-requires-clause-left c =
    let left : List ℕ = bytes_left c.args.datagrams.now c.loop-done.self in
    omega (
      arith,
      ap length c.loop-done.invariant.read,
      length-append (take c.loop-done.done c.loop-done.into) left,
      length-take-le c.loop-done.done c.loop-done.into c.loop-done.invariant.within,
      c.requires.enough,
      c.loop-done-test.true,
      c.loop-done.auto.into,
    )

pub loop-done-preserved : goal.loop-done-preserved
loop-done-preserved c =
    let into : List ℕ = c.loop-done.into in
    let new : List ℕ = c.read_piece-done.new.into in
    let done : ℕ = c.loop-done.done in
    let n : ℕ = c.read_piece-done.result in
    let left : List ℕ = bytes_left c.args.datagrams.now c.read_piece-done.new.self in
    let some : n ≤ length new = omega (arith, c.read_piece-done.ensures.count.1, c.read_piece-done.auto.into) in
    record {
      reading = c.read_piece-done.ensures.reading;
      within = within_put into new done (length into - done) n c.loop-done.invariant.within some;
      read =
          c.loop-done.invariant.read
          ∙ ap (λ (t : List ℕ). take done into ++ t) c.read_piece-done.ensures.read
          ∙ sym (append_assoc (take done into) (take n new) left)
          ∙ ap (λ (t : List ℕ). t ++ left) (sym (taken into new done (length into - done) n c.loop-done.invariant.within some));
      shape = c.read_piece-done.ensures.shape ∙ c.loop-done.invariant.shape;
    }

pub returns-clause-reading : goal.returns-clause-reading
returns-clause-reading c = c.loop-done.invariant.reading

pub returns-clause-read : goal.returns-clause-read
returns-clause-read c =
    c.loop-done.invariant.read
    ∙ ap (λ (t : List ℕ). t ++ bytes_left c.args.datagrams.now c.loop-done.self)
    (take_all c.loop-done.done c.loop-done.into c.loop-done-test.false)
