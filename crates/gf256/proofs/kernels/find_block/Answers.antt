use Rattle.std.proofs.Common.{arith, ℕ, List, ◌≡◌, ◌+◌, ◌*◌, ◌≤◌, length, refl, subst}
use Rattle.std.proofs.lemmas.Simd.{length-put_chunk}
use Rattle.std.specs.Simd.Lanes.{put_chunk}
use Rattle.gf256.proofs.Horner.{AreLanes, lanes_first, lanes_more, lanes_written}
use Rattle.gf256.proofs.kernels.find_block.Goals as goal

pub loop-step-init : goal.loop-step-init
loop-step-init c =
    let first : ℕ = c.args.first in
    let at : ℕ = c.args.at in
    let stride : ℕ = c.args.stride in
    let source : List ℕ = c.args.source.now in
    let room : first + at + 0 * stride + 64 ≤ length source = c.requires.source_room 0 (omega arith) in
    let lanes = lanes_first c.args.root.now.value.0 first stride source in
    record {
      a = lanes at (first + at) refl (omega arith);
      b = lanes (at + 16) (first + at + 16) (omega arith) (omega arith);
      c = lanes (at + 32) (first + at + 32) (omega arith) (omega arith);
      d = lanes (at + 48) (first + at + 48) (omega arith) (omega arith);
    }

pub loop-step-preserved : goal.loop-step-preserved
loop-step-preserved c =
    let first : ℕ = c.args.first in
    let at : ℕ = c.args.at in
    let stride : ℕ = c.args.stride in
    let source : List ℕ = c.args.source.now in
    let n : ℕ = c.loop-step.step in
    let from : ℕ = first + at + n * stride in
    let room : from + 64 ≤ length source = c.requires.source_room n (omega arith) in
    let lanes = lanes_more c.args.root.now.value.0 first stride n source in
    let is = c.loop-step.invariant in
    record {
      a = lanes at from c.loop-step.a c.stepped-a.result refl (omega arith) c.stepped-a.ensures is.a;
      b = lanes (at + 16) (from + 16) c.loop-step.b c.stepped-b.result (omega arith) (omega arith) c.stepped-b.ensures is.b;
      c = lanes (at + 32) (from + 32) c.loop-step.c c.stepped-c.result (omega arith) (omega arith) c.stepped-c.ensures is.c;
      d = lanes (at + 48) (from + 48) c.loop-step.d c.stepped-d.result (omega arith) (omega arith) c.stepped-d.ensures is.d;
    }

pub returns : goal.returns
returns c = λ done.
    let z : ℕ = c.args.root.now.value.0 in
    let first : ℕ = c.args.first in
    let at : ℕ = c.args.at in
    let stride : ℕ = c.args.stride in
    let source : List ℕ = c.args.source.now in
    let old : List ℕ = c.args.target.now in
    let now = c.loop-step in
    let all : now.step ≡ c.args.count = omega arith in
    let whole = λ (k : ℕ) (v : List ℕ). subst (λ n. AreLanes z first stride n source k v) all in
    let one : List ℕ = put_chunk at old now.a in
    let two : List ℕ = put_chunk (at + 16) one now.b in
    let three : List ℕ = put_chunk (at + 32) two now.c in
    let l1 : length one ≡ length old = length-put_chunk at old now.a in
    let l2 : length two ≡ length one = length-put_chunk (at + 16) one now.b in
    let l3 : length three ≡ length two = length-put_chunk (at + 32) two now.c in
    let written = lanes_written z first stride c.args.count source in
    written (at + 48) (at + 64) now.d three (omega arith) (omega arith) (whole (at + 48) now.d now.invariant.d)
    (written (at + 32) (at + 48) now.c two (omega arith) (omega arith) (whole (at + 32) now.c now.invariant.c)
    (written (at + 16) (at + 32) now.b one (omega arith) (omega arith) (whole (at + 16) now.b now.invariant.b)
    (written at (at + 16) now.a old refl (omega arith) (whole at now.a now.invariant.a) done)))
