use Rattle.std.proofs.Common.{arith, ◌+◌, ◌*◌, ◌-◌, ◌/◌, ℕ, List, ◌≡◌, drop, length, subst, sym}
use Rattle.gf256.specs.Horner.{AreValues}
use Rattle.gf256.proofs.Horner.{last_ends, rest_written}
use Rattle.gf256.proofs.Places.{behind, length-behind}
use Rattle.gf256.proofs.kernels.horner_columns.Goals as goal

pub find_block-requires-clause-source_room : goal.find_block-requires-clause-source_room
find_block-requires-clause-source_room c = λ q low.
    let h = last_ends c.args.first c.args.stride c.args.count (length c.args.target.now) (length c.args.source.now) q c.requires.room low in
    omega (arith, h, c.loop-block-test.true)

pub find_rest-requires-clause-source_room : goal.find_rest-requires-clause-source_room
find_rest-requires-clause-source_room c = λ q low.
    let n : ℕ = length c.args.target.now / 64 * 64 in
    let h = last_ends c.args.first c.args.stride c.args.count (length c.args.target.now) (length c.args.source.now) q c.requires.room low in
    let l : length (behind n c.loop-block.target) ≡ length c.loop-block.target - n = length-behind n c.loop-block.target in
    let m : length c.loop-block.target ≡ length c.args.target.now = c.loop-block.auto.target in
    omega (arith, h, l, m)

pub loop-block-preserved : goal.loop-block-preserved
loop-block-preserved c =
    let n : ℕ = c.loop-block.block in
    let new : List ℕ = c.find_block.new.target in
    let more : n * 64 + 64 ≡ (n + 1) * 64 = omega arith in
    let values : ℕ → ℕ → List ℕ → Type 0 = λ z m target. AreValues z c.args.first c.args.stride c.args.count c.args.source.now m target in
    subst (λ m. values c.args.root.0 m new) more
    (subst (λ z. values z (n * 64) c.loop-block.target → values z (n * 64 + 64) new) c.of-factor.ensures c.find_block.ensures c.loop-block.invariant)

pub returns-then-done-target : goal.returns-then-done-target
returns-then-done-target c = λ i low.
    let n : ℕ = length c.args.target.now / 64 * 64 in
    let now : List ℕ = c.loop-block.target in
    let new : List ℕ = c.find_rest.new.target in
    let first : ℕ = c.args.first in
    let values : ℕ → ℕ → List ℕ → Type 0 = λ f m target. AreValues c.args.root.0 f c.args.stride c.args.count c.args.source.now m target in
    let all : c.loop-block.block ≡ length c.args.target.now / 64 = omega arith in
    let long : length now ≡ length c.args.target.now = c.loop-block.auto.target in
    let rest : length (behind n now) ≡ length now - n = length-behind n now in
    let same : length new ≡ length (behind n now) = c.find_rest.auto.target in
    rest_written c.args.root.0 first c.args.stride c.args.count c.args.source.now n now new (drop (length now - n) (drop n now)) (omega arith)
    (subst (λ m. values first (m * 64) now) all c.loop-block.invariant)
    (subst (λ m. values (first + n) m new) (sym same) c.find_rest.ensures) i (omega (arith, low, long, rest, same))

pub returns-else-done-target : goal.returns-else-done-target
returns-else-done-target c = λ i low. c.loop-block.invariant i (omega arith)
