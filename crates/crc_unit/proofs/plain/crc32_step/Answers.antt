use Rattle.std.proofs.Common.{arith, ◌≡◌, ◌+◌, ◌<◌, ◌≤◌, ◌^◌, ap, sym, ◌∙◌, ℕ, List, drop, length, suc}
use Rattle.std.proofs.Math.Seq.{drop-cons}
use Rattle.std.specs.List.{All}
use Rattle.std.proofs.lemmas.List.Elements.{All-from_get_or}
use Rattle.std.proofs.lemmas.List.{drop_all}
use Rattle.division_law.specs.Registers.{crc32_run}
use Rattle.division_law.proofs.Registers.{crc32_law}
use Rattle.crc_unit.proofs.plain.crc32_step.Goals as goal

pub loop-byte-preserved : goal.loop-byte-preserved
loop-byte-preserved c =
    let i : ℕ = c.loop-byte.byte-index in
    let b : List ℕ = c.args.bytes.now in
    let lt : i < length b = omega arith in
    let e : i + 1 ≡ suc i = omega arith in
    ap (λ n. crc32_run c.byte_step-running.result (drop n b)) e
    ∙ ap (λ r. crc32_run r (drop (suc i) b)) c.byte_step-running.ensures
    ∙ sym (ap (λ l. crc32_run c.loop-byte.running l) (drop-cons b i 0 lt))
    ∙ c.loop-byte.invariant

pub returns : goal.returns
returns c =
    let fits : c.args.register < 2 ^ 32 = omega arith in
    let b : List ℕ = c.args.bytes.now in
    let all : All (λ x. x < 2 ^ 8) b = All-from_get_or (λ x. x < 2 ^ 8) b 0 (λ i h. omega (arith, c.type_inv.bytes i)) in
    let le : length b ≤ c.loop-byte.byte-index = omega arith in
    sym (ap (λ l. crc32_run c.loop-byte.running l) (drop_all c.loop-byte.byte-index b le))
    ∙ c.loop-byte.invariant ∙ crc32_law c.args.register b fits all
