use Rattle.std.proofs.Common.{arith, ◌≡◌, ◌+◌, ◌<◌, ◌≤◌, ◌^◌, ap, sym, ◌∙◌, ℕ, List, drop, length, suc}
use Rattle.std.proofs.Math.Seq.{drop-cons}
use Rattle.std.specs.List.{All}
use Rattle.std.proofs.lemmas.List.Elements.{All-from_get_or}
use Rattle.std.proofs.lemmas.List.{drop_all}
use Rattle.division_law.specs.Registers.{crc8_run}
use Rattle.division_law.proofs.Registers.{crc8_law}
use Rattle.crc_unit.proofs.register8.crc8.Goals as goal

pub loop-byte-preserved : goal.loop-byte-preserved
loop-byte-preserved c =
    let i : ℕ = c.loop-byte.byte-index in
    let b : List ℕ = c.args.bytes.now in
    let lt : i < length b = omega arith in
    let e : i + 1 ≡ suc i = omega arith in
    ap (λ n. crc8_run c.byte_step-running.result (drop n b)) e
    ∙ ap (λ r. crc8_run r (drop (suc i) b)) c.byte_step-running.ensures
    ∙ sym (ap (λ l. crc8_run c.loop-byte.running l) (drop-cons b i 0 lt))
    ∙ c.loop-byte.invariant

pub returns : goal.returns
returns c =
    let b : List ℕ = c.args.bytes.now in
    let all : All (λ x. x < 2 ^ 8) b = All-from_get_or (λ x. x < 2 ^ 8) b 0 (λ i h. omega (arith, c.type_inv.bytes i)) in
    let le : length b ≤ c.loop-byte.byte-index = omega arith in
    sym (ap (λ l. crc8_run c.loop-byte.running l) (drop_all c.loop-byte.byte-index b le))
    ∙ c.loop-byte.invariant ∙ crc8_law b all
