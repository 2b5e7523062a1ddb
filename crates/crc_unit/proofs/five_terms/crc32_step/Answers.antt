use Rattle.std.proofs.Common.{ℕ, ◌≡◌, ◌+◌, ◌-◌, ◌^◌, ◌<◌, ◌++◌, ◌∙◌, List, length, take, drop, arith, ap, ap₂, sym, subst, length-drop}
use Rattle.std.proofs.lemmas.List.{take-append-drop}
use Rattle.std.proofs.lemmas.List.Elements.{All-from_get_or, All-take, All-drop}
use Rattle.wire_spec.specs.Bytes.{AreBytes}
use Rattle.division_law.specs.Registers.{crc32_run}
use Rattle.division_law.proofs.Registers.{crc32_law}
use Rattle.crc_unit.proofs.Window.{get_or-zeros}
use Rattle.crc_unit.proofs.Division.{rest_run}
use Rattle.crc_unit.proofs.five_terms.crc32_step.Goals as goal

pub divide-requires-clause-zeros : goal.divide-requires-clause-zeros
divide-requires-clause-zeros c i = get_or-zeros 1691 i

pub returns : goal.returns
returns c =
    let r : ℕ = c.args.register in
    let bytes : List ℕ = c.args.bytes.now in
    let front : List ℕ = c.in-Some.front.now in
    let back : List ℕ = c.in-Some.behind.now in
    let rest : List ℕ = c.subtract.new.rest in
    let small : r < 2 ^ 32 = omega arith in
    let all : AreBytes bytes = All-from_get_or (λ x. x < 2 ^ 8) bytes 0 (λ i within. omega (arith, c.type_inv.bytes i)) in
    let cut : ℕ = length bytes - 304 in
    let front_is : front ≡ take cut bytes = c.in-Some.ensures.cases.0 in
    let back_is : back ≡ drop cut bytes = c.in-Some.ensures.cases.1 in
    let whole : front ++ back ≡ bytes = ap₂ (λ (x y : List ℕ). x ++ y) front_is back_is ∙ take-append-drop cut bytes in
    let front_all : AreBytes front = subst (λ l. AreBytes l) (sym front_is) (All-take (λ x. x < 2 ^ 8) cut bytes all) in
    let back_all : AreBytes back = subst (λ l. AreBytes l) (sym back_is) (All-drop (λ x. x < 2 ^ 8) cut bytes all) in
    let enough : length front + 304 ≡ length bytes = c.in-Some.ensures.cases.2 in
    let long : length back ≡ 304 = omega (arith, ap length back_is, length-drop cut bytes) in
    let rest_long : length rest ≡ 304 = omega arith in
    let run : AreBytes rest × (crc32_run 0 rest ≡ crc32_run r (front ++ back)) =
    rest_run r front back c.divide.new.window rest small front_all back_all c.divide.ensures long rest_long c.subtract.ensures in
    c.crc32_step-2.ensures
    ∙ sym (crc32_law 0 rest (omega arith) (run.0))
    ∙ run.1
    ∙ ap (λ l. crc32_run r l) whole

pub returns-in_default : goal.returns-in_default
returns-in_default c =
    let small : c.args.register < 2 ^ 32 = omega arith in
    let all : AreBytes c.args.bytes.now = All-from_get_or (λ x. x < 2 ^ 8) c.args.bytes.now 0 (λ i within. omega (arith, c.type_inv.bytes i)) in
    c.crc32_step.ensures ∙ sym (crc32_law c.args.register c.args.bytes.now small all)
