use Rattle.std.proofs.Common.{arith, ◌≡◌, ◌+◌, ◌-◌, ap, sym, ◌∙◌, ℕ, suc, refl}
use Rattle.division_law.specs.Registers.{register_steps, crc8_byte}
use Rattle.division_law.proofs.Registers.{steps_none, steps_more}
use Rattle.crc_unit.proofs.register8.byte_step.Goals as goal

pub loop-init : goal.loop-init
unfolding crc8_byte
loop-init c = refl

pub loop-preserved : goal.loop-preserved
loop-preserved c =
    let n : ℕ = c.loop.counter in
    let e : suc (8 - (n + 1)) ≡ 8 - n = omega arith in
    ap (λ r. register_steps 7 0xD5 (8 - (n + 1)) r) c.shift-running.ensures
    ∙ sym (steps_more 7 0xD5 (8 - (n + 1)) c.loop.running) ∙ ap (λ m. register_steps 7 0xD5 m c.loop.running) e ∙ c.loop.invariant

pub returns : goal.returns
returns c =
    let e : 8 - c.loop.counter ≡ 0 = omega arith in
    sym (steps_none 7 0xD5 c.loop.running) ∙ ap (λ m. register_steps 7 0xD5 m c.loop.running) (sym e) ∙ c.loop.invariant
