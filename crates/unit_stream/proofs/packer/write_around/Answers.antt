use Rattle.std.proofs.Common.{◌≡◌, ◌≤◌, Bool, cond, ℕ, ◌+◌, ◌-◌, ◌++◌, ◌∙◌, take, length, replicate, ap, sym, subst, arith}
use Rattle.unit_stream.specs.Parts.{payload_with}
use Rattle.unit_stream.proofs.Buffers.{around, around_pointer}
use Rattle.unit_stream.proofs.packer.write_around.Goals as goal

pub returns-then-starts-clause-written : goal.returns-then-starts-clause-written
returns-then-starts-clause-written c = λ bytes size_is.
    around_pointer c.args.into.now c.stuff.new.into bytes c.args.pointer c.args.size (188 - (5 + c.args.size)) c.told-into
    (subst (λ (b : Bool). c.args.size ≤ cond b 183 184) c.if-starts.true c.requires.size) (omega arith) c.stuff.ensures size_is
    ∙ ap (λ (b : Bool). take 4 c.args.into.now ++ payload_with b c.args.pointer bytes) (sym c.if-starts.true)

pub returns-else-starts-clause-written : goal.returns-else-starts-clause-written
returns-else-starts-clause-written c = λ bytes size_is.
    let room : c.args.size ≤ 184 = subst (λ (b : Bool). c.args.size ≤ cond b 183 184) c.if-starts.false c.requires.size in
    let left : length c.args.into.now - (4 + c.args.size) ≡ 184 - length bytes = omega (arith, c.told-into, size_is) in
    around c.args.into.now c.stuff-else-starts.new.into bytes 4 c.args.size (188 - (4 + c.args.size)) (omega (arith, c.told-into, room)) (omega (arith, c.told-into)) c.stuff-else-starts.ensures size_is
    ∙ ap (λ (n : ℕ). take 4 c.args.into.now ++ (bytes ++ replicate n 0xFF)) left
    ∙ ap (λ (b : Bool). take 4 c.args.into.now ++ payload_with b c.args.pointer bytes) (sym c.if-starts.false)
