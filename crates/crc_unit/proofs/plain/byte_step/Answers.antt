use Rattle.std.proofs.Common.{arith, ◌<◌, ◌^◌, ◌*◌, ◌/◌, ◌%◌, ap, ◌∙◌, bit_xor, ℕ}
use Rattle.std.specs.Int.Bits.{xor_lt}
use Rattle.crc_unit.proofs.Entries.{after_8}
use Rattle.crc_unit.proofs.Steps.{by_entry}
use Rattle.crc_unit.proofs.plain.byte_step.Goals as goal

pub returns : goal.returns
returns c =
    let r : ℕ = c.args.register in
    let byte : ℕ = c.args.byte in
    let fits : r < 2 ^ 32 = omega arith in
    let small : byte < 2 ^ 8 = omega arith in
    let top : r / 2 ^ 24 < 2 ^ 8 = omega arith in
    ap (λ t. bit_xor (r * 2 ^ 8 % 2 ^ 32) t) (c.entry_of.ensures ∙ after_8 (bit_xor (r / 2 ^ 24) byte) (xor_lt 8 (r / 2 ^ 24) byte top small))
    ∙ by_entry r byte fits small
