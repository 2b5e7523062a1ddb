use Rattle.std.proofs.Common.{◌≡◌, ◌-◌}
use Rattle.division_law.specs.Registers.{crc8_byte, register_steps}
use Rattle.crc_unit.proofs.register8.byte_step.Given as goal

abbrev pub invariant-loop : goal.invariant-loop
invariant-loop l = register_steps 7 0xD5 (8 - l.counter) l.running ≡ crc8_byte l.fn.register l.fn.byte
