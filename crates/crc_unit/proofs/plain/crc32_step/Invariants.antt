use Rattle.std.proofs.Common.{◌≡◌, drop}
use Rattle.division_law.specs.Registers.{crc32_run}
use Rattle.crc_unit.proofs.plain.crc32_step.Given as goal

abbrev pub invariant-loop-byte : goal.invariant-loop-byte
invariant-loop-byte l = crc32_run l.running (drop l.byte-index l.bytes) ≡ crc32_run l.fn.register l.bytes
