use Rattle.std.proofs.Common.{◌≡◌, drop}
use Rattle.division_law.specs.Registers.{crc8_run}
use Rattle.crc_unit.proofs.register8.crc8.Given as goal

abbrev pub invariant-loop-byte : goal.invariant-loop-byte
invariant-loop-byte l = crc8_run l.running (drop l.byte-index l.bytes) ≡ crc8_run 0 l.bytes
