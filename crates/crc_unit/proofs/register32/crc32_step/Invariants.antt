use Rattle.std.proofs.Common.{◌≡◌, ◌<◌, ◌^◌, drop}
use Rattle.wire_spec.specs.Lists.{joined}
use Rattle.division_law.specs.Registers.{crc32_run}
use Rattle.crc_unit.proofs.register32.crc32_step.Given as goal

abbrev pub invariant-loop-piece : goal.invariant-loop-piece
invariant-loop-piece l = record {
  fits : l.running < 2 ^ 32;
  ahead : crc32_run l.running (joined (drop l.piece-index l.pieces)) ≡ crc32_run l.fn.register (joined l.pieces);
}
