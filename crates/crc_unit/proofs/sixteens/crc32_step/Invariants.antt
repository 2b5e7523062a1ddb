use Rattle.std.proofs.Common.{◌≡◌, ◌<◌, ◌^◌, drop}
use Rattle.wire_spec.specs.Lists.{joined}
use Rattle.division_law.specs.Registers.{crc32_run}
use Rattle.crc_unit.proofs.sixteens.crc32_step.Given as goal

abbrev pub invariant-loop-sixteen : goal.invariant-loop-sixteen
invariant-loop-sixteen l = record {
  fits : l.running < 2 ^ 32;
  ahead : crc32_run l.running (joined (drop l.sixteen-index l.sixteens)) ≡ crc32_run l.fn.register (joined l.sixteens);
}
