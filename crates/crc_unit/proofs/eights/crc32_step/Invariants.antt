use Rattle.std.proofs.Common.{◌≡◌, ◌<◌, ◌^◌, drop}
use Rattle.wire_spec.specs.Lists.{joined}
use Rattle.division_law.specs.Registers.{crc32_run}
use Rattle.crc_unit.proofs.eights.crc32_step.Given as goal

abbrev pub invariant-loop-eight : goal.invariant-loop-eight
invariant-loop-eight l = record {
  fits : l.running < 2 ^ 32;
  ahead : crc32_run l.running (joined (drop l.eight-index l.eights)) ≡ crc32_run l.fn.register (joined l.eights);
}
