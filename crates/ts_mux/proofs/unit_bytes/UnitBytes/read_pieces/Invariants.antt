-- The bytes so far.
use Rattle.std.proofs.Common.{◌≡◌, ◌≤◌, ◌-◌, ◌++◌, length, take}
use Rattle.plan.specs.Parts.{kind_seen}
use Rattle.ts_mux.specs.Reading.{IsReading, bytes_left}
use Rattle.ts_mux.proofs.unit_bytes.UnitBytes.read_pieces.Given as goal

abbrev pub invariant-loop-done : goal.invariant-loop-done
invariant-loop-done l = record {
  reading : IsReading (kind_seen l.service.kind) l.service.unicast l.datagrams l.self;
  within : l.done ≤ length l.into;
  read : bytes_left (kind_seen l.service.kind) l.service.unicast l.datagrams l.initial.self
      ≡ take l.done l.into ++ bytes_left (kind_seen l.service.kind) l.service.unicast l.datagrams l.self;
}

abbrev pub decreases-loop-done : goal.decreases-loop-done
decreases-loop-done l = length l.initial.into - l.done
