-- The ends of the units so far.
use Rattle.std.proofs.Common.{◌≡◌, ◌*◌, ◌≤◌, length, map, take, vec_len, vec_capacity}
use Rattle.plan.specs.Parts.{kind_seen}
use Rattle.ts_mux.specs.Units.{unit_bytes, ends_from}
use Rattle.stream_spec.specs.Units.{unit_of}
use Rattle.ts_mux.proofs.units.ends_of.Given as goal

abbrev pub invariant-loop-place : goal.invariant-loop-place
invariant-loop-place l = record {
  ends : l.ends.items ≡ ends_from 0 (map (unit_of (kind_seen l.service.kind) l.service.unicast) (take l.place l.datagrams));
  end : l.end ≡ length (unit_bytes (kind_seen l.service.kind) l.service.unicast (take l.place l.datagrams));
  most : l.end ≤ 32773 * l.place;
  size : vec_len l.ends ≡ l.place;
  room : vec_capacity l.ends ≡ length l.datagrams;
}
