use Rattle.std.proofs.Common.{◌≡◌, ℕ, List, ◌++◌, length, slice_index, ap, ◌∙◌, arith}
use Rattle.wire_spec.specs.Lists.{joined}
use Rattle.unit_stream.specs.Packers.{units_of}
use Rattle.fec_units.specs.Bursts.{HeldUnits, units_by_packet}
use Rattle.fec_units.specs.Parts.{part_of}
use Rattle.fec_units.specs.Timed.{UnitRoom}
use Rattle.fec_units.proofs.Held.{held_ends_are, held_whole}
use Rattle.fec_units.proofs.Shortest.{part_bytes}
use Rattle.fec_units.proofs.Timed.{by_packet}
use Rattle.fec_units.proofs.burst_buffer.BurstBuffer.make.Goals as goal

pub put_burst-requires-clause-bytes : goal.put_burst-requires-clause-bytes
put_burst-requires-clause-bytes c =
    let some = part_bytes c.args.from c.args.end c.args.list.now c.requires.datagrams (omega (arith, c.requires.from)) c.requires.end in
    omega (
      arith,
      ap (λ (v : UnitRoom). length v.bytes) c.clear.ensures.none,
      ap (λ (v : UnitRoom). v.bytes_most) c.clear.ensures.none,
      c.self.invariant.bytes_most,
      some,
      c.requires.fits,
      ap (λ (v : HeldUnits). v.rows) c.self.view_is,
    )

pub put_burst-requires-clause-units : goal.put_burst-requires-clause-units
put_burst-requires-clause-units c =
    let some = part_bytes c.args.from c.args.end c.args.list.now c.requires.datagrams (omega (arith, c.requires.from)) c.requires.end in
    omega (
      arith,
      ap (λ (v : UnitRoom). length v.ends) c.clear.ensures.none,
      ap (λ (v : UnitRoom). v.units_most) c.clear.ensures.none,
      c.self.invariant.units_most,
      some,
      c.requires.fits,
      ap (λ (v : HeldUnits). v.rows) c.self.view_is,
    )

pub returns-clause-made : goal.returns-clause-made
returns-clause-made c delta first =
    let ds : List (List ℕ) = part_of c.args.from c.args.end c.args.list.now in
    let bytes : List ℕ = c.put_burst.new.units.bytes in
    let ends : List ℕ = c.put_burst.new.units.ends in
    let rows : c.self.inside.rows ≡ c.args.self.now.rows = ap (λ (v : HeldUnits). v.rows) c.self.view_is in
    let columns : c.self.inside.columns ≡ c.args.self.now.columns = ap (λ (v : HeldUnits). v.columns) c.self.view_is in
    let made : units_of bytes ends ≡ units_by_packet c.args.self.now.rows c.args.self.now.columns c.args.unicast delta ds =
    c.put_burst.ensures.written
    ∙ ap (λ (v : UnitRoom). units_of v.bytes v.ends ++ units_by_packet c.self.inside.rows c.self.inside.columns c.args.unicast (λ (n : ℕ). slice_index c.args.deltas.now n) ds) c.clear.ensures.none
    ∙ ap (λ (v : HeldUnits). units_by_packet v.rows v.columns c.args.unicast (λ (n : ℕ). slice_index c.args.deltas.now n) ds) c.self.view_is
    ∙ by_packet c.args.self.now.rows c.args.self.now.columns ds (omega (arith, columns, c.self.invariant.columns_most)) c.args.unicast c.args.deltas.now delta first in
    record {
      units_are = made;
      whole = held_whole bytes ends c.put_burst.ensures.held.ends_are ∙ ap joined made;
      ends_are = held_ends_are bytes ends c.put_burst.ensures.held.ends_are c.put_burst.ensures.held.rising;
    }
