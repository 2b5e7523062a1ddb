use Rattle.std.proofs.Common.{ℕ, ◌+◌, ◌*◌, length, take, drop, ◌++◌, List, Some, ap, sym, ◌∙◌, arith, refl}
use Rattle.gse_reassembly.specs.Slots.{SlotsState}
use Rattle.gse_reassembly.proofs.Parts.{refilled}
use Rattle.gse_reassembly.proofs.Steps.{held_is, held_fits}
use Rattle.gse_reassembly.proofs.Ends.{closed_now, total_now, closed_written, crc_now, whole_now, told_whole}
use Rattle.gse_reassembly.proofs.slots.Slots.end.Goals as goal

pub returns-then-from-fill : goal.returns-then-from-fill
returns-then-from-fill g c =
    let is = held_is c.self.inside.slots.items c.from-at.result c.index.result.now (Some c.in-Some.open) (omega arith) c.index.ensures c.in-Some.is in (
      (
        refl,
        λ _. tt,
        (
          ap (λ (s : SlotsState). s.frame_number) c.self.view_is,
          closed_now c.args.self.now c.self.inside.slots.items c.self.inside.buffer.items c.args.pdu.now c.args.id c.from-at.result c.self.inside.frame_number c.self.view_is c.from-at.ensures
              (omega arith) (omega arith) c.self.invariant.2 (omega arith) c.args.crc,
        ),
      ),
      record {
        told =
            total_now c.args.self.now c.self.inside.slots.items c.self.inside.buffer.items c.args.pdu.now c.args.id c.from-at.result c.self.inside.frame_number c.self.view_is c.from-at.ensures
            (omega arith) (omega arith) c.self.invariant.2 (omega arith) c.args.crc c.in-Some.open is (omega arith) (λ same. omega (arith, same));
        rests = tt;
      },
    )

pub returns-then-sum-crc : goal.returns-then-sum-crc
returns-then-sum-crc g c =
    let is = held_is c.self.inside.slots.items c.from-at.result c.index.result.now (Some c.in-Some.open) (omega arith) c.index.ensures c.in-Some.is in
    let fits = held_fits c.self.inside.slots.items c.from-at.result c.in-Some.open c.self.invariant.2 is in
    let new : List ℕ = take c.self.inside.buffer.len (c.put.new.into ++ drop (length c.put.new.into) c.self.inside.buffer.items) in
    let new_is =
    refilled c.self.inside.buffer.items c.deref_mut.result.now c.put.new.into c.args.pdu.now (drop (length c.put.new.into) c.self.inside.buffer.items) c.self.inside.buffer.len
    (c.from-at.result * 65540 + c.in-Some.open.fill) (omega arith) (omega (arith, fits.0, fits.1)) c.put.ensures.put c.deref_mut.ensures.value in
    let bytes_is = c.piece_at.ensures.part ∙ ap (λ (t : List ℕ). take (c.in-Some.open.fill + length c.args.pdu.now) (drop (c.from-at.result * 65540) t)) c.deref.ensures.value in (
      (
        refl,
        λ _. tt,
        (
          ap (λ (s : SlotsState). s.frame_number) c.self.view_is,
          closed_written c.args.self.now c.self.inside.slots.items c.self.inside.buffer.items c.args.pdu.now c.args.id c.from-at.result c.self.inside.frame_number c.self.view_is c.from-at.ensures
              (omega arith) (omega arith) c.self.invariant.2 (omega arith) c.args.crc c.in-Some.open is new c.piece_at.result.now new_is bytes_is (omega arith) (omega arith),
        ),
      ),
      record {
        told =
            crc_now c.args.self.now c.self.inside.slots.items c.self.inside.buffer.items c.args.pdu.now c.args.id c.from-at.result c.self.inside.frame_number c.self.view_is c.from-at.ensures
            (omega arith) (omega arith) c.self.invariant.2 (omega arith) c.args.crc c.in-Some.open is new c.piece_at.result.now new_is bytes_is (omega arith) (omega arith)
            c.check_sum-sum.result c.check_sum-sum.ensures.sum c.if-sum-crc.true;
        rests = tt;
      },
    )

pub returns : goal.returns
returns g c =
    let is = held_is c.self.inside.slots.items c.from-at.result c.index.result.now (Some c.in-Some.open) (omega arith) c.index.ensures c.in-Some.is in
    let fits = held_fits c.self.inside.slots.items c.from-at.result c.in-Some.open c.self.invariant.2 is in
    let new : List ℕ = take c.self.inside.buffer.len (c.put.new.into ++ drop (length c.put.new.into) c.self.inside.buffer.items) in
    let new_is =
    refilled c.self.inside.buffer.items c.deref_mut.result.now c.put.new.into c.args.pdu.now (drop (length c.put.new.into) c.self.inside.buffer.items) c.self.inside.buffer.len
    (c.from-at.result * 65540 + c.in-Some.open.fill) (omega arith) (omega (arith, fits.0, fits.1)) c.put.ensures.put c.deref_mut.ensures.value in
    let bytes_is = c.piece_at.ensures.part ∙ ap (λ (t : List ℕ). take (c.in-Some.open.fill + length c.args.pdu.now) (drop (c.from-at.result * 65540) t)) c.deref.ensures.value in (
      (
        refl,
        λ _. tt,
        (
          ap (λ (s : SlotsState). s.frame_number) c.self.view_is,
          closed_written c.args.self.now c.self.inside.slots.items c.self.inside.buffer.items c.args.pdu.now c.args.id c.from-at.result c.self.inside.frame_number c.self.view_is c.from-at.ensures
              (omega arith) (omega arith) c.self.invariant.2 (omega arith) c.args.crc c.in-Some.open is new c.piece_at.result.now new_is bytes_is (omega arith) (omega arith),
        ),
      ),
      record {
        told =
            told_whole c.in-Some.open c.piece_at.result.now _ c.piece_at-2.result (c.piece_at-2.ensures.part ∙ ap (λ (t : List ℕ). take (c.in-Some.open.fill + length c.args.pdu.now) (drop (c.from-at.result * 65540) t)) c.deref-2.ensures.value ∙ sym bytes_is)
            (whole_now c.args.self.now c.self.inside.slots.items c.self.inside.buffer.items c.args.pdu.now c.args.id c.from-at.result c.self.inside.frame_number c.self.view_is c.from-at.ensures
            (omega arith) (omega arith) c.self.invariant.2 (omega arith) c.args.crc c.in-Some.open is new c.piece_at.result.now new_is bytes_is (omega arith) (omega arith)
            c.check_sum-sum.result c.check_sum-sum.ensures.sum c.if-sum-crc.false);
        rests = tt;
      },
    )
