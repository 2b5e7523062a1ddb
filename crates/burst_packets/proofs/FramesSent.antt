-- The packets of frames as they are seen: before the first of them.
use Rattle.std.proofs.Common.{◌≡◌, ℕ, zero, suc, ◌+◌, ◌-◌, ◌*◌, ◌%◌, ◌<◌, ◌≤◌, ◌^◌, Bool, true, false, cond, eqb, List, [], ◌∷◌, ◌++◌, length, drop, get_or, replicate, sym, ap, subst, ◌∙◌, arith}
use Rattle.std.proofs.lemmas.List.{length-append, length-replicate}
use Rattle.std.proofs.lemmas.List.Elements.{All-head, All-tail}
use Rattle.wire_spec.specs.Lists.{joined}
use Rattle.ts_spec.specs.Packet.{PacketFields}
use Rattle.section_spec.specs.Section.{section_form}
use Rattle.section_spec.specs.Mpe.{IsRows}
use Rattle.unit_stream.specs.Packing.{begin_piece, byte_count, filled, may_begin, middle_piece, packetized, pieces}
use Rattle.unit_stream.specs.Packers.{AreEnds, IsOnWay, PackerState, packets_left, units_of}
use Rattle.unit_stream.proofs.Written.{length-numbered}
use Rattle.fec_sent_law.specs.Frames.{AreSendable, IsSendable}
use Rattle.stream_law.proofs.Framed.{AreShort, framed_size}
use Rattle.stream_law.proofs.KindRanges.{rows_within}
use Rattle.fec_units.specs.Ends.{AreFrameEnds, AreUnitEnds}
use Rattle.burst_packets.specs.Frames.{AreOnWay, BeginsFrames, IsReading, bytes_left, frames_seen, packets_of_bytes, units_in}
use Rattle.burst_packets.specs.declared.bursts.Shape.{Shape}
use Rattle.burst_packets.specs.declared.frame_bytes.FrameBytes.{FrameBytes}

-- There are no more packets than bytes.

pieces_most : (most start : ℕ) (packing : Bool) (rest : List ℕ) (units : List (List ℕ)) → length (pieces most start packing rest units) ≤ most
pieces_most zero start packing rest units = omega arith
pieces_most (suc most) start packing rest units =
    by_begin (may_begin start packing rest units) (eqb (length rest) 0)
    (pieces_most most start packing (filled start packing (183 - length rest) units).rest (filled start packing (183 - length rest) units).units)
    (pieces_most most start packing (drop 184 rest) units)
  where
    by_begin : (begins none : Bool)
        → length (pieces most start packing (filled start packing (183 - length rest) units).rest (filled start packing (183 - length rest) units).units) ≤ most
        → length (pieces most start packing (drop 184 rest) units) ≤ most
        → length (cond begins (begin_piece rest (filled start packing (183 - length rest) units) (pieces most start packing))
        (cond none [] (middle_piece rest ∷ pieces most start packing (drop 184 rest) units))) ≤ suc most
    by_begin true none le le2 = omega (arith, le)
    by_begin false true le le2 = omega arith
    by_begin false false le le2 = omega (arith, le2)

short_all : (ds : List (List ℕ)) → AreSendable ds → AreShort ds
short_all [] are = tt
short_all (d ∷ ds) are = ((All-head IsSendable d ds are).size, short_all ds (All-tail IsSendable d ds are))

bytes_most : (ds : List (List ℕ)) → AreShort ds → byte_count ds ≤ 4080 * length ds
bytes_most [] are = omega arith
bytes_most (d ∷ ds) are = omega (arith, are.0, bytes_most ds are.1)

few_packets : (shape : Shape) (first pid counter : ℕ) (datagrams : List (List ℕ)) → IsRows shape.rows → shape.columns ≤ 64 → AreSendable datagrams → length datagrams < 2 ^ 32
    → length (packetized section_form true pid counter (units_in shape first datagrams)) ≤ 2 ^ 48
few_packets shape first pid counter datagrams is_rows most sendable few =
    omega (
      arith,
      length-numbered pid counter (pieces (byte_count (units_in shape first datagrams)) 1 true [] (units_in shape first datagrams)),
      pieces_most (byte_count (units_in shape first datagrams)) 1 true [] (units_in shape first datagrams),
      framed_size shape.rows shape.columns shape.unicast (rows_within shape.rows is_rows).0 (rows_within shape.rows is_rows).1 most first datagrams (short_all datagrams sendable),
      bytes_most datagrams (short_all datagrams sendable),
      few,
    )

-- a packer at the start has no bytes out
at_first : (packer : PackerState) → IsOnWay packer [] → packer.at ≡ 0
at_first packer way = by_begun packer.begun packer.at way.begun way.at
  where
    by_begun : (begun at : ℕ) → begun ≤ 0 → at ≤ get_or (0 ∷ []) begun 0 → at ≡ 0
    by_begun zero at le here = omega (arith, here)
    by_begun (suc begun) at le here = absurd (omega (arith, le))

-- before the first packet
module _ (bytes : FrameBytes) (shape : Shape) (datagrams : List (List ℕ)) (ends : List ℕ) (first pid counter : ℕ) (packer : PackerState)
    (reading : IsReading datagrams bytes) (left_is : bytes_left datagrams bytes ≡ joined (units_in shape first datagrams)) (shape_is : bytes.shape ≡ shape)
    (are : AreFrameEnds shape.rows shape.columns datagrams ends) (few : length datagrams < 2 ^ 32)
    (begins : (all es : List ℕ) → packets_left section_form packer all es ≡ packetized section_form true pid counter (units_of all es))
    (way : (es : List ℕ) → IsOnWay packer es) (kept : (packer.pid ≡ pid) × (packer.packing ≡ true) × (packer.counter ≡ counter)) where
  there : AreUnitEnds (units_in shape first datagrams) ends
  there = are shape.unicast first

  pub way_first : AreOnWay bytes datagrams ends packer
  way_first =
      let size : length (joined (units_in shape first datagrams)) ≡ packer.at + length (bytes_left datagrams bytes)
      = omega (arith, at_first packer (way []), ap (λ (l : List ℕ). length l) left_is) in
      record { reading = reading; ends_are = subst (λ (n : ℕ). AreEnds 1 n ends) size there.ends_are; way = way ends }

  all_is : replicate packer.at 0 ++ bytes_left datagrams bytes ≡ joined (units_in shape first datagrams)
  all_is = ap (λ (n : ℕ). replicate n 0 ++ bytes_left datagrams bytes) (at_first packer (way [])) ∙ left_is

  packets_first : packets_of_bytes packer (bytes_left datagrams bytes) ends ≡ packetized section_form true pid counter (units_in shape first datagrams)
  packets_first =
      begins (replicate packer.at 0 ++ bytes_left datagrams bytes) ends
      ∙ ap (λ (units : List (List ℕ)). packetized section_form true pid counter units) (ap (λ (all : List ℕ). units_of all ends) all_is ∙ there.units_are)

  pub begins_first : BeginsFrames shape first pid counter datagrams (frames_seen bytes datagrams ends packer)
  begins_first = record {
    rows_are = ap (λ (s : Shape). s.rows) shape_is;
    columns_are = ap (λ (s : Shape). s.columns) shape_is;
    packets_are = packets_first;
    behind_is = ap (λ (n : ℕ). (n + length (packets_of_bytes packer (bytes_left datagrams bytes) ends)) % 16) kept.2;
    most = subst (λ (packets : List PacketFields). length packets ≤ 2 ^ 48) (sym packets_first)
        (few_packets shape first pid counter datagrams (subst (λ (s : Shape). IsRows s.rows) shape_is reading.rows_are)
        (subst (λ (s : Shape). s.columns ≤ 64) shape_is reading.columns_most) reading.sendable few);
  }

-- the places where units end are those of bytes that are out or left
pub reach : (bytes : FrameBytes) (datagrams : List (List ℕ)) (ends : List ℕ) (packer : PackerState) → AreOnWay bytes datagrams ends packer
    → get_or (0 ∷ ends) (length ends) 0 ≤ length (replicate packer.at 0 ++ bytes_left datagrams bytes)
reach bytes datagrams ends packer are =
    omega (arith, are.ends_are.within, length-append (replicate packer.at 0) (bytes_left datagrams bytes), length-replicate {A = ℕ} packer.at 0)
