-- The CRC-32 is that of both pieces, and is put after the head.
use Rattle.std.proofs.Common.{◌≡◌, ℕ, ◌+◌, List, ◌++◌, length, take, drop, ap, ap₂, sym, ◌∙◌, append_assoc, subst, arith}
use Rattle.std.specs.Int.{w32, to_be_bytes}
use Rattle.std.proofs.lemmas.List.{take_at, drop_at}
use Rattle.wire_spec.specs.Bytes.{AreBytes}
use Rattle.wire_spec.specs.Crc.{crc32_remainder}
use Rattle.crc_law.proofs.Whole.{remainder-append}
use Rattle.byte_slices.proofs.Puts.{put_behind}
use Rattle.ule_unit.specs.Writable.{sndu_head}
use Rattle.ule_unit.proofs.sndu.write_around.Goals as goal

pub returns-clause-written : goal.returns-clause-written
returns-clause-written c =
    let into : List ℕ = c.args.into.now in
    let datagram : List ℕ = c.args.datagram.now in
    let start : ℕ = c.write_head-start.result in
    let head : List ℕ = sndu_head c.args.npa c.args.ether_type (length datagram) in
    let sum : List ℕ = to_be_bytes w32 (crc32_remainder 0xFFFF_FFFF (head ++ datagram)) in
    let size : length head ≡ start = sym c.write_head-start.ensures.size in
    let front : c.as_bytes.result.now ≡ head
    = c.as_bytes.ensures.same ∙ ap (take start) c.write_head-start.ensures.written ∙ take_at head (drop start into) start size in
    let both : crc32_remainder (crc32_remainder 0xFFFF_FFFF head) datagram ≡ crc32_remainder 0xFFFF_FFFF (head ++ datagram)
    = sym (remainder-append 0xFFFF_FFFF head datagram (omega arith) (subst AreBytes front c.as_bytes.ensures.bytes) (subst AreBytes c.as_bytes-2.ensures.same c.as_bytes-2.ensures.bytes)) in
    let told : c.to_be_bytes.result ≡ sum
    = c.to_be_bytes.ensures
    ∙ ap (to_be_bytes w32)
    (c.crc32_step-sum.ensures
    ∙ ap₂ (λ (r : ℕ) (l : List ℕ). crc32_remainder r l) (c.crc32-head.ensures ∙ ap (crc32_remainder 0xFFFF_FFFF) front) c.as_bytes-2.ensures.same
    ∙ both) in
    let four : length c.to_be_bytes.result ≡ 4 = ap length c.to_be_bytes.ensures in
    let all : c.put.new.into ≡ head ++ c.to_be_bytes.result ++ drop (start + 4) into
    = put_behind head c.to_be_bytes.result into c.write_head-start.new.into c.put.new.into start (start + 4) size (omega (arith, four)) c.write_head-start.ensures.written c.put.ensures.put in
    let apart : c.put.new.into ≡ head ++ (c.to_be_bytes.result ++ drop (start + 4) into) = all ∙ append_assoc head c.to_be_bytes.result (drop (start + 4) into) in
    append_assoc head datagram sum
    ∙ ap₂ (λ (h s : List ℕ). h ++ (datagram ++ s))
    (sym (ap (take start) apart ∙ take_at head (c.to_be_bytes.result ++ drop (start + 4) into) start size))
    (sym
    (ap (λ (l : List ℕ). take 4 (drop start l)) apart
    ∙ ap (take 4) (drop_at head (c.to_be_bytes.result ++ drop (start + 4) into) start size)
    ∙ take_at c.to_be_bytes.result (drop (start + 4) into) 4 four ∙ told))
