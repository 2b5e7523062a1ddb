-- The CRC-32 is that of both pieces, and is put after the head.
use Rattle.std.proofs.Common.{◌≡◌, ℕ, ◌+◌, List, ◌++◌, length, take, drop, ap, ap₂, sym, ◌∙◌, append_assoc, subst, arith}
use Rattle.std.specs.Int.{w32, to_be_bytes}
use Rattle.std.proofs.lemmas.List.{take_at, drop_at}
use Rattle.wire_spec.specs.Bytes.{AreBytes}
use Rattle.wire_spec.specs.Crc.{crc32_remainder}
use Rattle.crc_law.proofs.Whole.{remainder-append}
use Rattle.byte_slices.proofs.Puts.{put_behind}
use Rattle.section_spec.specs.Section.{section_front}
use Rattle.section_codec.specs.Heads.{section_head}
use Rattle.section_codec.proofs.Heads.{head_and_rest, length-section_head}
use Rattle.section_codec.proofs.section.write_around.Goals as goal

pub returns-clause-written : goal.returns-clause-written
returns-clause-written c =
    let into : List ℕ = c.args.into.now in
    let rest : List ℕ = c.args.rest.now in
    let start : ℕ = c.write_head-start.result in
    let head : List ℕ = section_head c.args.table_id c.args.top c.args.head.now (length rest) in
    let all : List ℕ = section_front c.args.table_id c.args.top (c.args.head.now ++ rest) in
    let sum : List ℕ = to_be_bytes w32 (crc32_remainder 0xFFFF_FFFF all) in
    let together : head ++ rest ≡ all = head_and_rest c.args.table_id c.args.top c.args.head.now rest in
    let size : length head ≡ start = length-section_head c.args.table_id c.args.top c.args.head.now (length rest) ∙ sym c.write_head-start.ensures.size in
    let front : c.as_bytes.result.now ≡ head
    = c.as_bytes.ensures.same ∙ ap (take start) c.write_head-start.ensures.written ∙ take_at head (drop start into) start size in
    let both : crc32_remainder (crc32_remainder 0xFFFF_FFFF head) rest ≡ crc32_remainder 0xFFFF_FFFF all
    = sym (remainder-append 0xFFFF_FFFF head rest (omega arith) (subst AreBytes front c.as_bytes.ensures.bytes) (subst AreBytes c.as_bytes-2.ensures.same c.as_bytes-2.ensures.bytes))
    ∙ ap (crc32_remainder 0xFFFF_FFFF) together in
    let told : c.to_be_bytes.result ≡ sum
    = c.to_be_bytes.ensures
    ∙ ap (to_be_bytes w32)
    (c.crc32_step-sum.ensures
    ∙ ap₂ (λ (r : ℕ) (l : List ℕ). crc32_remainder r l) (c.crc32-before.ensures ∙ ap (crc32_remainder 0xFFFF_FFFF) front) c.as_bytes-2.ensures.same
    ∙ both) in
    let four : length c.to_be_bytes.result ≡ 4 = ap length c.to_be_bytes.ensures in
    let apart : c.put.new.into ≡ head ++ (c.to_be_bytes.result ++ drop (start + 4) into)
    = put_behind head c.to_be_bytes.result into c.write_head-start.new.into c.put.new.into start (start + 4) size (omega (arith, four)) c.write_head-start.ensures.written c.put.ensures.put
    ∙ append_assoc head c.to_be_bytes.result (drop (start + 4) into) in
    ap (λ (l : List ℕ). l ++ sum) (sym together) ∙ append_assoc head rest sum
    ∙ ap₂ (λ (h s : List ℕ). h ++ (rest ++ s))
    (sym (ap (take start) apart ∙ take_at head (c.to_be_bytes.result ++ drop (start + 4) into) start size))
    (sym
    (ap (λ (l : List ℕ). take 4 (drop start l)) apart
    ∙ ap (take 4) (drop_at head (c.to_be_bytes.result ++ drop (start + 4) into) start size)
    ∙ take_at c.to_be_bytes.result (drop (start + 4) into) 4 four ∙ told))
