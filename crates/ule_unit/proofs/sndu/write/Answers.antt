-- The CRC-32 of the front is put after it.
use Rattle.std.proofs.Common.{◌≡◌, ℕ, ◌+◌, List, ◌++◌, length, take, drop, ap, sym, ◌∙◌, arith}
use Rattle.std.specs.Int.{w32, to_be_bytes}
use Rattle.std.proofs.lemmas.List.{take_at}
use Rattle.wire_spec.specs.Crc.{crc32_remainder}
use Rattle.ts_spec.specs.Sndu.{sndu_front}
use Rattle.byte_slices.proofs.Puts.{put_behind}
use Rattle.ule_unit.proofs.sndu.write.Goals as goal

pub returns-clause-written : goal.returns-clause-written
returns-clause-written c =
    let into : List ℕ = c.args.into.now in
    let begun : List ℕ = c.write_front-end.new.into in
    let end : ℕ = c.write_front-end.result in
    let front : List ℕ = sndu_front c.args.npa c.args.ether_type c.args.datagram.now in
    let size : length front ≡ end = sym c.write_front-end.ensures.size in
    let sum : c.crc32-sum.result ≡ crc32_remainder 0xFFFF_FFFF front =
    c.crc32-sum.ensures
    ∙ ap (λ (l : List ℕ). crc32_remainder 0xFFFF_FFFF (take end l)) c.write_front-end.ensures.written
    ∙ ap (crc32_remainder 0xFFFF_FFFF) (take_at front (drop end into) end size) in
    let four : length c.to_be_bytes.result ≡ 4 = ap length c.to_be_bytes.ensures in
    put_behind front c.to_be_bytes.result into begun c.put.new.into end (end + 4) size (omega arith) c.write_front-end.ensures.written c.put.ensures.put
    ∙ ap (λ (l : List ℕ). front ++ l ++ drop (end + 4) into) (c.to_be_bytes.ensures ∙ ap (to_be_bytes w32) sum)
