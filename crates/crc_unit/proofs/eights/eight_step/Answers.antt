use Rattle.std.proofs.Common.{◌≡◌, ℕ, ◌<◌, ◌^◌, List, get_or, bit_xor, arith, ap₂, sym, subst, ◌∙◌}
use Rattle.std.specs.Int.Bits.{xor_lt}
use Rattle.std.proofs.lemmas.List.Elements.{All-from_get_or}
use Rattle.wire_spec.specs.Bytes.{AreBytes}
use Rattle.crc_unit.specs.Entry.{crc32_entry}
use Rattle.crc_unit.proofs.Entries.{after_8, after_16, after_24, after_32, after_40, after_48, after_56, after_64}
use Rattle.crc_unit.proofs.ByEntries.{eight_run}
use Rattle.crc_unit.proofs.eights.eight_step.Goals as goal

pub returns : goal.returns
returns c =
    let r : ℕ = c.args.register in
    let own : List ℕ = c.to_be_bytes-own.result in
    let eight : List ℕ = c.args.eight.now in
    let small : r < 2 ^ 32 = omega arith in
    let all : AreBytes eight = All-from_get_or (λ x. x < 2 ^ 8) eight 0 (λ i within. c.fits-eight i) in
    let own_0 : get_or own 0 0 < 2 ^ 8 = subst (λ l. get_or l 0 0 < 2 ^ 8) (sym c.to_be_bytes-own.ensures) (omega arith) in
    let own_1 : get_or own 1 0 < 2 ^ 8 = subst (λ l. get_or l 1 0 < 2 ^ 8) (sym c.to_be_bytes-own.ensures) (omega arith) in
    let own_2 : get_or own 2 0 < 2 ^ 8 = subst (λ l. get_or l 2 0 < 2 ^ 8) (sym c.to_be_bytes-own.ensures) (omega arith) in
    let own_3 : get_or own 3 0 < 2 ^ 8 = subst (λ l. get_or l 3 0 < 2 ^ 8) (sym c.to_be_bytes-own.ensures) (omega arith) in
    let e0 : c.entry_of.result ≡ crc32_entry 64 (bit_xor (get_or own 0 0) (get_or eight 0 0)) = c.entry_of.ensures ∙ after_64 (bit_xor (get_or own 0 0) (get_or eight 0 0)) (xor_lt 8 (get_or own 0 0) (get_or eight 0 0) own_0 (c.fits-eight 0)) in
    let e1 : c.entry_of-2.result ≡ crc32_entry 56 (bit_xor (get_or own 1 0) (get_or eight 1 0)) = c.entry_of-2.ensures ∙ after_56 (bit_xor (get_or own 1 0) (get_or eight 1 0)) (xor_lt 8 (get_or own 1 0) (get_or eight 1 0) own_1 (c.fits-eight 1)) in
    let e2 : c.entry_of-3.result ≡ crc32_entry 48 (bit_xor (get_or own 2 0) (get_or eight 2 0)) = c.entry_of-3.ensures ∙ after_48 (bit_xor (get_or own 2 0) (get_or eight 2 0)) (xor_lt 8 (get_or own 2 0) (get_or eight 2 0) own_2 (c.fits-eight 2)) in
    let e3 : c.entry_of-4.result ≡ crc32_entry 40 (bit_xor (get_or own 3 0) (get_or eight 3 0)) = c.entry_of-4.ensures ∙ after_40 (bit_xor (get_or own 3 0) (get_or eight 3 0)) (xor_lt 8 (get_or own 3 0) (get_or eight 3 0) own_3 (c.fits-eight 3)) in
    let e4 : c.entry_of-5.result ≡ crc32_entry 32 (get_or eight 4 0) = c.entry_of-5.ensures ∙ after_32 (get_or eight 4 0) (c.fits-eight 4) in
    let e5 : c.entry_of-6.result ≡ crc32_entry 24 (get_or eight 5 0) = c.entry_of-6.ensures ∙ after_24 (get_or eight 5 0) (c.fits-eight 5) in
    let e6 : c.entry_of-7.result ≡ crc32_entry 16 (get_or eight 6 0) = c.entry_of-7.ensures ∙ after_16 (get_or eight 6 0) (c.fits-eight 6) in
    let e7 : c.entry_of-8.result ≡ crc32_entry 8 (get_or eight 7 0) = c.entry_of-8.ensures ∙ after_8 (get_or eight 7 0) (c.fits-eight 7) in
    ap₂ (λ x y. bit_xor x y) (ap₂ (λ x y. bit_xor x y) (ap₂ (λ x y. bit_xor x y) (ap₂ (λ x y. bit_xor x y) (ap₂ (λ x y. bit_xor x y) (ap₂ (λ x y. bit_xor x y) (ap₂ (λ x y. bit_xor x y) e0 e1) e2) e3) e4) e5) e6) e7
    ∙ eight_run r own eight small c.to_be_bytes-own.ensures c.told-eight all
