use Rattle.std.proofs.Common.{◌≡◌, ℕ, ◌<◌, ◌^◌, List, [], get_or, bit_xor, arith, ap, ap₂, sym, subst, ◌∙◌}
use Rattle.std.specs.Int.Bits.{xor_lt}
use Rattle.std.proofs.lemmas.List.Elements.{All-from_get_or}
use Rattle.wire_spec.specs.Bytes.{AreBytes}
use Rattle.crc_unit.specs.Entry.{crc32_entry}
use Rattle.crc_unit.specs.declared.table.TheConstants.{TABLES}
use Rattle.crc_unit.proofs.Entries.{after_104, after_112, after_120, after_128}
use Rattle.crc_unit.proofs.ByEntries.{sixteen_run}
use Rattle.crc_unit.proofs.sixteens.sixteen_step.Goals as goal

pub returns : goal.returns
returns c =
    let r : ℕ = c.args.register in
    let own : List ℕ = c.to_be_bytes-own.result in
    let xs : List ℕ = c.args.sixteen.now in
    let small : r < 2 ^ 32 = omega arith in
    let all : AreBytes xs = All-from_get_or (λ x. x < 2 ^ 8) xs 0 (λ i within. c.fits-sixteen i) in
    let own_0 : get_or own 0 0 < 2 ^ 8 = subst (λ l. get_or l 0 0 < 2 ^ 8) (sym c.to_be_bytes-own.ensures) (omega arith) in
    let own_1 : get_or own 1 0 < 2 ^ 8 = subst (λ l. get_or l 1 0 < 2 ^ 8) (sym c.to_be_bytes-own.ensures) (omega arith) in
    let own_2 : get_or own 2 0 < 2 ^ 8 = subst (λ l. get_or l 2 0 < 2 ^ 8) (sym c.to_be_bytes-own.ensures) (omega arith) in
    let own_3 : get_or own 3 0 < 2 ^ 8 = subst (λ l. get_or l 3 0 < 2 ^ 8) (sym c.to_be_bytes-own.ensures) (omega arith) in
    let e0 : c.entry_of.result ≡ crc32_entry 128 (bit_xor (get_or own 0 0) (get_or xs 0 0)) = c.entry_of.ensures ∙ ap (λ (l : List ℕ). get_or (get_or TABLES 15 []) (bit_xor (get_or own 0 0) (get_or l 0 0)) 0) c.four_of-first.ensures ∙ after_128 (bit_xor (get_or own 0 0) (get_or xs 0 0)) (xor_lt 8 (get_or own 0 0) (get_or xs 0 0) own_0 (c.fits-sixteen 0)) in
    let e1 : c.entry_of-2.result ≡ crc32_entry 120 (bit_xor (get_or own 1 0) (get_or xs 1 0)) = c.entry_of-2.ensures ∙ ap (λ (l : List ℕ). get_or (get_or TABLES 14 []) (bit_xor (get_or own 1 0) (get_or l 1 0)) 0) c.four_of-first.ensures ∙ after_120 (bit_xor (get_or own 1 0) (get_or xs 1 0)) (xor_lt 8 (get_or own 1 0) (get_or xs 1 0) own_1 (c.fits-sixteen 1)) in
    let e2 : c.entry_of-3.result ≡ crc32_entry 112 (bit_xor (get_or own 2 0) (get_or xs 2 0)) = c.entry_of-3.ensures ∙ ap (λ (l : List ℕ). get_or (get_or TABLES 13 []) (bit_xor (get_or own 2 0) (get_or l 2 0)) 0) c.four_of-first.ensures ∙ after_112 (bit_xor (get_or own 2 0) (get_or xs 2 0)) (xor_lt 8 (get_or own 2 0) (get_or xs 2 0) own_2 (c.fits-sixteen 2)) in
    let e3 : c.entry_of-4.result ≡ crc32_entry 104 (bit_xor (get_or own 3 0) (get_or xs 3 0)) = c.entry_of-4.ensures ∙ ap (λ (l : List ℕ). get_or (get_or TABLES 12 []) (bit_xor (get_or own 3 0) (get_or l 3 0)) 0) c.four_of-first.ensures ∙ after_104 (bit_xor (get_or own 3 0) (get_or xs 3 0)) (xor_lt 8 (get_or own 3 0) (get_or xs 3 0) own_3 (c.fits-sixteen 3)) in
    ap₂ (λ x y. bit_xor x y) (ap₂ (λ x y. bit_xor x y) c.last_twelve-behind.ensures (ap₂ (λ x y. bit_xor x y) e0 e1)) (ap₂ (λ x y. bit_xor x y) e2 e3)
    ∙ sixteen_run r own xs small c.to_be_bytes-own.ensures c.told-sixteen all
