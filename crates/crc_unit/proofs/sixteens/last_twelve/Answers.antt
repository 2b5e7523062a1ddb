use Rattle.std.proofs.Common.{◌≡◌, ℕ, List, [], get_or, bit_xor, ap, ap₂, ◌∙◌}
use Rattle.crc_unit.specs.Entry.{crc32_entry}
use Rattle.crc_unit.specs.declared.table.TheConstants.{TABLES}
use Rattle.crc_unit.proofs.Entries.{after_8, after_16, after_24, after_32, after_40, after_48, after_56, after_64, after_72, after_80, after_88, after_96}
use Rattle.crc_unit.proofs.ByEntries.{twelve_added}
use Rattle.crc_unit.proofs.sixteens.last_twelve.Goals as goal

-- an entry at one of four bytes
looked_up : {word bytes : List ℕ} (table : List ℕ) → word ≡ bytes → (k : ℕ) → get_or table (get_or word k 0) 0 ≡ get_or table (get_or bytes k 0) 0
looked_up table same k = ap (λ (l : List ℕ). get_or table (get_or l k 0) 0) same

pub returns : goal.returns
returns c =
    let xs : List ℕ = c.args.sixteen.now in
    let e0 : c.entry_of.result ≡ crc32_entry 96 (get_or xs 4 0) = c.entry_of.ensures ∙ looked_up (get_or TABLES 11 []) c.four_of-second.ensures 0 ∙ after_96 (get_or xs 4 0) (c.fits-sixteen 4) in
    let e1 : c.entry_of-2.result ≡ crc32_entry 88 (get_or xs 5 0) = c.entry_of-2.ensures ∙ looked_up (get_or TABLES 10 []) c.four_of-second.ensures 1 ∙ after_88 (get_or xs 5 0) (c.fits-sixteen 5) in
    let e2 : c.entry_of-3.result ≡ crc32_entry 80 (get_or xs 6 0) = c.entry_of-3.ensures ∙ looked_up (get_or TABLES 9 []) c.four_of-second.ensures 2 ∙ after_80 (get_or xs 6 0) (c.fits-sixteen 6) in
    let e3 : c.entry_of-4.result ≡ crc32_entry 72 (get_or xs 7 0) = c.entry_of-4.ensures ∙ looked_up (get_or TABLES 8 []) c.four_of-second.ensures 3 ∙ after_72 (get_or xs 7 0) (c.fits-sixteen 7) in
    let e4 : c.entry_of-5.result ≡ crc32_entry 64 (get_or xs 8 0) = c.entry_of-5.ensures ∙ looked_up (get_or TABLES 7 []) c.four_of-third.ensures 0 ∙ after_64 (get_or xs 8 0) (c.fits-sixteen 8) in
    let e5 : c.entry_of-6.result ≡ crc32_entry 56 (get_or xs 9 0) = c.entry_of-6.ensures ∙ looked_up (get_or TABLES 6 []) c.four_of-third.ensures 1 ∙ after_56 (get_or xs 9 0) (c.fits-sixteen 9) in
    let e6 : c.entry_of-7.result ≡ crc32_entry 48 (get_or xs 10 0) = c.entry_of-7.ensures ∙ looked_up (get_or TABLES 5 []) c.four_of-third.ensures 2 ∙ after_48 (get_or xs 10 0) (c.fits-sixteen 10) in
    let e7 : c.entry_of-8.result ≡ crc32_entry 40 (get_or xs 11 0) = c.entry_of-8.ensures ∙ looked_up (get_or TABLES 4 []) c.four_of-third.ensures 3 ∙ after_40 (get_or xs 11 0) (c.fits-sixteen 11) in
    let e8 : c.entry_of-9.result ≡ crc32_entry 32 (get_or xs 12 0) = c.entry_of-9.ensures ∙ after_32 (get_or xs 12 0) (c.fits-sixteen 12) in
    let e9 : c.entry_of-10.result ≡ crc32_entry 24 (get_or xs 13 0) = c.entry_of-10.ensures ∙ after_24 (get_or xs 13 0) (c.fits-sixteen 13) in
    let e10 : c.entry_of-11.result ≡ crc32_entry 16 (get_or xs 14 0) = c.entry_of-11.ensures ∙ after_16 (get_or xs 14 0) (c.fits-sixteen 14) in
    let e11 : c.entry_of-12.result ≡ crc32_entry 8 (get_or xs 15 0) = c.entry_of-12.ensures ∙ after_8 (get_or xs 15 0) (c.fits-sixteen 15) in
    ap₂ (λ x y. bit_xor x y) (ap₂ (λ x y. bit_xor x y) (ap₂ (λ x y. bit_xor x y) (ap₂ (λ x y. bit_xor x y) (ap₂ (λ x y. bit_xor x y) (ap₂ (λ x y. bit_xor x y) (ap₂ (λ x y. bit_xor x y) (ap₂ (λ x y. bit_xor x y) (ap₂ (λ x y. bit_xor x y) (ap₂ (λ x y. bit_xor x y) (ap₂ (λ x y. bit_xor x y) e0 e1) e2) e3) e4) e5) e6) e7) e8) e9) e10) e11
    ∙ twelve_added xs c.told-sixteen
