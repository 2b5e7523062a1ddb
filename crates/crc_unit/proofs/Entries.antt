-- The tables have the entries that are meant.
use Rattle.std.proofs.Common.{ℕ, List, [], ◌≡◌, ◌<◌, ◌==◌, get_or, true, refl, sym}
use Rattle.std.proofs.lemmas.Bool.{agree_below, agree_below_at, eqb-true}
use Rattle.division_law.specs.Registers.{register_steps}
use Rattle.crc_unit.specs.Entry.{crc32_entry}
use Rattle.crc_unit.specs.declared.table.TheConstants.{TABLES}

-- 256 entries that agree with the shifts agree at each byte
entry_at : (table : List ℕ) (n : ℕ) → agree_below (λ i. true) (λ i. get_or table i 0 == crc32_entry n i) 256 ≡ true
    → (byte : ℕ) → byte < 256 → get_or table byte 0 ≡ crc32_entry n byte
entry_at table n all byte fits =
    eqb-true (get_or table byte 0) (crc32_entry n byte) (sym (agree_below_at (λ i. true) (λ i. get_or table i 0 == crc32_entry n i) 256 byte all fits))

-- the table of 8 shifts: its 256 entries are compared by computation
all_8 : agree_below (λ i. true) (λ i. get_or (get_or TABLES 0 []) i 0 == crc32_entry 8 i) 256 ≡ true
unfolding crc32_entry register_steps
all_8 = refl

pub after_8 : (byte : ℕ) → byte < 256 → get_or (get_or TABLES 0 []) byte 0 ≡ crc32_entry 8 byte
after_8 = entry_at (get_or TABLES 0 []) 8 all_8

-- the table of 16 shifts: its 256 entries are compared by computation
all_16 : agree_below (λ i. true) (λ i. get_or (get_or TABLES 1 []) i 0 == crc32_entry 16 i) 256 ≡ true
unfolding crc32_entry register_steps
all_16 = refl

pub after_16 : (byte : ℕ) → byte < 256 → get_or (get_or TABLES 1 []) byte 0 ≡ crc32_entry 16 byte
after_16 = entry_at (get_or TABLES 1 []) 16 all_16

-- the table of 24 shifts: its 256 entries are compared by computation
all_24 : agree_below (λ i. true) (λ i. get_or (get_or TABLES 2 []) i 0 == crc32_entry 24 i) 256 ≡ true
unfolding crc32_entry register_steps
all_24 = refl

pub after_24 : (byte : ℕ) → byte < 256 → get_or (get_or TABLES 2 []) byte 0 ≡ crc32_entry 24 byte
after_24 = entry_at (get_or TABLES 2 []) 24 all_24

-- the table of 32 shifts: its 256 entries are compared by computation
all_32 : agree_below (λ i. true) (λ i. get_or (get_or TABLES 3 []) i 0 == crc32_entry 32 i) 256 ≡ true
unfolding crc32_entry register_steps
all_32 = refl

pub after_32 : (byte : ℕ) → byte < 256 → get_or (get_or TABLES 3 []) byte 0 ≡ crc32_entry 32 byte
after_32 = entry_at (get_or TABLES 3 []) 32 all_32

-- the table of 40 shifts: its 256 entries are compared by computation
all_40 : agree_below (λ i. true) (λ i. get_or (get_or TABLES 4 []) i 0 == crc32_entry 40 i) 256 ≡ true
unfolding crc32_entry register_steps
all_40 = refl

pub after_40 : (byte : ℕ) → byte < 256 → get_or (get_or TABLES 4 []) byte 0 ≡ crc32_entry 40 byte
after_40 = entry_at (get_or TABLES 4 []) 40 all_40

-- the table of 48 shifts: its 256 entries are compared by computation
all_48 : agree_below (λ i. true) (λ i. get_or (get_or TABLES 5 []) i 0 == crc32_entry 48 i) 256 ≡ true
unfolding crc32_entry register_steps
all_48 = refl

pub after_48 : (byte : ℕ) → byte < 256 → get_or (get_or TABLES 5 []) byte 0 ≡ crc32_entry 48 byte
after_48 = entry_at (get_or TABLES 5 []) 48 all_48

-- the table of 56 shifts: its 256 entries are compared by computation
all_56 : agree_below (λ i. true) (λ i. get_or (get_or TABLES 6 []) i 0 == crc32_entry 56 i) 256 ≡ true
unfolding crc32_entry register_steps
all_56 = refl

pub after_56 : (byte : ℕ) → byte < 256 → get_or (get_or TABLES 6 []) byte 0 ≡ crc32_entry 56 byte
after_56 = entry_at (get_or TABLES 6 []) 56 all_56

-- the table of 64 shifts: its 256 entries are compared by computation
all_64 : agree_below (λ i. true) (λ i. get_or (get_or TABLES 7 []) i 0 == crc32_entry 64 i) 256 ≡ true
unfolding crc32_entry register_steps
all_64 = refl

pub after_64 : (byte : ℕ) → byte < 256 → get_or (get_or TABLES 7 []) byte 0 ≡ crc32_entry 64 byte
after_64 = entry_at (get_or TABLES 7 []) 64 all_64

-- the table of 72 shifts: its 256 entries are compared by computation
all_72 : agree_below (λ i. true) (λ i. get_or (get_or TABLES 8 []) i 0 == crc32_entry 72 i) 256 ≡ true
unfolding crc32_entry register_steps
all_72 = refl

pub after_72 : (byte : ℕ) → byte < 256 → get_or (get_or TABLES 8 []) byte 0 ≡ crc32_entry 72 byte
after_72 = entry_at (get_or TABLES 8 []) 72 all_72

-- the table of 80 shifts: its 256 entries are compared by computation
all_80 : agree_below (λ i. true) (λ i. get_or (get_or TABLES 9 []) i 0 == crc32_entry 80 i) 256 ≡ true
unfolding crc32_entry register_steps
all_80 = refl

pub after_80 : (byte : ℕ) → byte < 256 → get_or (get_or TABLES 9 []) byte 0 ≡ crc32_entry 80 byte
after_80 = entry_at (get_or TABLES 9 []) 80 all_80

-- the table of 88 shifts: its 256 entries are compared by computation
all_88 : agree_below (λ i. true) (λ i. get_or (get_or TABLES 10 []) i 0 == crc32_entry 88 i) 256 ≡ true
unfolding crc32_entry register_steps
all_88 = refl

pub after_88 : (byte : ℕ) → byte < 256 → get_or (get_or TABLES 10 []) byte 0 ≡ crc32_entry 88 byte
after_88 = entry_at (get_or TABLES 10 []) 88 all_88

-- the table of 96 shifts: its 256 entries are compared by computation
all_96 : agree_below (λ i. true) (λ i. get_or (get_or TABLES 11 []) i 0 == crc32_entry 96 i) 256 ≡ true
unfolding crc32_entry register_steps
all_96 = refl

pub after_96 : (byte : ℕ) → byte < 256 → get_or (get_or TABLES 11 []) byte 0 ≡ crc32_entry 96 byte
after_96 = entry_at (get_or TABLES 11 []) 96 all_96

-- the table of 104 shifts: its 256 entries are compared by computation
all_104 : agree_below (λ i. true) (λ i. get_or (get_or TABLES 12 []) i 0 == crc32_entry 104 i) 256 ≡ true
unfolding crc32_entry register_steps
all_104 = refl

pub after_104 : (byte : ℕ) → byte < 256 → get_or (get_or TABLES 12 []) byte 0 ≡ crc32_entry 104 byte
after_104 = entry_at (get_or TABLES 12 []) 104 all_104

-- the table of 112 shifts: its 256 entries are compared by computation
all_112 : agree_below (λ i. true) (λ i. get_or (get_or TABLES 13 []) i 0 == crc32_entry 112 i) 256 ≡ true
unfolding crc32_entry register_steps
all_112 = refl

pub after_112 : (byte : ℕ) → byte < 256 → get_or (get_or TABLES 13 []) byte 0 ≡ crc32_entry 112 byte
after_112 = entry_at (get_or TABLES 13 []) 112 all_112

-- the table of 120 shifts: its 256 entries are compared by computation
all_120 : agree_below (λ i. true) (λ i. get_or (get_or TABLES 14 []) i 0 == crc32_entry 120 i) 256 ≡ true
unfolding crc32_entry register_steps
all_120 = refl

pub after_120 : (byte : ℕ) → byte < 256 → get_or (get_or TABLES 14 []) byte 0 ≡ crc32_entry 120 byte
after_120 = entry_at (get_or TABLES 14 []) 120 all_120

-- the table of 128 shifts: its 256 entries are compared by computation
all_128 : agree_below (λ i. true) (λ i. get_or (get_or TABLES 15 []) i 0 == crc32_entry 128 i) 256 ≡ true
unfolding crc32_entry register_steps
all_128 = refl

pub after_128 : (byte : ℕ) → byte < 256 → get_or (get_or TABLES 15 []) byte 0 ≡ crc32_entry 128 byte
after_128 = entry_at (get_or TABLES 15 []) 128 all_128
