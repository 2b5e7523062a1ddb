-- Small Ethernet frames and units, to try the definitions on.
use Rattle.std.specs.Prelude.{ℕ, List, ◌∷◌, ◌++◌, replicate}
use Rattle.addr_rules.specs.declared.filter.Label.TheVariants.{Broadcast}
use Rattle.gse_spec.specs.Reassembly.{Pdu}

-- 60 bytes: two addresses, Type 0x88B5 (for local experiments), zeros
abbrev pub small_frame : List ℕ
small_frame = replicate 6 0xFF ++ 2 ∷ 0 ∷ 0 ∷ 0 ∷ 0 ∷ 1 ∷ 0x88 ∷ 0xB5 ∷ replicate 46 0

-- 13 bytes, one fewer than an Ethernet header
abbrev pub short_frame : List ℕ
short_frame = replicate 13 1

-- optional header 0x0201 before Type 1: two bytes, and the next Type
abbrev pub headed_bytes : List ℕ
headed_bytes = 7 ∷ 7 ∷ 0 ∷ 1 ∷ small_frame

abbrev pub headed_pdu : Pdu
headed_pdu = record { protocol = 0x0201; label = Broadcast; bytes = headed_bytes }
