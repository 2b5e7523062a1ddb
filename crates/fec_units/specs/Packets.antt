-- Where the sections of a burst begin, by the sizes of those before. Sections lie close to one another: one begins in the packet in which
-- the one before ends, where that packet has room for pointer_field and one more byte.
use Rattle.std.specs.Prelude.{ℕ, ◌+◌, ◌-◌, ◌/◌, ◌%◌, List, [], ◌∷◌, length, map, replicate, ◌==◌, nat_lt, if◌then◌else◌}
use Rattle.fec_units.specs.declared.packets.NextSection.{NextSection}

abbrev pub first_section : NextSection
first_section = record { packet = 0; room = 183 }

-- after the rest of a section, which begins with this packet: a packet in which none begins has 184 bytes of it
abbrev pub after_rest : ℕ → ℕ → NextSection
after_rest packet rest =
    if rest % 184 == 183
    then record { packet = packet + rest / 184 + 1; room = 183 }
    else record { packet = packet + rest / 184; room = 183 - rest % 184 }

-- after a section of this size
abbrev pub after_section : NextSection → ℕ → NextSection
after_section next size =
    if nat_lt size next.room
    then record { packet = next.packet; room = next.room - size }
    else after_rest (next.packet + 1) (size - next.room)

-- after sections of these sizes
abbrev pub after_sections : NextSection → List ℕ → NextSection
after_sections next [] = next
after_sections next (size ∷ sizes) = after_sections (after_section next size) sizes

-- the packets of the sections before
abbrev pub packets_before : NextSection → ℕ
packets_before next = if next.room == 183 then next.packet else next.packet + 1

-- the sizes of the sections of datagrams, and of so many columns of these rows
abbrev pub data_sizes : List (List ℕ) → List ℕ
data_sizes datagrams = map (λ (datagram : List ℕ). length datagram + 16) datagrams

abbrev pub column_sizes : ℕ → ℕ → List ℕ
column_sizes rows columns = replicate columns (rows + 16)
