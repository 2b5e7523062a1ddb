-- How many packets sections take, and in which they begin, by their sizes.
use Rattle.std.proofs.Common.{◌≡◌, ℕ, zero, suc, ◌+◌, ◌-◌, ◌/◌, ◌%◌, ◌<◌, ◌≤◌, Bool, true, false, cond, ◌||◌, leb, ltb, eqb, List, [], ◌∷◌, ◌++◌, take, drop, length, map, refl, sym, ap, ap₂, ◌∙◌, zero-add, arith, length-drop}
use Rattle.reassembly_law.proofs.Outcomes.{true_leb, false_leb}
use Rattle.ts_spec.specs.Packetized.{unit_at}
use Rattle.section_spec.specs.Section.{section_form}
use Rattle.unit_stream.specs.Packing.{Filling, stuffed, behind_unit, filled, Piece, may_begin, pieces, byte_count, packetized}
use Rattle.unit_stream.proofs.Left.{AreLong, Leaves, begun_leaves, left, left_begin, left_middle, room_left}
use Rattle.unit_stream.proofs.Numbers.{eqb_false}
use Rattle.unit_stream.proofs.Written.{length-numbered}
use Rattle.fec_units.specs.declared.packets.NextSection.{NextSection}
use Rattle.fec_units.specs.Packets.{after_rest, after_section, after_sections, first_section, packets_before}

one : 1 ≤ 1
one = omega arith

few : 1 ≤ 183
few = omega arith

-- the packets of the rest of a section and the sections after it
abbrev coming : List ℕ → List (List ℕ) → List Piece
coming rest units = left 1 true one few rest units

abbrev pub sizes_of : List (List ℕ) → List ℕ
sizes_of units = map (λ (unit : List ℕ). length unit) units

abbrev in_packet : ℕ → ℕ → NextSection
in_packet packet room = record { packet = packet; room = room }

-- After the rest of a section.

abbrev at_parts : ℕ → ℕ → NextSection
at_parts packet last = cond (eqb last 183) (in_packet (packet + 1) 183) (in_packet packet (183 - last))

rest_small : (p r : ℕ) → r ≤ 182 → after_rest p r ≡ in_packet p (183 - r)
rest_small p r le =
    let packet : p + r / 184 ≡ p = omega (arith, le) in
    let last : r % 184 ≡ r = omega (arith, le) in
    ap₂ at_parts packet last
    ∙ ap (λ (b : Bool). cond b (in_packet (p + 1) 183) (in_packet p (183 - r))) (eqb_false r 183 (λ is. omega (arith, le, is)))

rest_more : (p r : ℕ) → 183 ≤ r → after_rest p r ≡ after_rest (p + 1) (r - 184)
rest_more p r le = by_order (leb 184 r) refl
  where
    by_order : (b : Bool) → leb 184 r ≡ b → after_rest p r ≡ after_rest (p + 1) (r - 184)
    by_order true e =
        let some : 184 ≤ r = true_leb 184 r e in
        let packet : p + r / 184 ≡ p + 1 + (r - 184) / 184 = omega (arith, some) in
        let last : r % 184 ≡ (r - 184) % 184 = omega (arith, some) in
        ap₂ at_parts packet last
    by_order false e =
        let is : r ≡ 183 = omega (arith, le, false_leb 184 r e) in
        let none : r - 184 ≡ 0 = omega (arith, is) in
        let packet : p + 0 + 1 ≡ p + 1 + 0 = omega arith in
        ap (after_rest p) is ∙ ap (λ (n : ℕ). in_packet n 183) packet ∙ sym (ap (after_rest (p + 1)) none)

-- packets, where nothing is left
packets_none : (p : ℕ) → packets_before (after_rest p 0) ≡ p
packets_none p = omega arith

packets_some : (p room : ℕ) → room ≤ 182 → packets_before (in_packet p room) ≡ p + 1
packets_some p room le = ap (λ (b : Bool). cond b p (p + 1)) (eqb_false room 183 (λ is. omega (arith, le, is)))

-- A packet in which sections begin.

-- what its packets and those after it make, where it is packet p
abbrev after_filling : ℕ → Filling → ℕ
after_filling p f = packets_before (after_sections (after_rest (p + 1) (length f.rest)) (sizes_of f.units))

abbrev make : List ℕ → List ℕ → List (List ℕ) → Filling
make bytes rest units = record { bytes = bytes; rest = rest; units = units }

fill_one : (p room : ℕ) (u : List ℕ) (us : List (List ℕ))
    → (length u < room → after_filling p (filled 1 true (room - length u) us) ≡ packets_before (after_sections (in_packet p (room - length u)) (sizes_of us)))
    → after_filling p (filled 1 true room (u ∷ us)) ≡ packets_before (after_sections (in_packet p room) (sizes_of (u ∷ us)))
fill_one p room u us later = by_tests (leb (length u) room) refl (leb 1 (room - length u)) refl (ltb (length u) room) refl
  where
    by_tests : (fits : Bool) → leb (length u) room ≡ fits → (follows : Bool) → leb 1 (room - length u) ≡ follows → (below : Bool) → ltb (length u) room ≡ below
        → after_filling p (cond fits (behind_unit u (cond follows (filled 1 true (room - length u) us) (stuffed (room - length u) us))) (make (take room u) (drop room u) us))
        ≡ packets_before (after_sections (cond below (in_packet p (room - length u)) (after_rest (p + 1) (length u - room))) (sizes_of us))
    by_tests true e true e2 true e3 = later (true_leb (suc (length u)) room e3)
    by_tests true e true e2 false e3 = absurd (omega (arith, true_leb 1 (room - length u) e2, false_leb (suc (length u)) room e3))
    by_tests true e false e2 true e3 = absurd (omega (arith, false_leb 1 (room - length u) e2, true_leb (suc (length u)) room e3))
    by_tests true e false e2 false e3 =
        let none : 0 ≡ length u - room = omega (arith, true_leb (length u) room e) in
        ap (λ (n : ℕ). packets_before (after_sections (after_rest (p + 1) n) (sizes_of us))) none
    by_tests false e follows e2 true e3 = absurd (omega (arith, false_leb (length u) room e, true_leb (suc (length u)) room e3))
    by_tests false e follows e2 false e3 = ap (λ (n : ℕ). packets_before (after_sections (after_rest (p + 1) n) (sizes_of us))) (length-drop room u)

fill_more : (p room : ℕ) (us : List (List ℕ)) → room ≤ 182 → AreLong 1 us
    → after_filling p (filled 1 true room us) ≡ packets_before (after_sections (in_packet p room) (sizes_of us))
fill_more p room [] le long = packets_none (p + 1) ∙ sym (packets_some p room le)
fill_more p room (u ∷ us) le long = fill_one p room u us (λ less. fill_more p (room - length u) us (omega (arith, le)) long.1)

fill_begin : (p room : ℕ) (u : List ℕ) (us : List (List ℕ)) → room ≤ 183 → AreLong 1 (u ∷ us)
    → after_filling p (filled 1 true room (u ∷ us)) ≡ packets_before (after_sections (in_packet p room) (sizes_of (u ∷ us)))
fill_begin p room u us le long = fill_one p room u us (λ less. fill_more p (room - length u) us (omega (arith, le, long.0)) long.1)

-- All packets.

not_begun : (rest unit : List ℕ) (units : List (List ℕ)) → may_begin 1 true rest (unit ∷ units) ≡ false → 183 ≤ length rest
not_begun rest unit units may = by_tests (eqb (length rest) 0) refl (leb (length rest + 1) 183) refl may
  where
    by_tests : (none : Bool) → eqb (length rest) 0 ≡ none → (fits : Bool) → leb (length rest + 1) 183 ≡ fits → (none || fits) ≡ false → 183 ≤ length rest
    by_tests true e fits e2 m = absurd (cc)
    by_tests false e true e2 m = absurd (cc)
    by_tests false e false e2 m = omega (arith, false_leb (length rest + 1) 183 e2)

-- the packets from packet p on
abbrev Counts : List ℕ → List (List ℕ) → ℕ → Type 0
Counts rest units p = p + length (coming rest units) ≡ packets_before (after_sections (after_rest p (length rest)) (sizes_of units))

count_middle : (rest : List ℕ) (units : List (List ℕ)) (p : ℕ) → AreLong 1 units → may_begin 1 true rest units ≡ false → 1 ≤ length rest
    → packets_before (after_sections (after_rest (p + 1) (length rest - 184)) (sizes_of units)) ≡ packets_before (after_sections (after_rest p (length rest)) (sizes_of units))
    → Counts (drop 184 rest) units (p + 1) → Counts rest units p
count_middle rest units p long may some same later =
    omega (
      arith,
      ap (λ (ps : List Piece). length ps) (left_middle 1 true one few rest units long may some),
      later,
      ap (λ (n : ℕ). packets_before (after_sections (after_rest (p + 1) n) (sizes_of units))) (length-drop 184 rest),
      same,
    )

count_left : (most : ℕ) (rest : List ℕ) (units : List (List ℕ)) (p : ℕ) → length rest + byte_count units ≤ most → AreLong 1 units → Counts rest units p
count_left most [] [] p le long = omega (arith, packets_none p)
count_left zero (x ∷ rest) [] p le long = absurd (omega (arith, le))
count_left (suc most) (x ∷ rest) [] p le long =
    count_middle (x ∷ rest) [] p long refl (omega arith) (by_order (leb (length (x ∷ rest)) 182) refl)
    (count_left most (drop 184 (x ∷ rest)) [] (p + 1) (omega (arith, length-drop 184 (x ∷ rest), le)) long)
  where
    by_order : (b : Bool) → leb (length (x ∷ rest)) 182 ≡ b
        → packets_before (after_rest (p + 1) (length (x ∷ rest) - 184)) ≡ packets_before (after_rest p (length (x ∷ rest)))
    by_order true e =
        let few_left : length (x ∷ rest) ≤ 182 = true_leb (length (x ∷ rest)) 182 e in
        let none : length (x ∷ rest) - 184 ≡ 0 = omega (arith, few_left) in
        ap (λ (n : ℕ). packets_before (after_rest (p + 1) n)) none
        ∙ packets_none (p + 1)
        ∙ sym (ap packets_before (rest_small p (length (x ∷ rest)) few_left) ∙ packets_some p (183 - length (x ∷ rest)) (omega arith))
    by_order false e = sym (ap packets_before (rest_more p (length (x ∷ rest)) (omega (arith, false_leb (length (x ∷ rest)) 182 e))))
count_left zero rest (unit ∷ units) p le long = absurd (omega (arith, le, long.0))
count_left (suc most) rest (unit ∷ units) p le long = by_test (λ r us q within all. count_left most r us q within all) (may_begin 1 true rest (unit ∷ units)) refl
  where
    f : Filling
    f = filled 1 true (183 - length rest) (unit ∷ units)

    by_test : ((r : List ℕ) (us : List (List ℕ)) (q : ℕ) → length r + byte_count us ≤ most → AreLong 1 us → Counts r us q)
        → (b : Bool) → may_begin 1 true rest (unit ∷ units) ≡ b → Counts rest (unit ∷ units) p
    by_test later true may =
        let room : 1 ≤ 183 - length rest = room_left 1 true one few rest unit units may in
        let leaves : Leaves 1 (length unit + byte_count units - 1) f = begun_leaves 1 true one few (183 - length rest) unit units room long in
        omega (
          arith,
          ap (λ (ps : List Piece). length ps) (left_begin 1 true one few rest unit units long may),
          later f.rest f.units (p + 1) (omega (arith, leaves.size, le, long.0)) leaves.long,
          fill_begin p (183 - length rest) unit units (omega arith) long,
          ap (λ (n : NextSection). packets_before (after_sections n (sizes_of (unit ∷ units)))) (rest_small p (length rest) (omega (arith, room))),
        )
    by_test later false may =
        let many : 183 ≤ length rest = not_begun rest unit units may in
        count_middle rest (unit ∷ units) p long may (omega (arith, many))
        (sym (ap (λ (n : NextSection). packets_before (after_sections n (sizes_of (unit ∷ units)))) (rest_more p (length rest) many)))
        (later (drop 184 rest) (unit ∷ units) (p + 1) (omega (arith, length-drop 184 rest, le, many)) long)

-- so many packets do sections take
pub count_is : (pid counter : ℕ) (units : List (List ℕ)) → AreLong 1 units
    → length (packetized section_form true pid counter units) ≡ packets_before (after_sections first_section (sizes_of units))
count_is pid counter units long =
    let none : byte_count units ≡ 0 + byte_count units = sym (zero-add (byte_count units)) in
    length-numbered pid counter (pieces (byte_count units) 1 true [] units)
    ∙ ap (λ (n : ℕ). length (pieces n 1 true [] units)) none
    ∙ sym (zero-add (length (coming [] units)))
    ∙ count_left (byte_count units) [] units 0 (omega arith) long

-- The packet in which a section begins.

abbrev pub IsInRoom : NextSection → Type 0
IsInRoom next = (1 ≤ next.room) × (next.room ≤ 183)

-- each section has a byte
abbrev pub AreSome : List ℕ → Type 0
AreSome [] = Unit {0}
AreSome (size ∷ sizes) = (1 ≤ size) × AreSome sizes

pub first_in_room : IsInRoom first_section
first_in_room = (omega arith, omega arith)

rest_in_room : (p r : ℕ) → IsInRoom (after_rest p r)
rest_in_room p r = by_test (eqb (r % 184) 183) refl
  where
    by_test : (b : Bool) → eqb (r % 184) 183 ≡ b → IsInRoom (cond b (in_packet (p + r / 184 + 1) 183) (in_packet (p + r / 184) (183 - r % 184)))
    by_test true e = (omega arith, omega arith)
    by_test false e = grind (arith, e)

rest_packet : (p r : ℕ) → (p ≤ (after_rest p r).packet) × (p ≤ packets_before (after_rest p r))
rest_packet p r = by_test (eqb (r % 184) 183) refl
  where
    by_test : (b : Bool) → eqb (r % 184) 183 ≡ b
        → (p ≤ (cond b (in_packet (p + r / 184 + 1) 183) (in_packet (p + r / 184) (183 - r % 184))).packet)
        × (p ≤ packets_before (cond b (in_packet (p + r / 184 + 1) 183) (in_packet (p + r / 184) (183 - r % 184))))
    by_test true e = (omega arith, omega arith)
    by_test false e = (omega arith, by_full (eqb (183 - r % 184) 183))
      where
        by_full : (b : Bool) → p ≤ cond b (p + r / 184) (p + r / 184 + 1)
        by_full true = omega arith
        by_full false = omega arith

section_in_room : (next : NextSection) (size : ℕ) → IsInRoom next → 1 ≤ size → IsInRoom (after_section next size)
section_in_room next size is some = by_test (ltb size next.room) refl
  where
    by_test : (b : Bool) → ltb size next.room ≡ b → IsInRoom (cond b (in_packet next.packet (next.room - size)) (after_rest (next.packet + 1) (size - next.room)))
    by_test true e = (omega (arith, true_leb (suc size) next.room e), omega (arith, is.1))
    by_test false e = rest_in_room (next.packet + 1) (size - next.room)

-- a section takes a packet more than those before the one in which it begins
section_packets : (next : NextSection) (size : ℕ) → IsInRoom next → 1 ≤ size → next.packet + 1 ≤ packets_before (after_section next size)
section_packets next size is some = by_test (ltb size next.room)
  where
    by_test : (b : Bool) → next.packet + 1 ≤ packets_before (cond b (in_packet next.packet (next.room - size)) (after_rest (next.packet + 1) (size - next.room)))
    by_test true = omega (arith, packets_some next.packet (next.room - size) (omega (arith, is.1, some)))
    by_test false = (rest_packet (next.packet + 1) (size - next.room)).1

packets_most : (next : NextSection) → packets_before next ≤ next.packet + 1
packets_most next = by_test (eqb next.room 183)
  where
    by_test : (b : Bool) → cond b next.packet (next.packet + 1) ≤ next.packet + 1
    by_test true = omega arith
    by_test false = omega arith

packets_grow : (next : NextSection) (sizes : List ℕ) → IsInRoom next → AreSome sizes → packets_before next ≤ packets_before (after_sections next sizes)
packets_grow next [] is some = omega arith
packets_grow next (size ∷ sizes) is some =
    omega (
      arith,
      packets_most next,
      section_packets next size is some.0,
      packets_grow (after_section next size) sizes (section_in_room next size is some.0) some.1,
    )

-- each section begins in a packet of the burst
pub packet_below : (next : NextSection) (sizes : List ℕ) (i : ℕ) → IsInRoom next → AreSome sizes → i < length sizes
    → (after_sections next (take i sizes)).packet < packets_before (after_sections next sizes)
packet_below next [] i is some within = absurd (omega (arith, within))
packet_below next (size ∷ sizes) zero is some within =
    omega (arith, section_packets next size is some.0, packets_grow (after_section next size) sizes (section_in_room next size is some.0) some.1)
packet_below next (size ∷ sizes) (suc i) is some within =
    packet_below (after_section next size) sizes i (section_in_room next size is some.0) some.1 (omega (arith, within))

pub after_more : (next : NextSection) (sizes more : List ℕ) → after_sections next (sizes ++ more) ≡ after_sections (after_sections next sizes) more
after_more next [] more = refl
after_more next (size ∷ sizes) more = after_more (after_section next size) sizes more

in_room : (next : NextSection) (sizes : List ℕ) → IsInRoom next → AreSome sizes → IsInRoom (after_sections next sizes)
in_room next [] is some = is
in_room next (size ∷ sizes) is some = in_room (after_section next size) sizes (section_in_room next size is some.0) some.1

-- one byte goes into the packet in which its section begins
one_byte : (next : NextSection) → IsInRoom next → packets_before (after_section next 1) ≡ next.packet + 1
one_byte next is = by_test (ltb 1 next.room) refl
  where
    by_test : (b : Bool) → ltb 1 next.room ≡ b → packets_before (cond b (in_packet next.packet (next.room - 1)) (after_rest (next.packet + 1) (1 - next.room))) ≡ next.packet + 1
    by_test true e = packets_some next.packet (next.room - 1) (omega (arith, is.1))
    by_test false e =
        let none : 1 - next.room ≡ 0 = omega (arith, is.0) in
        ap (λ (n : ℕ). packets_before (after_rest (next.packet + 1) n)) none ∙ packets_none (next.packet + 1)

-- units of which each has a byte

some_sizes : (units : List (List ℕ)) → AreLong 1 units → AreSome (sizes_of units)
some_sizes [] long = tt
some_sizes (u ∷ us) long = (long.0, some_sizes us long.1)

long_front : (units : List (List ℕ)) (i : ℕ) → AreLong 1 units → i < length units → AreLong 1 (take i units ++ take 1 (unit_at units i) ∷ [])
long_front [] i long within = absurd (omega (arith, within))
long_front ([] ∷ us) zero long within = absurd (omega (arith, long.0))
long_front ((x ∷ u) ∷ us) zero long within = (omega arith, tt)
long_front (u ∷ us) (suc i) long within = (long.0, long_front us i long.1 (omega (arith, within)))

front_sizes : (next : NextSection) (units : List (List ℕ)) (i : ℕ) → AreLong 1 units → i < length units
    → after_sections next (sizes_of (take i units ++ take 1 (unit_at units i) ∷ [])) ≡ after_section (after_sections next (take i (sizes_of units))) 1
front_sizes next [] i long within = absurd (omega (arith, within))
front_sizes next ([] ∷ us) zero long within = absurd (omega (arith, long.0))
front_sizes next ((x ∷ u) ∷ us) zero long within = refl
front_sizes next (u ∷ us) (suc i) long within = front_sizes (after_section next (length u)) us i long.1 (omega (arith, within))

some_front : (sizes : List ℕ) (i : ℕ) → AreSome sizes → AreSome (take i sizes)
some_front [] zero some = tt
some_front [] (suc i) some = tt
some_front (size ∷ sizes) zero some = tt
some_front (size ∷ sizes) (suc i) some = (some.0, some_front sizes i some.1)

-- the packet with the first byte of section i
pub packet_is : (units : List (List ℕ)) (i : ℕ) → AreLong 1 units → i < length units
    → length (packetized section_form true 0 0 (take i units ++ take 1 (unit_at units i) ∷ [])) - 1 ≡ (after_sections first_section (take i (sizes_of units))).packet
packet_is units i long within =
    let before : NextSection = after_sections first_section (take i (sizes_of units)) in
    omega (
      arith,
      count_is 0 0 (take i units ++ take 1 (unit_at units i) ∷ []) (long_front units i long within),
      ap packets_before (front_sizes first_section units i long within),
      one_byte before (in_room first_section (take i (sizes_of units)) first_in_room (some_front (sizes_of units) i (some_sizes units long))),
    )
