-- What sections of a sent frame tell is what was sent.
use Rattle.std.proofs.Common.{◌≡◌, ◌⊎◌, inl, inr, ℕ, suc, ◌+◌, ◌-◌, ◌*◌, ◌<◌, ◌≤◌, Bool, true, false, ◌&&◌, cond, leb, ltb, List, [], ◌∷◌, ◌++◌, length, get_or, drop, Option, Some, None, refl, ap, sym, ◌∙◌, subst, arith}
use Rattle.std.proofs.lemmas.Bool.{and_parts, leb-true, ltb-true, eqb-true}
use Rattle.std.proofs.lemmas.List.{get_or-take, get_or-drop}
use Rattle.wire_spec.specs.Lists.{joined, IsSubsequence}
use Rattle.section_spec.specs.Mpe.{MpeFields, FecFields}
use Rattle.fec_frame_spec.specs.Sections.{FrameSection, data_section, parity_section, data_end}
use Rattle.fec_frame_spec.specs.Known.{is_in, told_byte, first_told, known_byte}
use Rattle.fec_frame_spec.specs.Frame.{FrameFields, table_of, IsFrame, datagram_start, IsSectionOfDatagram, IsSectionOfColumn, IsSectionOfFrame, AreSectionsFrom, IsSentFrame}
use Rattle.channel_law.proofs.Member.{Member}
use Rattle.fec_frame_law.proofs.Lists.{subsequence_member}
use Rattle.fec_frame_law.proofs.Places.{start_next, start_all, start_most, joined_at, data_at, data_zero, table_data, table_parity}

-- a place between two
is_in-true : (from to place : ℕ) → is_in from to place ≡ true → (from ≤ place) × (place < to)
is_in-true from to place inside =
    let parts = and_parts (leb from place) (ltb place to) inside in
    (leb-true from place parts.0, ltb-true place to parts.1)

-- which of two answers it was
some_by : (test : Bool) (x : ℕ) (other : Option ℕ) (byte : ℕ) → cond test (Some x) other ≡ Some byte
    → ((test ≡ true) × (x ≡ byte)) ⊎ (other ≡ Some byte)
some_by true x other byte told = inl (refl, cc)
some_by false x other byte told = inr told

none_told : {X : Type 0} (byte : ℕ) → ◌≡◌ {A = Option ℕ} None (Some byte) → X
none_told byte told = absurd (cc)

-- of its datagram
told_datagram : (rows : ℕ) (frame : FrameFields) (n : ℕ) (m : MpeFields) → IsFrame rows frame → n < length frame.datagrams → IsSectionOfDatagram frame n m
    → (place byte : ℕ) → told_byte rows (data_section m) place ≡ Some byte → get_or (table_of rows frame) place 0 ≡ byte
told_datagram rows frame n m is within section place byte told =
    by_own (some_by (is_in m.real_time.address (data_end m) place) (get_or m.datagram (place - m.real_time.address) 0)
    (cond (m.real_time.table_boundary && is_in (data_end m) (191 * rows) place) (Some 0) None) byte told)
  where
    end : data_end m ≡ datagram_start frame.datagrams (suc n)
    end = omega (arith, section.address, ap (λ (l : List ℕ). length l) section.datagram, start_next frame.datagrams n within)

    own : (m.real_time.address ≤ place) × (place < data_end m) → get_or (table_of rows frame) place 0 ≡ get_or m.datagram (place - m.real_time.address) 0
    own inside =
        let used : place < length (joined frame.datagrams) = omega (arith, inside.1, end, start_most frame.datagrams (suc n)) in
        let at : place ≡ datagram_start frame.datagrams n + (place - m.real_time.address) = omega (arith, inside.0, section.address) in
        table_data rows frame place is.fits (omega (arith, used, is.fits))
        ∙ data_at rows frame.datagrams place used
        ∙ ap (λ (k : ℕ). get_or (joined frame.datagrams) k 0) at
        ∙ joined_at frame.datagrams n (place - m.real_time.address) within
        (omega (arith, inside.0, inside.1, ap (λ (l : List ℕ). length l) section.datagram))
        ∙ ap (λ (l : List ℕ). get_or l (place - m.real_time.address) 0) (sym section.datagram)

    behind : m.real_time.table_boundary ≡ true → (data_end m ≤ place) × (place < 191 * rows) → get_or (table_of rows frame) place 0 ≡ 0
    behind boundary inside =
        let last : n + 1 ≡ length frame.datagrams = eqb-true (n + 1) (length frame.datagrams) (sym section.table_boundary ∙ boundary) in
        let all : suc n ≡ length frame.datagrams = omega (arith, last) in
        table_data rows frame place is.fits inside.1
        ∙ data_zero rows frame.datagrams place (omega (arith, inside.0, end, ap (datagram_start frame.datagrams) all, start_all frame.datagrams))

    by_zero : ((m.real_time.table_boundary && is_in (data_end m) (191 * rows) place ≡ true) × (0 ≡ byte)) ⊎ (None ≡ Some byte) → get_or (table_of rows frame) place 0 ≡ byte
    by_zero (inl zeros) =
        let parts = and_parts m.real_time.table_boundary (is_in (data_end m) (191 * rows) place) zeros.0 in
        behind parts.0 (is_in-true (data_end m) (191 * rows) place parts.1) ∙ zeros.1
    by_zero (inr nothing) = none_told byte nothing

    by_own : ((is_in m.real_time.address (data_end m) place ≡ true) × (get_or m.datagram (place - m.real_time.address) 0 ≡ byte))
        ⊎ (cond (m.real_time.table_boundary && is_in (data_end m) (191 * rows) place) (Some 0) None ≡ Some byte) → get_or (table_of rows frame) place 0 ≡ byte
    by_own (inl here) = own (is_in-true m.real_time.address (data_end m) place here.0) ∙ here.1
    by_own (inr other) = by_zero (some_by (m.real_time.table_boundary && is_in (data_end m) (191 * rows) place) 0 None byte other)

-- of its column
told_column : (rows : ℕ) (frame : FrameFields) (k : ℕ) (f : FecFields) → IsFrame rows frame → IsSectionOfColumn rows frame k f
    → (place byte : ℕ) → told_byte rows (parity_section f) place ≡ Some byte → get_or (table_of rows frame) place 0 ≡ byte
told_column rows frame k f is section place byte told =
    by_own (some_by (is_in begin (begin + rows) place) (get_or f.column (place - begin) 0) (cond (is_in padding (191 * rows) place) (Some 0) None) byte told)
  where
    begin : ℕ
    begin = 191 * rows + f.number * rows

    padding : ℕ
    padding = (191 - f.padding) * rows

    own : (begin ≤ place) × (place < begin + rows) → get_or (table_of rows frame) place 0 ≡ get_or f.column (place - begin) 0
    own inside =
        let at : place ≡ 191 * rows + (f.number * rows + (place - begin)) = omega (arith, inside.0) in
        ap (λ (n : ℕ). get_or (table_of rows frame) n 0) at
        ∙ table_parity rows frame (f.number * rows + (place - begin)) is.fits
        ∙ ap (λ (n : ℕ). get_or frame.parity (n * rows + (place - begin)) 0) section.number
        ∙ sym (get_or-drop (k * rows) frame.parity (place - begin) 0)
        ∙ sym (get_or-take rows (drop (k * rows) frame.parity) (place - begin) 0 (omega (arith, inside.0, inside.1)))
        ∙ ap (λ (l : List ℕ). get_or l (place - begin) 0) (sym section.column)

    free : (padding ≤ place) × (place < 191 * rows) → get_or (table_of rows frame) place 0 ≡ 0
    free inside =
        table_data rows frame place is.fits inside.1
        ∙ data_zero rows frame.datagrams place (omega (arith, inside.0, is.padding_free, ap (λ (n : ℕ). (191 - n) * rows) section.padding))

    by_zero : ((is_in padding (191 * rows) place ≡ true) × (0 ≡ byte)) ⊎ (None ≡ Some byte) → get_or (table_of rows frame) place 0 ≡ byte
    by_zero (inl zeros) = free (is_in-true padding (191 * rows) place zeros.0) ∙ zeros.1
    by_zero (inr nothing) = none_told byte nothing

    by_own : ((is_in begin (begin + rows) place ≡ true) × (get_or f.column (place - begin) 0 ≡ byte))
        ⊎ (cond (is_in padding (191 * rows) place) (Some 0) None ≡ Some byte) → get_or (table_of rows frame) place 0 ≡ byte
    by_own (inl here) = own (is_in-true begin (begin + rows) place here.0) ∙ here.1
    by_own (inr other) = by_zero (some_by (is_in padding (191 * rows) place) 0 None byte other)

-- of a section of the frame
pub told_section : (rows : ℕ) (frame : FrameFields) (i : ℕ) (section : FrameSection) → IsFrame rows frame → IsSectionOfFrame rows frame i section
    → (place byte : ℕ) → told_byte rows section place ≡ Some byte → get_or (table_of rows frame) place 0 ≡ byte
told_section rows frame i (data_section m) is of_frame place byte told = told_datagram rows frame i m is of_frame.0 of_frame.1 place byte told
told_section rows frame i (parity_section f) is of_frame place byte told = told_column rows frame of_frame.0 f is of_frame.3 place byte told

-- a section among those of a frame is one of them
pub member_section : (rows : ℕ) (frame : FrameFields) (i : ℕ) (sections : List FrameSection) → AreSectionsFrom rows frame i sections
    → (s : FrameSection) → Member sections s → (n : ℕ) × IsSectionOfFrame rows frame n s
member_section rows frame i [] are s there = absurd there
member_section rows frame i (x ∷ sections) are s (inl same) = (i, subst (λ (t : FrameSection). IsSectionOfFrame rows frame i t) same are.0)
member_section rows frame i (x ∷ sections) are s (inr there) = member_section rows frame (i + 1) sections are.1 s there

-- of those of a frame that were accepted
pub kept_section : (rows : ℕ) (frame : FrameFields) (sections group : List FrameSection) → IsSentFrame rows frame sections
    → IsSubsequence group sections → (s : FrameSection) → Member group s → (n : ℕ) × IsSectionOfFrame rows frame n s
kept_section rows frame sections group sent kept s there =
    member_section rows frame 0 sections sent.sections_are s (subsequence_member group sections kept s there)

told_first : (o other : Option ℕ) (byte : ℕ) → first_told o other ≡ Some byte → (o ≡ Some byte) ⊎ (other ≡ Some byte)
told_first None other byte told = inr told
told_first (Some x) other byte told = inl told

-- a byte that sections tell is told by one of them
pub known_told : (rows : ℕ) (group : List FrameSection) (place byte : ℕ) → known_byte rows group place ≡ Some byte
    → (s : FrameSection) × Member group s × (told_byte rows s place ≡ Some byte)
known_told rows [] place byte known = none_told byte known
known_told rows (s ∷ group) place byte known =
    by_first (told_first (known_byte rows group place) (told_byte rows s place) byte known) (known_told rows group place byte)
  where
    by_first : (known_byte rows group place ≡ Some byte) ⊎ (told_byte rows s place ≡ Some byte)
        → (known_byte rows group place ≡ Some byte → (t : FrameSection) × Member group t × (told_byte rows t place ≡ Some byte))
        → (t : FrameSection) × Member (s ∷ group) t × (told_byte rows t place ≡ Some byte)
    by_first (inl behind) later = let found = later behind in (found.0, inr found.1, found.2)
    by_first (inr here) later = (s, inl refl, here)

-- the known bytes of a received frame are those of the sent one
pub known_sent : (rows : ℕ) (frame : FrameFields) (sections group : List FrameSection) → IsSentFrame rows frame sections
    → IsSubsequence group sections → (place byte : ℕ) → known_byte rows group place ≡ Some byte → get_or (table_of rows frame) place 0 ≡ byte
known_sent rows frame sections group sent kept place byte known =
    let told = known_told rows group place byte known in
    let of_frame = kept_section rows frame sections group sent kept told.0 told.1 in
    told_section rows frame of_frame.0 told.0 sent.is of_frame.1 place byte told.2

-- with a section more: what it tells, and what was known where it tells nothing
first_none : (o : Option ℕ) → first_told o None ≡ o
first_none None = refl
first_none (Some x) = refl

first_assoc : (a b c : Option ℕ) → first_told (first_told a b) c ≡ first_told a (first_told b c)
first_assoc None b c = refl
first_assoc (Some x) b c = refl

pub known_more : (rows : ℕ) (group : List FrameSection) (x : FrameSection) (place : ℕ)
    → known_byte rows (group ++ x ∷ []) place ≡ first_told (told_byte rows x place) (known_byte rows group place)
known_more rows [] x place = sym (first_none (told_byte rows x place))
known_more rows (s ∷ group) x place =
    ap (λ (o : Option ℕ). first_told o (told_byte rows s place)) (known_more rows group x place)
    ∙ first_assoc (told_byte rows x place) (known_byte rows group place) (told_byte rows s place)
