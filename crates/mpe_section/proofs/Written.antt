-- The bodies that are written for both kinds of section: they can be written as sections, and read back.
use Rattle.std.proofs.Common.{◌≡◌, ℕ, ◌+◌, ◌<◌, ◌≤◌, Bool, true, false, Option, Some, None, List, [], ◌∷◌, length, take, drop, refl, ap, subst, sym, ◌∙◌, arith, eq-eqb}
use Rattle.std.specs.Prelude.{slice_index, if◌then◌else◌}
use Rattle.std.proofs.Math.Seq.{take-length}
use Rattle.std.proofs.lemmas.Bool.{le-leb}
use Rattle.wire_spec.specs.Bytes.{u32_at}
use Rattle.wire_spec.specs.Datagram.{IsDatagram, IsFront, front_length}
use Rattle.section_spec.specs.Section.{IsWritableSection, SectionFields}
use Rattle.section_spec.specs.Mpe.{IsRealTime, MpeFields, FecFields, IsWritableMpe, IsWritableFec, mpe_body, mpe_of, mpe_with, fec_body, fec_of, has_fec_numbers, is_fec, real_time_number, real_time_of, has_mpe_head, mac_in, mac_number}
use Rattle.mpe_section.proofs.Parameters.{real_time_number_below, real_time_of-real_time_number, four_bytes, address_below, rows_most}

-- a body of so many bytes can be written
writable : (table_id : ℕ) (body : List ℕ) → table_id < 0xFF → 5 ≤ length body → length body ≤ 4089 → IsWritableSection table_id 0xB0 body
writable table_id body below least most = record {
  table_id_is = below;
  syntax = omega arith;
  byte = omega arith;
  upper_half = refl;
  least = least;
  most = most;
}

pub mpe_body_is_writable : (m : MpeFields) → IsWritableMpe m → IsWritableSection 0x3E 0xB0 (mpe_body m)
mpe_body_is_writable m it = writable 0x3E (mpe_body m) (omega arith) (omega arith) (omega (arith, it.size))

-- the six bytes of an address
six_bytes : (mac : List ℕ) → length mac ≡ 6
    → slice_index mac 0 ∷ slice_index mac 1 ∷ slice_index mac 2 ∷ slice_index mac 3 ∷ slice_index mac 4 ∷ slice_index mac 5 ∷ [] ≡ mac
six_bytes (a ∷ b ∷ c ∷ d ∷ e ∷ f ∷ []) six = refl
six_bytes _ six = absurd (omega (arith, six))

-- a datagram is its own front
pub whole_front : (b : List ℕ) → IsDatagram b → IsFront b (length b)
whole_front b it = record { within = omega arith; datagram = subst IsDatagram (sym (take-length b)) it }

pub mpe_of-mpe_body : (m : MpeFields) → IsWritableMpe m → front_length m.datagram ≡ Some (length m.datagram)
    → mpe_of (record { table_id = 0x3E; body = mpe_body m }) ≡ Some m
mpe_of-mpe_body m it front =
    ap (mpe_with (mpe_body m)) front
    ∙ (λ i. Some (record { mac = six_bytes m.mac it.mac_size i; real_time = sym it.agrees i; datagram = take-length m.datagram i }))

pub parameters_are_writable : (f : FecFields) → IsWritableFec f → IsRealTime f.real_time
parameters_are_writable f it = record {
  delta_below = it.delta_below;
  address_below = address_below f.number (length f.column) f.real_time.address (omega (arith, it.number_most, it.last_most)) it.rows it.address_is;
}

pub fec_body_is_writable : (f : FecFields) → IsWritableFec f → IsWritableSection 0x78 0xB0 (fec_body f)
fec_body_is_writable f it =
    writable 0x78 (fec_body f) (omega arith) (omega arith) (omega (arith, rows_most (length f.column) it.rows))

fec_numbers : (f : FecFields) → IsWritableFec f → has_fec_numbers (fec_body f) ≡ true
fec_numbers f it = rw (le-leb f.padding 190 it.padding_most, le-leb f.number f.last it.number_most, le-leb f.last 63 it.last_most) refl

is_fec-fec_body : (f : FecFields) → IsWritableFec f → is_fec (length f.column) (record { table_id = 0x78; body = fec_body f }) ≡ true
is_fec-fec_body f it = rw (fec_numbers f it, eq-eqb (length (fec_body f)) (9 + length f.column) (omega arith)) refl

pub fec_of-fec_body : (f : FecFields) → IsWritableFec f → fec_of (length f.column) (record { table_id = 0x78; body = fec_body f }) ≡ Some f
fec_of-fec_body f it =
    let time : IsRealTime f.real_time = parameters_are_writable f it in
    let told : u32_at (fec_body f) 5 ≡ real_time_number f.real_time = four_bytes (real_time_number f.real_time) (real_time_number_below f.real_time time) in
    let same : real_time_of (u32_at (fec_body f) 5) ≡ f.real_time = ap real_time_of told ∙ real_time_of-real_time_number f.real_time time in
    rw (is_fec-fec_body f it)
    (λ i. Some (record { padding = f.padding; number = f.number; last = f.last; real_time = same i; column = f.column }))

-- the address and the parameters of a body are read of the same bytes
agree_with : (head : Bool) (body : List ℕ) (size : Option ℕ) (m : MpeFields) → (if head then mpe_with body size else None) ≡ Some m
    → m.real_time ≡ real_time_of (mac_number m.mac)
agree_with false body size m h = cc
agree_with true body None m h = cc
agree_with true body (Some n) m h =
    let read : MpeFields = record { mac = mac_in body; real_time = real_time_of (u32_at body 5); datagram = take n (drop 9 body) } in
    let same : read ≡ m = cc in
    subst (λ (k : MpeFields). k.real_time ≡ real_time_of (mac_number k.mac)) same refl

pub real_time-mpe_of : (s : SectionFields) (m : MpeFields) → mpe_of s ≡ Some m → m.real_time ≡ real_time_of (mac_number m.mac)
real_time-mpe_of s m h = agree_with (has_mpe_head s) s.body (front_length (drop 9 s.body)) m h
