-- The examples: what is packed yields, and what does not lacks one of the facts.
use Rattle.std.proofs.Common.{◌≡◌, ℕ, Bool, true, ◌&&◌, List, [], ◌∷◌, length, flat_map, replicate, refl, sym, subst, arith}
use Rattle.std.specs.Prelude.{nat_le}
use Rattle.std.specs.List.{list_all}
use Rattle.std.proofs.lemmas.Bool.{and_parts, leb-true}
use Rattle.wire_spec.specs.Crc.{crc32_remainder}
use Rattle.gse_spec.specs.Packet.{middle_packet, end_packet}
use Rattle.gse_spec.specs.Written.{label_bytes}
use Rattle.gse_spec.specs.Packing.{packed, first_fragment}
use Rattle.gse_spec.specs.Reassembly.{Pdu}
use Rattle.gse_spec.specs.Examples.{long_pdu, two_classes}
use Rattle.gse_law.specs.Classes.{BeginInOrder}
use Rattle.gse_law.specs.Packed.{AreShortPdus}
use Rattle.gse_law.proofs.BegunPdus.{begin_in_order}
use Rattle.class_law.specs.Yielding.{PacketOrEnd, a_packet, frame_end, YieldsToUrgent}
use Rattle.class_law.specs.Examples.{is_short, written_with, short_after_long, nine_after_long, middle_after_long, whole_of, urgent_last, nine_before_the_rest, fragments_mixed}
use Rattle.class_law.proofs.Obeyed.{yields_to_urgent}
use Rattle.class_law.proofs.Packed.{packed_obeys}
use Rattle.class_law.proofs.Streams.{begun_are}

-- they are short
abbrev is_sent : Pdu → Bool
is_sent pdu = nat_le (length (label_bytes pdu.label)) 6 && nat_le (length pdu.bytes) 65527

pub short_ones : (pdus : List Pdu) → list_all is_sent pdus ≡ true → AreShortPdus pdus
short_ones [] all = tt
short_ones (pdu ∷ pdus) all =
    let parts = and_parts (is_sent pdu) (list_all is_sent pdus) all in
    let both = and_parts (nat_le (length (label_bytes pdu.label)) 6) (nat_le (length pdu.bytes) 65527) parts.0 in
    ((leb-true (length (label_bytes pdu.label)) 6 both.0, leb-true (length pdu.bytes) 65527 both.1), short_ones pdus parts.1)

pub written_yields : (most : ℕ) (pdus : List Pdu) → AreShortPdus pdus → YieldsToUrgent (is_short most) pdus (written_with most pdus)
written_yields most pdus short =
    let all = packed_obeys (is_short most) 290 pdus in
    yields_to_urgent (is_short most) pdus (written_with most pdus)
    (subst (BeginInOrder pdus) (sym (begun_are (packed (is_short most) two_classes (crc32_remainder 0xFFFF_FFFF) 290 pdus)))
    (begin_in_order (is_short most) two_classes 290 (omega arith) pdus short))
    all.0 all.1

-- the rest of an ordinary PDU goes before an urgent one
pub rest_goes_before : ¬ YieldsToUrgent (is_short 100) short_after_long urgent_last
rest_goes_before is =
    let waits = is.waits [] (frame_end ∷ []) (a_packet (whole_of (long_pdu 40)) ∷ frame_end ∷ []) (first_fragment 290 0 (long_pdu 800)) (end_packet 0 [] 0) refl refl refl refl (omega arith) in
    absurd (cc)

-- the eighth begins when eight frames have ended
abbrev urgent_frame : List PacketOrEnd
urgent_frame = a_packet (whole_of (long_pdu 270)) ∷ frame_end ∷ []

pub eighth_begins : ¬ YieldsToUrgent (is_short 270) nine_after_long nine_before_the_rest
eighth_begins is =
    let begins = is.begins [] (frame_end ∷ flat_map (λ (pdu : Pdu). a_packet (whole_of pdu) ∷ frame_end ∷ []) (replicate 7 (long_pdu 270)))
    (frame_end ∷ urgent_frame) (first_fragment 290 0 (long_pdu 600)) (whole_of (long_pdu 270)) refl refl refl refl in
    absurd (omega (arith, begins.1))

-- a fragment of the ordinary PDU stands among those of the urgent one
pub fragment_between : ¬ YieldsToUrgent (is_short 300) middle_after_long fragments_mixed
fragment_between is =
    let next = is.goes_on (a_packet (first_fragment 290 0 (long_pdu 800)) ∷ frame_end ∷ []) (frame_end ∷ []) (a_packet (end_packet 128 [] 0) ∷ frame_end ∷ [])
    (first_fragment 290 128 (long_pdu 300)) (middle_packet 0 []) refl refl refl in
    absurd (cc)
