-- A PDU is received with the packet that ends it.
use Rattle.std.proofs.Common.{ℕ, Bool, true, false, cond, List, [], ◌∷◌, ◌++◌, All, Option, Some, None, refl, ap, ◌∙◌}
use Rattle.std.specs.Prelude.{not}
use Rattle.std.proofs.lemmas.List.{append-nil}
use Rattle.std.proofs.lemmas.List.Elements.{All-nil, All-cons}
use Rattle.gse_spec.specs.Packet.{GsePacket, complete_packet, start_packet, middle_packet, end_packet}
use Rattle.gse_spec.specs.Reassembly.{PlacedPacket, Fragments, with_bytes, latest_first, opened, opened_places, fits, is_late, has_right_total, has_crc, reassembled, no_start, late, wrong_total, wrong_crc, outcome_of_all, outcome_after, PlacedPdu, pdu_of_outcome, pdu_ended, pdu_ended_by, pdus_after}
use Rattle.gse_law.proofs.Steps.{pdus_more}
use Rattle.last_byte_law.specs.Ends.{EndsWith, AddsPdus}

module _ (place frame_number index : ℕ) (id : ℕ) (pdu : List ℕ) (crc : ℕ) where
  abbrev this : PlacedPacket
  this = record { place = place; frame_number = frame_number; index = index; packet = end_packet id pdu crc }

  abbrev AllEnd : List PlacedPdu → Type 0
  AllEnd xs = All (EndsWith this) xs

  none : AllEnd []
  none = All-nil (EndsWith this)

  of_all : (places : List ℕ) (f : Fragments) → AllEnd (pdu_of_outcome place index places (outcome_of_all (with_bytes pdu f) crc))
  of_all places f = by_tests (not (has_right_total (with_bytes pdu f))) (not (has_crc crc (with_bytes pdu f)))
    where
      by_tests : (a b : Bool) → AllEnd (pdu_of_outcome place index places (cond a wrong_total (cond b wrong_crc (reassembled (with_bytes pdu f)))))
      by_tests true b = none
      by_tests false true = none
      by_tests false false =
          All-cons (EndsWith this) _ [] (record { last = refl; place = refl; index = refl; before = f.bytes; bytes_are = refl }) none

  of_open : (places : List ℕ) (o : Option Fragments) → AllEnd (pdu_of_outcome place index places (outcome_after o frame_number pdu crc))
  of_open places None = none
  of_open places (Some f) = by_tests (not (fits f)) (is_late frame_number f)
    where
      by_tests : (a b : Bool) → AllEnd (pdu_of_outcome place index places (cond a no_start (cond b late (outcome_of_all (with_bytes pdu f) crc))))
      by_tests true b = none
      by_tests false true = none
      by_tests false false = of_all places f

pub ended_ends : (before : List PlacedPacket) (place frame_number index : ℕ) (packet : GsePacket)
    → All (EndsWith (record { place = place; frame_number = frame_number; index = index; packet = packet })) (pdu_ended_by before place frame_number index packet)
ended_ends before place frame_number index (complete_packet protocol label pdu) =
    All-cons (EndsWith (record { place = place; frame_number = frame_number; index = index; packet = complete_packet protocol label pdu })) _ []
    (record { last = refl; place = refl; index = refl; before = []; bytes_are = refl })
    (All-nil (EndsWith (record { place = place; frame_number = frame_number; index = index; packet = complete_packet protocol label pdu })))
ended_ends before place frame_number index (start_packet id total protocol label written pdu) =
    All-nil (EndsWith (record { place = place; frame_number = frame_number; index = index; packet = start_packet id total protocol label written pdu }))
ended_ends before place frame_number index (middle_packet id pdu) =
    All-nil (EndsWith (record { place = place; frame_number = frame_number; index = index; packet = middle_packet id pdu }))
ended_ends before place frame_number index (end_packet id pdu crc) =
    of_open place frame_number index id pdu crc (place ∷ opened_places id before) (opened id before)

pub adds_pdus : (packets : List PlacedPacket) (p : PlacedPacket) → AddsPdus packets p
adds_pdus packets p = record {
  pdus = pdu_ended (latest_first [] packets) p;
  added = pdus_more [] packets (p ∷ []) ∙ ap (λ (t : List PlacedPdu). pdus_after [] packets ++ t) (append-nil (pdu_ended (latest_first [] packets) p));
  ends = ended_ends (latest_first [] packets) p.place p.frame_number p.index p.packet;
}
