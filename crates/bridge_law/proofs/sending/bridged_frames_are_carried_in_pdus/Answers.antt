use Rattle.std.proofs.Common.{◌∙◌, List, [], map, flat_map, ap, sym, subst, arith}
use Rattle.gse_spec.specs.Reassembly.{Pdu}
use Rattle.gse_spec.specs.Received.{delivered_by_pdu}
use Rattle.bridge_spec.specs.Frames.{on_isi, frame_of_pdu}
use Rattle.bridge_spec.specs.Sending.{pdu_with_frame, bridged_pieces}
use Rattle.bridge_spec.specs.Carried.{CarriesOnIsi}
use Rattle.bridge_law.proofs.Pdus.{pdus_carry, pdus_sendable}
use Rattle.bridge_law.proofs.sending.bridged_frames_are_carried_in_pdus.Goals as goal

pub returns : goal.returns
returns c = record {
  each = pdus_carry;
  carried = λ isi frames rooms.
      let pdus : List Pdu = map pdu_with_frame frames in
      let sendable = pdus_sendable isi frames rooms in
      subst (CarriesOnIsi isi (bridged_pieces (on_isi isi) frames))
      (ap (flat_map frame_of_pdu)
      (sym (c.packed_frames_give_the_pdus.ensures.given [] isi 2000 pdus (omega arith) (omega arith) sendable)
      ∙ c.packed_frames_give_the_pdus.ensures.in_order isi 2000 pdus (omega arith) (omega arith) sendable)
      ∙ pdus_carry isi frames rooms)
      (c.packed_frames_carry_the_datagrams.ensures.carried frame_of_pdu [] isi 2000 pdus (omega arith) (omega arith) sendable);
  back = λ isi frames rooms.
      c.the_pdus_say_what_is_delivered.ensures.delivered frame_of_pdu [] isi (bridged_pieces (on_isi isi) frames)
      ∙ ap (flat_map (delivered_by_pdu frame_of_pdu []))
      (c.packed_frames_give_the_pdus.ensures.in_order isi 2000 (map pdu_with_frame frames) (omega arith) (omega arith) (pdus_sendable isi frames rooms))
      ∙ pdus_carry isi frames rooms;
}
