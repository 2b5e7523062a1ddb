use Rattle.std.proofs.Common.{ℕ, List, [], ap, sym, ◌∙◌, subst}
use Rattle.wire_spec.specs.Lists.{IsCut}
use Rattle.bridge_spec.specs.Frames.{BridgeCarrier, size_of_piece, received_ethernet_frames}
use Rattle.bridge_spec.specs.Sending.{frames_to_carry, bridged_pieces}
use Rattle.ipencap_engine.specs.Jobs.{bridge_carrier}
use Rattle.two_runs_law.proofs.Bridges.{AddsFrames, unbridged, has_bits, on_carrier, all_back, arrived, intact}
use Rattle.two_runs_law.proofs.bridged.what_arrives_of_a_bridge.Goals as goal

pub returns : goal.returns
returns c = record {
  arrives = λ on capture bytes recording files bridges unbridges.
      let over : BridgeCarrier = bridge_carrier on in
      let is = c.what_a_bridge_puts_out.ensures.bytes on capture bytes bridges in
      let frames : List (List ℕ) = frames_to_carry over is.captured in
      let room = c.frames_to_carry_have_room.ensures.room over is.captured in
      let bits = has_bits on bridges.words bridges.asked in
      let cut : IsCut (size_of_piece over) bytes (bridged_pieces over frames) [] =
      subst (λ (b : List ℕ). IsCut (size_of_piece over) b (bridged_pieces over frames) []) (sym is.bytes_are)
      (c.a_bridged_stream_is_cut_into_its_pieces.ensures.cut over frames room) in
      let adds : AddsFrames over recording files = unbridged on recording files unbridges in (
        is,
        record {
          cut = cut;
          carries = on_carrier over frames bits room c.bridged_frames_are_carried_in_sndus.ensures.carried c.bridged_frames_are_carried_in_pdus.ensures.carried;
          pieces = adds.pieces;
          tail = adds.tail;
          cut_again = adds.cut;
          files_are = adds.files_are;
          intact = intact over adds.pieces;
          arrived = arrived over adds.pieces;
          all = λ same.
              ap (received_ethernet_frames over)
              (c.cuts_are_unique.ensures.pieces (size_of_piece over) bytes adds.pieces (bridged_pieces over frames) adds.tail []
              (subst (λ (b : List ℕ). IsCut (size_of_piece over) b adds.pieces adds.tail) same adds.cut) cut)
              ∙ all_back over frames bits room c.bridged_frames_are_carried_in_sndus.ensures.back c.bridged_frames_are_carried_in_pdus.ensures.back;
        },
      );
}
