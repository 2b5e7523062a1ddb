use Rattle.std.proofs.Common.{ℕ, Option, ap, sym, ◌∙◌}
use Rattle.gse_spec.specs.Reassembly.{Fragments, opened, outcome_after}
use Rattle.gse_spec.specs.Slots.{open_after, still_open}
use Rattle.gse_law.proofs.Steps.{open_more, outcome_still}
use Rattle.gse_reassembly.proofs.laws.slots_stand_for_packets.Goals as goal

pub returns : goal.returns
returns c = record {
  stands = λ old new packets p stands same takes id.
      takes id
      ∙ ap (open_after id old.frame_number p.packet) (stands id)
      ∙ ap (λ (h : ℕ). open_after id h p.packet (still_open id packets)) (sym same)
      ∙ sym (open_more id p.frame_number p.packet (opened id packets));
  outcome = λ state packets id frame_number crc pdu stands.
      ap (λ (o : Option Fragments). outcome_after o frame_number pdu crc) (stands id) ∙ sym (outcome_still (opened id packets) frame_number pdu crc);
}
