use Rattle.fec_frame_law.proofs.Corrected.{corrected_is, corrected_there, byte_at}
use Rattle.fec_frame_law.proofs.a_corrected_row_is_the_codeword_that_agrees.Goals as goal

pub returns : goal.returns
returns c = record {
  agrees = λ rows known r code. (corrected_is rows known r code, corrected_there rows known r code);
  bytes = byte_at;
}
