use Rattle.fec_frame_law.proofs.Corrected.{row_done, row_left, row_has_data}
use Rattle.fec_frame_law.proofs.decoded_rows_are_corrected.Goals as goal

pub returns : goal.returns
returns c = record { done = row_done; left = row_left; has_data = row_has_data }
