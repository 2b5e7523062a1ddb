use Rattle.fec_reception.proofs.Served.{served_frames, served_rows, served_told, served_units, served_numbers}
use Rattle.fec_reception.proofs.laws.a_service_with_frames_is_received_on_its_pid.Goals as goal

pub returns : goal.returns
returns c = record {
  frames = λ ended form it pid rows parity window records is. served_frames it pid rows parity window is ended form records;
  rows = served_rows;
  told = λ ended form it pid rows parity window records is. served_told it pid rows parity window is ended form records;
  units = λ it pid rows parity window records is. served_units it pid rows parity window is records;
  numbers = λ it pid rows parity window records is. served_numbers it pid rows parity window is records;
}
