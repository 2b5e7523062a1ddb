use Rattle.stream_law.proofs.Fitting.{offered_fit}
use Rattle.stream_law.proofs.slots.offered_bursts_fit_their_windows.Goals as goal

pub returns : goal.returns
returns c = record { fit = λ plan whole gives are k. offered_fit plan whole gives are k }
