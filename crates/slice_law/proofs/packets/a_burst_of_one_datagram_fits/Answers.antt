use Rattle.slice_law.proofs.Fits.{fits_window}
use Rattle.slice_law.proofs.packets.a_burst_of_one_datagram_fits.Goals as goal

pub returns : goal.returns
returns c = record { fits = fits_window }
