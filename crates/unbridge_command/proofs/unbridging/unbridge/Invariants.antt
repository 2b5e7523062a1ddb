-- The outlet begins with the rack that has the file.
use Rattle.unbridge_command.proofs.unbridging.unbridge.Given as goal

abbrev pub ghosts-write_frames : goal.ghosts-write_frames
ghosts-write_frames g a = record {
  first = a.at;
  count = (g.R.Rack.told a.rack.now).count;
  faults = (g.R.Rack.told a.rack.now).faults;
  files = (g.R.Rack.told a.rack.now).files;
}
