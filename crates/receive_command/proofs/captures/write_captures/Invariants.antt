-- The outlet begins with the rack that has the files.
use Rattle.receive_command.proofs.captures.write_captures.Given as goal

abbrev pub ghosts-write_pieces : goal.ghosts-write_pieces
ghosts-write_pieces g a = record {
  first = a.first;
  count = (g.R.Rack.told a.rack.now).count;
  faults = (g.R.Rack.told a.rack.now).faults;
  files = (g.R.Rack.told a.rack.now).files;
}
