use Rattle.slice_law.proofs.Segments.{times_of-append}
use Rattle.slice_law.proofs.parts.bursts_of_parts_are_those_of_the_whole.Goals as goal

pub returns : goal.returns
returns c = record { whole = times_of-append }
