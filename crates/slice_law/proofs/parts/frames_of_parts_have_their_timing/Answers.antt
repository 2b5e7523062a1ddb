use Rattle.slice_law.proofs.Segments.{has_front, has_rest}
use Rattle.slice_law.proofs.parts.frames_of_parts_have_their_timing.Goals as goal

pub returns-clause-front : goal.returns-clause-front
returns-clause-front c = has_front

pub returns-clause-rest : goal.returns-clause-rest
returns-clause-rest c = has_rest
