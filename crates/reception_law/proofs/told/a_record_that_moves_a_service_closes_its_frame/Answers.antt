use Rattle.reception_law.proofs.WhatIsTold.{move_gives, closed_stays}
use Rattle.reception_law.proofs.told.a_record_that_moves_a_service_closes_its_frame.Goals as goal

pub returns : goal.returns
returns c = record { given = move_gives; same = closed_stays }
