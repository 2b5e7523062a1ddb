use Rattle.reception_law.proofs.WhatIsTold.{told_by_record, record_gives, given_stays, given_moves}
use Rattle.reception_law.proofs.told.a_record_tells_datagrams_on_the_pid_in_force.Goals as goal

pub returns : goal.returns
returns c = record { told = told_by_record; given = record_gives; stays = given_stays; moves = given_moves }
