use Rattle.reception_law.proofs.WhatIsTold.{told_by_other, given_by_other, off_added}
use Rattle.reception_law.proofs.told.other_records_tell_nothing.Goals as goal

pub returns : goal.returns
returns c = record { told = told_by_other; given = given_by_other; added = off_added }
