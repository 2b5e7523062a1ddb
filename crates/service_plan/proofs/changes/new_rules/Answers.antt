use Rattle.service_plan.proofs.ChangeLemmas.{new_are, old_are}
use Rattle.service_plan.proofs.changes.new_rules.Goals as goal

pub returns-in_ok-read-in-Some : goal.returns-in_ok-read-in-Some
returns-in_ok-read-in-Some c = record { read = rw c.in-Some.is (new_are _ _ _ _ c.in_ok-read-in-Some.ensures.spelled c.in_ok-read-in-Some.ensures.only) }

pub returns-in_ok-old-in-None : goal.returns-in_ok-old-in-None
returns-in_ok-old-in-None c = record { read = rw c.in-None.is (old_are _ _ c.in_ok-old-in-None.ensures) }
