use Rattle.std.proofs.Common.{List, ℕ, sym, subst}
use Rattle.ts_record.specs.Reading.{lent_seen}
use Rattle.plan_spec.specs.Given.{sample_plan}
use Rattle.reception_spec.specs.Delivered.{told_pairs}
use Rattle.reception_law.proofs.DeliveredPairs.{pairs_more}
use Rattle.sample_command.specs.Counting.{StandsFor}
use Rattle.sample_command.proofs.losses.receive_record.Goals as goal

pub returns-clause-told : goal.returns-clause-told
returns-clause-told c = λ records received told.
    subst (λ (pairs : List (ℕ × List ℕ)). StandsFor c.step_record.new.outlet pairs) (sym (pairs_more sample_plan records (lent_seen c.args.lent)))
    (c.in-Ok.ensures.written sample_plan records received (told_pairs sample_plan records) told)
