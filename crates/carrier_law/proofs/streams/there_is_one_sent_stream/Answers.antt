use Rattle.std.proofs.Common.{◌≡◌, ℕ, true, List}
use Rattle.plan_spec.specs.Plan.{PlanFields, is_baseband}
use Rattle.carrier_spec.specs.Stream.{IsSentStream}
use Rattle.carrier_law.proofs.Pids.{on_pids}
use Rattle.carrier_law.proofs.Cases.{by_carrier, in_frames, in_records}
use Rattle.carrier_law.proofs.streams.there_is_one_sent_stream.Goals as goal

pub returns-clause-is : goal.returns-clause-is
returns-clause-is c = λ plan datagrams whole.
    by_carrier (is_baseband plan)
    (λ is. let found = c.there_is_one_baseband_stream.ensures.is plan datagrams whole is in (found.0, in_frames plan datagrams found.0 is found.1))
    (λ is. let found = c.there_is_one_stream.ensures.is plan datagrams whole (on_pids plan whole is) in (found.0, in_records plan datagrams found.0 is found.1))

pub returns-clause-one : goal.returns-clause-one
returns-clause-one c = λ plan datagrams a b of_a of_b.
    by_carrier (is_baseband plan)
    (λ is. c.there_is_one_baseband_stream.ensures.one plan datagrams a b (of_a.in_frames is) (of_b.in_frames is))
    (λ is. c.there_is_one_stream.ensures.one plan datagrams a b (of_a.in_records is) (of_b.in_records is))
