-- What a joiner's value tells of its parts.
use Rattle.std.proofs.Common.{◌≡◌, ℕ, List, refl, Option}
use Rattle.reassembly_law.specs.UnderWay.{Open}
use Rattle.unit_stream.specs.Joining.{Place, drained}
use Rattle.unit_stream.specs.States.{rest_of, opens_in, ended_state, state_in}
use Rattle.unit_stream.specs.Steps.{IsDrained, IsPastOutcome}
use Rattle.unit_stream.specs.declared.joining.Position.{Position}
use Rattle.unit_stream.specs.declared.joining.UnderWay.{UnderWay}
use Rattle.unit_stream.specs.declared.joining.Ended.{Ended}
use Rattle.unit_stream.specs.declared.joining.Ended.TheVariants as how
use Rattle.unit_stream.specs.declared.joining.State.{State}
use Rattle.unit_stream.specs.declared.joining.State.TheVariants as now

-- a value with all events given is that of a state with all events given
pub drained_is : (state : State) (buffer : List ℕ) (units : List Open) → state_in state buffer ≡ drained units
    → (under_way : Option UnderWay) × (state ≡ now.Drained under_way)
drained_is (now.Drained under_way) buffer units e = (under_way, refl)
drained_is (now.Reading position) buffer units e = absurd (cc)
drained_is (now.Ended way rest) buffer units e = absurd (not_drained way (rest_of rest) e)
  where
    not_drained : (way : Ended) (rest : Option Place) → ended_state way rest buffer ≡ drained units → ⊥
    not_drained (how.Unit unit) rest e2 = cc
    not_drained how.Delimit rest e2 = cc
    not_drained how.BadLength rest e2 = cc

-- where no outcome and no place is left, all events are given
pub drained_unless_reading : (state : State) (buffer : List ℕ) → ((position : Position) → state ≡ now.Reading position → ⊥)
    → IsPastOutcome (state_in state buffer) → IsDrained (state_in state buffer)
drained_unless_reading (now.Drained under_way) buffer apart past = (opens_in under_way buffer, refl)
drained_unless_reading (now.Reading position) buffer apart past = absurd (apart position refl)
drained_unless_reading (now.Ended (how.Unit unit) rest) buffer apart past = absurd past
drained_unless_reading (now.Ended how.Delimit rest) buffer apart past = absurd past
drained_unless_reading (now.Ended how.BadLength rest) buffer apart past = absurd past
