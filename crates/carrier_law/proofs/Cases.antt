-- Streams by the carrier of the plan.
use Rattle.std.proofs.Common.{◌≡◌, ℕ, Bool, true, false, List, refl, ap, sym, ◌∙◌}
use Rattle.plan_spec.specs.Plan.{PlanFields, is_baseband}
use Rattle.stream_spec.specs.Stream.{IsStream}
use Rattle.bb_stream_spec.specs.Stream.{IsBasebandStream}
use Rattle.carrier_spec.specs.Stream.{IsSentStream}

-- what holds of either carrier
pub by_carrier : {P : Type 0} (b : Bool) → (b ≡ true → P) → (b ≡ false → P) → P
by_carrier true frames records = frames refl
by_carrier false frames records = records refl

pub in_frames : (plan : PlanFields) (datagrams : ℕ → ℕ → List (List ℕ)) (frames : List (List ℕ)) → is_baseband plan ≡ true
    → IsBasebandStream plan datagrams frames → IsSentStream plan datagrams frames
in_frames plan datagrams frames is stream = record { in_frames = λ e. stream; in_records = λ e. absurd (cc) }

pub in_records : (plan : PlanFields) (datagrams : ℕ → ℕ → List (List ℕ)) (records : List (List ℕ)) → is_baseband plan ≡ false
    → IsStream plan datagrams records → IsSentStream plan datagrams records
in_records plan datagrams records is stream = record { in_frames = λ e. absurd (cc); in_records = λ e. stream }
