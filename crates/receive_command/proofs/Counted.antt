-- What a receiver of either carrier answers, in the words of the pieces that it was given.
use Rattle.std.proofs.Common.{◌≡◌, ℕ, Bool, true, List, refl, ap, ◌∙◌, Option, None, Some}
use Rattle.std.specs.Prelude.{is_some}
use Rattle.plan_spec.specs.Plan.{PlanFields, is_baseband}
use Rattle.demux_core.specs.Carriers.{plan_of, HasReceivedPackets, HasReceivedFrames}
use Rattle.demux_core.specs.declared.receiver.ByCarrier.{ByCarrier}
use Rattle.recording_spec.specs.Pieces.{by_carrier, records_in}
use Rattle.recording_reception.specs.Reception.{IsGivenOn, IsGiven}
use Rattle.recording_reception.proofs.Begun.{plan_of_frames}

-- what it answers of packets, and of frames
pub answered : {X : Type 0} (ended : Bool) (plan : PlanFields) (pieces : List (List ℕ)) (receiver : ByCarrier) (answer of_packets of_frames : X)
    → IsGiven ended plan pieces receiver
    → (HasReceivedPackets ended plan (records_in plan pieces) receiver → answer ≡ of_packets)
    → (HasReceivedFrames plan pieces receiver → is_baseband (plan_of receiver) ≡ true → answer ≡ of_frames)
    → answer ≡ by_carrier plan.frame_bytes of_packets of_frames
answered ended plan pieces receiver answer of_packets of_frames given packets frames = on plan.frame_bytes refl given
  where
    on : (carrier : Option ℕ) → plan.frame_bytes ≡ carrier → IsGivenOn carrier ended plan pieces receiver → answer ≡ by_carrier carrier of_packets of_frames
    on None is has = packets has
    on (Some bytes) is has = frames has (ap is_baseband (plan_of_frames receiver plan pieces has) ∙ ap is_some is)
