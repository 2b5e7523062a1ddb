-- A stream of baseband frames and its recordings as bytes.
use Rattle.std.specs.Prelude.{◌≡◌, ℕ, ◌<◌, List, length}
use Rattle.wire_spec.specs.Lists.{IsCut}
use Rattle.plan_spec.specs.Plan.{PlanFields}
use Rattle.carrier_spec.specs.Stream.{piece_size}
use Rattle.bb_reception_spec.specs.Delivered.{delivered_of}
use Rattle.bb_loss_law.specs.Plans.{IsRecordedInFramesFor}

-- the bytes are cut into frames, with fewer bytes than one has after them, and these are a recording of what was sent as service k
-- asks it
pub record IsRecordingOfFramesFor (plan : PlanFields) (k : ℕ) (sent : List (List ℕ)) (bytes : List ℕ) : Type 0 where
  pub pieces : List (List ℕ)
  pub tail : List ℕ
  pub cut : IsCut (piece_size plan) bytes pieces tail
  pub is_recorded : IsRecordedInFramesFor plan k sent pieces

-- of these bytes each service delivers these datagrams
pub record DeliversOfFrames (plan : PlanFields) (bytes : List ℕ) (delivered : ℕ → List (List ℕ)) : Type 0 where
  pub pieces : List (List ℕ)
  pub tail : List ℕ
  pub cut : IsCut (piece_size plan) bytes pieces tail
  pub each : (k : ℕ) → k < length plan.services → delivered k ≡ delivered_of plan k pieces
