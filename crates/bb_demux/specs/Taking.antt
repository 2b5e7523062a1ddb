-- A receiver of baseband frames as a taker of records: each record is a frame of a plain recording.
use Rattle.std.specs.Prelude.{◌≡◌, ℕ, List, [], ◌∷◌, ◌++◌, length, map}
use Rattle.wire_spec.specs.Causes.{Rose}
use Rattle.ts_spec.specs.Recording.{Record}
use Rattle.plan_spec.specs.Plan.{PlanFields}
use Rattle.bb_reception_spec.specs.Delivered.{delivered_pairs, pairs_of_frame}
use Rattle.outlet_spec.specs.Pairs.{Delivers, DeliversFront}
use Rattle.bb_demux.specs.Receiving.{BbReceiverState, HasReceived}

-- the frames of these records
abbrev pub frames_in : List Record → List (List ℕ)
frames_in records = map (λ (r : Record). r.bytes) records

-- under this plan the receiver was given these frames, and an outlet all that they deliver, without a fault
pub record HasTakenFrames (plan : PlanFields) (now : BbReceiverState) (old new : List (ℕ × List ℕ) → Type 0) (faults now_faults : ℕ) (frames : List (List ℕ)) : Type 0 where
  pub received : HasReceived plan frames now
  pub delivers : Delivers old new (delivered_pairs plan frames)
  pub outlet_faults : now_faults ≡ faults

-- and the outlet refused a pair that the last of them gives: it stands for all that those before it give, and for the front of its pairs
pub record HasStoppedInFrame (plan : PlanFields) (now : BbReceiverState) (old new : List (ℕ × List ℕ) → Type 0) (refused : ℕ → List ℕ → Type 0) (faults now_faults : ℕ)
    (frames : List (List ℕ)) : Type 0 where
  pub received : HasReceived plan frames now
  pub stops : DeliversFront old new refused (delivered_pairs plan frames)
  pub before : List (List ℕ)
  pub last : List ℕ
  pub frames_are : frames ≡ before ++ last ∷ []
  pub front : List (ℕ × List ℕ)
  pub late : stops.front ≡ delivered_pairs plan before ++ front
  pub gives : pairs_of_frame plan (before ++ last ∷ []) (length before) ≡ front ++ (stops.service, stops.datagram) ∷ stops.behind
  pub rose : Rose faults now_faults

-- the same of a receiver that was given nothing before
abbrev pub TookFrames : BbReceiverState → BbReceiverState → (List (ℕ × List ℕ) → Type 0) → (List (ℕ × List ℕ) → Type 0) → ℕ → ℕ → List Record → Type 0
TookFrames start now old new faults now_faults records = (plan : PlanFields) → HasReceived plan [] start → HasTakenFrames plan now old new faults now_faults (frames_in records)

abbrev pub StoppedInFrame : BbReceiverState → BbReceiverState → (List (ℕ × List ℕ) → Type 0) → (List (ℕ × List ℕ) → Type 0) → (ℕ → List ℕ → Type 0) → ℕ → ℕ → List Record → Type 0
StoppedInFrame start now old new refused faults now_faults records =
    (plan : PlanFields) → HasReceived plan [] start → HasStoppedInFrame plan now old new refused faults now_faults (frames_in records)
