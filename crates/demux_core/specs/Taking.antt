-- A receiver of transport packets as a taker of records.
use Rattle.std.specs.Prelude.{◌≡◌, ℕ, List, [], ◌∷◌, ◌++◌, length, false}
use Rattle.wire_spec.specs.Causes.{Rose}
use Rattle.ts_spec.specs.Recording.{Record}
use Rattle.plan_spec.specs.Plan.{PlanFields}
use Rattle.reception_spec.specs.Delivered.{told_pairs, pairs_of_record}
use Rattle.outlet_spec.specs.Pairs.{Delivers, DeliversFront}
use Rattle.demux_core.specs.Receiving.{ReceiverState, HasReceived}

-- under this plan the receiver was given these records, and an outlet all that they tell, without a fault
pub record HasTakenRecords (plan : PlanFields) (now : ReceiverState) (old new : List (ℕ × List ℕ) → Type 0) (faults now_faults : ℕ) (records : List Record) : Type 0 where
  pub received : HasReceived false plan records now
  pub delivers : Delivers old new (told_pairs plan records)
  pub outlet_faults : now_faults ≡ faults

-- and the outlet refused a pair that the last of them gives: it stands for all that those before it tell, and for the front of its pairs
pub record HasStoppedInRecord (plan : PlanFields) (now : ReceiverState) (old new : List (ℕ × List ℕ) → Type 0) (refused : ℕ → List ℕ → Type 0) (faults now_faults : ℕ)
    (records : List Record) : Type 0 where
  pub received : HasReceived false plan records now
  pub stops : DeliversFront old new refused (told_pairs plan records)
  pub before : List Record
  pub last : Record
  pub records_are : records ≡ before ++ last ∷ []
  pub front : List (ℕ × List ℕ)
  pub late : stops.front ≡ told_pairs plan before ++ front
  pub gives : pairs_of_record plan (before ++ last ∷ []) (length before) ≡ front ++ (stops.service, stops.datagram) ∷ stops.behind
  pub rose : Rose faults now_faults

-- the same of a receiver that was given nothing before
abbrev pub TookRecords : ReceiverState → ReceiverState → (List (ℕ × List ℕ) → Type 0) → (List (ℕ × List ℕ) → Type 0) → ℕ → ℕ → List Record → Type 0
TookRecords start now old new faults now_faults records = (plan : PlanFields) → HasReceived false plan [] start → HasTakenRecords plan now old new faults now_faults records

abbrev pub StoppedInRecord : ReceiverState → ReceiverState → (List (ℕ × List ℕ) → Type 0) → (List (ℕ × List ℕ) → Type 0) → (ℕ → List ℕ → Type 0) → ℕ → ℕ → List Record → Type 0
StoppedInRecord start now old new refused faults now_faults records =
    (plan : PlanFields) → HasReceived false plan [] start → HasStoppedInRecord plan now old new refused faults now_faults records
