-- A reception into files, by what an outlet over the rack was told.
use Rattle.std.proofs.Common.{◌≡◌, ℕ, List, Result}
use Rattle.ipe_io.specs.Told.{InputTold, RackTold}
use Rattle.plan_spec.specs.Plan.{PlanFields}
use Rattle.demux_core.specs.declared.receiver.ByCarrier.{ByCarrier}
use Rattle.recording_reader.specs.declared.fault.ReadFault.{ReadFault}
use Rattle.recording_reception.specs.Reception.{TakesPairs, RefusesAfter, ReceivesPieces}
use Rattle.recording_reception.proofs.Received.{received_as}
use Rattle.capture_files.specs.declared.outlet.Progress.{Progress}
use Rattle.capture_files.specs.declared.outlet.Progress.TheVariants.{Whole}
use Rattle.capture_files.specs.Outlets.{RackSeen, StandsFor, Refuses, failures, WritesAll, WritesPartOf}
use Rattle.capture_files.proofs.Outlets.{seen, BeginsWith, writes_all, part_of}
use Rattle.receive_command.specs.Writing.{WritesPieces}

-- A rack at the end of it, by what an outlet over the rack was told.
module _ (plan : PlanFields) (first : ℕ) (input now : InputTold) (receiver : ByCarrier) (rack had now_rack : RackTold) (began : RackSeen) (now_first : ℕ) (progress : Progress)
    (borrow now_borrow : ℕ) (place : began.first ≡ first) (same : BeginsWith began rack) (is : borrow ≡ now_borrow → now_rack ≡ had) where
  abbrev Before : List (ℕ × List ℕ) → Type 0
  Before = StandsFor began (seen first rack) Whole borrow

  abbrev After : List (ℕ × List ℕ) → Type 0
  After = StandsFor began (seen now_first had) progress now_borrow

  abbrev Fails : ℕ → List ℕ → Type 0
  Fails = Refuses began (seen now_first had) progress

  pub wrote : (result : Result ℕ ReadFault) → ReceivesPieces result plan input now receiver (TakesPairs Before After 0 (failures progress)) (RefusesAfter Before After Fails)
      → WritesPieces result plan first input now rack now_rack receiver
  wrote result has =
      received_as plan input now receiver (TakesPairs Before After 0 (failures progress)) (WritesAll first rack now_rack) (RefusesAfter Before After Fails) (WritesPartOf first rack now_rack)
      (λ pairs took. writes_all began first now_first rack had now_rack progress borrow now_borrow pairs took.kept place same took.delivers is)
      (λ pairs service datagram stop.
      part_of began first now_first rack had now_rack progress borrow now_borrow pairs service datagram place same stop.delivers stop.refuses is) result has
