-- A reception into files.
use Rattle.std.specs.Prelude.{ℕ, Result}
use Rattle.ipe_io.specs.Told.{InputTold, RackTold}
use Rattle.plan_spec.specs.Plan.{PlanFields}
use Rattle.demux_core.specs.declared.receiver.ByCarrier.{ByCarrier}
use Rattle.recording_reader.specs.declared.fault.ReadFault.{ReadFault}
use Rattle.recording_reception.specs.Reception.{ReceivesPieces}
use Rattle.capture_files.specs.Outlets.{WritesAll, WritesPartOf}

-- a recording was received into files, the first of them at a place
abbrev pub WritesPieces : Result ℕ ReadFault → PlanFields → ℕ → InputTold → InputTold → RackTold → RackTold → ByCarrier → Type 0
WritesPieces result plan first input now rack now_rack receiver =
    ReceivesPieces result plan input now receiver (WritesAll first rack now_rack) (WritesPartOf first rack now_rack)
