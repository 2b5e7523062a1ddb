-- What a command that receives ensures, by its answer: one record, a field a sentence.
use Rattle.std.specs.Prelude.{◌≡◌, ◌⊎◌, ℕ, ◌+◌, ◌*◌, ◌≤◌, true, List, length, Result, Ok, Err, OnErr, IsErrOf, ⊤}
use Rattle.wire_spec.specs.Causes.{raised}
use Rattle.wire_spec.specs.Content.{Stays}
use Rattle.ipe_io.specs.Told.{InputTold, RackTold, OutputTold}
use Rattle.ipe_io.specs.Counts.{IsFlushed}
use Rattle.plan_spec.specs.Plan.{PlanFields}
use Rattle.carrier_spec.specs.Stream.{piece_size}
use Rattle.demux_core.specs.declared.receiver.ByCarrier.{ByCarrier}
use Rattle.capture_files.specs.declared.faults.ReceiveFault.{ReceiveFault}
use Rattle.capture_files.specs.declared.faults.ReceiveFault.TheVariants as fault
use Rattle.capture_files.specs.Faults.{Blames}
use Rattle.capture_files.specs.Files.{AddsHeads}
use Rattle.recording_reader.specs.Reading.{most_pieces}
use Rattle.receive_command.specs.Ends.{WritesWhole, EndsWhole, EndsFront, EndsAtLimit, EndsInFiles, EndsReported, EndsInReport, Reports, ReportsPart}
use Rattle.recording_reader.specs.Taken.{TakesAllOf, TakesFrontOf, TakesMostOf}
use Rattle.recording_reception.specs.Reception.{IsGiven}

-- the rack has a file more for each service
abbrev pub HasAllFiles : PlanFields → RackTold → RackTold → Type 0
HasAllFiles plan rack now = now.count ≡ rack.count + length plan.services

-- it has no more than those
abbrev pub HasMostFiles : PlanFields → RackTold → RackTold → Type 0
HasMostFiles plan rack now = now.count ≤ rack.count + length plan.services

-- it has those of fewer than all, with their heads
pub record HasHeads (plan : PlanFields) (rack now : RackTold) : Type 0 where
  pub heads : AddsHeads plan.services rack.files now.files
  pub many : now.count ≡ rack.count + heads.count

-- How a recording is received into files, by the answer; where all is done, or memory runs out, or an output fails, as the command has it.
abbrev pub ReceiveEnds : {T : Type 0} → Result T ReceiveFault → PlanFields → InputTold → InputTold → RackTold → RackTold → (Done : T → Type 0) → (LacksMemory Fails : Type 0) → Type 0
ReceiveEnds (Ok it) plan input now rack now_rack Done LacksMemory Fails = Done it × HasAllFiles plan rack now_rack × TakesAllOf (piece_size plan) input now
ReceiveEnds (Err fault.Source) plan input now rack now_rack Done LacksMemory Fails =
    EndsFront plan input.left now.left rack.files now_rack.files × HasAllFiles plan rack now_rack × TakesFrontOf (piece_size plan) input now
ReceiveEnds (Err fault.TooLong) plan input now rack now_rack Done LacksMemory Fails =
    EndsAtLimit plan input.left now.left rack.files now_rack.files × HasAllFiles plan rack now_rack × (now.taken ≡ raised input.taken (piece_size plan * most_pieces))
ReceiveEnds (Err fault.Rack) plan input now rack now_rack Done LacksMemory Fails =
    EndsInFiles plan input.left now.left rack.files now_rack.files × HasMostFiles plan rack now_rack × TakesMostOf (piece_size plan) input now
ReceiveEnds (Err fault.OutOfMemory) plan input now rack now_rack Done LacksMemory Fails = LacksMemory
ReceiveEnds (Err fault.Sink) plan input now rack now_rack Done LacksMemory Fails = Fails

pub record ReceivesInto {T : Type 0} (result : Result T ReceiveFault) (plan : PlanFields) (input now : InputTold) (rack now_rack : RackTold) (Done : T → Type 0) (LacksMemory Fails : Type 0) : Type 0 where
  pub ends : ReceiveEnds result plan input now rack now_rack Done LacksMemory Fails
  pub input_faults : Blames result fault.Source input.faults now.faults
  pub rack_faults : Blames result fault.Rack rack.faults now_rack.faults

-- the captures alone: a receiver has all pieces, and the answer is how many bytes are after the last; where memory runs out nothing is
-- read, and the heads of fewer than all files stand
abbrev pub Captures : Result ℕ ReceiveFault → PlanFields → InputTold → InputTold → RackTold → RackTold → ByCarrier → (Unread : Type 0) → Type 0
Captures result plan input now rack now_rack receiver Unread =
    ReceivesInto result plan input now rack now_rack
    (λ tail. WritesWhole plan (λ pieces. IsGiven true plan pieces receiver) input.left now.left rack.files now_rack.files tail)
    (Unread × HasHeads plan rack now_rack) ⊥

-- the captures alone, where all memory is taken before anything is read or added
abbrev pub ReceivesFiles : Result ⊤ ReceiveFault → PlanFields → InputTold → InputTold → RackTold → RackTold → (Unread : Type 0) → Type 0
ReceivesFiles result plan input now rack now_rack Unread =
    ReceivesInto result plan input now rack now_rack
    (λ done. EndsWhole plan input.left now.left rack.files now_rack.files)
    (Unread × (now_rack.count ≡ rack.count) × Stays rack.files now_rack.files) ⊥

-- the input was read to its end, and all files are whole, flushed, and there
abbrev pub TakesWhole : PlanFields → InputTold → InputTold → RackTold → RackTold → Type 0
TakesWhole plan input now rack now_rack =
    EndsWhole plan input.left now.left rack.files now_rack.files × HasAllFiles plan rack now_rack × TakesAllOf (piece_size plan) input now

-- the captures, and then the report on an output: without it, where memory runs out after the captures; part of it, where the output fails
pub record Receives (result : Result ⊤ ReceiveFault) (plan : PlanFields) (input now : InputTold) (rack now_rack : RackTold) (output now_output : OutputTold) (Unread Silent : Type 0) : Type 0 where
  pub into : ReceivesInto result plan input now rack now_rack
      (λ done. EndsReported plan input.left now.left rack.files now_rack.files output.held now_output.held × IsFlushed now_output.held now_output.flushed)
      ((Unread × HasHeads plan rack now_rack) ⊎ TakesWhole plan input now rack now_rack)
      (EndsInReport plan input.left now.left rack.files now_rack.files output.held now_output.held × Stays output.flushed now_output.flushed
      × HasAllFiles plan rack now_rack × TakesAllOf (piece_size plan) input now)
  pub unchanged : ¬ IsErrOf result fault.Sink → OnErr result Silent
  pub output_faults : Blames result fault.Sink output.faults now_output.faults

-- A report is put on an output, by the answer: the text is so; nothing is written where memory runs out.
abbrev pub PutEnds : Result ⊤ ReceiveFault → (IsText : List ℕ → Type 0) → OutputTold → OutputTold → (Silent : Type 0) → Type 0
PutEnds (Ok done) IsText output now Silent = Reports IsText output.held now.held × IsFlushed now.held now.flushed
PutEnds (Err fault.Sink) IsText output now Silent = ReportsPart IsText output.held now.held × Stays output.flushed now.flushed
PutEnds (Err fault.OutOfMemory) IsText output now Silent = Silent
PutEnds (Err fault.Source) IsText output now Silent = ⊥
PutEnds (Err fault.Rack) IsText output now Silent = ⊥
PutEnds (Err fault.TooLong) IsText output now Silent = ⊥

pub record PutsReport (result : Result ⊤ ReceiveFault) (IsText : List ℕ → Type 0) (output now : OutputTold) (Silent : Type 0) : Type 0 where
  pub ends : PutEnds result IsText output now Silent
  pub output_faults : Blames result fault.Sink output.faults now.faults
