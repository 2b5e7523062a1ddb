-- Inputs that a run takes to its end, and how it ends then.
use Rattle.std.specs.Prelude.{◌≡◌, ◌⊎◌, ℕ, ◌*◌, ◌<◌, List, length, Some, ⊤}
use Rattle.wire_spec.specs.Causes.{RoseBy}
use Rattle.wire_spec.specs.Lists.{IsCut}
use Rattle.plan_spec.specs.Plan.{PlanFields}
use Rattle.carrier_spec.specs.Stream.{piece_size}
use Rattle.recording_spec.specs.Relayed.{relayed}
use Rattle.recording_reader.specs.Reading.{most_pieces as most_records}
use Rattle.relay_core.specs.Gathering.{FitsCapture}
use Rattle.bridge_spec.specs.Frames.{size_of_piece}
use Rattle.ipencap_engine.specs.World.{World}
use Rattle.ipencap_engine.specs.Jobs.{Job, Intake, no_input, a_capture, a_recording, a_relayed, an_ethernet_capture, an_ethernet_recording, row, IsInputOf}
use Rattle.ipencap_engine.specs.Reads.{TellsNone}
use Rattle.ipencap_engine.specs.Stands.{StandsWhole}
use Rattle.ipencap_engine.specs.declared.status.Status.{Status}
use Rattle.ipencap_engine.specs.declared.status.Status.TheVariants as status

-- the told input is a capture without fault, of datagrams or of Ethernet frames
pub record TellsCapture (intake : Intake) (before : World) : Type 0 where
  pub bytes : List ℕ
  pub told : before.input.left ≡ Some bytes
  pub captured : List (List ℕ)
  pub tells : TellsNone intake bytes captured

-- the told input is these pieces of one size, fewer than 2^32, and after them fewer bytes than one has
pub record TellsFewPieces (size : ℕ) (before : World) (pieces : List (List ℕ)) : Type 0 where
  pub bytes : List ℕ
  pub told : before.input.left ≡ Some bytes
  pub tail : List ℕ
  pub cut : IsCut size bytes pieces tail
  pub fewer : length pieces < most_records

-- a recording of fewer than 2^32 pieces of one size: fewer bytes were taken than these have, or fewer pieces are told
abbrev pub HasFewPieces : ℕ → World → World → Type 0
HasFewPieces size before after =
    (¬ RoseBy before.input.taken after.input.taken (size * most_records)) ⊎ ((pieces : List (List ℕ)) × TellsFewPieces size before pieces)

-- a told recording of fewer than 2^32 pieces, which delivers no more datagrams, and no more bytes of them, than a capture has
pub record RelaysFew (plan : PlanFields) (before : World) : Type 0 where
  pub pieces : List (List ℕ)
  pub few : TellsFewPieces (piece_size plan) before pieces
  pub fits : FitsCapture (relayed plan pieces)

-- what a job reads is a capture without fault, or a recording of fewer than 2^32 pieces
abbrev pub HasInputOf : Intake → PlanFields → World → World → Type 0
HasInputOf no_input plan before after = ⊤
HasInputOf a_capture plan before after = TellsCapture a_capture before
HasInputOf a_recording plan before after = HasFewPieces (piece_size plan) before after
HasInputOf a_relayed plan before after = RelaysFew plan before
HasInputOf an_ethernet_capture plan before after = TellsCapture an_ethernet_capture before
HasInputOf (an_ethernet_recording carrier) plan before after = HasFewPieces (size_of_piece carrier) before after

abbrev pub HasInput : Job → PlanFields → World → World → Type 0
HasInput job plan before after = HasInputOf (row job).intake plan before after

-- the run is done, and where its input is told, all that it makes stands; or memory ran out
abbrev pub IsDone : Job → PlanFields → Status → List ℕ → World → World → Type 0
IsDone job plan end line before after =
    ((end ≡ status.Done) × ((bytes : List ℕ) → IsInputOf (row job).intake before.input.left bytes → StandsWhole job plan bytes status.Done line before after))
    ⊎ (end ≡ status.OutOfMemory)
