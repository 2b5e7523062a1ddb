-- What a run is: all that the top call promises, by what the objects tell before and after. The settings are those that the shelf knows after it: what it
-- knew before, and what the run loaded.
use Rattle.std.specs.Prelude.{◌≡◌, ℕ, ◌<◌, true, false, List, length}
use Rattle.ts_spec.specs.Recording.{Record}
use Rattle.plan_spec.specs.Plan.{PlanFields, is_baseband}
use Rattle.reception_spec.specs.Delivered.{delivered_of}
use Rattle.bb_reception_spec.specs.Delivered.{delivered_of as delivered_of_frames}
use Rattle.loss_law.specs.Isolation.{SameForService}
use Rattle.bb_loss_law.specs.Plans.{SameFramesFor}
use Rattle.recording_spec.specs.Pieces.{records_in}
use Rattle.bridge_spec.specs.Frames.{BridgeCarrier}
use Rattle.unbridge_command.specs.Unbridging.{bridge_capture, AddsBridge}
use Rattle.ipencap_engine.specs.World.{World, Object}
use Rattle.ipencap_engine.specs.Jobs.{Job, row, may_end, may_use, IsPlanOf, IsInputOf}
pub use Rattle.ipencap_engine.specs.Settings.{JudgesSettings}
pub use Rattle.ipencap_engine.specs.Counts.{KeepsShelf, CountsFaults}
pub use Rattle.ipencap_engine.specs.Reads.{Reads}
use Rattle.ipencap_engine.specs.Stands.{Stands, LacksMemory}
pub use Rattle.ipencap_engine.specs.Lines.{IsLine}
pub use Rattle.ipencap_engine.specs.Laws.{TellsRecording, TellsRelayed, TellsFrames}
use Rattle.ipencap_engine.specs.Laws.{AddsDelivered, HasWholeFiles, DeliversArrived, DeliversKept, Arrives, RelaysDelivered, FramesArrive, SameOnCarrier}
use Rattle.ipencap_engine.specs.declared.status.Status.{Status}
use Rattle.ipencap_engine.specs.declared.status.Status.TheVariants as status

-- The fifteen promises; `same` says of an object that it is the very one from before.
pub record Runs (job : Job) (end : Status) (line : List ℕ) (before after : World) (same : Object → Type 0) : Type 0 where
  -- the job ends with one of its statuses
  pub ends : may_end job end ≡ true
  -- Settings come only where the settings are refused, and these end the job; what comes after them, they are known at
  pub settings : JudgesSettings job end after.shelf same
  -- what a job that ends so does not use is the same
  pub unused : (object : Object) → may_use job end object ≡ false → same object
  -- each fault has its cause, and no fault is passed over
  pub counts : CountsFaults job end before after
  -- how much was read
  pub reads : Reads (row job).intake job end before after
  -- what stands, where settings and input are told
  pub stands : (plan : PlanFields) (bytes : List ℕ) → IsPlanOf job after.shelf plan → IsInputOf (row job).intake before.input.left bytes
      → Stands job plan bytes end line before after
  -- what stands where memory ran out, where the settings, if it has any, are told
  pub memory : (plan : PlanFields) → IsPlanOf job after.shelf plan → end ≡ status.OutOfMemory → LacksMemory job plan before after
  -- the line that is reported
  pub line_is : IsLine job end line before after
  -- the loss law, of each service by itself: it delivers what arrived intact, whatever became of the records that were sent
  pub loss : (plan : PlanFields) (pieces : List (List ℕ)) → TellsRecording job before after plan pieces → is_baseband plan ≡ false
      → Arrives plan (DeliversArrived plan pieces) end before after
  -- the same of baseband frames
  pub loss_in_frames : (plan : PlanFields) (frames : List (List ℕ)) → TellsRecording job before after plan frames → is_baseband plan ≡ true
      → Arrives plan (DeliversKept plan frames) end before after
  -- isolation: no service's file depends on packets that are not on its PIDs, but where the plan changes on the bytes of the INT's; nor on
  -- moments, but with time slicing on those of the packets on its PIDs
  pub isolation : (plan : PlanFields) (pieces : List (List ℕ)) → TellsRecording job before after plan pieces → is_baseband plan ≡ false → (recordings : ℕ → List Record)
      → ((k : ℕ) → k < length plan.services → SameForService plan k (records_in plan pieces) (recordings k)) → HasWholeFiles end
      → AddsDelivered plan (λ k. delivered_of plan k (recordings k)) before after
  -- and none on frames that are refused, or not of its ISI
  pub isolation_in_frames : (plan : PlanFields) (frames : List (List ℕ)) → TellsRecording job before after plan frames → is_baseband plan ≡ true
      → (recordings : ℕ → List (List ℕ)) → ((k : ℕ) → k < length plan.services → SameFramesFor plan k frames (recordings k)) → HasWholeFiles end
      → AddsDelivered plan (λ k. delivered_of_frames plan k (recordings k)) before after
  -- the loss law of what a relay reads, on either carrier: all that it sends on is what its services deliver
  pub loss_of_relay : (plan : PlanFields) (pieces : List (List ℕ)) → TellsRelayed job before after plan pieces → RelaysDelivered plan pieces job end before after
  -- the loss law of Ethernet frames in SNDUs or PDUs: those received are what arrived intact of those sent
  pub loss_of_ethernet_frames : (carrier : BridgeCarrier) (pieces : List (List ℕ)) → TellsFrames job before carrier pieces → FramesArrive carrier pieces end before after
  -- and they don't depend on what other PIDs or ISIs carry
  pub isolation_of_ethernet_frames : (carrier : BridgeCarrier) (pieces others : List (List ℕ)) → TellsFrames job before carrier pieces → SameOnCarrier carrier pieces others
      → end ≡ status.Done → AddsBridge true (bridge_capture carrier others) before.rack.files after.rack.files
