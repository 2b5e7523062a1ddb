-- A receiver of baseband frames, and the frames that it was given.
use Rattle.std.specs.Prelude.{◌≡◌, ℕ, Bool, List, length, slice_get, Some}
use Rattle.plan_spec.specs.Plan.{ServiceFields, PlanFields, isi_of}
use Rattle.bb_reception_spec.specs.Delivered.{service_at}
use Rattle.bb_reception_spec.specs.Numbers.{recording_numbers}
use Rattle.gse_reception.specs.Reception.{HasTaken}
use Rattle.loss_report.specs.declared.counts.StreamCounts.{StreamCounts}
use Rattle.bb_demux.specs.Counts.{stream_counts_of}
use Rattle.bb_demux.specs.declared.services.IsiReceiver.{IsiReceiver}

-- a receiver: its plan, whether it may be given frames, what it has counted of the recording, and the receivers of each service
pub record BbReceiverState : Type 0 where
  pub plan : PlanFields
  pub is_open : Bool
  pub stream : StreamCounts
  pub services : List IsiReceiver

-- the receiver of a service is on its ISI, and has received what these frames have of it
pub record IsOn (it : ServiceFields) (receiver : IsiReceiver) (frames : List (List ℕ)) : Type 0 where
  pub isi_is : isi_of it.kind ≡ Some receiver.isi
  pub taken : HasTaken it receiver.reception frames

-- each service of a plan has its receiver, and all were given these frames
pub record AreOn (plan : PlanFields) (receivers : List IsiReceiver) (frames : List (List ℕ)) : Type 0 where
  pub count_is : length receivers ≡ length plan.services
  pub each : (k : ℕ) (receiver : IsiReceiver) → slice_get receivers k ≡ Some receiver → IsOn (service_at plan k) receiver frames

-- the receiver was given these frames under this plan. The end of a recording gives nothing: fragments without a last one carry no PDU
pub record HasReceived (plan : PlanFields) (frames : List (List ℕ)) (receiver : BbReceiverState) : Type 0 where
  pub plan_is : receiver.plan ≡ plan
  pub stream : receiver.stream ≡ stream_counts_of (recording_numbers plan frames)
  pub all : AreOn plan receiver.services frames
