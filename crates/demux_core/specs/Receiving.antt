-- A receiver, and the records that it was given.
use Rattle.std.specs.Prelude.{◌≡◌, Bool, List, Option}
use Rattle.ts_spec.specs.Recording.{Record}
use Rattle.plan_spec.specs.Plan.{PlanFields}
use Rattle.reception_spec.specs.Sums.{stream_numbers}
use Rattle.loss_report.specs.declared.counts.StreamCounts.{StreamCounts}
use Rattle.demux_core.specs.Counts.{stream_counts_of}
use Rattle.demux_core.specs.Services.{HaveAllReceived}
use Rattle.demux_core.specs.declared.service.ServiceReceiver.{ServiceReceiver}
use Rattle.demux_core.specs.declared.int_receiver.IntReceiver.{IntReceiver}

-- a receiver: its plan, whether it may be given records, what it has counted of the stream, the receivers of each service
-- and of the INT
pub record ReceiverState : Type 0 where
  pub plan : PlanFields
  pub is_open : Bool
  pub stream : StreamCounts
  pub services : List ServiceReceiver
  pub table : Option IntReceiver

-- the receiver was given these records under this plan, and the recording has ended, or more may come
pub record HasReceived (ended : Bool) (plan : PlanFields) (records : List Record) (receiver : ReceiverState) : Type 0 where
  pub plan_is : receiver.plan ≡ plan
  pub stream : receiver.stream ≡ stream_counts_of (stream_numbers plan records)
  pub all : HaveAllReceived ended plan receiver.services receiver.table records
