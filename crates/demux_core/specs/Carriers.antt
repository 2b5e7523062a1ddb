-- A receiver of either carrier, and what it was given: the records of a recording of transport packets, or baseband frames.
use Rattle.std.specs.Prelude.{◌≡◌, ℕ, Bool, true, false, List}
use Rattle.ts_spec.specs.Recording.{Record}
use Rattle.plan_spec.specs.Plan.{PlanFields, is_baseband}
use Rattle.loss_report.specs.declared.counts.StreamCounts.{StreamCounts}
use Rattle.bb_demux.specs.Receiving.{HasReceived as HasFrames}
use Rattle.demux_core.specs.Receiving.{HasReceived}
use Rattle.demux_core.specs.declared.receiver.ByCarrier.{ByCarrier}
use Rattle.demux_core.specs.declared.receiver.ByCarrier.TheVariants.{Packets, Frames}

-- its plan, whether it may be given more, and what it has counted of the recording
abbrev pub plan_of : ByCarrier → PlanFields
plan_of (Packets receiver) = receiver.plan
plan_of (Frames receiver) = receiver.plan

abbrev pub is_open_in : ByCarrier → Bool
is_open_in (Packets receiver) = receiver.is_open
is_open_in (Frames receiver) = receiver.is_open

abbrev pub stream_of : ByCarrier → StreamCounts
stream_of (Packets receiver) = receiver.stream
stream_of (Frames receiver) = receiver.stream

-- it is of the carrier of its plan
abbrev pub FitsCarrier : ByCarrier → Type 0
FitsCarrier (Packets receiver) = is_baseband receiver.plan ≡ false
FitsCarrier (Frames receiver) = is_baseband receiver.plan ≡ true

-- it is of packets and was given these records, and the recording has ended, or more may come
abbrev pub HasReceivedPackets : Bool → PlanFields → List Record → ByCarrier → Type 0
HasReceivedPackets ended plan records (Packets receiver) = HasReceived ended plan records receiver
HasReceivedPackets ended plan records (Frames receiver) = ⊥

-- it is of frames and was given these
abbrev pub HasReceivedFrames : PlanFields → List (List ℕ) → ByCarrier → Type 0
HasReceivedFrames plan frames (Packets receiver) = ⊥
HasReceivedFrames plan frames (Frames receiver) = HasFrames plan frames receiver
