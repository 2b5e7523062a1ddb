-- What is written of a stream, by the plan's carrier.
use Rattle.std.proofs.Common.{◌≡◌, ℕ, true, false, List, Option, Result, Ok, Err}
use Rattle.plan_spec.specs.Plan.{PlanFields, is_baseband}
use Rattle.datagram_routing.specs.declared.faults.MuxFault.{MuxFault}
use Rattle.bb_mux.specs.Sending.{WritesBaseband}
use Rattle.carrier_law.proofs.Cases.{in_frames, in_records}
use Rattle.ts_mux.specs.Sending.{WritesPackets}
use Rattle.datagram_routing.specs.declared.sent.Sent.{Sent}
use Rattle.mux_core.specs.Sending.{WritesStream}

-- of transport packets
pub writes_packets : (plan : PlanFields) (datagrams : ℕ → ℕ → List (List ℕ)) (result : Result Sent MuxFault) (old new : Option (List ℕ)) → is_baseband plan ≡ false
    → WritesPackets plan datagrams result old new → WritesStream plan datagrams result old new
writes_packets plan datagrams result old new is wrote = record {
  pieces = wrote.records;
  stream = in_records plan datagrams wrote.records is wrote.stream;
  written = wrote.written;
  packets = wrote.packets;
}

-- of baseband frames: all of them, or a prefix
pub writes_frames : (plan : PlanFields) (datagrams : ℕ → ℕ → List (List ℕ)) (frames datagram_count : ℕ) (old new : Option (List ℕ)) → is_baseband plan ≡ true
    → WritesBaseband {E = MuxFault} plan datagrams (Ok frames) old new → WritesStream plan datagrams (Ok (record { packets = frames; datagrams = datagram_count })) old new
writes_frames plan datagrams frames datagram_count old new is wrote = record {
  pieces = wrote.frames;
  stream = in_frames plan datagrams wrote.frames is wrote.stream;
  written = wrote.written;
  packets = wrote.count;
}

pub writes_front : (plan : PlanFields) (datagrams : ℕ → ℕ → List (List ℕ)) (fault : MuxFault) (old new : Option (List ℕ)) → is_baseband plan ≡ true
    → WritesBaseband plan datagrams (Err fault) old new → WritesStream plan datagrams (Err fault) old new
writes_front plan datagrams fault old new is wrote = record {
  pieces = wrote.frames;
  stream = in_frames plan datagrams wrote.frames is wrote.stream;
  written = wrote.written;
  packets = tt;
}
