-- The bytes so far.
use Rattle.std.proofs.Common.{◌≡◌, ◌≤◌, ◌-◌, ◌++◌, length, take}
use Rattle.burst_packets.specs.Frames.{IsReading, bytes_left}
use Rattle.burst_packets.proofs.frame_bytes.FrameBytes.read.Given as goal

abbrev pub invariant-loop-done : goal.invariant-loop-done
invariant-loop-done l = record {
  reading : IsReading l.datagrams l.self;
  within : l.done ≤ length l.into;
  read : bytes_left l.datagrams l.initial.self ≡ take l.done l.into ++ bytes_left l.datagrams l.self;
  shape : l.self.shape ≡ l.initial.self.shape;
}

abbrev pub decreases-loop-done : goal.decreases-loop-done
decreases-loop-done l = length l.initial.into - l.done
