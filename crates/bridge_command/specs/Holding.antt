-- What is held of captured Ethernet frames until it is written. The carrier's number does not matter yet.
use Rattle.std.specs.Prelude.{◌≡◌, ℕ, List, length, map}
use Rattle.ip_datagram.specs.Held.{AreEndsFrom}
use Rattle.unit_stream.specs.Packers.{AreRising, units_of}
use Rattle.bridge_spec.specs.Frames.{on_pid, on_isi}
use Rattle.bridge_spec.specs.Sending.{frames_to_carry, sndu_with_frame}
use Rattle.bridge_command.specs.Tally.{IsBridgeTally}
use Rattle.bridge_command.specs.declared.sndus.Sndus.{Sndus}
use Rattle.bridge_command.specs.declared.frames.Frames.{Frames}

-- the SNDUs of those of the captured frames that there is room for, one after another, and the numbers of all
pub record HoldsSndus (sndus : Sndus) (captured : List (List ℕ)) : Type 0 where
  pub units_are : units_of sndus.bytes.items sndus.ends.items ≡ map sndu_with_frame (frames_to_carry (on_pid 0) captured)
  pub ends : AreEndsFrom 0 (length sndus.bytes.items) sndus.ends.items
  pub rising : AreRising 2 0 sndus.ends.items
  pub numbers : IsBridgeTally (on_pid 0) captured sndus.tally

-- those frames themselves, and the numbers of all
pub record HoldsFrames (frames : Frames) (captured : List (List ℕ)) : Type 0 where
  pub list_is : frames.list ≡ frames_to_carry (on_isi 0) captured
  pub numbers : IsBridgeTally (on_isi 0) captured frames.tally
