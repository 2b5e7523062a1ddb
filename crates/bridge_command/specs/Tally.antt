-- What becomes of captured Ethernet frames, in numbers.
use Rattle.std.specs.Prelude.{◌≡◌, ℕ, List, length}
use Rattle.bridge_spec.specs.Frames.{BridgeCarrier}
use Rattle.bridge_spec.specs.Sending.{frames_to_carry, too_short_count, too_long_count}
use Rattle.bridge_command.specs.declared.ends.BridgeTally.{BridgeTally}

-- the numbers of these frames: those that are carried, and those that are too short and too long for it
pub record IsBridgeTally (carrier : BridgeCarrier) (captured : List (List ℕ)) (tally : BridgeTally) : Type 0 where
  pub offered : tally.offered ≡ length (frames_to_carry carrier captured)
  pub too_short : tally.too_short ≡ too_short_count captured
  pub too_long : tally.too_long ≡ too_long_count carrier captured
