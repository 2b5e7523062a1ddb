-- What a service delivers of the datagrams that a capture offers to it in baseband frames.
use Rattle.std.specs.Prelude.{◌≡◌, ℕ, List, map, filter}
use Rattle.wire_spec.specs.Lists.{IsSubsequence}
use Rattle.gse_spec.specs.Channel.{FrameChannel}
use Rattle.gse_spec.specs.Carried.{IncludesIntact}
use Rattle.plan_spec.specs.Plan.{ServiceFields}
use Rattle.end_to_end_law.specs.Sent.{datagram_at}
use Rattle.end_to_end_law.specs.BbSent.{wants_in_frames}

-- PDU n of the input stream is that of datagram n. The delivered datagrams are the wanted ones among those with these numbers, in order and
-- each once; among the numbers is that of each datagram whose PDU arrived intact. So they are wanted datagrams that were offered, in order
pub record DeliversNumbered {isis : List ℕ} {sent recorded : List (List ℕ)} (channel : FrameChannel isis sent recorded) (isi : ℕ)
    (service : ServiceFields) (datagrams delivered : List (List ℕ)) : Type 0 where
  pub numbers : List ℕ
  pub includes : IncludesIntact channel isi numbers
  pub delivered_are : delivered ≡ filter (wants_in_frames service) (map (datagram_at datagrams) numbers)
  pub were_wanted : IsSubsequence delivered (filter (wants_in_frames service) datagrams)
