use Rattle.channel_law.proofs.Datagrams.{delivered_numbers, delivered_include_intact, delivered_are}
use Rattle.channel_law.proofs.arrives.delivered_datagrams_are_numbered.Goals as goal

pub returns : goal.returns
returns c = record {
  numbered = λ pids sent recorded channel span is_span pid read units begin packetized no_error. (
    delivered_numbers pids sent recorded channel span is_span pid read units begin packetized no_error,
    delivered_include_intact pids sent recorded channel span is_span pid read units begin packetized no_error,
    delivered_are pids sent recorded channel span is_span pid read units begin packetized no_error,
  );
}
