use Rattle.channel_law.proofs.Units.{accepted_numbers, accepted_are, includes_intact}
use Rattle.channel_law.proofs.arrives.accepted_units_are_numbered.Goals as goal

pub returns : goal.returns
returns c = record {
  numbered = λ pids sent recorded channel span is_span form pid read units begin carried no_error. (
    accepted_numbers pids sent recorded channel span is_span form pid read units begin carried no_error,
    includes_intact pids sent recorded channel span is_span form pid read units begin carried no_error,
    accepted_are pids sent recorded channel span is_span form pid read units begin carried no_error,
  );
}
