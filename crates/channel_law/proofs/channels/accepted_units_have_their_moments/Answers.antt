use Rattle.channel_law.proofs.Moments.{moments_shifted, accepted_moment}
use Rattle.channel_law.proofs.channels.accepted_units_have_their_moments.Goals as goal

pub returns : goal.returns
returns c = record {
  moments = λ recording pids sent pieces channel stamps.
      let found = moments_shifted recording pids sent pieces channel stamps in (
        found.0,
        found.1,
        λ span is_span form pid read no_lone_copies units begin carried.
            accepted_moment recording pids sent pieces channel stamps span is_span form pid read no_lone_copies units begin carried found.0 found.2,
      );
}
