use Rattle.fec_frame_law.proofs.Service.{numbers, numbers_accepted, includes, service_recovered}
use Rattle.fec_frame_law.proofs.datagrams_of_a_service_are_recovered.Goals as goal

pub returns : goal.returns
returns c = record {
  recovered = λ recording pids sent pieces channel span is_span pid read units begin carried no_error timing rows first fields frames moments are timed often. (
    numbers recording pids sent pieces channel span is_span pid read units begin carried no_error,
    numbers_accepted recording pids sent pieces channel span is_span pid read units begin carried no_error,
    includes recording pids sent pieces channel span is_span pid read units begin carried no_error,
    service_recovered recording pids sent pieces channel span is_span pid read units begin carried no_error timing rows first fields frames moments are timed often,
  );
}
