use Rattle.two_runs_law.proofs.runs.what_arrives_of_sent_bytes.Goals as goal

pub returns : goal.returns
returns c = record {
  packets = λ settings recording files run plan accepted packets capture told bytes is.
      let adds = c.what_a_receive_adds.ensures.packets settings recording files run plan accepted packets in
      record {
        delivered = adds.0;
        delivers = adds.1;
        files_are = adds.2;
        of_sent = c.what_is_delivered_of_sent_bytes.ensures.packets plan capture told bytes is recording adds.0 adds.1;
      };
  frames = λ settings recording files run plan accepted baseband capture told bytes is.
      let adds = c.what_a_receive_adds.ensures.frames settings recording files run plan accepted baseband in
      record {
        delivered = adds.0;
        delivers = adds.1;
        files_are = adds.2;
        of_sent = c.what_is_delivered_of_sent_bytes.ensures.frames plan capture told bytes is recording adds.0 adds.1;
      };
}
