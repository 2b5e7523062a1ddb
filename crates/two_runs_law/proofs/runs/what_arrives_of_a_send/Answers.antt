use Rattle.two_runs_law.proofs.runs.what_arrives_of_a_send.Goals as goal

pub returns : goal.returns
returns c = record {
  arrives = λ settings capture bytes recording files sends receives. record {
    gives = c.what_a_send_puts_out.ensures.gives settings capture bytes sends;
    in_packets = λ plan accepted packets.
        let sent = c.what_a_send_puts_out.ensures.packets settings capture bytes sends plan accepted packets in
        (sent.0, sent.1, c.what_arrives_of_sent_bytes.ensures.packets settings recording files receives plan accepted packets capture sent.0 bytes sent.1);
    in_frames = λ plan accepted baseband.
        let sent = c.what_a_send_puts_out.ensures.frames settings capture bytes sends plan accepted baseband in
        (sent.0, sent.1, c.what_arrives_of_sent_bytes.ensures.frames settings recording files receives plan accepted baseband capture sent.0 bytes sent.1);
  };
}
