use Rattle.carrier_spec.specs.Stream.{piece_size}
use Rattle.two_runs_law.proofs.Relays.{Relays, gives_plans, relays}
use Rattle.two_runs_law.proofs.relay.what_a_relay_puts_out.Goals as goal

pub returns : goal.returns
returns c = record {
  gives = gives_plans;
  packets = λ inner_settings outer_settings recording bytes run inner outer inner_accepted outer_accepted pieces tail cut packets.
      let made : Relays inner outer pieces bytes =
      relays inner_settings outer_settings recording bytes run inner outer inner_accepted outer_accepted pieces tail cut
      (λ xs ys s t. c.cuts_are_unique.ensures.pieces (piece_size inner) recording xs ys s t) in
      record {
        records = made.stream;
        sent = c.a_relayed_stream_is_that_of_a_capture.ensures.in_packets inner outer pieces made.stream
            (c.accepted_settings_make_a_relay.ensures.relay outer_settings inner outer pieces made.stream outer_accepted.accepted made.fits made.of_bytes made.is) packets;
        bytes_are = made.bytes_are;
      };
  frames = λ inner_settings outer_settings recording bytes run inner outer inner_accepted outer_accepted pieces tail cut baseband.
      let made : Relays inner outer pieces bytes =
      relays inner_settings outer_settings recording bytes run inner outer inner_accepted outer_accepted pieces tail cut
      (λ xs ys s t. c.cuts_are_unique.ensures.pieces (piece_size inner) recording xs ys s t) in
      record {
        frames = made.stream;
        sent = c.a_relayed_stream_is_that_of_a_capture.ensures.in_frames inner outer pieces made.stream
            (c.accepted_settings_make_a_relay.ensures.relay outer_settings inner outer pieces made.stream outer_accepted.accepted made.fits made.of_bytes made.is) baseband;
        bytes_are = made.bytes_are;
      };
}
