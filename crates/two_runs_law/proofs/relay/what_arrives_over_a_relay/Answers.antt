use Rattle.pcap_file.specs.Capture.{capture_text}
use Rattle.plan_law.proofs.Plans.{changes_right}
use Rattle.recording_spec.specs.Pieces.{delivered_of}
use Rattle.recording_spec.specs.Relayed.{relayed}
use Rattle.two_runs_law.proofs.Receives.{of_bytes, of_bytes_of_frames}
use Rattle.two_runs_law.proofs.relay.what_arrives_over_a_relay.Goals as goal

pub returns : goal.returns
returns c = record {
  arrives = λ inner_settings outer_settings capture bytes recording onward again files sends relays receives. record {
    gives_inner = (c.what_a_relay_puts_out.ensures.gives inner_settings outer_settings recording onward relays).0;
    gives_outer = (c.what_a_relay_puts_out.ensures.gives inner_settings outer_settings recording onward relays).1;
    arrives = λ inner outer inner_accepted outer_accepted pieces tail cut.
        let merged =
        c.a_recording_delivers_its_services_merged.ensures.merged inner pieces
        (changes_right inner (c.accepted_settings_give_a_plan.ensures.whole inner_settings inner inner_accepted.accepted)) in
        record {
          first_in_packets = λ packets.
              let sent = c.what_a_send_puts_out.ensures.packets inner_settings capture bytes sends inner inner_accepted packets in (
                sent.0,
                sent.1,
                record {
                  delivered = λ k. delivered_of inner k pieces;
                  delivers = of_bytes inner recording pieces tail cut packets;
                  merged = merged;
                  of_sent = c.what_is_delivered_of_sent_bytes.ensures.packets inner capture sent.0 bytes sent.1 recording (λ k. delivered_of inner k pieces)
                      (of_bytes inner recording pieces tail cut packets);
                },
              );
          first_in_frames = λ baseband.
              let sent = c.what_a_send_puts_out.ensures.frames inner_settings capture bytes sends inner inner_accepted baseband in (
                sent.0,
                sent.1,
                record {
                  delivered = λ k. delivered_of inner k pieces;
                  delivers = of_bytes_of_frames inner recording pieces tail cut baseband;
                  merged = merged;
                  of_sent = c.what_is_delivered_of_sent_bytes.ensures.frames inner capture sent.0 bytes sent.1 recording (λ k. delivered_of inner k pieces)
                      (of_bytes_of_frames inner recording pieces tail cut baseband);
                },
              );
          then_in_packets = λ packets.
              let is = c.what_a_relay_puts_out.ensures.packets inner_settings outer_settings recording onward relays inner outer inner_accepted outer_accepted pieces tail cut packets in (
                is,
                c.what_arrives_of_sent_bytes.ensures.packets outer_settings again files receives outer outer_accepted packets (capture_text (relayed inner pieces))
                    (relayed inner pieces) onward is,
              );
          then_in_frames = λ baseband.
              let is = c.what_a_relay_puts_out.ensures.frames inner_settings outer_settings recording onward relays inner outer inner_accepted outer_accepted pieces tail cut baseband in (
                is,
                c.what_arrives_of_sent_bytes.ensures.frames outer_settings again files receives outer outer_accepted baseband (capture_text (relayed inner pieces))
                    (relayed inner pieces) onward is,
              );
        };
  };
}
