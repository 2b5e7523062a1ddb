use Rattle.two_runs_law.proofs.Sends.{gives_plan, sent_in_packets, sent_in_frames}
use Rattle.two_runs_law.proofs.runs.what_a_send_puts_out.Goals as goal

pub returns : goal.returns
returns c = record {
  gives = gives_plan;
  packets = λ settings capture bytes run plan accepted.
      sent_in_packets settings capture bytes run plan accepted (c.accepted_settings_give_a_plan.ensures.whole settings plan accepted.accepted)
      (λ version. c.accepted_settings_give_bytes.ensures.versions settings plan version accepted.accepted);
  frames = λ settings capture bytes run plan accepted.
      sent_in_frames settings capture bytes run plan accepted (c.accepted_settings_give_a_plan.ensures.whole settings plan accepted.accepted)
      (λ version. c.accepted_settings_give_bytes.ensures.versions settings plan version accepted.accepted);
}
