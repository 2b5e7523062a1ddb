use Rattle.relay_law.proofs.settings.accepted_settings_make_a_relay.Goals as goal

pub returns : goal.returns
returns c = record {
  relay = λ text inner outer pieces stream accepted fits bytes is. record {
    accepted = c.accepted_settings_give_a_plan.ensures.whole text outer accepted;
    of_bytes = λ version known. c.accepted_settings_give_bytes.ensures.versions text outer version accepted;
    bytes = bytes;
    fits = fits;
    stream_is = is;
  };
}
