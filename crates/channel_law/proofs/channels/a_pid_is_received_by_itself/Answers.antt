use Rattle.ts_spec.specs.Sndu.{sndu_form}
use Rattle.channel_spec.specs.Delivered.{carried_by_sndu}
use Rattle.channel_law.proofs.Isolation.{accepted_same, events_same, carried_same}
use Rattle.channel_law.proofs.channels.a_pid_is_received_by_itself.Goals as goal

pub returns : goal.returns
returns c = record {
  units = λ form pid one other same. accepted_same pid one other same form;
  events = λ form pid one other same. events_same pid one other same form;
  datagrams = λ pid one other same. carried_same pid one other same sndu_form carried_by_sndu;
}
