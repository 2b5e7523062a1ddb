use Rattle.two_runs_law.proofs.Receives.{gives_plan, in_packets, in_frames}
use Rattle.two_runs_law.proofs.runs.what_a_receive_adds.Goals as goal

pub returns : goal.returns
returns c = record { gives = gives_plan; packets = in_packets; frames = in_frames }
