use Rattle.stream_law.proofs.AllPids.{pids_have_all}
use Rattle.stream_law.proofs.carried.the_pids_of_a_service_have_all_datagrams.Goals as goal

pub returns : goal.returns
returns c = record { all = λ plan datagrams k pid whole known is. pids_have_all plan datagrams k pid whole known is }
