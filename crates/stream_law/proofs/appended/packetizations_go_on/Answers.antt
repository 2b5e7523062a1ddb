use Rattle.stream_law.proofs.Together.{appended}
use Rattle.stream_law.proofs.appended.packetizations_go_on.Goals as goal

pub returns : goal.returns
returns c = record {
  together = λ form lawful units more packets behind begin at first second goes_on. appended form lawful units more packets behind begin at first second goes_on;
}
