use Rattle.count_law.proofs.InFrames.{frames_counted}
use Rattle.count_law.proofs.frames_add_up.Goals as goal

pub returns : goal.returns
returns c = record { sum = λ plan frames apart. frames_counted plan apart frames }
