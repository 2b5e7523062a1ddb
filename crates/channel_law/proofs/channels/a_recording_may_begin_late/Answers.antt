use Rattle.channel_law.proofs.Late.{late, stamps_late}
use Rattle.channel_law.proofs.channels.a_recording_may_begin_late.Goals as goal

pub returns : goal.returns
returns c = record { late = λ pids recording pieces n. (late pids recording pieces n, stamps_late pids recording pieces n) }
