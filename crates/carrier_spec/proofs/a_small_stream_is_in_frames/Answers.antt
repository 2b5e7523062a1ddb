use Rattle.std.proofs.Common.{refl}
use Rattle.carrier_spec.proofs.a_small_stream_is_in_frames.Goals as goal

pub returns-clause-stream : goal.returns-clause-stream
returns-clause-stream c = record {
  in_frames = λ e. record { defined = refl; unchanged = refl; size = 300; size_is = refl; frames_are = refl };
  in_records = λ e. absurd (cc);
}
