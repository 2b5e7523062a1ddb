use Rattle.channel_law.proofs.Member.{contains_member}
use Rattle.std.specs.Prelude.{Contains}
use Rattle.fec_frame_law.specs.Kept.{HasNumber}
use Rattle.fec_frame_law.proofs.Accepted.{number_bytes, by_place, accepted_recovered}
use Rattle.fec_frame_law.proofs.datagrams_of_accepted_units_are_recovered.Goals as goal

pub returns : goal.returns
returns c = record {
  recovered = λ timing rows first units moments fields frames are accepted numbers rising within same timed often.
      accepted_recovered timing rows first units moments fields frames are accepted numbers rising (λ n there. within n (contains_member numbers n there))
      (HasNumber accepted numbers) (number_bytes units accepted numbers same) (by_place units accepted numbers same) timed (λ n. Contains numbers n) (λ n low there. there) often;
}
