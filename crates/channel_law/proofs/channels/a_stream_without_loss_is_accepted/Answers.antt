use Rattle.std.proofs.Common.{List, sym, subst}
use Rattle.ts_spec.specs.Recording.{Record}
use Rattle.channel_spec.specs.Stamps.{KeepsStamps}
use Rattle.channel_law.proofs.Late.{unchanged, stamps_unchanged}
use Rattle.channel_law.proofs.Lossless.{lossless_accepted}
use Rattle.channel_law.proofs.channels.a_stream_without_loss_is_accepted.Goals as goal

pub returns : goal.returns
returns c = record {
  accepted = λ pids records. (
    unchanged pids records,
    λ recording pieces is. subst (λ (t : List Record). KeepsStamps recording (unchanged pids t)) (sym is) (stamps_unchanged pids recording pieces),
    λ form pid read units begin carried n known. lossless_accepted pids records form pid read units begin carried n known,
  );
}
