use Rattle.class_law.proofs.Streams.{yields_on}
use Rattle.class_law.proofs.classes.ordinary_datagrams_yield_to_urgent_ones.Goals as goal

pub returns : goal.returns
returns c = record {
  yields = λ plan whole of_bytes gives frames stream k isi address service is kind_is rule others some.
      yields_on plan whole of_bytes gives frames stream k isi address service is kind_is rule others some;
}
