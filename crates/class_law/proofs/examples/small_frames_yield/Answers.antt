use Rattle.std.proofs.Common.{refl}
use Rattle.class_law.specs.Examples.{short_after_long, nine_after_long, middle_after_long}
use Rattle.class_law.proofs.Small.{written_yields, short_ones}
use Rattle.class_law.proofs.examples.small_frames_yield.Goals as goal

pub returns : goal.returns
returns c = record {
  short = refl;
  short_yields = written_yields 100 short_after_long (short_ones short_after_long refl);
  nine = refl;
  nine_yields = written_yields 270 nine_after_long (short_ones nine_after_long refl);
  middle = refl;
  middle_yields = written_yields 300 middle_after_long (short_ones middle_after_long refl);
}
