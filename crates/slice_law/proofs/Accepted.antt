-- Accepted sections have the delta_t with which they were sent.
use Rattle.std.proofs.Common.{◌≡◌, ℕ, List, sym, ap, ◌∙◌}
use Rattle.ts_spec.specs.Recording.{Record}
use Rattle.ts_spec.specs.Reassembly.{PlacedUnit}
use Rattle.channel_spec.specs.Channel.{Channel}
use Rattle.channel_spec.specs.Carried.{IsSentUnit}
use Rattle.slice_spec.specs.Sections.{SectionTime}
use Rattle.slice_law.specs.Carried.{IsNumberedUnit, time_seen}

module _ {pids : List ℕ} {sent recorded : List Record} (channel : Channel pids sent recorded)
    (pid : ℕ) (units : List (List ℕ)) (begin : ℕ → ℕ) (delta_of : List ℕ → ℕ) (n : ℕ) (a : PlacedUnit) (is : IsSentUnit channel pid units begin n a) where
  pub delta_seen : (frames : List (List SectionTime)) (i : ℕ) (of : IsNumberedUnit units delta_of frames n i) → (time_seen delta_of a).delta ≡ of.section.delta
  delta_seen frames i of = ap delta_of (sym is.bytes) ∙ of.delta
