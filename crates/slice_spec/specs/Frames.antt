-- The frames of a service in time, each as the times of its sections (EN 301 192 clause 9). One frame is one burst.
use Rattle.std.specs.Prelude.{◌≡◌, ℕ, ◌+◌, ◌*◌, ◌%◌, ◌<◌, ◌≤◌, List, [], length, slice_index_or, Contains}
use Rattle.slice_spec.specs.Sections.{Timing, indexed, sliced, SectionTime}

-- a section of frame i has this time
abbrev pub IsOf : List (List SectionTime) → ℕ → SectionTime → Type 0
IsOf frames i x = Contains (slice_index_or frames i []) x

-- with time slicing: a delta_t above 0 announces a moment; each section of its own frame comes before it, and none of a later frame does; delta_t is 0 in the
-- last frame alone (EN 301 192 clause 9)
pub record IsTimed (ten : ℕ) (frames : List (List SectionTime)) : Type 0 where
  pub within : (i : ℕ) (x y : SectionTime) → IsOf frames i x → IsOf frames i y → 0 < x.delta → y.moment < x.moment + ten * x.delta
  pub after : (i j : ℕ) (x y : SectionTime) → i < j → IsOf frames i x → IsOf frames j y → 0 < x.delta → x.moment + ten * x.delta ≤ y.moment
  pub last : (i : ℕ) (x : SectionTime) → IsOf frames i x → x.delta ≡ 0 → length frames ≡ i + 1

-- without time slicing: delta_t is the number of the frame modulo 4,096, where the first frame of the list has this number (EN 301 192 clause 9.10)
pub record IsIndexed (first : ℕ) (frames : List (List SectionTime)) : Type 0 where
  pub index : (i : ℕ) (x : SectionTime) → IsOf frames i x → x.delta ≡ (first + i) % 4096

-- the frames of a service are timed or numbered so, by its timing (EN 301 192 clause 9)
abbrev pub HasTiming : Timing → ℕ → List (List SectionTime) → Type 0
HasTiming indexed first frames = IsIndexed first frames
HasTiming (sliced ten) first frames = IsTimed ten frames
