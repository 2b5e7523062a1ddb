-- What was accepted of the frames of a service.
use Rattle.std.specs.Prelude.{◌≡◌, ◌⊎◌, ℕ, ◌+◌, ◌*◌, ◌<◌, ◌≤◌, List, [], ◌∷◌, length, flat_map, take, Contains}
use Rattle.wire_spec.specs.Lists.{IsSubsequence}
use Rattle.ts_spec.specs.Packetized.{unit_at}
use Rattle.ts_spec.specs.Reassembly.{PlacedUnit}
use Rattle.fec_frame_spec.specs.Sections.{TimedSection, time_of, sections_of, sections_of_unit, frame_sections_in}
use Rattle.fec_frame_spec.specs.Groups.{all_sections, frame_at}

-- Of each frame some sections, in order, whatever their moments.
abbrev pub AreKept : List (List TimedSection) → List (List TimedSection) → Type 0
AreKept [] [] = Unit {0}
AreKept [] (frame ∷ frames) = ⊥
AreKept (kept ∷ others) [] = ⊥
AreKept (kept ∷ others) (frame ∷ frames) = IsSubsequence (sections_of kept) (sections_of frame) × AreKept others frames

-- of any 4,095 frames in a row that lie between two of which a section was accepted, a section of one was accepted (EN 301 192 clause 9)
pub record AreKeptOften (kept : List (List TimedSection)) : Type 0 where
  pub one : (n l first : ℕ) → n < first → first + 4095 ≤ l → l < length kept → 0 < length (frame_at kept n) → 0 < length (frame_at kept l)
      → (i : ℕ) × (first ≤ i) × (i < first + 4095) × (0 < length (frame_at kept i))

-- the frames of which a section was accepted
abbrev pub accepted_frames : List (List TimedSection) → List (List TimedSection)
accepted_frames [] = []
accepted_frames ([] ∷ kept) = accepted_frames kept
accepted_frames ((s ∷ sections) ∷ kept) = (s ∷ sections) ∷ accepted_frames kept

-- Sections by the numbers of their units.

-- how many sections of frames are among the units before unit n
abbrev pub sections_before : ℕ → List (List ℕ) → ℕ → ℕ
sections_before rows units n = length (flat_map (frame_sections_in rows) (take n units))

-- how many sections the frames before frame i have
abbrev pub frame_start : List (List TimedSection) → ℕ → ℕ
frame_start frames i = length (all_sections (take i frames))

-- unit n is a section of frame i
pub record IsUnitOfFrame (rows : ℕ) (units : List (List ℕ)) (frames : List (List TimedSection)) (i n : ℕ) : Type 0 where
  pub unit : n < length units
  pub reads : 0 < length (frame_sections_in rows (unit_at units n))
  pub frame : i < length frames
  pub from : frame_start frames i ≤ sections_before rows units n
  pub below : sections_before rows units n < frame_start frames (i + 1)

-- a section of frame i was accepted
abbrev pub IsAcceptedOf : ℕ → List (List ℕ) → List (List TimedSection) → (ℕ → Type 0) → ℕ → Type 0
IsAcceptedOf rows units frames is_accepted i = (n : ℕ) × is_accepted n × IsUnitOfFrame rows units frames i n

-- of any 4,095 frames in a row that lie between two of which a section was accepted, a section of one was accepted (EN 301 192 clause 9)
pub record AreAcceptedOften (rows : ℕ) (units : List (List ℕ)) (frames : List (List TimedSection)) (is_accepted : ℕ → Type 0) : Type 0 where
  pub one : (i l first : ℕ) → i < first → first + 4095 ≤ l → IsAcceptedOf rows units frames is_accepted i → IsAcceptedOf rows units frames is_accepted l
      → (j : ℕ) × (first ≤ j) × (j < first + 4095) × IsAcceptedOf rows units frames is_accepted j

-- of frame i just the sections that are units of these numbers
pub record AreNumbered (rows : ℕ) (units : List (List ℕ)) (frames : List (List TimedSection)) (numbers : List ℕ) (kept : List (List TimedSection)) : Type 0 where
  pub of_numbers : (i : ℕ) (s : TimedSection) → Contains (frame_at kept i) s
      → (n : ℕ) × Contains numbers n × IsUnitOfFrame rows units frames i n × (frame_sections_in rows (unit_at units n) ≡ s.section ∷ [])
  pub numbers_are : (i n : ℕ) → Contains numbers n → IsUnitOfFrame rows units frames i n
      → (s : TimedSection) × Contains (frame_at kept i) s × (frame_sections_in rows (unit_at units n) ≡ s.section ∷ [])

-- Accepted units, and the times of their sections.

-- each of the items has this number, one by one
abbrev pub ArePaired : {X : Type 0} → (X → ℕ → Type 0) → List X → List ℕ → Type 0
ArePaired has_number [] [] = Unit {0}
ArePaired has_number [] (n ∷ numbers) = ⊥
ArePaired has_number (x ∷ xs) [] = ⊥
ArePaired has_number (x ∷ xs) (n ∷ numbers) = has_number x n × ArePaired has_number xs numbers

-- the accepted unit has this number: both stand at one place of their lists
abbrev pub HasNumber : List PlacedUnit → List ℕ → PlacedUnit → ℕ → Type 0
HasNumber [] numbers a n = ⊥
HasNumber (x ∷ accepted) [] a n = ⊥
HasNumber (x ∷ accepted) (m ∷ numbers) a n = ((x ≡ a) × (m ≡ n)) ⊎ HasNumber accepted numbers a n

-- an accepted section of frame i, with the moment at which it was received
pub record IsReceivedOf (rows : ℕ) (units : List (List ℕ)) (frames : List (List TimedSection)) (is_sent : PlacedUnit → ℕ → Type 0) (i : ℕ) (s : TimedSection) : Type 0 where
  pub accepted : PlacedUnit
  pub number : ℕ
  pub sent_unit : is_sent accepted number
  pub of_frame : IsUnitOfFrame rows units frames i number
  pub reads : sections_of_unit rows accepted ≡ s ∷ []

-- With time slicing an accepted section with a delta_t above 0 announces a moment: each accepted section of its own frame is received before it, and none of a
-- later frame is (EN 301 192 clause 9). Of sections that were not accepted nothing is asked
pub record AreTimed (ten rows : ℕ) (units : List (List ℕ)) (frames : List (List TimedSection)) (is_sent : PlacedUnit → ℕ → Type 0) : Type 0 where
  pub within : (i : ℕ) (a b : TimedSection) → IsReceivedOf rows units frames is_sent i a → IsReceivedOf rows units frames is_sent i b
      → 0 < (time_of a).delta → b.moment < a.moment + ten * (time_of a).delta
  pub after : (i j : ℕ) (a b : TimedSection) → i < j → IsReceivedOf rows units frames is_sent i a → IsReceivedOf rows units frames is_sent j b
      → 0 < (time_of a).delta → a.moment + ten * (time_of a).delta ≤ b.moment
