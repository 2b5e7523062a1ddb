-- What is recovered of the frames of a service.
use Rattle.std.specs.Prelude.{◌≡◌, ℕ, ◌<◌, ◌≤◌, List, [], ◌∷◌, length, map, flat_map, Contains, slice_index_or}
use Rattle.wire_spec.specs.Lists.{IsSubsequence}
use Rattle.ts_spec.specs.Packetized.{unit_at}
use Rattle.section_spec.specs.Mpe.{MpeFields}
use Rattle.fec_frame_spec.specs.Sections.{FrameSection, TimedSection, sections_of, data_of, frame_sections_in}
use Rattle.fec_frame_spec.specs.Known.{IsErasure}
use Rattle.fec_frame_spec.specs.Corrected.{IsRecoverable}
use Rattle.fec_frame_spec.specs.Frame.{FrameFields}
use Rattle.fec_frame_law.specs.Kept.{IsUnitOfFrame, AreNumbered}

-- the datagrams of the datagram_sections among some sections
abbrev pub own_datagrams : List FrameSection → List (List ℕ)
own_datagrams sections = map (λ (m : MpeFields). m.datagram) (data_of sections)

-- Of each frame some datagrams, in order: those of the datagram_sections that were kept of it at least, and all of them where it is recoverable from what was
-- kept of it (EN 301 192 clause 9).
abbrev pub AreRecovered : ℕ → List FrameFields → List (List TimedSection) → List (List (List ℕ)) → Type 0
AreRecovered rows [] kept parts = parts ≡ []
AreRecovered rows (frame ∷ frames) [] parts = ⊥
AreRecovered rows (frame ∷ frames) (k ∷ kept) [] = ⊥
AreRecovered rows (frame ∷ frames) (k ∷ kept) (part ∷ parts) =
    IsSubsequence part frame.datagrams × IsSubsequence (own_datagrams (sections_of k)) part
    × (IsRecoverable rows (sections_of k) → part ≡ frame.datagrams) × AreRecovered rows frames kept parts

-- the datagrams, one after another
abbrev pub all_datagrams : List (List (List ℕ)) → List (List ℕ)
all_datagrams parts = flat_map (λ (part : List (List ℕ)). part) parts

-- the frame for places where none is
abbrev pub no_frame : FrameFields
no_frame = record { datagrams = []; padding = 0; parity = []; columns = 0 }

-- row r has at most 64 erasures, where these sections arrived intact
pub record HasFewErasures (rows : ℕ) (intact : List FrameSection) (r : ℕ) : Type 0 where
  pub columns : List ℕ
  pub few : length columns ≤ 64
  pub all : (j : ℕ) → IsErasure rows intact r j → Contains columns j

-- Frame i is recoverable from sections that arrived intact: each of some sections is a unit of the frame that arrived so, and each row
-- has at most 64 bytes that they do not tell.
pub record IsRecoverableFrom (rows : ℕ) (units : List (List ℕ)) (frames : List (List TimedSection)) (is_intact : ℕ → Type 0) (i : ℕ) : Type 0 where
  pub sections : List FrameSection
  pub each : (s : FrameSection) → Contains sections s
      → (n : ℕ) × is_intact n × IsUnitOfFrame rows units frames i n × (frame_sections_in rows (unit_at units n) ≡ s ∷ [])
  pub recoverable : IsRecoverable rows sections

-- What is delivered is, frame by frame, recovered from the sections that are units of these numbers; and where a frame is recoverable from sections that
-- arrived intact, all its datagrams are (EN 301 192 clause 9).
pub record IsRecovered (rows : ℕ) (units : List (List ℕ)) (fields : List FrameFields) (frames : List (List TimedSection)) (numbers : List ℕ)
    (is_intact : ℕ → Type 0) (delivered : List (List ℕ)) : Type 0 where
  pub kept : List (List TimedSection)
  pub numbered : AreNumbered rows units frames numbers kept
  pub parts : List (List (List ℕ))
  pub recovered : AreRecovered rows fields kept parts
  pub whole : (i : ℕ) → i < length fields → IsRecoverableFrom rows units frames is_intact i → slice_index_or parts i [] ≡ (slice_index_or fields i no_frame).datagrams
  pub delivered_are : delivered ≡ all_datagrams parts
