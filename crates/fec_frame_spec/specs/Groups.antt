-- Received frames: where one ends and the next begins (EN 301 192 clause 9). Profile: with time slicing a receiver
-- finds the frame of a section by these rules; without it the index is cyclic.
use Rattle.std.specs.Prelude.{◌≡◌, ℕ, ◌+◌, ◌-◌, ◌*◌, ◌<◌, Bool, true, false, not, ◌&&◌, ◌||◌, List, [], ◌∷◌, ◌++◌, length, take, ◌==◌, nat_lt, nat_le, if◌then◌else◌, slice_index_or, flat_map}
use Rattle.std.specs.List.{list_any}
use Rattle.ts_spec.specs.Recording.{RecordingForm}
use Rattle.section_spec.specs.Mpe.{MpeFields, FecFields}
use Rattle.slice_spec.specs.Moments.{ten}
use Rattle.slice_spec.specs.Sections.{Timing, indexed, sliced, is_parted}
use Rattle.fec_frame_spec.specs.Sections.{FrameSection, data_section, parity_section, TimedSection, time_of, sections_of, ends_frame, data_end, data_of, parity_of}

-- what delta_t counts in the frames of a service, with time slicing or without, in recordings of this form (EN 301 192 clause 9)
abbrev pub timing_in : RecordingForm → Bool → Timing
timing_in form is_sliced = if is_sliced then sliced (ten form) else indexed

-- where the last of some datagrams ends, and the place itself where there is none
abbrev pub end_after : ℕ → List MpeFields → ℕ
end_after place [] = place
end_after place (m ∷ datagrams) = end_after (data_end m) datagrams

-- After these datagram_sections and MPE-FEC sections no such datagram_section comes in one frame: there was parity, or the table ended, or its address is below
-- the end of the last datagram (EN 301 192 clause 9).
abbrev pub is_cut_by_data : List MpeFields → List FecFields → MpeFields → Bool
is_cut_by_data datagrams columns m =
    nat_lt 0 (length columns)
    || (list_any (λ (d : MpeFields). d.real_time.table_boundary) datagrams || nat_lt m.real_time.address (end_after 0 datagrams))

-- two MPE-FEC sections that no frame has in this order: the number does not rise, or they tell other numbers (EN 301 192 clause 9)
abbrev pub are_apart : FecFields → FecFields → Bool
are_apart before f = nat_le f.number before.number || (not (before.padding == f.padding) || not (before.last == f.last))

-- a datagram has a byte at this place of the application data table or after it
abbrev pub reaches : ℕ → MpeFields → Bool
reaches place m = nat_lt 0 (length m.datagram) && nat_lt place (data_end m)

-- After these no such MPE-FEC section comes in one frame: it is apart from a column, or a datagram has a byte in its padding columns (EN 301 192 clause 9).
abbrev pub is_cut_by_parity : ℕ → List MpeFields → List FecFields → FecFields → Bool
is_cut_by_parity rows datagrams columns f =
    list_any (λ (before : FecFields). are_apart before f) columns || list_any (reaches ((191 - f.padding) * rows)) datagrams

-- the same by the kind of a section
abbrev pub is_cut_by_kind : ℕ → List FrameSection → FrameSection → Bool
is_cut_by_kind rows sections (data_section m) = is_cut_by_data (data_of sections) (parity_of sections) m
is_cut_by_kind rows sections (parity_section f) = is_cut_by_parity rows (data_of sections) (parity_of sections) f

-- what the sections alone tell, without their times: the frame ended, or it has no place for this one
abbrev pub is_cut_by_table : ℕ → List FrameSection → FrameSection → Bool
is_cut_by_table rows sections section = list_any ends_frame sections || is_cut_by_kind rows sections section

-- the last of a section and those after it
abbrev pub last_section : TimedSection → List TimedSection → TimedSection
last_section s [] = s
last_section s (t ∷ group) = last_section t group

-- a section begins the next frame after the sections of one, of which there is one at least: by its time, or by what these tell
abbrev pub is_cut : Timing → ℕ → List TimedSection → TimedSection → Bool
is_cut timing rows [] x = false
is_cut timing rows (s ∷ group) x =
    is_parted timing (time_of (last_section s group)) (time_of x) || is_cut_by_table rows (sections_of (s ∷ group)) x.section

-- the section for places where none is
abbrev pub no_section : TimedSection
no_section = record {
  moment = 0;
  section = data_section (record { mac = []; real_time = record { delta = 0; table_boundary = false; frame_boundary = false; address = 0 }; datagram = [] });
}

-- the section at a place
abbrev pub section_at : List TimedSection → ℕ → TimedSection
section_at sections n = slice_index_or sections n no_section

-- the frame at a place
abbrev pub frame_at : List (List TimedSection) → ℕ → List TimedSection
frame_at frames n = slice_index_or frames n []

-- the sections of some frames, in order
abbrev pub all_sections : List (List TimedSection) → List TimedSection
all_sections frames = flat_map (λ (frame : List TimedSection). frame) frames

-- the sections are partitioned into frames: none is empty, none is cut within, each is cut from the next
pub record AreReceivedFrames (timing : Timing) (rows : ℕ) (sections : List TimedSection) (frames : List (List TimedSection)) : Type 0 where
  pub whole : sections ≡ all_sections frames
  pub some : (n : ℕ) → n < length frames → 0 < length (frame_at frames n)
  pub within : (n i : ℕ) → n < length frames → 0 < i → i < length (frame_at frames n)
      → is_cut timing rows (take i (frame_at frames n)) (section_at (frame_at frames n) i) ≡ false
  pub between : (n : ℕ) → n + 1 < length frames → is_cut timing rows (frame_at frames n) (section_at (frame_at frames (n + 1)) 0) ≡ true

-- the one partition, section by section: the frame under way, and what comes after it
abbrev pub frames_from : Timing → ℕ → List TimedSection → List TimedSection → List (List TimedSection)
frames_from timing rows group [] = group ∷ []
frames_from timing rows group (x ∷ sections) =
    if is_cut timing rows group x then group ∷ frames_from timing rows (x ∷ []) sections
    else frames_from timing rows (group ++ x ∷ []) sections

-- the received frames of a service, of its sections on one PID
abbrev pub received_frames : Timing → ℕ → List TimedSection → List (List TimedSection)
received_frames timing rows [] = []
received_frames timing rows (x ∷ sections) = frames_from timing rows (x ∷ []) sections

-- The received frames that are closed so far: all where no more sections can come; otherwise the last one only where it has
-- frame_boundary.
abbrev pub closed_frames : Bool → List (List TimedSection) → List (List TimedSection)
closed_frames ended [] = []
closed_frames ended (group ∷ []) = if ended || list_any ends_frame (sections_of group) then group ∷ [] else []
closed_frames ended (group ∷ next ∷ others) = group ∷ closed_frames ended (next ∷ others)
