-- Small frames of 256 rows, to try the definitions on.
use Rattle.std.specs.Prelude.{ℕ, Bool, true, false, List, [], ◌∷◌, replicate}
use Rattle.fec_frame_spec.specs.Sections.{FrameSection, data_section, parity_section, TimedSection}

-- a datagram_section of two bytes at an address, and an MPE-FEC section of column 0 of one
abbrev pub small_data : ℕ → ℕ → Bool → FrameSection
small_data delta address last = data_section (record {
  mac = [];
  real_time = record { delta = delta; table_boundary = last; frame_boundary = false; address = address };
  datagram = 7 ∷ 8 ∷ [];
})

abbrev pub small_parity : ℕ → ℕ → FrameSection
small_parity delta padding = parity_section (record {
  padding = padding;
  number = 0;
  last = 0;
  real_time = record { delta = delta; table_boundary = false; frame_boundary = true; address = 0 };
  column = replicate 256 9;
})

-- a frame of two datagrams
abbrev pub small_frame : List FrameSection
small_frame = small_data 3 0 false ∷ small_data 3 2 true ∷ small_parity 3 190 ∷ []

abbrev pub at_moment : ℕ → FrameSection → TimedSection
at_moment moment section = record { moment = moment; section = section }

abbrev pub small_timed : List TimedSection
small_timed = at_moment 0 (small_data 3 0 false) ∷ at_moment 0 (small_data 3 2 true) ∷ at_moment 0 (small_parity 3 190) ∷ []

-- two frames, of which the first lost all after its first datagram, and the addresses go on rising
abbrev pub cut_frames : ℕ → ℕ → ℕ → List TimedSection
cut_frames first second moment = at_moment 0 (small_data first 0 false) ∷ at_moment moment (small_data second 2 true) ∷ []
