-- What a table keeps of the sections of the frame under way, to tell whether the next one is cut from them.
use Rattle.std.specs.Prelude.{◌≡◌, ℕ, ◌-◌, ◌*◌, ◌≤◌, Bool, false, ◌||◌, List, length, ◌==◌, nat_lt, if◌then◌else◌, is_some, Option, Some, None}
use Rattle.std.specs.List.{list_any}
use Rattle.section_spec.specs.Mpe.{MpeFields, FecFields}
use Rattle.fec_frame_spec.specs.Sections.{FrameSection, data_section, parity_section, ends_frame, data_end, data_of, parity_of}
use Rattle.fec_frame_spec.specs.Groups.{end_after, are_apart, reaches}

-- whether the frame ended, whether its table did, where its last datagram ends, where the last one that has bytes ends, and its
-- last MPE-FEC section
pub record Summary : Type 0 where
  pub frame_ended : Bool
  pub table_ended : Bool
  pub end : ℕ
  pub covered : ℕ
  pub column : Option FecFields

abbrev pub no_summary : Summary
no_summary = record { frame_ended = false; table_ended = false; end = 0; covered = 0; column = None }

-- with a section more
abbrev pub summary_more : Summary → FrameSection → Summary
summary_more s (data_section m) = record {
  frame_ended = s.frame_ended || m.real_time.frame_boundary;
  table_ended = s.table_ended || m.real_time.table_boundary;
  end = data_end m;
  covered = if length m.datagram == 0 then s.covered else data_end m;
  column = s.column;
}
summary_more s (parity_section f) = record {
  frame_ended = s.frame_ended || f.real_time.frame_boundary;
  table_ended = s.table_ended;
  end = s.end;
  covered = s.covered;
  column = Some f;
}

abbrev pub is_apart : Option FecFields → FecFields → Bool
is_apart None f = false
is_apart (Some before) f = are_apart before f

abbrev pub is_cut_by_last : ℕ → Summary → FrameSection → Bool
is_cut_by_last rows s (data_section m) = is_some s.column || (s.table_ended || nat_lt m.real_time.address s.end)
is_cut_by_last rows s (parity_section f) = is_apart s.column f || nat_lt ((191 - f.padding) * rows) s.covered

abbrev pub is_cut_by_summary : ℕ → Summary → FrameSection → Bool
is_cut_by_summary rows s section = s.frame_ended || is_cut_by_last rows s section

-- the summary of the sections of a frame
pub record IsSummaryOf (group : List FrameSection) (s : Summary) : Type 0 where
  pub frame_ended : list_any ends_frame group ≡ s.frame_ended
  pub table_ended : list_any (λ (d : MpeFields). d.real_time.table_boundary) (data_of group) ≡ s.table_ended
  pub end_is : end_after 0 (data_of group) ≡ s.end
  pub ends : (place : ℕ) → list_any (reaches place) (data_of group) ≡ nat_lt place s.covered
  pub covered_most : s.covered ≤ s.end
  pub column_some : nat_lt 0 (length (parity_of group)) ≡ is_some s.column
  pub apart : (f : FecFields) → list_any (λ (before : FecFields). are_apart before f) (parity_of group) ≡ is_apart s.column f
