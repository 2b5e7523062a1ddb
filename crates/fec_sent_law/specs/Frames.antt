-- What frames are made of, and the sections of a frame (EN 301 192 clause 9) whatever their delta_t: with time slicing it is not the
-- number of the frame.
use Rattle.std.specs.Prelude.{◌≡◌, ℕ, ◌≤◌, List, length, All}
use Rattle.wire_spec.specs.Bytes.{AreBytes}
use Rattle.wire_spec.specs.Datagram.{IsDatagram}
use Rattle.section_spec.specs.Mpe.{IsRows}
use Rattle.fec_frame_spec.specs.Sections.{FrameSection}
use Rattle.fec_frame_spec.specs.Sender.{frame_of, sections_to_send}
use Rattle.stream_spec.specs.Units.{mac_for}

-- the sections of the frame of these datagrams, of which so many columns are sent; section i has the delta_t delta i (EN 301 192 clause 9)
unfoldable pub sections_of_frame : ℕ → ℕ → List ℕ → (ℕ → ℕ) → List (List ℕ) → List FrameSection
sections_of_frame rows columns unicast delta datagrams = sections_to_send rows (frame_of rows columns datagrams) (mac_for unicast) delta

-- a datagram that a datagram_section has room for: 4,080 bytes at most
pub record IsSendable (datagram : List ℕ) : Type 0 where
  pub is : IsDatagram datagram
  pub size : length datagram ≤ 4080

-- each of these datagrams is so
abbrev pub AreSendable : List (List ℕ) → Type 0
AreSendable datagrams = All IsSendable datagrams

-- what frames can be made of
pub record CanSend (rows columns : ℕ) (unicast : List ℕ) (datagrams : List (List ℕ)) : Type 0 where
  pub rows_are : IsRows rows
  pub columns_least : 1 ≤ columns
  pub columns_most : columns ≤ 64
  pub unicast_bytes : AreBytes unicast
  pub unicast_size : length unicast ≡ 6
  pub sendable : AreSendable datagrams
  pub bytes : All AreBytes datagrams
