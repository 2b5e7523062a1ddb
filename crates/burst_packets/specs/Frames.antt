-- The frames of a service without time slicing that are still to come.
use Rattle.std.specs.Prelude.{◌≡◌, ℕ, ◌+◌, ◌%◌, ◌<◌, ◌≤◌, ◌^◌, true, List, ◌++◌, length, drop, replicate, vec_len}
use Rattle.wire_spec.specs.Lists.{joined}
use Rattle.ts_spec.specs.Packet.{PacketFields}
use Rattle.section_spec.specs.Section.{section_form}
use Rattle.section_spec.specs.Mpe.{IsRows}
use Rattle.unit_stream.specs.Packing.{packetized}
use Rattle.unit_stream.specs.Packers.{PackerState, AreEnds, IsOnWay, packets_left}
use Rattle.stream_spec.specs.Units.{datagrams_by_frame, units_of_frames}
use Rattle.fec_sent_law.specs.Frames.{AreSendable}
use Rattle.burst_packets.specs.declared.bursts.Shape.{Shape}
use Rattle.burst_packets.specs.declared.frame_bytes.FrameBytes.{FrameBytes}

-- rows and sent columns of each frame; the packets that are not out, and the counter of the packet that would follow them
pub record Frames : Type 0 where
  pub rows : ℕ
  pub columns : ℕ
  pub packets : List PacketFields
  pub behind : ℕ

-- the units of the frames of these datagrams, of which the first has this number
abbrev pub units_in : Shape → ℕ → List (List ℕ) → List (List ℕ)
units_in shape number datagrams = units_of_frames shape.rows shape.columns shape.unicast number (datagrams_by_frame shape.rows datagrams)

-- before the first packet of these datagrams
pub record BeginsFrames (shape : Shape) (first pid counter : ℕ) (datagrams : List (List ℕ)) (frames : Frames) : Type 0 where
  pub rows_are : frames.rows ≡ shape.rows
  pub columns_are : frames.columns ≡ shape.columns
  pub packets_are : frames.packets ≡ packetized section_form true pid counter (units_in shape first datagrams)
  pub behind_is : frames.behind ≡ (counter + length frames.packets) % 16
  pub most : length frames.packets ≤ 2 ^ 48

-- How the code has them. The units of one frame lie in a buffer; those of the next come into it when all of these are out.

-- the bytes of units that are not out
abbrev pub bytes_left : List (List ℕ) → FrameBytes → List ℕ
bytes_left datagrams bytes = drop bytes.out bytes.frame.bytes ++ joined (units_in bytes.shape bytes.number (drop bytes.from datagrams))

-- the frame under way is one of these datagrams, or there is none
pub record IsReading (datagrams : List (List ℕ)) (bytes : FrameBytes) : Type 0 where
  pub rows_are : IsRows bytes.shape.rows
  pub columns_least : 1 ≤ bytes.shape.columns
  pub columns_most : bytes.shape.columns ≤ 64
  pub same_rows : bytes.frame.rows ≡ bytes.shape.rows
  pub same_columns : bytes.frame.columns ≡ bytes.shape.columns
  pub sendable : AreSendable datagrams
  pub within : bytes.from ≤ length datagrams
  pub out_most : bytes.out ≤ length bytes.frame.bytes
  pub number_below : bytes.number < 4096
  pub deltas_size : vec_len bytes.deltas ≡ 2288

-- the packets that carry these bytes and none before them
abbrev pub packets_of_bytes : PackerState → List ℕ → List ℕ → List PacketFields
packets_of_bytes packer bytes ends = packets_left section_form packer (replicate packer.at 0 ++ bytes) ends

abbrev pub frames_seen : FrameBytes → List (List ℕ) → List ℕ → PackerState → Frames
frames_seen bytes datagrams ends packer = record {
  rows = bytes.shape.rows;
  columns = bytes.shape.columns;
  packets = packets_of_bytes packer (bytes_left datagrams bytes) ends;
  behind = (packer.counter + length (packets_of_bytes packer (bytes_left datagrams bytes) ends)) % 16;
}

-- the packer is on its way through these units, and the bytes that it has not taken are not out
pub record AreOnWay (bytes : FrameBytes) (datagrams : List (List ℕ)) (ends : List ℕ) (packer : PackerState) : Type 0 where
  pub reading : IsReading datagrams bytes
  pub ends_are : AreEnds 1 (packer.at + length (bytes_left datagrams bytes)) ends
  pub way : IsOnWay packer ends
