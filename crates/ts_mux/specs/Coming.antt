-- The packets of a service that are still to come.
use Rattle.std.specs.Prelude.{ℕ, ◌+◌, ◌%◌, List, length}
use Rattle.ts_spec.specs.Form.{UnitForm}
use Rattle.ts_spec.specs.Packet.{PacketFields}
use Rattle.unit_stream.specs.Packers.{PackerState, packets_left}

-- these, and the counter of the packet that would follow them
pub record Coming : Type 0 where
  pub packets : List PacketFields
  pub behind : ℕ

-- what a packer and its units are seen as
abbrev pub coming : UnitForm → PackerState → List ℕ → List ℕ → Coming
coming form packer bytes ends = record {
  packets = packets_left form packer bytes ends;
  behind = (packer.counter + length (packets_left form packer bytes ends)) % 16;
}
