-- A section on its way into the packets of one PID, as often as it is asked for.
use Rattle.std.specs.Prelude.{◌≡◌, ℕ, ◌<◌, Bool, List, [], ◌∷◌, length}
use Rattle.ts_spec.specs.Packet.{PacketFields}
use Rattle.section_spec.specs.Section.{section_form}
use Rattle.unit_stream.specs.Packers.{PackerState, IsOnWay, packets_left}

-- units on their way: what packetizes them, and the packets still to come
pub record OnWay : Type 0 where
  pub pid : ℕ
  pub packing : Bool
  pub counter : ℕ
  pub units : List (List ℕ)
  pub packets : List PacketFields

-- what a packer and its section are seen as
abbrev pub on_way : PackerState → List ℕ → List ℕ → OnWay
on_way packer section ends = record {
  pid = packer.pid;
  packing = packer.packing;
  counter = packer.counter;
  units = section ∷ [];
  packets = packets_left section_form packer section ends;
}

-- the packer is on its way through the section, which ends here
pub record IsPacking (packer : PackerState) (section ends : List ℕ) : Type 0 where
  pub ends_are : ends ≡ length section ∷ []
  pub some : 0 < length section
  pub way : IsOnWay packer ends
