-- The bytes of the units of a service that are not out.
use Rattle.std.specs.Prelude.{◌≡◌, ℕ, ◌+◌, ◌≤◌, ◌<◌, ◌^◌, true, List, ◌++◌, length, map, drop, slice_get, Some}
use Rattle.unit_stream.specs.Packers.{PackerState, AreRising, IsOnWay}
use Rattle.plan_spec.specs.Plan.{KindFields}
use Rattle.stream_law.specs.Words.{is_single}
use Rattle.ts_mux.specs.Units.{unit_bytes, unit_with, ends_from, AreFor}
use Rattle.stream_spec.specs.Units.{unit_of}
use Rattle.ts_mux.specs.declared.unit_bytes.UnitBytes.{UnitBytes}

-- they are those of the datagrams whose units are not out, without those that are out of the first of these units
abbrev pub bytes_left : KindFields → List ℕ → List (List ℕ) → UnitBytes → List ℕ
bytes_left kind unicast datagrams units = drop units.out (unit_bytes kind unicast (drop units.count datagrams))

-- what the unit of this datagram has around it was written, and some of its bytes are not out
pub record IsBegun (kind : KindFields) (unicast datagram : List ℕ) (units : UnitBytes) : Type 0 where
  pub fits : units.head + 4 ≤ length units.around
  pub some : units.out < units.head + length datagram + 4
  pub unit_is : unit_of kind unicast datagram ≡ unit_with units.head units.around datagram

-- where bytes of a unit are out, what it has around its datagram was written
pub record IsReading (kind : KindFields) (unicast : List ℕ) (datagrams : List (List ℕ)) (units : UnitBytes) : Type 0 where
  pub single : is_single kind ≡ true
  pub datagrams_are : AreFor kind datagrams
  pub few : length datagrams < 2 ^ 32
  pub begun : 0 < units.out → (datagram : List ℕ) × (slice_get datagrams units.count ≡ Some datagram) × IsBegun kind unicast datagram units

-- a packer is on its way through the units of these datagrams, and as many of their bytes are out
pub record IsSending (start : ℕ) (kind : KindFields) (unicast : List ℕ) (datagrams : List (List ℕ)) (ends : List ℕ) (units : UnitBytes) (packer : PackerState) : Type 0 where
  pub reading : IsReading kind unicast datagrams units
  pub ends_are : ends ≡ ends_from 0 (map (unit_of kind unicast) datagrams)
  pub rising : AreRising start 0 ends
  pub way : IsOnWay packer ends
  pub before : List ℕ
  pub before_is : length before ≡ packer.at
  pub bytes_are : unit_bytes kind unicast datagrams ≡ before ++ bytes_left kind unicast datagrams units
