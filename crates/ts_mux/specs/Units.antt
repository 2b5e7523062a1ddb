-- The units of a service, one after another in a buffer.
use Rattle.std.specs.Prelude.{◌≡◌, ℕ, ◌+◌, ◌*◌, ◌≤◌, List, [], ◌∷◌, ◌++◌, length, take, drop, map, All}
use Rattle.wire_spec.specs.Datagram.{IsDatagram}
use Rattle.wire_spec.specs.Lists.{joined}
use Rattle.plan_spec.specs.Plan.{KindFields, ule, mpe, fec, gse}
use Rattle.plan_spec.specs.Route.{longest_of}
use Rattle.stream_spec.specs.Units.{unit_of}

-- the units of these datagrams, one after another
abbrev pub unit_bytes : KindFields → List ℕ → List (List ℕ) → List ℕ
unit_bytes kind unicast datagrams = joined (map (unit_of kind unicast) datagrams)

-- a datagram with so many bytes before it and four after it, which stand one after the other
abbrev pub unit_with : ℕ → List ℕ → List ℕ → List ℕ
unit_with head around datagram = take head around ++ (datagram ++ take 4 (drop head around))

-- a datagram that a service of this kind takes
pub record IsFor (kind : KindFields) (datagram : List ℕ) : Type 0 where
  pub is : IsDatagram datagram
  pub short : length datagram ≤ longest_of kind

abbrev pub AreFor : KindFields → List (List ℕ) → Type 0
AreFor kind datagrams = All (IsFor kind) datagrams

-- where units end that stand one after another from a place on
abbrev pub ends_from : ℕ → List (List ℕ) → List ℕ
ends_from place [] = []
ends_from place (unit ∷ units) = (place + length unit) ∷ ends_from (place + length unit) units

-- the units of these datagrams end here, one after another, and have so many bytes at most
pub record AreEndsOf (kind : KindFields) (unicast : List ℕ) (datagrams : List (List ℕ)) (ends : List ℕ) : Type 0 where
  pub places : ends ≡ ends_from 0 (map (unit_of kind unicast) datagrams)
  pub most : length (unit_bytes kind unicast datagrams) ≤ 32773 * length datagrams

-- the PID of the kind is one
abbrev pub HasPid : KindFields → Type 0
HasPid (ule pid address packing) = pid ≤ 8191
HasPid (mpe pid) = pid ≤ 8191
HasPid (fec pid rows parity window) = pid ≤ 8191
HasPid (gse isi address) = Unit {0}
