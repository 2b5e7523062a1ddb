-- What is counted of delivered datagrams.
use Rattle.std.specs.Prelude.{◌≡◌, ℕ, List, length}
use Rattle.wire_spec.specs.Causes.{raised}
use Rattle.outlet_spec.specs.Pairs.{datagrams_of}
use Rattle.sample_command.specs.declared.outlet.Delivered.{Delivered}

-- the number of a service's datagrams among pairs of service and datagram
abbrev pub counted : ℕ → List (ℕ × List ℕ) → ℕ
counted k pairs = raised 0 (length (datagrams_of k pairs))

-- these pairs were counted
pub record StandsFor (delivered : Delivered) (pairs : List (ℕ × List ℕ)) : Type 0 where
  pub lecture : delivered.lecture ≡ counted 0 pairs
  pub files : delivered.files ≡ counted 1 pairs
