-- The table from PID to service.
use Rattle.std.proofs.Common.{◌≡◌, ℕ, Option, List, drop, sym}
use Rattle.std.specs.Prelude.{◌==◌}
use Rattle.std.specs.List.{position, position_from}
use Rattle.std.proofs.lemmas.Iterator.Adapters.{position_from-zero}
use Rattle.demux_core.specs.declared.service.ServiceReceiver.{ServiceReceiver}

-- the place of the first receiver on a PID, from a place on
abbrev pub places_from : ℕ → List ServiceReceiver → ℕ → Option ℕ
places_from at receivers asked = position_from (λ (receiver : ServiceReceiver). receiver.pid == asked) at (drop at receivers)

-- from the first on
pub places_from-zero : (receivers : List ServiceReceiver) (asked : ℕ) → places_from 0 receivers asked ≡ position (λ (receiver : ServiceReceiver). receiver.pid == asked) receivers
places_from-zero receivers asked = sym (position_from-zero (λ (receiver : ServiceReceiver). receiver.pid == asked) receivers)
