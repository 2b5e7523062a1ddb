-- The table from PID to service: an entry for each PID, the place of its service or 255.
use Rattle.std.specs.Prelude.{◌≡◌, ◌==◌, ℕ, ◌<◌, List, Option, Some, None, cond, slice_index, vec_len}
use Rattle.std.specs.List.{position}
use Rattle.demux_core.specs.declared.service.ServiceReceiver.{ServiceReceiver}
use Rattle.demux_core.specs.declared.services.Services.{Services}

-- the place that the entry of a PID tells
abbrev pub place_in : List ℕ → ℕ → Option ℕ
place_in places pid = cond (slice_index places pid == 255) None (Some (slice_index places pid))

-- each PID's entry tells the place of the first receiver on it
abbrev pub ArePlacesOf : List ℕ → List ServiceReceiver → Type 0
ArePlacesOf places receivers = (pid : ℕ) → pid < 8192 → place_in places pid ≡ position (λ (receiver : ServiceReceiver). receiver.pid == pid) receivers

-- each receiver is found by its PID
pub record AreFound (services : Services) : Type 0 where
  pub size : vec_len services.places ≡ 8192
  pub found : ArePlacesOf services.places.items services.receivers.items
