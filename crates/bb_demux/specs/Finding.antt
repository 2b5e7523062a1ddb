-- Receivers by their ISIs.
use Rattle.std.specs.Prelude.{ℕ, Bool, List, [], ◌∷◌, ◌==◌}
use Rattle.plan_spec.specs.Plan.{ServiceFields}
use Rattle.bb_demux.specs.Receiving.{IsOn}
use Rattle.bb_demux.specs.declared.services.IsiReceiver.{IsiReceiver}

-- whether a receiver is on this ISI
abbrev pub is_on_isi : ℕ → IsiReceiver → Bool
is_on_isi isi receiver = receiver.isi == isi

-- receivers of these services, in their order, that were given nothing
abbrev pub AreFresh : List ServiceFields → List IsiReceiver → Type 0
AreFresh [] [] = Unit {0}
AreFresh [] (receiver ∷ receivers) = ⊥
AreFresh (it ∷ services) [] = ⊥
AreFresh (it ∷ services) (receiver ∷ receivers) = IsOn it receiver [] × AreFresh services receivers
