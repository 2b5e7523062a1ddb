-- Windows: the slots of each cycle that sliced services have. Profile: all of it.
use Rattle.std.specs.Prelude.{◌≡◌, ℕ, ◌+◌, ◌-◌, Bool, true, ◌&&◌, List, [], ◌∷◌, nat_lt, nat_le, if◌then◌else◌, Option, Some, None}
use Rattle.std.specs.List.{slice_get}

-- the window of a service: so many slots of each cycle, from one on
pub record OwnedWindow : Type 0 where
  pub service : ℕ
  pub start : ℕ
  pub length : ℕ

-- the slot at this offset in the cycle is in the window
abbrev pub has_slot : OwnedWindow → ℕ → Bool
has_slot window offset = nat_le window.start offset && nat_lt offset (window.start + window.length)

-- the service whose slot it is, and the place of the slot in the window: the number of the packet of the burst that goes out there
abbrev pub owner_of : List OwnedWindow → ℕ → Option (ℕ × ℕ)
owner_of [] offset = None
owner_of (window ∷ windows) offset = if has_slot window offset then Some (window.service, offset - window.start) else owner_of windows offset

-- no slot is in two windows
abbrev pub AreApart : List OwnedWindow → Type 0
AreApart windows = (i j offset : ℕ) (a b : OwnedWindow) → slice_get windows i ≡ Some a → slice_get windows j ≡ Some b
    → has_slot a offset ≡ true → has_slot b offset ≡ true → i ≡ j
