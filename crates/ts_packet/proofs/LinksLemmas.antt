-- The last of some packets.
use Rattle.std.proofs.Common.{◌≡◌, ℕ, List, [], ◌∷◌, ◌++◌, refl, Option, None, Some}
use Rattle.ts_packet.specs.Links.{last_or, last_of}

last_or_push : (before : Option (List ℕ)) (seen : List (List ℕ)) (bytes : List ℕ) → last_or before (seen ++ bytes ∷ []) ≡ Some bytes
last_or_push before [] bytes = refl
last_or_push before (x ∷ seen) bytes = last_or_push (Some x) seen bytes

-- one packet more is the last
pub last_of_push : (seen : List (List ℕ)) (bytes : List ℕ) → last_of (seen ++ bytes ∷ []) ≡ Some bytes
last_of_push seen bytes = last_or_push None seen bytes
