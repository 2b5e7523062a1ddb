-- Where parts of a list end: one end more.
use Rattle.std.proofs.Common.{◌≡◌, ℕ, ◌+◌, ◌≤◌, List, [], ◌∷◌, ◌++◌, length, slice_index, refl, ap}
use Rattle.unit_stream.specs.Packers.{AreRising}
use Rattle.fec_units.specs.Bursts.{parts_from}
use Rattle.fec_units.specs.Parts.{part_of}

pub parts_more : (from : ℕ) (ends : List ℕ) (end : ℕ) (list : List (List ℕ))
    → parts_from from (ends ++ end ∷ []) list ≡ parts_from from ends list ++ part_of (slice_index (from ∷ ends) (length ends)) end list ∷ []
parts_more from [] end list = refl
parts_more from (e ∷ ends) end list = ap (λ (ps : List (List (List ℕ))). part_of from e list ∷ ps) (parts_more e ends end list)

pub ends_rise : (from : ℕ) (ends : List ℕ) (end : ℕ) → AreRising 1 from ends → slice_index (from ∷ ends) (length ends) + 1 ≤ end → AreRising 1 from (ends ++ end ∷ [])
ends_rise from [] end rising more = (more, tt)
ends_rise from (e ∷ ends) end rising more = (rising.0, ends_rise e ends end rising.1 more)

pub last_end : (from : ℕ) (ends : List ℕ) (end : ℕ) → slice_index (from ∷ (ends ++ end ∷ [])) (length (ends ++ end ∷ [])) ≡ end
last_end from [] end = refl
last_end from (e ∷ ends) end = last_end e ends end
