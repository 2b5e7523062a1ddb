-- The packets of one section.
use Rattle.std.proofs.Common.{◌≡◌, ℕ, true, List, [], ◌∷◌, length, ap, map, ◌-◌, rules}
use Rattle.section_spec.specs.Section.{section_form}
use Rattle.unit_stream.specs.Packing.{packetized}
use Rattle.unit_stream.specs.Packers.{units_of, written}
use Rattle.psi_spec.specs.Tables.{laid}
use Rattle.std.proofs.lemmas.List.{take_all}

pub laid_as_one : (pid : ℕ) (section : List ℕ) → map written (packetized section_form true pid 0 (units_of section (length section ∷ []))) ≡ laid pid section
laid_as_one pid section = ap (λ s. map written (packetized section_form true pid 0 (s ∷ []))) (take_all (length section - 0) section (search rules))
