-- The burst of the next window among all bursts, as its datagrams stand in the list.
use Rattle.std.proofs.Common.{◌≡◌, ℕ, zero, suc, ◌+◌, ◌*◌, ◌<◌, ◌≤◌, List, [], ◌∷◌, length, drop, get_or, refl, sym, ap, ap₂, subst, ◌∙◌, arith, add-one}
use Rattle.std.specs.Prelude.{All}
use Rattle.std.proofs.lemmas.List.Elements.{All-drop}
use Rattle.wire_spec.specs.Lists.{joined}
use Rattle.unit_stream.specs.Packers.{end_of}
use Rattle.unit_stream.proofs.Between.{end_of-next, rises, below_last}
use Rattle.stream_spec.specs.Units.{datagrams_by_burst}
use Rattle.fec_units.specs.Parts.{part_of}
use Rattle.fec_units.specs.Bursts.{AreBurstEnds, parts_from}
use Rattle.burst_packets.proofs.Limits.{all_head}

parts_at : (from : ℕ) (ends : List ℕ) (list : List (List ℕ)) (n : ℕ) → n < length ends
    → drop n (parts_from from ends list) ≡ part_of (get_or (from ∷ ends) n 0) (get_or ends n 0) list ∷ drop (suc n) (parts_from from ends list)
parts_at from [] list n less = absurd (omega (arith, less))
parts_at from (end ∷ ends) list zero less = refl
parts_at from (end ∷ ends) list (suc n) less = parts_at end ends list n (omega (arith, less))

pub length-parts : (from : ℕ) (ends : List ℕ) (list : List (List ℕ)) → length (parts_from from ends list) ≡ length ends
length-parts from [] list = refl
length-parts from (end ∷ ends) list = ap suc (length-parts end ends list)

module _ (rows columns slots : ℕ) (list : List (List ℕ)) (ends : List ℕ) (are : AreBurstEnds rows columns slots list ends) where
  abbrev pub bursts : List (List (List ℕ))
  bursts = datagrams_by_burst rows columns slots list

  pub count_is : length bursts ≡ length ends
  count_is = sym (ap (λ (l : List (List (List ℕ))). length l) are.bursts_are) ∙ length-parts 0 ends list

  module _ (opened : ℕ) (less : opened < length ends) where
    abbrev pub burst : List (List ℕ)
    burst = part_of (end_of ends opened) (end_of ends (opened + 1)) list

    pub next_burst : drop opened bursts ≡ burst ∷ drop (opened + 1) bursts
    next_burst =
        ap (drop opened) (sym are.bursts_are)
        ∙ parts_at 0 ends list opened less
        ∙ ap₂ (λ (end : ℕ) (l : List (List (List ℕ))). part_of (end_of ends opened) end list ∷ l) (sym (end_of-next ends opened))
        (ap₂ drop (sym (add-one opened)) are.bursts_are)

    pub fits : length (joined burst) ≤ 191 * rows
    fits =
        all_head (λ (b : List (List ℕ)). length (joined b) ≤ 191 * rows) burst (drop (opened + 1) bursts)
        (subst (All (λ (b : List (List ℕ)). length (joined b) ≤ 191 * rows)) next_burst (All-drop (λ (b : List (List ℕ)). length (joined b) ≤ 191 * rows) opened bursts are.fit))

    pub some : end_of ends opened < end_of ends (opened + 1)
    some = omega (arith, rises 1 ends opened are.ends_are.rising less)

    pub within : end_of ends (opened + 1) ≤ length list
    within = omega (arith, below_last 1 ends (opened + 1) are.ends_are.rising (omega (arith, less)), are.ends_are.within)
