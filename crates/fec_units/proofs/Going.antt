-- Which datagrams of a list share a frame, from a place on.
use Rattle.std.proofs.Common.{◌≡◌, ℕ, ◌+◌, ◌<◌, ◌≤◌, Bool, true, false, List, [], ◌∷◌, ◌++◌, length, get_or, drop, ap, sym, ◌∙◌, arith}
use Rattle.std.proofs.lemmas.List.{drop_more}
use Rattle.fec_frame_spec.specs.Sender.{datagrams_in_frames}
use Rattle.fec_sent_law.proofs.Fitting.{frames_with, joins, begins}
use Rattle.fec_units.specs.Parts.{part_of}
use Rattle.fec_units.proofs.Parts.{part_more, part_none}

module _ (fits : List (List ℕ) → Bool) (list : List (List ℕ)) (from : ℕ) where
  -- the datagrams up to a place are in one frame, if no more come
  abbrev pub IsGoing : ℕ → Type 0
  IsGoing end = datagrams_in_frames fits (drop from list) ≡ frames_with fits (part_of from end list ∷ []) (drop end list)

  pub going_first : from < length list → IsGoing (from + 1)
  going_first within =
      ap (λ (l : List (List ℕ)). datagrams_in_frames fits l) (drop_more list from [] within)
      ∙ ap (λ (l : List (List ℕ)). frames_with fits (l ∷ []) (drop (from + 1) list))
      (sym (part_more from from list (omega arith) within ∙ ap (λ (l : List (List ℕ)). l ++ get_or list from [] ∷ []) (part_none from list)))

  module _ (end : ℕ) (le : from ≤ end) (within : end < length list) (going : IsGoing end) where
    there : datagrams_in_frames fits (drop from list) ≡ frames_with fits (part_of from end list ∷ []) (get_or list end [] ∷ drop (end + 1) list)
    there = going ∙ ap (λ (l : List (List ℕ)). frames_with fits (part_of from end list ∷ []) l) (drop_more list end [] within)

    more : part_of from (end + 1) list ≡ part_of from end list ++ get_or list end [] ∷ []
    more = part_more from end list le within

    pub going_on : fits (part_of from (end + 1) list) ≡ true → IsGoing (end + 1)
    going_on fit =
        there
        ∙ joins fits (part_of from end list) (drop (end + 1) list) (get_or list end []) (ap fits (sym more) ∙ fit)
        ∙ ap (λ (l : List (List ℕ)). frames_with fits (l ∷ []) (drop (end + 1) list)) (sym more)

    pub going_over : fits (part_of from (end + 1) list) ≡ false → datagrams_in_frames fits (drop from list) ≡ part_of from end list ∷ datagrams_in_frames fits (drop end list)
    going_over passes =
        there
        ∙ begins fits (part_of from end list) (drop (end + 1) list) (get_or list end []) (ap fits (sym more) ∙ passes)
        ∙ ap (λ (l : List (List ℕ)). part_of from end list ∷ datagrams_in_frames fits l) (sym (drop_more list end [] within))
