-- The starts of datagrams are the least set.
use Rattle.std.proofs.Common.{◌≡◌, ◌⊎◌, inl, inr, ℕ, ◌+◌, Bool, true, List, [], ◌∷◌, ◌++◌, Option, refl, ap, sym, ◌∙◌, subst}
use Rattle.section_spec.specs.Mpe.{MpeFields}
use Rattle.fec_frame_spec.specs.Starts.{IsTold, AreTold, IsSectionEdge, IsDatagramStart}

module _ (rows : ℕ) (bytes : ℕ → Option ℕ) (sections : List MpeFields) where
  told_last : (lengths : List ℕ) (place mid n : ℕ) → AreTold rows bytes place lengths mid → IsTold rows bytes mid n → AreTold rows bytes place (lengths ++ n ∷ []) (mid + n)
  told_last [] place mid n behind told = (subst (λ (t : ℕ). IsTold rows bytes t n) (sym behind) told, ap (λ (t : ℕ). t + n) behind)
  told_last (k ∷ lengths) place mid n behind told = (behind.0, told_last lengths (place + k) mid n behind.1 told)

  pub first_start : IsDatagramStart rows bytes sections 0
  first_start = record { start = 0; from = inl refl; lengths = []; told = refl }

  pub edge_start : (place : ℕ) → IsSectionEdge sections place → IsDatagramStart rows bytes sections place
  edge_start place edge = record { start = place; from = inr edge; lengths = []; told = refl }

  pub next_start : (place n : ℕ) → IsDatagramStart rows bytes sections place → IsTold rows bytes place n → IsDatagramStart rows bytes sections (place + n)
  next_start place n is told = record { start = is.start; from = is.from; lengths = is.lengths ++ n ∷ []; told = told_last is.lengths is.start place n is.told told }

  module _ (set : ℕ → Bool) (zero : set 0 ≡ true) (edges : (place : ℕ) → IsSectionEdge sections place → set place ≡ true)
      (next : (place n : ℕ) → set place ≡ true → IsTold rows bytes place n → set (place + n) ≡ true) where
    along : (lengths : List ℕ) (place end : ℕ) → set place ≡ true → AreTold rows bytes place lengths end → set end ≡ true
    along [] place end is told = ap set (sym told) ∙ is
    along (n ∷ lengths) place end is told = along lengths (place + n) end (next place n is told.0) told.1

    from : (start : ℕ) → (start ≡ 0) ⊎ IsSectionEdge sections start → set start ≡ true
    from start (inl first) = ap set first ∙ zero
    from start (inr edge) = edges start edge

    pub in_each : (place : ℕ) → IsDatagramStart rows bytes sections place → set place ≡ true
    in_each place is = along is.lengths is.start place (from is.start is.from) is.told
