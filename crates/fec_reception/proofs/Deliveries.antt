-- Datagrams delivered one after another, up to the first that is refused.
use Rattle.std.proofs.Common.{◌≡◌, ℕ, ◌<◌, List, [], ◌∷◌, ◌++◌, length, refl, ap, sym, ◌∙◌, subst, arith, append-nil, append_assoc, length-append, Result, Ok, Err, OnOk, OnErr}
use Rattle.wire_spec.specs.Causes.{raised}
use Rattle.fec_frame_spec.specs.Sections.{FrameSection}
use Rattle.fec_frame_spec.specs.Delivered.{frame_datagrams}
use Rattle.fec_frame.specs.Stands.{TableState, IsSolved}
use Rattle.outlet_spec.specs.Going.{Going, DeliversAfter, GoesOn}
use Rattle.outlet_spec.proofs.Going.{goes_nowhere, goes_then, after_none, after_then, after_same}

-- Of the datagrams of a table some were offered, and these are left.
module _ {T A E : Type 0} (StandsFor : T → List (ℕ × List ℕ) → Type 0) (Refused : T → ℕ → List ℕ → Type 0) (services faults : T → ℕ) (service : ℕ) (table : TableState) where
  pub record HaveGone (left : List (List ℕ)) (count : ℕ) (old new : Going T A E) : Type 0 where
    pub done : List (List ℕ)
    pub all : (sections : List FrameSection) → IsSolved table sections → done ++ left ≡ frame_datagrams table.rows sections
    pub counted : count ≡ raised 0 (length done)
    pub goes : GoesOn services faults old new
    pub delivered : DeliversAfter StandsFor Refused service done old new
    pub served : service < services new.outlet

  pub gone_none : (left : List (List ℕ)) (one : Going T A E) → service < services one.outlet
      → ((sections : List FrameSection) → IsSolved table sections → left ≡ frame_datagrams table.rows sections) → HaveGone left 0 one one
  gone_none left one served all = record {
    done = [];
    all = all;
    counted = refl;
    goes = goes_nowhere StandsFor Refused services faults service one;
    delivered = after_none StandsFor Refused services faults service one;
    served = served;
  }

  pub gone_more : (left rest : List (List ℕ)) (datagram : List ℕ) (count : ℕ) (old mid new : Going T A E) → HaveGone left count old mid → left ≡ datagram ∷ rest
      → GoesOn services faults mid new → DeliversAfter StandsFor Refused service (datagram ∷ []) mid new → HaveGone rest (raised count 1) old new
  gone_more left rest datagram count old mid new gone is goes delivered = record {
    done = gone.done ++ datagram ∷ [];
    all = λ sections solved.
        append_assoc gone.done (datagram ∷ []) rest ∙ ap (λ (l : List (List ℕ)). gone.done ++ l) (sym is) ∙ gone.all sections solved;
    counted =
        ap (λ (n : ℕ). raised n 1) gone.counted
        ∙ omega (arith, length-append gone.done (datagram ∷ []));
    goes = goes_then StandsFor Refused services faults service old mid new gone.goes goes;
    delivered = after_then StandsFor Refused services faults service gone.done (datagram ∷ []) old mid new gone.delivered delivered goes;
    served = subst (λ (n : ℕ). service < n) (sym goes.services_are) gone.served;
  }

  -- none is left
  pub gone_all : (left : List (List ℕ)) (count : ℕ) (old new : Going T A E) (gone : HaveGone left count old new) → left ≡ []
      → (sections : List FrameSection) → IsSolved table sections → gone.done ≡ frame_datagrams table.rows sections
  gone_all left count old new gone none sections solved =
      sym (append-nil gone.done) ∙ ap (λ (l : List (List ℕ)). gone.done ++ l) (sym none) ∙ gone.all sections solved

  pub counted_all : (left : List (List ℕ)) (count : ℕ) (old new : Going T A E) → HaveGone left count old new → left ≡ []
      → (sections : List FrameSection) → IsSolved table sections → count ≡ raised 0 (length (frame_datagrams table.rows sections))
  counted_all left count old new gone none sections solved =
      gone.counted ∙ ap (λ (l : List (List ℕ)). raised 0 (length l)) (gone_all left count old new gone none sections solved)

  pub delivered_all : (left : List (List ℕ)) (count : ℕ) (old new : Going T A E) → HaveGone left count old new → left ≡ []
      → (sections : List FrameSection) → IsSolved table sections → DeliversAfter StandsFor Refused service (frame_datagrams table.rows sections) old new
  delivered_all left count old new gone none sections solved =
      after_same StandsFor Refused services faults service gone.done (frame_datagrams table.rows sections) old new
      (gone_all left count old new gone none sections solved) gone.delivered
