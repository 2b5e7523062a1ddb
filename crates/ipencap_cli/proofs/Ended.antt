-- What a flush leaves, by its answer.
use Rattle.std.proofs.Common.{◌≡◌, ◌⊎◌, inl, inr, ℕ, Result, Ok, Err, OnOk, OnErr}
use Rattle.wire_spec.specs.Causes.{Rose, RoseBy, HasCause}

module _ {T E : Type 0} (Flushed : Type 0) (before after : ℕ) where
  pub by_answer : (result : Result T E) → OnOk result Flushed → HasCause before after result → (Flushed × (after ≡ before)) ⊎ Rose before after
  by_answer (Ok x) flushed cause = inl (flushed, cause.kept)
  by_answer (Err e) flushed cause = inr cause.failed

  pub by_count : (result : Result T E) → OnOk result Flushed → OnOk result (after ≡ before) → OnErr result (RoseBy before after 1)
      → (Flushed × (after ≡ before)) ⊎ RoseBy before after 1
  by_count (Ok x) flushed kept failed = inl (flushed, kept)
  by_count (Err e) flushed kept failed = inr failed
