-- Settings have one answer: they are refused for one fault, or accepted.
use Rattle.std.proofs.Common.{◌≡◌, inl, inr, ℕ, List, [], ◌∷◌, Option, Some, None, MatchOption, sym, ◌∙◌}
use Rattle.toml.specs.Data.{Members}
use Rattle.plan_spec.specs.Plan.{PlanFields}
use Rattle.settings_spec.specs.Keys.{SettingsFault}
use Rattle.settings_spec.specs.Settings.{tables_fault}
use Rattle.settings_spec.specs.Refusal.{IsDocument, IsNoDocument, Fails, whole_checks, IsFirst, NoneFails, IsRefused, IsAccepted}

-- one fault is the first of a list that fails
pub first_is_one : (fails : SettingsFault → Type 0) (checks : List SettingsFault) (f g : SettingsFault)
    → IsFirst fails checks f → IsFirst fails checks g → f ≡ g
first_is_one fails [] f g a b = absurd a
first_is_one fails (check ∷ checks) f g (inl a) (inl b) = a.1 ∙ sym b.1
first_is_one fails (check ∷ checks) f g (inl a) (inr b) = absurd (b.0 a.0)
first_is_one fails (check ∷ checks) f g (inr a) (inl b) = absurd (a.0 b.0)
first_is_one fails (check ∷ checks) f g (inr a) (inr b) = first_is_one fails checks f g a.1 b.1

-- where none of a list fails, none is the first
pub none_is_first : (fails : SettingsFault → Type 0) (checks : List SettingsFault) (f : SettingsFault)
    → NoneFails fails checks → ¬ IsFirst fails checks f
none_is_first fails [] f none first = first
none_is_first fails (check ∷ checks) f none (inl a) = none.0 a.0
none_is_first fails (check ∷ checks) f none (inr a) = none_is_first fails checks f none.1 a.1

-- bytes are one document at most, and none where they are no document
pub document_is_one : (bytes : List ℕ) (one other : Members) → IsDocument bytes one → IsDocument bytes other → one ≡ other
document_is_one bytes one other a b = let e = sym a.read ∙ b.read in cc

pub document_is_none : (bytes : List ℕ) (top : Members) → IsDocument bytes top → ¬ IsNoDocument bytes
document_is_none bytes top is none = let e = sym is.read ∙ none is.text in cc

-- a table is refused for one fault
refused_is_one : (found : Option SettingsFault) (fails : SettingsFault → Type 0) (f g : SettingsFault)
    → MatchOption found (IsFirst fails whole_checks f) (λ first. f ≡ first)
    → MatchOption found (IsFirst fails whole_checks g) (λ first. g ≡ first) → f ≡ g
refused_is_one None fails f g a b = first_is_one fails whole_checks f g a b
refused_is_one (Some first) fails f g a b = a ∙ sym b

pub refusal_is_one : (bytes : List ℕ) (f g : SettingsFault) → IsRefused bytes f → IsRefused bytes g → f ≡ g
refusal_is_one bytes f g (inl a) (inl b) = a.1 ∙ sym b.1
refusal_is_one bytes f g (inl a) (inr b) = absurd (document_is_none bytes b.0 b.1 a.0)
refusal_is_one bytes f g (inr a) (inl b) = absurd (document_is_none bytes a.0 a.1 b.0)
refusal_is_one bytes f g (inr a) (inr b) =
    let same : a.0 ≡ b.0 = document_is_one bytes a.0 b.0 a.1 b.1 in
    refused_is_one (tables_fault b.0) (Fails b.0) f g (rw same at a.2) b.2

-- accepted settings are refused for no fault
accepted_is_none : (found : Option SettingsFault) (fails : SettingsFault → Type 0) (f : SettingsFault) → found ≡ None
    → NoneFails fails whole_checks → ¬ MatchOption found (IsFirst fails whole_checks f) (λ first. f ≡ first)
accepted_is_none None fails f none whole refused = none_is_first fails whole_checks f whole refused
accepted_is_none (Some first) fails f none whole refused = cc

pub acceptance_is_no_refusal : (bytes : List ℕ) (plan : PlanFields) (f : SettingsFault) → IsAccepted bytes plan → ¬ IsRefused bytes f
acceptance_is_no_refusal bytes plan f accepted (inl a) = document_is_none bytes accepted.top accepted.document a.0
acceptance_is_no_refusal bytes plan f accepted (inr a) =
    let same : a.0 ≡ accepted.top = document_is_one bytes a.0 accepted.top a.1 accepted.document in
    accepted_is_none (tables_fault accepted.top) (Fails accepted.top) f accepted.tables accepted.whole (rw same at a.2)
