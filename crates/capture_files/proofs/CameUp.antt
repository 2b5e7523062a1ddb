-- What a fault that came up says of the one below, where `?` handed it up, and of the counters of faults.
use Rattle.std.proofs.Common.{◌≡◌, ◌∙◌, ℕ, ap, sym, Result, Ok, Err, IsErrAnd}
use Rattle.capture_files.specs.declared.faults.ReceiveFault.{ReceiveFault}
use Rattle.capture_files.specs.Faults.{Blames}

-- it is what the one below becomes
pub came_up : {T F : Type 0} (r : Result T F) (e f : F) → IsErrAnd r (λ y. y ≡ e) → r ≡ Err f → e ≡ f
came_up (Ok x) e f is same = absurd is
came_up (Err y) e f is same = let other : y ≡ f = cc in sym is ∙ other

pub comes_up : {T F : Type 0} (r : Result T F) (e f : F) → IsErrAnd r (λ y. y ≡ e) → e ≡ f → r ≡ Err f
comes_up (Ok x) e f is same = absurd is
comes_up (Err y) e f is same = ap (λ x. Err x) (is ∙ same)

-- an object that is not blamed has failed no more
pub stays : {T : Type 0} (result : Result T ReceiveFault) (own : ReceiveFault) (before now : ℕ) → (result ≡ Err own → ⊥) → now ≡ before → Blames result own before now
stays result own before now other same = record { rose = λ is. absurd (other is); kept = λ not. same }
