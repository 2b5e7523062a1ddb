use Rattle.std.proofs.Common.{◌≡◌, ℕ, ◌/◌, ◌^◌, ap, ◌∙◌, arith}
use Rattle.sample_draws.proofs.Steps.{after_one}
use Rattle.sample_draws.proofs.draws.Draws.next.Goals as goal

pub returns-clause-drawn : goal.returns-clause-drawn
returns-clause-drawn c = λ number count was.
    let same : c.self.inside.state ≡ c.args.self.now = omega (arith, c.self.view_is) in
    ap (λ (n : ℕ). n / 2 ^ 32)
    (after_one number count c.self.inside.state c.state_after_one-self-inside.result c.state_after_one-self-inside.ensures (same ∙ was))

pub returns-clause-state : goal.returns-clause-state
returns-clause-state c = λ number count was.
    let same : c.self.inside.state ≡ c.args.self.now = omega (arith, c.self.view_is) in
    after_one number count c.self.inside.state c.state_after_one-self-inside.result c.state_after_one-self-inside.ensures (same ∙ was)
