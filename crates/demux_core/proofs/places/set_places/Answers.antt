use Rattle.std.proofs.Common.{◌≡◌, ℕ, arith, ap, ◌∙◌}
use Rattle.demux_core.proofs.PlacesFrom.{places_from, places_from-zero}
use Rattle.demux_core.proofs.places.set_places.Goals as goal

pub returns-clause-set : goal.returns-clause-set
returns-clause-set c = λ asked within.
    let done : c.loop-at.at ≡ 0 = omega (arith, c.loop-at-test.false) in
    c.loop-at.invariant.2 asked within ∙ ap (λ (n : ℕ). places_from n c.args.receivers.now asked) done ∙ places_from-zero c.args.receivers.now asked
