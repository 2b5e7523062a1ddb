-- The table of the powers of the places, compared with them by computation.
use Rattle.std.proofs.Common.{ℕ, ◌≡◌, ◌-◌, ◌<◌, ◌==◌, get_or, true, refl, sym, ◌∙◌}
use Rattle.std.proofs.lemmas.Bool.{agree_below, agree_below_at, eqb-true}
use Rattle.division_law.specs.Registers.{register_steps}
use Rattle.field_law.proofs.Field.{power_two}
use Rattle.field_law.proofs.Shifts.{shifts}
use Rattle.erasure_law.specs.Roots.{place_power}
use Rattle.rs_erasure.specs.declared.powers.TheConstants.{POWERS}

all_powers : agree_below (λ n. true) (λ n. get_or POWERS n 0 == shifts (254 - n) 1) 255 ≡ true
unfolding register_steps
all_powers = refl

pub power_at : (place : ℕ) → place < 255 → get_or POWERS place 0 ≡ place_power place
power_at place low =
    eqb-true (get_or POWERS place 0) (shifts (254 - place) 1) (sym (agree_below_at (λ n. true) (λ n. get_or POWERS n 0 == shifts (254 - n) 1) 255 place all_powers low))
    ∙ sym (power_two (254 - place))
