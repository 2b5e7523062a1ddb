-- Draws: a linear congruential generator of 64 bits, of which each draw is the upper 32. Profile: its numbers.
use Rattle.std.specs.Prelude.{ℕ, zero, suc, ◌+◌, ◌*◌, ◌/◌, ◌%◌, ◌^◌}

-- the state after one more draw
abbrev pub next_state : ℕ → ℕ
next_state state = (state * 6364136223846793005 + 1442695040888963407) % 2 ^ 64

-- the state after so many draws, which begins as the number of the sample
unfoldable pub state_after : ℕ → ℕ → ℕ
state_after number zero = number
state_after number (suc count) = next_state (state_after number count)

-- the draw at a place, from 0
abbrev pub draw_at : ℕ → ℕ → ℕ
draw_at number place = state_after number (place + 1) / 2 ^ 32
