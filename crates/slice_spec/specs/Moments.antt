-- The moments of slots, and ten milliseconds, in the unit of time of each form of recording. Profile: the units.
use Rattle.std.specs.Prelude.{ℕ, ◌*◌, ◌/◌}
use Rattle.ts_spec.specs.Recording.{RecordingForm, plain, stamped, m2ts}

-- the unit of moments, by how many a second has: microseconds, or ticks at 27 MHz
abbrev pub units_per_second : RecordingForm → ℕ
units_per_second plain = 1000000
units_per_second stamped = 1000000
units_per_second m2ts = 27000000

-- ten milliseconds, of which delta_t counts so many
abbrev pub ten : RecordingForm → ℕ
ten plain = 10000
ten stamped = 10000
ten m2ts = 270000

-- the moment of slot s, where so many packets go out in a second; that of an m2ts recording before the remainder modulo 2^30; in a
-- plain recording no record has it
abbrev pub moment_of : RecordingForm → ℕ → ℕ → ℕ
moment_of form rate s = s * units_per_second form / rate
