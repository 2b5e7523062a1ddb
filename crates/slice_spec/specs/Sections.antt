-- What delta_t of real_time_parameters says of a section and the next one of its service (EN 301 192 clause 9).
use Rattle.std.specs.Prelude.{◌≡◌, ℕ, ◌+◌, ◌-◌, ◌*◌, ◌/◌, Bool, true, not, ◌&&◌, ◌==◌, nat_lt, nat_le, Option, Some, None}

-- what delta_t counts in the sections of a service (EN 301 192 clauses 9, 9.10). Without time slicing it is a cyclic frame index (clause 9.10; Profile: from
-- 0); with time slicing it is the time to the next burst, where moments count so many units to ten milliseconds
pub data Timing : Type 0 where
  indexed : Timing
  sliced : (ten : ℕ) → Timing

-- the time of a section: the moment of the packet with its first byte, and its delta_t (EN 301 192 clause 9)
pub record SectionTime : Type 0 where
  pub moment : ℕ
  pub delta : ℕ

-- the whole tens of milliseconds from one moment to a later one (EN 301 192 clause 9)
abbrev pub tens_between : ℕ → ℕ → ℕ → ℕ
tens_between now next ten = (next - now) / ten

-- the next burst has begun, as the section seen last announced; a delta_t of 0 announces none (EN 301 192 clause 9)
abbrev pub is_of_next_burst : ℕ → SectionTime → SectionTime → Bool
is_of_next_burst ten last x = nat_lt 0 last.delta && nat_le (last.moment + ten * last.delta) x.moment

-- the section has another frame number than the one seen last (EN 301 192 clause 9)
abbrev pub has_other_index : SectionTime → SectionTime → Bool
has_other_index last x = not (last.delta == x.delta)

-- by its time the section is of another frame than the one seen last (EN 301 192 clause 9)
abbrev pub is_parted : Timing → SectionTime → SectionTime → Bool
is_parted indexed last x = has_other_index last x
is_parted (sliced ten) last x = is_of_next_burst ten last x

-- by its time the section may be of the frame of the one seen last; where none was seen, any may
abbrev pub belongs : Timing → Option SectionTime → SectionTime → Bool
belongs timing None x = true
belongs timing (Some last) x = not (is_parted timing last x)

-- a section as it was received: so much earlier than it was sent, as are all others of the recording
pub record IsShifted (shift : ℕ) (seen sent : SectionTime) : Type 0 where
  pub moment : seen.moment + shift ≡ sent.moment
  pub delta : seen.delta ≡ sent.delta
