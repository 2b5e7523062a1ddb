-- Kinds of unit that a transport stream carries: sections (ISO/IEC 13818-1 clause 2.4.4), SNDUs (RFC 4326 section 4).
use Rattle.std.specs.Prelude.{◌≡◌, ◌⊎◌, ℕ, ◌<◌, ◌≤◌, Bool, true, List, ◌++◌, take, length}

-- how long the unit at the front of some bytes is, as far as the bytes tell: more bytes are needed, stuffing, whole of n bytes, or bad
pub data Span : Type 0 where
  more : Span
  stuffing : Span
  whole : ℕ → Span
  bad : Span

-- the bytes of a unit that must stand in its first packet, the longest unit, its length, its check (ISO/IEC 13818-1 clause 2.4.4, RFC 4326 section 4). A span
-- may be asked of all lists of numbers: where a number is no byte, what it says is free
pub record UnitForm : Type 0 where
  pub start : ℕ
  pub longest : ℕ
  pub span : List ℕ → Span
  pub check : List ℕ → Bool

-- the laws of a kind of unit: what is shown stays, four bytes show, lengths have bounds
pub record IsLawful (form : UnitForm) : Type 0 where
  pub start_least : 1 ≤ form.start
  pub start_most : form.start ≤ 183
  -- a buffer of the longest unit's size holds all bytes that do not tell yet
  pub longest_least : 4 ≤ form.longest
  -- what is told stays, whatever follows
  pub told : (bytes behind : List ℕ) → (form.span bytes ≡ more) ⊎ (form.span (bytes ++ behind) ≡ form.span bytes)
  -- a length is told by the unit itself, and has both bounds
  pub of_unit : (bytes : List ℕ) (n : ℕ) → form.span bytes ≡ whole n → form.span (take n bytes) ≡ whole n
  pub whole_least : (bytes : List ℕ) (n : ℕ) → form.span bytes ≡ whole n → form.start ≤ n
  pub whole_most : (bytes : List ℕ) (n : ℕ) → form.span bytes ≡ whole n → n ≤ form.longest
  -- four bytes tell
  pub soon : (bytes : List ℕ) → form.span bytes ≡ more → length bytes < 4
  -- stuffing is told by the bytes that must stand in the first packet, and not by fewer
  pub stuffing_least : (bytes : List ℕ) → form.span bytes ≡ stuffing → form.start ≤ length bytes
  pub stuffing_start : (bytes : List ℕ) → form.span bytes ≡ stuffing → form.span (take form.start bytes) ≡ stuffing

-- a unit: its bytes are as many as their span says, and its check holds
pub record IsUnit (form : UnitForm) (unit : List ℕ) : Type 0 where
  pub size : form.span unit ≡ whole (length unit)
  pub checked : form.check unit ≡ true
