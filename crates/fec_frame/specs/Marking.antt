-- Marks as they become when the starts are marked, place by place.
use Rattle.std.specs.Prelude.{◌≡◌, ◌⊎◌, ℕ, ◌+◌, ◌<◌, true, List, length, slice_index}
use Rattle.ip_datagram.specs.Hint.{hint_of}
use Rattle.ip_datagram.specs.declared.hint.Hint.TheVariants.{Length}
use Rattle.fec_frame.specs.Marks.{is_known_mark, is_start_mark, marked_run}

-- the known bytes at place p tell that a datagram ends at place q
pub record IsEndTold (bytes marks : List ℕ) (limit p q : ℕ) : Type 0 where
  pub size : ℕ
  pub told : hint_of (marked_run bytes marks limit p) ≡ Length size
  pub end : p + size ≡ q

-- all starts before a place have marked the places where their datagrams end
pub record AreMarkedUpTo (bytes old marks : List ℕ) (limit place : ℕ) : Type 0 where
  pub long : length marks ≡ length old
  pub known : (q : ℕ) → is_known_mark (slice_index marks q) ≡ is_known_mark (slice_index old q)
  pub kept : (q : ℕ) → is_start_mark (slice_index old q) ≡ true → is_start_mark (slice_index marks q) ≡ true
  pub told : (p q : ℕ) → p < place → q < limit → is_start_mark (slice_index marks p) ≡ true → IsEndTold bytes old limit p q → is_start_mark (slice_index marks q) ≡ true
  pub only : (q : ℕ) → q < limit → is_start_mark (slice_index marks q) ≡ true
      → (is_start_mark (slice_index old q) ≡ true) ⊎ ((p : ℕ) × (p < place) × (is_start_mark (slice_index marks p) ≡ true) × IsEndTold bytes old limit p q)
