-- The first datagrams of a sample, as the records of a capture.
use Rattle.std.specs.Prelude.{ℕ, map, Some}
use Rattle.std.specs.List.{range_with_len}
use Rattle.plan_spec.specs.Offered.{Records}
use Rattle.sample_spec.specs.Datagrams.{datagram_drawn}

-- so many of them
abbrev pub first_records : ℕ → ℕ → Records
first_records number count = map (λ i. Some (datagram_drawn number i)) (range_with_len 0 count)
