-- The datagrams of a sample, and what each service of its plan is offered of them. Profile: all of it.
-- Standards: RFC 791 section 3.1 (the head).
use Rattle.std.specs.Prelude.{ℕ, ◌+◌, ◌-◌, ◌*◌, ◌/◌, ◌%◌, List, [], ◌∷◌, ◌++◌, map, Some}
use Rattle.std.specs.List.{range_with_len}
use Rattle.plan_spec.specs.Given.{sample_plan}
use Rattle.plan_spec.specs.Offered.{Records, offered_in}
use Rattle.sample_spec.specs.Draws.{draw_at}

-- how many datagrams are offered: 4,000
abbrev pub datagram_count : ℕ
datagram_count = 4000

-- datagram i has two draws: one of its service, 0 or 1, and one of its length, 28 to 1,400 bytes
abbrev pub service_drawn : ℕ → ℕ → ℕ
service_drawn number i = draw_at number (2 * i) % 2

abbrev pub length_drawn : ℕ → ℕ → ℕ
length_drawn number i = 28 + draw_at number (2 * i + 1) % 1373

-- an IPv4 datagram of UDP from 10.0.0.1 to 239.1.0.1, which is the first service's, or 239.2.0.1 (RFC 791 section 3.1)
abbrev pub head_of : ℕ → ℕ → List ℕ
head_of size service =
    0x45 ∷ 0 ∷ size / 256 ∷ size % 256 ∷ 0 ∷ 0 ∷ 0 ∷ 0 ∷ 0x40 ∷ 0x11 ∷ 0 ∷ 0 ∷ 10 ∷ 0 ∷ 0 ∷ 1 ∷ 239 ∷ (service + 1) ∷ 0 ∷ 1 ∷ []

-- the byte at place j after the head of datagram i is (i + j) mod 256
abbrev pub bytes_after_head : ℕ → ℕ → List ℕ
bytes_after_head i size = map (λ j. (i + j) % 256) (range_with_len 0 (size - 20))

-- datagram i: its head and these bytes
abbrev pub datagram_drawn : ℕ → ℕ → List ℕ
datagram_drawn number i = head_of (length_drawn number i) (service_drawn number i) ++ bytes_after_head i (length_drawn number i)

-- all of them, as the records of a capture
abbrev pub sample_records : ℕ → Records
sample_records number = map (λ i. Some (datagram_drawn number i)) (range_with_len 0 datagram_count)

-- those that a version of the plan offers to a service
abbrev pub sample_datagrams : ℕ → ℕ → ℕ → List (List ℕ)
sample_datagrams number = offered_in sample_plan (sample_records number)
