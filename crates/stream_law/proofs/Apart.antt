-- Lists of units, each packetized by itself, with counters that go on.
use Rattle.std.proofs.Common.{◌≡◌, ◌⊎◌, inl, inr, ℕ, ◌+◌, ◌-◌, ◌%◌, ◌<◌, ◌≤◌, true, List, [], ◌∷◌, ◌++◌, length, map, sum, refl, sym, ap, subst, ◌∙◌, arith}
use Rattle.std.proofs.lemmas.Bool.{cases_lt}
use Rattle.std.proofs.lemmas.List.{length-append}
use Rattle.std.proofs.lemmas.List.Sums.{sum_by-cons}
use Rattle.ts_spec.specs.Packet.{PacketFields}
use Rattle.ts_spec.specs.Packetized.{packet_at}
use Rattle.section_spec.specs.Section.{section_form}
use Rattle.unit_stream.specs.Packing.{packetized}
use Rattle.stream_spec.specs.Units.{packetized_apart}
use Rattle.stream_law.proofs.Packets.{IsOn, packetized_on, GoOn, none_go_on, packetized_go_on, length-packetized}
use Rattle.stream_law.proofs.Places.{packet_low, packet_high}
use Rattle.stream_law.proofs.Joined.{both_go_on}

-- how many packets a list takes
abbrev pub size_of : List (List ℕ) → ℕ
size_of units = length (packetized section_form true 0 0 units)

pub size_is : (pid counter : ℕ) (units : List (List ℕ)) → length (packetized section_form true pid counter units) ≡ size_of units
size_is pid counter units = length-packetized section_form true pid counter units ∙ sym (length-packetized section_form true 0 0 units)

module _ (pid : ℕ) where
  abbrev next : ℕ → List (List ℕ) → ℕ
  next counter units = (counter + length (packetized section_form true pid counter units)) % 16

  pub apart_on : (counter : ℕ) (lists : List (List (List ℕ))) → counter ≤ 15 → (n : ℕ) → n < length (packetized_apart pid counter lists)
      → IsOn pid (packet_at (packetized_apart pid counter lists) n)
  apart_on counter [] le n less = absurd (omega (arith, less))
  apart_on counter (units ∷ others) le n less =
      by_place (cases_lt n (length first)) (λ m within. apart_on (next counter units) others (omega arith) m within)
    where
      first : List PacketFields
      first = packetized section_form true pid counter units

      rest : List PacketFields
      rest = packetized_apart pid (next counter units) others

      by_place : (n < length first) ⊎ (length first ≤ n) → ((m : ℕ) → m < length rest → IsOn pid (packet_at rest m)) → IsOn pid (packet_at (first ++ rest) n)
      by_place (inl low) later = subst (IsOn pid) (sym (packet_low first rest n low)) (packetized_on section_form true pid counter units le n low)
      by_place (inr high) later =
          let at : n ≡ length first + (n - length first) = omega (arith, high) in
          subst (IsOn pid) (sym (ap (packet_at (first ++ rest)) at ∙ packet_high first rest (n - length first)))
          (later (n - length first) (omega (arith, less, high, length-append first rest)))

  -- they are as many as those of each list by itself
  pub length-apart : (counter : ℕ) (lists : List (List (List ℕ))) → length (packetized_apart pid counter lists) ≡ sum (map size_of lists)
  length-apart counter [] = refl
  length-apart counter (units ∷ others) =
      omega (
        arith,
        length-append (packetized section_form true pid counter units) (packetized_apart pid (next counter units) others),
        size_is pid counter units,
        length-apart (next counter units) others,
        sum_by-cons (λ (n : ℕ). n) (size_of units) (map size_of others),
      )

  pub apart_go_on : (before : ℕ) (lists : List (List (List ℕ))) → GoOn before (packetized_apart pid (before % 16) lists)
  apart_go_on before [] = none_go_on before
  apart_go_on before (units ∷ others) =
      both_go_on before (before + size) first (packetized_apart pid (next (before % 16) units) others) refl (packetized_go_on section_form true pid before units)
      (subst (λ (c : ℕ). GoOn (before + size) (packetized_apart pid c others)) (sym (after before size)) (apart_go_on (before + size) others))
    where
      first : List PacketFields
      first = packetized section_form true pid (before % 16) units

      size : ℕ
      size = length (packetized section_form true pid (before % 16) units)

      after : (b n : ℕ) → (b % 16 + n) % 16 ≡ (b + n) % 16
      after b n = omega arith
