-- The packet in which a place among the joined payloads lies.
use Rattle.std.proofs.Common.{◌≡◌, ℕ, zero, suc, ◌+◌, ◌-◌, ◌<◌, ◌≤◌, Bool, true, false, cond, ltb, List, [], ◌∷◌, length, take, refl, ap, ◌∙◌, arith}
use Rattle.std.proofs.lemmas.List.{length-append}
use Rattle.unit_stream.proofs.Numbers.{ltb_true, ltb_false}
use Rattle.ts_spec.specs.Packet.{PacketFields, unit_bytes}
use Rattle.ts_spec.specs.Packetized.{joined_payloads, edge, IsIn}

-- its number
abbrev pub packet_of_place : List PacketFields → ℕ → ℕ
packet_of_place [] place = 0
packet_of_place (packet ∷ packets) place =
    cond (ltb place (length (unit_bytes packet))) 0 (suc (packet_of_place packets (place - length (unit_bytes packet))))

no_edge : (packets : List PacketFields) → edge packets 0 ≡ 0
unfolding edge
no_edge packets = refl

next_edge : (packet : PacketFields) (packets : List PacketFields) (m : ℕ) → edge (packet ∷ packets) (suc m) ≡ length (unit_bytes packet) + edge packets m
unfolding edge
next_edge packet packets m = length-append (unit_bytes packet) (joined_payloads (take m packets))

pub packet_is : (packets : List PacketFields) (m place : ℕ) → IsIn packets m place → packet_of_place packets place ≡ m
packet_is [] m place it = absurd (omega (arith, it.within))
packet_is (packet ∷ packets) zero place it =
    let next : edge (packet ∷ packets) (0 + 1) ≡ length (unit_bytes packet) = omega (arith, next_edge packet packets 0, no_edge packets) in
    let low : ltb place (length (unit_bytes packet)) ≡ true = ltb_true place (length (unit_bytes packet)) (omega (arith, it.below, next)) in
    ap (λ (b : Bool). cond b 0 (suc (packet_of_place packets (place - length (unit_bytes packet))))) low
packet_is (packet ∷ packets) (suc m) place it =
    let from : length (unit_bytes packet) + edge packets m ≤ place = omega (arith, it.from, next_edge packet packets m) in
    let below : place < length (unit_bytes packet) + edge packets (m + 1) = below_of (suc m + 1) refl it.below in
    let high : ltb place (length (unit_bytes packet)) ≡ false = ltb_false place (length (unit_bytes packet)) (omega (arith, from)) in
    ap (λ (b : Bool). cond b 0 (suc (packet_of_place packets (place - length (unit_bytes packet))))) high
    ∙ ap suc (packet_is packets m (place - length (unit_bytes packet))
    (record { within = omega (arith, it.within); from = omega (arith, from); below = omega (arith, from, below) }))
  where
    below_of : (n : ℕ) → n ≡ suc m + 1 → place < edge (packet ∷ packets) n → place < length (unit_bytes packet) + edge packets (m + 1)
    below_of n e less =
        let again : n ≡ suc (m + 1) = omega (arith, e) in
        omega (arith, less, ap (edge (packet ∷ packets)) again, next_edge packet packets (m + 1))
