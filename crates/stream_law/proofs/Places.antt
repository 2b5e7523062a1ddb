-- Places in packets, and in those after them.
use Rattle.std.proofs.Common.{◌≡◌, ℕ, ◌+◌, ◌-◌, ◌<◌, ◌≤◌, List, ◌++◌, length, take, drop, sym, ap, ap₂, ◌∙◌, arith}
use Rattle.std.specs.Prelude.{slice_index}
use Rattle.std.proofs.lemmas.List.{length-append, take-append-drop, take-append-le, get_or_append_left, get_or-append-add}
use Rattle.std.proofs.Math.Seq.{take-append-add}
use Rattle.std.proofs.lemmas.Grind.{flat_map-append}
use Rattle.ts_spec.specs.Packet.{PacketFields, unit_bytes}
use Rattle.ts_spec.specs.Packetized.{no_packet, packet_at, joined_payloads, edge, IsIn, IsStuffed}

module _ (ps qs : List PacketFields) where
  abbrev pub both : List PacketFields
  both = ps ++ qs

  abbrev pub size : ℕ
  size = length (joined_payloads ps)

  abbrev pub count : ℕ
  count = length ps

  pub joined_both : joined_payloads both ≡ joined_payloads ps ++ joined_payloads qs
  joined_both = flat_map-append unit_bytes ps qs

  pub edge_low : (m : ℕ) → m ≤ count → edge both m ≡ edge ps m
  unfolding edge
  edge_low m le = ap (λ (t : List PacketFields). length (joined_payloads t)) (take-append-le m ps qs le)

  pub edge_most : (m : ℕ) → edge ps m ≤ size
  unfolding edge
  edge_most m =
      let parts : size ≡ length (joined_payloads (take m ps)) + length (joined_payloads (drop m ps))
      = ap (λ (t : List PacketFields). length (joined_payloads t)) (sym (take-append-drop m ps))
      ∙ ap length (flat_map-append unit_bytes (take m ps) (drop m ps)) ∙ length-append (joined_payloads (take m ps)) (joined_payloads (drop m ps)) in
      omega (arith, parts)

  pub edge_high : (i : ℕ) → edge both (count + i) ≡ size + edge qs i
  unfolding edge
  edge_high i =
      ap (λ (t : List PacketFields). length (joined_payloads t)) (take-append-add ps qs i) ∙ ap length (flat_map-append unit_bytes ps (take i qs)) ∙ length-append (joined_payloads ps) (joined_payloads (take i qs))

  pub edge_high_next : (i : ℕ) → edge both (count + i + 1) ≡ size + edge qs (i + 1)
  edge_high_next i = let next : count + i + 1 ≡ count + (i + 1) = omega arith in ap (edge both) next ∙ edge_high (i + 1)

  pub length-both : length both ≡ count + length qs
  length-both = length-append ps qs

  pub packet_low : (m : ℕ) → m < count → packet_at both m ≡ packet_at ps m
  packet_low m less = get_or_append_left ps qs no_packet m less

  pub packet_high : (i : ℕ) → packet_at both (count + i) ≡ packet_at qs i
  packet_high i = get_or-append-add ps qs i no_packet

  -- places in the first packets, and in those after them
  pub in_both : (m place : ℕ) → IsIn ps m place → IsIn both m place
  in_both m place here = record {
    within = omega (arith, here.within, length-both);
    from = omega (arith, here.from, edge_low m (omega (arith, here.within)));
    below = omega (arith, here.below, edge_low (m + 1) (omega (arith, here.within)));
  }

  pub in_first : (m place : ℕ) → m < count → IsIn both m place → IsIn ps m place
  in_first m place less here = record {
    within = less;
    from = omega (arith, here.from, edge_low m (omega (arith, less)));
    below = omega (arith, here.below, edge_low (m + 1) (omega (arith, less)));
  }

  pub behind_in : (i place at : ℕ) → at ≡ size + place → IsIn qs i place → IsIn both (count + i) at
  behind_in i place at e here = record {
    within = omega (arith, here.within, length-both);
    from = omega (arith, e, here.from, edge_high i);
    below = omega (arith, e, here.below, edge_high_next i);
  }

  pub in_behind : (i place at : ℕ) → at ≡ size + place → IsIn both (count + i) at → IsIn qs i place
  in_behind i place at e here = record {
    within = omega (arith, here.within, length-both);
    from = omega (arith, e, here.from, edge_high i);
    below = omega (arith, e, here.below, edge_high_next i);
  }

  -- a place tells in which of them it is
  pub not_behind : (i place : ℕ) → place < size → IsIn both (count + i) place → ⊥
  not_behind i place less here = absurd (omega (arith, less, here.from, edge_high i))

  pub not_first : (m place : ℕ) → m < count → size ≤ place → IsIn both m place → ⊥
  not_first m place less le here = absurd (omega (arith, le, here.below, edge_low (m + 1) (omega (arith, less)), edge_most (m + 1)))

  pub stuffed_low : (end next : ℕ) → IsStuffed ps end next → IsStuffed both end next
  stuffed_low end next it = record {
    last = it.last;
    within = omega (arith, it.within, length-both);
    ends_in = omega (arith, it.ends_in, edge_low it.last (omega (arith, it.within)));
    before = it.before;
    up_to = it.up_to ∙ sym (edge_low (it.last + 1) (omega (arith, it.within)));
    stuffed = λ k from below.
        ap (λ (t : List ℕ). slice_index t k) joined_both
        ∙ get_or_append_left (joined_payloads ps) (joined_payloads qs) 0 k (omega (arith, below, it.up_to, edge_most (it.last + 1)))
        ∙ it.stuffed k from below;
  }

  pub stuffed_high : (end next : ℕ) → IsStuffed qs end next → IsStuffed both (size + end) (size + next)
  stuffed_high end next it = record {
    last = count + it.last;
    within = omega (arith, it.within, length-both);
    ends_in = omega (arith, it.ends_in, edge_high it.last);
    before = omega (arith, it.before);
    up_to = omega (arith, it.up_to, edge_high_next it.last);
    stuffed = λ k from below. at_place k (k - size) (omega (arith, from)) (it.stuffed (k - size) (omega (arith, from)) (omega (arith, below, from)));
  }
    where
      at_place : (k i : ℕ) → k ≡ size + i → slice_index (joined_payloads qs) i ≡ 0xFF → slice_index (joined_payloads both) k ≡ 0xFF
      at_place k i e is = ap₂ (λ (t : List ℕ) (n : ℕ). slice_index t n) joined_both e ∙ get_or-append-add (joined_payloads ps) (joined_payloads qs) i 0 ∙ is
