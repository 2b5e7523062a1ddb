-- Places among the joined payloads, with one packet more in front.
use Rattle.std.proofs.Common.{◌≡◌, ◌⊎◌, inl, inr, ℕ, zero, suc, ◌+◌, ◌-◌, ◌<◌, ◌≤◌, List, ◌∷◌, ◌++◌, length, take, drop, get_or, replicate, refl, ap, sym, ◌∙◌, arith, length-append}
use Rattle.std.proofs.lemmas.List.{drop_at, drop-drop, get_or-append-add, get_or_append_left, get_or-replicate}
use Rattle.std.proofs.lemmas.List.{length-replicate}
use Rattle.ts_spec.specs.Packet.{PacketFields, unit_bytes}
use Rattle.ts_spec.specs.Packetized.{joined_payloads, edge, IsIn, IsStuffed}

pub edge-zero : (packets : List PacketFields) → edge packets 0 ≡ 0
unfolding edge
edge-zero packets = refl

-- a unit ends at a place, and the next one begins at another: at once, or after stuffing
abbrev pub Follows : List PacketFields → ℕ → ℕ → Type 0
Follows packets end next = (next ≡ end) ⊎ IsStuffed packets end next

module _ (p : PacketFields) (packets : List PacketFields) where
  pub edge-suc : (m : ℕ) → edge (p ∷ packets) (suc m) ≡ length (unit_bytes p) + edge packets m
  unfolding edge
  edge-suc m = length-append (unit_bytes p) (joined_payloads (take m packets))

  pub edge-one : edge (p ∷ packets) 1 ≡ length (unit_bytes p)
  edge-one = edge-suc 0 ∙ omega (arith, edge-zero packets)

  pub edge-suc_next : (m : ℕ) → edge (p ∷ packets) (suc m + 1) ≡ length (unit_bytes p) + edge packets (m + 1)
  edge-suc_next m = let next : suc m + 1 ≡ suc (m + 1) = omega arith in ap (edge (p ∷ packets)) next ∙ edge-suc (m + 1)

  -- a place within the first packet
  pub in_first : (place : ℕ) → place < length (unit_bytes p) → IsIn (p ∷ packets) 0 place
  in_first place less = record { within = omega arith; from = omega (arith, edge-zero (p ∷ packets)); below = omega (arith, edge-one) }

  pub first_of : (place : ℕ) → IsIn (p ∷ packets) 0 place → place < length (unit_bytes p)
  first_of place here = omega (arith, here.below, edge-one)

  pub only_first : (m place : ℕ) → IsIn (p ∷ packets) m place → place < length (unit_bytes p) → m ≡ 0
  only_first zero place here less = refl
  only_first (suc m) place here less = absurd (omega (arith, here.from, edge-suc m))

  -- a place after it
  pub in_later : (m place : ℕ) → IsIn packets m place → IsIn (p ∷ packets) (suc m) (length (unit_bytes p) + place)
  in_later m place here = record { within = omega (arith, here.within); from = omega (arith, here.from, edge-suc m); below = omega (arith, here.below, edge-suc_next m) }

  pub later_of : (m place : ℕ) → IsIn (p ∷ packets) (suc m) (length (unit_bytes p) + place) → IsIn packets m place
  later_of m place here = record { within = omega (arith, here.within); from = omega (arith, here.from, edge-suc m); below = omega (arith, here.below, edge-suc_next m) }

  pub later_from : (m place : ℕ) → IsIn (p ∷ packets) (suc m) place → length (unit_bytes p) ≤ place
  later_from m place here = omega (arith, here.from, edge-suc m)

  -- stuffing after it
  pub stuffed_later : (end next : ℕ) → IsStuffed packets end next → IsStuffed (p ∷ packets) (length (unit_bytes p) + end) (length (unit_bytes p) + next)
  stuffed_later end next so = record {
    last = suc so.last;
    within = omega (arith, so.within);
    ends_in = omega (arith, so.ends_in, edge-suc so.last);
    before = omega (arith, so.before);
    up_to = omega (arith, so.up_to, edge-suc_next so.last);
    stuffed = λ k from below.
        let place : k ≡ length (unit_bytes p) + (k - length (unit_bytes p)) = omega arith in
        ap (λ (i : ℕ). get_or (unit_bytes p ++ joined_payloads packets) i 0) place
        ∙ get_or-append-add (unit_bytes p) (joined_payloads packets) (k - length (unit_bytes p)) 0
        ∙ so.stuffed (k - length (unit_bytes p)) (omega arith) (omega arith);
  }

  pub follows_later : (end next : ℕ) → Follows packets end next → Follows (p ∷ packets) (length (unit_bytes p) + end) (length (unit_bytes p) + next)
  follows_later end next (inl same) = inl (ap (λ (n : ℕ). length (unit_bytes p) + n) same)
  follows_later end next (inr so) = inr (stuffed_later end next so)

  -- stuffing up to its end
  pub stuffed_first : (front : List ℕ) (room : ℕ) → unit_bytes p ≡ front ++ replicate room 0xFF → 1 ≤ length front → IsStuffed (p ∷ packets) (length front) (length (unit_bytes p))
  stuffed_first front room bytes some =
      let size : length (unit_bytes p) ≡ length front + room = ap length bytes ∙ length-append front (replicate room 0xFF) ∙ ap (λ (n : ℕ). length front + n) (length-replicate room 0xFF) in
      record {
        last = 0;
        within = omega arith;
        ends_in = omega (arith, edge-zero (p ∷ packets));
        before = omega arith;
        up_to = sym edge-one;
        stuffed = λ k from below.
            let place : k ≡ length front + (k - length front) = omega arith in
            get_or_append_left (unit_bytes p) (joined_payloads packets) 0 k below
            ∙ ap (λ (t : List ℕ). get_or t k 0) bytes
            ∙ ap (λ (i : ℕ). get_or (front ++ replicate room 0xFF) i 0) place
            ∙ get_or-append-add front (replicate room 0xFF) (k - length front) 0
            ∙ get_or-replicate room (k - length front) 0xFF 0 (omega arith);
      }

  pub follows_first : (front : List ℕ) (room : ℕ) → unit_bytes p ≡ front ++ replicate room 0xFF → 1 ≤ length front → Follows (p ∷ packets) (length front) (length (unit_bytes p))
  follows_first front room bytes some = inr (stuffed_first front room bytes some)

  -- bytes after it
  pub bytes_later : (size place : ℕ) → take size (drop (length (unit_bytes p) + place) (joined_payloads (p ∷ packets))) ≡ take size (drop place (joined_payloads packets))
  bytes_later size place =
      ap (take size)
      (sym (drop-drop place (length (unit_bytes p)) (unit_bytes p ++ joined_payloads packets))
      ∙ ap (drop place) (drop_at (unit_bytes p) (joined_payloads packets) (length (unit_bytes p)) refl))
