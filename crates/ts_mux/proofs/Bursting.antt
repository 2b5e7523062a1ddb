-- From slot to slot: the bursts of a service.
use Rattle.std.proofs.Common.{◌≡◌, ◌⊎◌, inl, inr, ℕ, zero, suc, ◌+◌, ◌-◌, ◌/◌, ◌%◌, ◌<◌, ◌≤◌, min, Bool, true, false, cond, leb, List, [], ◌∷◌, drop, refl, sym, ap, ap₂, ◌∙◌, arith}
use Rattle.std.specs.Prelude.{slice_index}
use Rattle.std.proofs.lemmas.Bool.{cases_lt}
use Rattle.std.proofs.lemmas.List.{drop-drop}
use Rattle.std.proofs.Math.Nat.{mod-lt}
use Rattle.ts_spec.specs.Packet.{PacketFields}
use Rattle.ts_spec.specs.Packetized.{packet_at}
use Rattle.stream_spec.specs.Windows.{out_before}
use Rattle.slice_law.proofs.Turned.{out_more}
use Rattle.ts_mux.specs.Services.{Bursts, opening}
use Rattle.ts_mux.specs.Slots.{bursts_before}
use Rattle.ts_mux.proofs.Signalled.{next_place, last_place, first_place}

-- bursts that are the same in each of their parts
pub same_bursts : (p q : List PacketFields) (u v : ℕ) (s t : List ℕ) → p ≡ q → u ≡ v → s ≡ t
    → ◌≡◌ {A = Bursts} (record { packets = p; under_way = u; sizes = s }) (record { packets = q; under_way = v; sizes = t })
same_bursts p q u v s t e e2 e3 = rw (e, e2, e3) refl

pub drop_first : (packets : List PacketFields) (n : ℕ) (packet : PacketFields) (rest : List PacketFields) → drop n packets ≡ packet ∷ rest → (packet_at packets n ≡ packet) × (drop (suc n) packets ≡ rest)
drop_first [] zero packet rest e = absurd (cc)
drop_first [] (suc m) packet rest e = absurd (cc)
drop_first (first ∷ ps) zero packet rest e = (cc, cc)
drop_first (first ∷ ps) (suc m) packet rest e = drop_first ps m packet rest e

first_of : (c : ℕ) (sizes : List ℕ) → slice_index (drop c sizes) 0 ≡ slice_index sizes c
first_of zero [] = refl
first_of (suc c) [] = refl
first_of zero (x ∷ xs) = refl
first_of (suc c) (x ∷ xs) = first_of c xs

-- A window of so many slots from one on, in each cycle; and bursts of which none is longer.
module _ (cycle start size : ℕ) (some : 0 < cycle) (inside : start + size ≤ cycle) (one : 1 ≤ size) (sizes : List ℕ) (fits : (c : ℕ) → slice_index sizes c ≤ size) (packets : List PacketFields) where
  -- at an offset of a cycle
  abbrev pub shape : ℕ → ℕ → Bursts
  shape c o = record {
    packets = drop (out_before sizes c + min (slice_index sizes c) (o - start)) packets;
    under_way = cond (leb o start) 0 (slice_index sizes c - (o - start));
    sizes = drop (cond (leb o start) c (c + 1)) sizes;
  }

  -- where the window has opened
  abbrev pub shape_open : ℕ → ℕ → Bursts
  shape_open c o = record {
    packets = drop (out_before sizes c + min (slice_index sizes c) (o - start)) packets;
    under_way = slice_index sizes c - (o - start);
    sizes = drop (c + 1) sizes;
  }

  early : (o : ℕ) → o ≤ start → leb o start ≡ true
  early o le = grind (arith, le)

  late : (o : ℕ) → start < o → leb o start ≡ false
  late o less = grind (arith, less)

  shape_early : (c o : ℕ) → o ≤ start → shape c o ≡ record { packets = drop (out_before sizes c) packets; under_way = 0; sizes = drop c sizes }
  shape_early c o le =
      let none : out_before sizes c + min (slice_index sizes c) (o - start) ≡ out_before sizes c = omega (arith, le) in
      same_bursts _ _ _ _ _ _ (ap (λ (n : ℕ). drop n packets) none) (ap (λ (b : Bool). cond b 0 (slice_index sizes c - (o - start))) (early o le)) (ap (λ (b : Bool). drop (cond b c (c + 1)) sizes) (early o le))

  shape_late : (c o : ℕ) → start < o → shape c o ≡ shape_open c o
  shape_late c o less =
      same_bursts _ _ _ _ _ _ refl (ap (λ (b : Bool). cond b 0 (slice_index sizes c - (o - start))) (late o less)) (ap (λ (b : Bool). drop (cond b c (c + 1)) sizes) (late o less))

  -- after the burst
  shape_over : (c o : ℕ) → slice_index sizes c ≤ o - start → shape_open c o ≡ record { packets = drop (out_before sizes c + slice_index sizes c) packets; under_way = 0; sizes = drop (c + 1) sizes }
  shape_over c o le =
      let all : out_before sizes c + min (slice_index sizes c) (o - start) ≡ out_before sizes c + slice_index sizes c = omega (arith, le) in
      same_bursts _ _ _ _ _ _ (ap (λ (n : ℕ). drop n packets) all) (omega (arith, le)) refl

  -- the end of a cycle is the start of the next
  wraps : (c o : ℕ) → o ≡ cycle → shape (c + 1) 0 ≡ shape c o
  wraps c o e =
      let next : c + 1 ≡ suc c = omega arith in
      shape_early (c + 1) 0 (omega arith)
      ∙ same_bursts _ _ _ _ _ _ (ap (λ (n : ℕ). drop n packets) (ap (out_before sizes) next ∙ out_more sizes c)) refl refl
      ∙ sym (shape_late c o (omega (arith, e, inside, one)) ∙ shape_over c o (omega (arith, e, inside, fits c)))

  -- before the next slot
  pub next_is : (s : ℕ) → bursts_before cycle start sizes packets (s + 1) ≡ shape (s / cycle) (s % cycle + 1)
  next_is s = by_end (cases_lt (s % cycle + 1) cycle)
    where
      by_end : (s % cycle + 1 < cycle) ⊎ (cycle ≤ s % cycle + 1) → bursts_before cycle start sizes packets (s + 1) ≡ shape (s / cycle) (s % cycle + 1)
      by_end (inl less) = let next = next_place s cycle less in ap₂ shape next.0 next.1
      by_end (inr more) =
          let last : s % cycle + 1 ≡ cycle = omega (arith, more, mod-lt s {m = cycle} some) in
          let next = last_place s cycle some last in
          ap₂ shape next.0 next.1 ∙ wraps (s / cycle) (s % cycle + 1) last

  -- the window opens at its first slot
  pub opens : (s : ℕ) → s % cycle ≡ start → opening (bursts_before cycle start sizes packets s) ≡ shape_open (s / cycle) (s % cycle)
  opens s at =
      ap opening (shape_early (s / cycle) (s % cycle) (omega (arith, at)))
      ∙ same_bursts _ _ _ _ _ _
      (let none : out_before sizes (s / cycle) ≡ out_before sizes (s / cycle) + min (slice_index sizes (s / cycle)) (s % cycle - start) = omega (arith, at) in ap (λ (n : ℕ). drop n packets) none)
      (first_of (s / cycle) sizes ∙ omega (arith, at))
      (let sum_is : 1 + s / cycle ≡ s / cycle + 1 = omega arith in drop-drop 1 (s / cycle) sizes ∙ drops (s / cycle))
    where
      drops : (c : ℕ) → drop (c + 1) sizes ≡ drop (c + 1) sizes
      drops c = refl

  -- it was not open before
  pub closed : (s : ℕ) → s % cycle ≡ start → (bursts_before cycle start sizes packets s).under_way ≡ 0
  closed s at = ap (λ (b : Bursts). b.under_way) (shape_early (s / cycle) (s % cycle) (omega (arith, at)))

  -- it is open at the others
  pub is_open : (s : ℕ) → start < s % cycle → bursts_before cycle start sizes packets s ≡ shape_open (s / cycle) (s % cycle)
  is_open s after = shape_late (s / cycle) (s % cycle) after

  -- a slot outside of the window leaves the bursts as they are
  pub stays : (s : ℕ) → (s % cycle < start) ⊎ (start + size ≤ s % cycle) → bursts_before cycle start sizes packets (s + 1) ≡ bursts_before cycle start sizes packets s
  stays s (inl before) = next_is s ∙ shape_early (s / cycle) (s % cycle + 1) (omega (arith, before)) ∙ sym (shape_early (s / cycle) (s % cycle) (omega (arith, before)))
  stays s (inr behind) =
      next_is s ∙ shape_late (s / cycle) (s % cycle + 1) (omega (arith, behind)) ∙ shape_over (s / cycle) (s % cycle + 1) (omega (arith, behind, fits (s / cycle)))
      ∙ sym (shape_late (s / cycle) (s % cycle) (omega (arith, behind, one)) ∙ shape_over (s / cycle) (s % cycle) (omega (arith, behind, fits (s / cycle))))

  -- one within it that the burst doesn't need too, where it has opened
  pub rests : (s n : ℕ) → start + n ≡ s % cycle → slice_index sizes (s / cycle) ≤ n → bursts_before cycle start sizes packets (s + 1) ≡ shape_open (s / cycle) (s % cycle)
  rests s n place over =
      next_is s ∙ shape_late (s / cycle) (s % cycle + 1) (omega (arith, place)) ∙ shape_over (s / cycle) (s % cycle + 1) (omega (arith, place, over))
      ∙ sym (shape_over (s / cycle) (s % cycle) (omega (arith, place, over)))

  -- how many packets are under way there
  pub way_is : (s n : ℕ) → start + n ≡ s % cycle → (shape_open (s / cycle) (s % cycle)).under_way ≡ slice_index sizes (s / cycle) - n
  way_is s n place = omega (arith, place)

  -- at another the burst gives a packet
  pub gives : (s n : ℕ) → start + n ≡ s % cycle → n < slice_index sizes (s / cycle) → (packet : PacketFields) (rest : List PacketFields) (under_way : ℕ)
      → (shape_open (s / cycle) (s % cycle)).packets ≡ packet ∷ rest → (shape_open (s / cycle) (s % cycle)).under_way ≡ under_way + 1
      → (packet_at packets (out_before sizes (s / cycle) + n) ≡ packet)
      × (bursts_before cycle start sizes packets (s + 1) ≡ record { packets = rest; under_way = under_way; sizes = drop (s / cycle + 1) sizes })
  gives s n place below packet rest under_way next left =
      let now : out_before sizes (s / cycle) + min (slice_index sizes (s / cycle)) (s % cycle - start) ≡ out_before sizes (s / cycle) + n = omega (arith, place, below) in
      let it = drop_first packets (out_before sizes (s / cycle) + n) packet rest (ap (λ (m : ℕ). drop m packets) (sym now) ∙ next) in
      let then : out_before sizes (s / cycle) + min (slice_index sizes (s / cycle)) (s % cycle + 1 - start) ≡ suc (out_before sizes (s / cycle) + n) = omega (arith, place, below) in (
        it.0,
        next_is s ∙ shape_late (s / cycle) (s % cycle + 1) (omega (arith, place))
            ∙ same_bursts _ _ _ _ _ _ (ap (λ (m : ℕ). drop m packets) then ∙ it.1) (omega (arith, place, below, left)) refl,
      )

-- before the first slot
pub first_shape : (cycle start : ℕ) (sizes : List ℕ) (packets : List PacketFields) → 0 < cycle → bursts_before cycle start sizes packets 0 ≡ record { packets = packets; under_way = 0; sizes = sizes }
first_shape cycle start sizes packets some =
    let first = first_place cycle some in
    ap₂ (λ (c o : ℕ). let it : Bursts = record {
      packets = drop (out_before sizes c + min (slice_index sizes c) (o - start)) packets;
      under_way = cond (leb o start) 0 (slice_index sizes c - (o - start));
      sizes = drop (cond (leb o start) c (c + 1)) sizes;
    } in it) first.0 first.1
    ∙ same_bursts _ _ _ _ _ _ (ap (λ (n : ℕ). drop n packets) none) (ap (λ (b : Bool). cond b 0 (slice_index sizes 0 - (0 - start))) early) (ap (λ (b : Bool). drop (cond b 0 (0 + 1)) sizes) early)
  where
    early : leb 0 start ≡ true
    early = grind arith

    none : out_before sizes 0 + min (slice_index sizes 0) (0 - start) ≡ 0
    none = nothing (slice_index sizes 0)
      where
        nothing : (n : ℕ) → 0 + min n (0 - start) ≡ 0
        nothing n = omega arith
