-- The numbers of units, and that they follow the order in which units are accepted.
use Rattle.std.proofs.Common.{◌≡◌, ◌⊎◌, inl, inr, ℕ, ◌+◌, ◌<◌, ◌≤◌, List, [], ◌∷◌, length, map, refl, ap, sym, ◌∙◌, subst, arith}
use Rattle.std.proofs.lemmas.Bool.{cases_lt, cases_order}
use Rattle.std.proofs.lemmas.List.{length-map}
use Rattle.ts_spec.specs.Form.{UnitForm}
use Rattle.ts_spec.specs.Recording.{Record}
use Rattle.ts_spec.specs.Received.{arrival_at, packet_of, arrivals}
use Rattle.ts_spec.specs.Reassembly.{PlacedUnit}
use Rattle.ts_spec.specs.Packetized.{unit_at, edge, IsIn}
use Rattle.channel_spec.specs.Channel.{Channel}
use Rattle.channel_spec.specs.Carried.{packets_sent, IsSentUnit, IsCarried, IsRising}
use Rattle.channel_law.proofs.Member.{Member}
use Rattle.channel_law.proofs.Positions.{edge_rises, begin_rises, begins_later}
use Rattle.channel_law.proofs.Arrivals.{later_place}
use Rattle.channel_law.proofs.Order.{Before, Sorted}
use Rattle.channel_law.proofs.Channel.{place_sent, place_told}

-- Numbers of the items of a list.

module _ (IsNumber : PlacedUnit → ℕ → Type 0) where
  -- each item has a number
  abbrev pub AreNumbered : List PlacedUnit → Type 0
  AreNumbered xs = (x : PlacedUnit) → Member xs x → (n : ℕ) × IsNumber x n

  -- their numbers, in order
  abbrev pub numbers_of : (xs : List PlacedUnit) → AreNumbered xs → List ℕ
  numbers_of [] all = []
  numbers_of (x ∷ xs) all = (all x (inl refl)).0 ∷ numbers_of xs (λ y there. all y (inr there))

  -- they rise, where the items are sorted and the numbers follow their order
  pub numbers_rise : (place : ℕ → ℕ) → ((x y : PlacedUnit) (m n : ℕ) → Before place x y → IsNumber x m → IsNumber y n → m < n)
      → (xs : List PlacedUnit) (all : AreNumbered xs) → Sorted place xs
      → (k : ℕ) → ((x : PlacedUnit) (n : ℕ) → Member xs x → IsNumber x n → k ≤ n) → IsRising k (numbers_of xs all)
  numbers_rise place follow [] all sorted k least = tt
  numbers_rise place follow (x ∷ xs) all sorted k least = (
    least x (all x (inl refl)).0 (inl refl) (all x (inl refl)).1,
    numbers_rise place follow xs (λ y there. all y (inr there)) sorted.1 ((all x (inl refl)).0 + 1)
        (λ y n there number. omega (arith, follow x y (all x (inl refl)).0 n (sorted.0 y there) (all x (inl refl)).1 number)),
  )

  -- the items are the units of these numbers
  pub units_of : (units : List (List ℕ)) → ((x : PlacedUnit) (n : ℕ) → IsNumber x n → unit_at units n ≡ x.unit)
      → (xs : List PlacedUnit) (all : AreNumbered xs) → map (λ (x : PlacedUnit). x.unit) xs ≡ map (unit_at units) (numbers_of xs all)
  units_of units same [] all = refl
  units_of units same (x ∷ xs) all =
      ap (λ (t : List ℕ). t ∷ map (λ (y : PlacedUnit). y.unit) xs) (sym (same x (all x (inl refl)).0 (all x (inl refl)).1))
      ∙ ap (λ (t : List (List ℕ)). unit_at units (all x (inl refl)).0 ∷ t) (units_of units same xs (λ y there. all y (inr there)))

  -- each is the number of an item
  pub number_known : (xs : List PlacedUnit) (all : AreNumbered xs) (n : ℕ) → Member (numbers_of xs all) n → (x : PlacedUnit) × IsNumber x n
  number_known [] all n there = absurd there
  number_known (x ∷ xs) all n (inl same) = (x, subst (IsNumber x) same (all x (inl refl)).1)
  number_known (x ∷ xs) all n (inr there) = number_known xs (λ y behind. all y (inr behind)) n there

  -- the only number of an item is among them
  pub number_there : (n : ℕ) (xs : List PlacedUnit) (all : AreNumbered xs) (x : PlacedUnit) → Member xs x → ((m : ℕ) → IsNumber x m → m ≡ n) → Member (numbers_of xs all) n
  number_there n [] all x there only = absurd there
  number_there n (y ∷ xs) all x (inl same) only = inl (subst (λ (t : PlacedUnit). (m : ℕ) → IsNumber t m → m ≡ n) (sym same) only (all y (inl refl)).0 (all y (inl refl)).1)
  number_there n (y ∷ xs) all x (inr there) only = inr (number_there n xs (λ z behind. all z (inr behind)) x there only)

-- Numbers of sent units.

module _ (pids : List ℕ) (sent recorded : List Record) (channel : Channel pids sent recorded) (form : UnitForm) (pid : ℕ)
    (units : List (List ℕ)) (begin : ℕ → ℕ) (carried : IsCarried form pid sent units begin) where
  -- a later packet has a later place
  packets_rise : (i k : ℕ) → i < k → k < length (packets_sent pid sent) → (arrival_at (arrivals pid sent) i).place < (arrival_at (arrivals pid sent) k).place
  packets_rise i k less within = later_place pid sent i k less (omega (arith, length-map (arrivals pid sent) packet_of))

  -- packets of one place are one packet
  one_packet : (i k : ℕ) → i < length (packets_sent pid sent) → k < length (packets_sent pid sent)
      → (arrival_at (arrivals pid sent) i).place ≡ (arrival_at (arrivals pid sent) k).place → i ≡ k
  one_packet i k within_i within_k same = by_order (cases_order i k)
    where
      by_order : (i ≡ k) ⊎ ((i < k) ⊎ (k < i)) → i ≡ k
      by_order (inl equal) = equal
      by_order (inr (inl less)) = absurd (omega (arith, packets_rise i k less within_k, same))
      by_order (inr (inr more)) = absurd (omega (arith, packets_rise k i more within_i, same))

  -- of units accepted one after the other the second has the higher number
  pub later_number : (x y : PlacedUnit) (m n : ℕ) → Before (place_sent channel.place) x y → IsSentUnit channel pid units begin m x → IsSentUnit channel pid units begin n y → m < n
  later_number x y m n before x_is y_is = by_order (cases_lt m n)
    where
      x_in : IsIn (packets_sent pid sent) x_is.packet (begin m)
      x_in = x_is.start.packet

      y_in : IsIn (packets_sent pid sent) y_is.packet (begin n)
      y_in = y_is.start.packet

      x_place : place_sent channel.place x.place ≡ (arrival_at (arrivals pid sent) x_is.packet).place
      x_place = place_told channel.place x.place (arrival_at (arrivals pid sent) x_is.packet).place x_is.record_is

      y_place : place_sent channel.place y.place ≡ (arrival_at (arrivals pid sent) y_is.packet).place
      y_place = place_told channel.place y.place (arrival_at (arrivals pid sent) y_is.packet).place y_is.record_is

      back : n ≤ m → begin n ≤ begin m
      back order = begin_rises form units (packets_sent pid sent) begin carried.lawful carried.packetized n m order (omega (arith, x_is.start.unit))

      -- a later packet has later units
      by_packet : x_is.packet < y_is.packet → n ≤ m → ⊥
      by_packet less order = omega (arith, back order, x_in.below, y_in.from, edge_rises (packets_sent pid sent) (x_is.packet + 1) y_is.packet (omega arith))

      not_back : n ≤ m → Before (place_sent channel.place) x y → ⊥
      not_back order (inl less) = by_packets (cases_order x_is.packet y_is.packet)
        where
          by_packets : (x_is.packet ≡ y_is.packet) ⊎ ((x_is.packet < y_is.packet) ⊎ (y_is.packet < x_is.packet)) → ⊥
          by_packets (inl same) = omega (arith, less, x_place, y_place, ap (λ (t : ℕ). (arrival_at (arrivals pid sent) t).place) same)
          by_packets (inr (inl earlier)) = by_packet earlier order
          by_packets (inr (inr later)) = omega (arith, less, x_place, y_place, packets_rise y_is.packet x_is.packet later x_in.within)
      not_back order (inr behind) =
          let packet : x_is.packet ≡ y_is.packet = one_packet x_is.packet y_is.packet x_in.within y_in.within (sym x_place ∙ ap (place_sent channel.place) behind.0 ∙ y_place) in
          omega (arith, behind.1, back order, x_is.start.start_is, y_is.start.start_is, ap (edge (packets_sent pid sent)) packet)

      by_order : (m < n) ⊎ (n ≤ m) → m < n
      by_order (inl less) = less
      by_order (inr order) = absurd (not_back order before)

  -- an accepted unit has one number
  pub one_number : (x : PlacedUnit) (m n : ℕ) → IsSentUnit channel pid units begin m x → IsSentUnit channel pid units begin n x → m ≡ n
  one_number x m n is also = by_order (cases_order m n)
    where
      is_in : IsIn (packets_sent pid sent) is.packet (begin m)
      is_in = is.start.packet

      also_in : IsIn (packets_sent pid sent) also.packet (begin n)
      also_in = also.start.packet

      packet : is.packet ≡ also.packet
      packet =
          one_packet is.packet also.packet is_in.within also_in.within
          (sym (place_told channel.place x.place (arrival_at (arrivals pid sent) is.packet).place is.record_is)
          ∙ place_told channel.place x.place (arrival_at (arrivals pid sent) also.packet).place also.record_is)

      places : begin m ≡ begin n
      places = omega (arith, is.start.start_is, also.start.start_is, ap (edge (packets_sent pid sent)) packet)

      apart : (i k : ℕ) → i < k → k < length units → begin i < begin k
      apart i k less known = begins_later form units (packets_sent pid sent) begin carried.lawful carried.packetized i k less (omega arith)

      by_order : (m ≡ n) ⊎ ((m < n) ⊎ (n < m)) → m ≡ n
      by_order (inl same) = same
      by_order (inr (inl less)) = absurd (omega (arith, places, apart m n less also.start.unit))
      by_order (inr (inr more)) = absurd (omega (arith, places, apart n m more is.start.unit))
