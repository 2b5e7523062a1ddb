-- The bursts of a part: the moment of each packet, and of the packet in which each section begins.
use Rattle.std.proofs.Common.{◌≡◌, ℕ, zero, suc, ◌+◌, ◌%◌, ◌<◌, Bool, true, not, ◌&&◌, cond, eqb, get_or, List, [], ◌∷◌, ◌++◌, length, map, refl, sym, ap, subst, ◌∙◌, arith, length-take}
use Rattle.std.specs.Prelude.{flat_map}
use Rattle.std.specs.List.{range_with_len}
use Rattle.std.proofs.lemmas.List.FromFn.{length-map-range_with_len}
use Rattle.ts_spec.specs.Form.{IsLawful, IsUnit}
use Rattle.ts_spec.specs.Packet.{PacketFields}
use Rattle.ts_spec.specs.Packetized.{unit_at, IsIn, Packetizes}
use Rattle.section_spec.specs.Section.{section_form}
use Rattle.unit_stream.specs.Packing.{packetized}
use Rattle.plan_spec.specs.Plan.{WindowFields}
use Rattle.stream_spec.specs.Units.{FrameSchedule, sized_units, burst_size, packet_of_section, burst_moment, units_with_delta, delta_after, units_of_burst, units_by_burst, packetized_apart}
use Rattle.stream_law.proofs.Packets.{GoOn, packetized_go_on}
use Rattle.stream_law.proofs.Sized.{HaveLengths, counted}
use Rattle.stream_law.proofs.Placed.{up_to, begin_there}
use Rattle.stream_law.proofs.Apart.{size_is, apart_go_on}
use Rattle.stream_law.proofs.Bursts.{same_lengths, burst_size_is}
use Rattle.stream_law.proofs.Joined.{continue}
use Rattle.stream_law.proofs.Valued.{IsValued, none_valued, both_valued}

-- items of a list that is told by their numbers
pub item_at : (f : ℕ → ℕ) (a n i : ℕ) → i < n → get_or (map f (range_with_len a n)) i 0 ≡ f (a + i)
item_at f a zero i less = absurd (omega (arith, less))
item_at f a (suc n) zero less = let same : a ≡ a + 0 = omega arith in ap f same
item_at f a (suc n) (suc i) less = let same : a + 1 + i ≡ a + suc i = omega arith in item_at f (a + 1) n i (omega (arith, less)) ∙ ap f same

pub item_of : (f : ℕ → ℕ) (n i : ℕ) → i < n → get_or (map f (range_with_len 0 n)) i 0 ≡ f i
item_of f n i less = let same : 0 + i ≡ i = omega arith in item_at f 0 n i less ∙ ap f same

-- units up to one have the lengths of others up to it
up_to_lengths : (us vs : List (List ℕ)) (n : ℕ) → HaveLengths us vs → n < length us → HaveLengths (up_to 1 us n) (up_to 1 vs n)
up_to_lengths [] vs n same less = absurd (omega (arith, less))
up_to_lengths (u ∷ us) [] n same less = absurd same
up_to_lengths (u ∷ us) (v ∷ vs) zero same less = (omega (arith, length-take 1 u, length-take 1 v, same.0), tt)
up_to_lengths (u ∷ us) (v ∷ vs) (suc n) same less = (same.0, up_to_lengths us vs n same.1 (omega (arith, less)))

same_count : (us vs : List (List ℕ)) → HaveLengths us vs → length us ≡ length vs
same_count [] [] same = refl
same_count (u ∷ us) (v ∷ vs) same = ap suc (same_count us vs same.1)
same_count (u ∷ us) [] same = absurd same
same_count [] (v ∷ vs) same = absurd same

-- The moments of the packets of bursts, and of those in which their sections begin.
module _ (rows columns : ℕ) (schedule : FrameSchedule) (window : WindowFields) where
  abbrev pub packet_moments : ℕ → List (List ℕ) → List ℕ
  packet_moments c frame = map (burst_moment schedule window c) (range_with_len 0 (burst_size rows columns frame))

  abbrev pub section_moments : ℕ → List (List ℕ) → List ℕ
  section_moments c frame = map (λ i. burst_moment schedule window c (packet_of_section rows columns frame i)) (range_with_len 0 (length (sized_units rows columns frame)))

  -- in cycles from one on
  abbrev pub all_packet_moments : ℕ → List (List (List ℕ)) → List ℕ
  all_packet_moments c [] = []
  all_packet_moments c (frame ∷ frames) = packet_moments c frame ++ all_packet_moments (c + 1) frames

  abbrev pub all_section_moments : ℕ → List (List (List ℕ)) → List ℕ
  all_section_moments c [] = []
  all_section_moments c (frame ∷ frames) = section_moments c frame ++ all_section_moments (c + 1) frames

pub length-sections : (rows columns : ℕ) (unicast : List ℕ) (delta : ℕ → ℕ) (frame : List (List ℕ)) → length (units_with_delta rows columns unicast delta frame) ≡ length (sized_units rows columns frame)
length-sections rows columns unicast delta frame = same_count (units_with_delta rows columns unicast delta frame) (sized_units rows columns frame) (same_lengths rows columns unicast delta frame)

-- each section is a unit
abbrev pub AreUnits : List (List ℕ) → Type 0
AreUnits units = (n : ℕ) → n < length units → IsUnit section_form (unit_at units n)

module _ (lawful : IsLawful section_form) (rows columns : ℕ) (unicast : List ℕ) where
  -- a section begins in the packet that is told
  module _ (pid counter : ℕ) (delta : ℕ → ℕ) (frame : List (List ℕ)) (each : AreUnits (units_with_delta rows columns unicast delta frame)) where
    abbrev units : List (List ℕ)
    units = units_with_delta rows columns unicast delta frame

    abbrev packets : List PacketFields
    packets = packetized section_form true pid counter (units_with_delta rows columns unicast delta frame)

    pub burst_count : length (packetized section_form true pid counter (units_with_delta rows columns unicast delta frame)) ≡ burst_size rows columns frame
    burst_count = size_is pid counter (units_with_delta rows columns unicast delta frame) ∙ burst_size_is rows columns unicast delta frame

    pub sections_begin : (begin : ℕ → ℕ) × Packetizes section_form (units_with_delta rows columns unicast delta frame) (packetized section_form true pid counter (units_with_delta rows columns unicast delta frame)) begin
        × ((n : ℕ) → n < length (units_with_delta rows columns unicast delta frame)
        → IsIn (packetized section_form true pid counter (units_with_delta rows columns unicast delta frame)) (packet_of_section rows columns frame n) (begin n))
    sections_begin = by_found (begin_there section_form lawful true pid counter units each)
      where
        by_found : (begin : ℕ → ℕ) × Packetizes section_form units packets begin
            × ((n : ℕ) → n < length units → (m : ℕ) × IsIn packets m (begin n) × (m + 1 ≡ length (packetized section_form true pid counter (up_to 1 units n))))
            → (begin : ℕ → ℕ) × Packetizes section_form units packets begin × ((n : ℕ) → n < length units → IsIn packets (packet_of_section rows columns frame n) (begin n))
        by_found (begin, packetizes, are_in) = (begin, packetizes, λ n less. by_in n less (are_in n less))
          where
            by_in : (n : ℕ) → n < length units → (m : ℕ) × IsIn packets m (begin n) × (m + 1 ≡ length (packetized section_form true pid counter (up_to 1 units n)))
                → IsIn packets (packet_of_section rows columns frame n) (begin n)
            by_in n less (m, is, count) =
                let same : length (packetized section_form true pid counter (up_to 1 units n)) ≡ length (packetized section_form true 0 0 (up_to 1 (sized_units rows columns frame) n))
                = counted section_form true pid counter 0 0 (up_to 1 units n) (up_to 1 (sized_units rows columns frame) n)
                (up_to_lengths units (sized_units rows columns frame) n (same_lengths rows columns unicast delta frame) less) in
                let place : m ≡ packet_of_section rows columns frame n = omega (arith, count, same) in
                subst (λ (i : ℕ). IsIn packets i (begin n)) place is

    -- so it is one of the burst
    pub place_below : (n : ℕ) → n < length (sized_units rows columns frame) → packet_of_section rows columns frame n < burst_size rows columns frame
    place_below n less = by_found sections_begin
      where
        by_found : (begin : ℕ → ℕ) × Packetizes section_form units packets begin × ((n2 : ℕ) → n2 < length units → IsIn packets (packet_of_section rows columns frame n2) (begin n2))
            → packet_of_section rows columns frame n < burst_size rows columns frame
        by_found (begin, packetizes, are_in) =
            omega (arith, (are_in n (omega (arith, less, length-sections rows columns unicast delta frame))).within, burst_count)

  module _ (schedule : FrameSchedule) (window : WindowFields) (pid : ℕ) where
    -- one burst
    pub burst_valued : (delta : ℕ → ℕ) (counter c : ℕ) (frame : List (List ℕ)) → AreUnits (units_with_delta rows columns unicast delta frame)
        → IsValued section_form (units_with_delta rows columns unicast delta frame) (packetized section_form true pid counter (units_with_delta rows columns unicast delta frame))
        (packet_moments rows columns schedule window c frame) (section_moments rows columns schedule window c frame)
    burst_valued delta counter c frame each = by_found (sections_begin pid counter delta frame each)
      where
        by_found : (begin : ℕ → ℕ) × Packetizes section_form (units_with_delta rows columns unicast delta frame) (packetized section_form true pid counter (units_with_delta rows columns unicast delta frame)) begin
            × ((n : ℕ) → n < length (units_with_delta rows columns unicast delta frame)
            → IsIn (packetized section_form true pid counter (units_with_delta rows columns unicast delta frame)) (packet_of_section rows columns frame n) (begin n))
            → IsValued section_form (units_with_delta rows columns unicast delta frame) (packetized section_form true pid counter (units_with_delta rows columns unicast delta frame))
            (packet_moments rows columns schedule window c frame) (section_moments rows columns schedule window c frame)
        by_found (begin, packetizes, are_in) = record {
          begin = begin;
          packetizes = packetizes;
          values_size = length-map-range_with_len (burst_moment schedule window c) 0 (burst_size rows columns frame) ∙ sym (burst_count pid counter delta frame each);
          expected_size = length-map-range_with_len (λ i. burst_moment schedule window c (packet_of_section rows columns frame i)) 0 (length (sized_units rows columns frame))
              ∙ sym (length-sections rows columns unicast delta frame);
          at = λ n less. record {
            packet = packet_of_section rows columns frame n;
            here = are_in n less;
            value = item_of (burst_moment schedule window c) (burst_size rows columns frame) (packet_of_section rows columns frame n)
                (omega (arith, (are_in n less).within, burst_count pid counter delta frame each))
                ∙ sym (item_of (λ i. burst_moment schedule window c (packet_of_section rows columns frame i)) (length (sized_units rows columns frame)) n
                (omega (arith, less, length-sections rows columns unicast delta frame)));
          };
        }

    abbrev pub AllUnits : List (List (List ℕ)) → Type 0
    AllUnits [] = Unit {0}
    AllUnits (frame ∷ frames) = ((is_last : Bool) (c : ℕ) → AreUnits (units_of_burst rows columns unicast schedule window is_last c frame)) × AllUnits frames

    abbrev all_units : ℕ → List (List (List ℕ)) → List (List ℕ)
    all_units c frames = flat_map (λ (burst : List (List ℕ)). burst) (units_by_burst rows columns unicast schedule window c frames)

    abbrev all_packets : ℕ → ℕ → List (List (List ℕ)) → List PacketFields
    all_packets counter c frames = packetized_apart pid counter (units_by_burst rows columns unicast schedule window c frames)

    pub bursts_valued : (frames : List (List (List ℕ))) → AllUnits frames → (before c : ℕ)
        → IsValued section_form (all_units c frames) (all_packets (before % 16) c frames) (all_packet_moments rows columns schedule window c frames) (all_section_moments rows columns schedule window c frames)
    bursts_valued [] each before c = none_valued section_form
    bursts_valued (frame ∷ frames) each before c =
        both_valued section_form lawful units (all_units (c + 1) frames) packets rest (packet_moments rows columns schedule window c frame) (all_packet_moments rows columns schedule window (c + 1) frames)
        (section_moments rows columns schedule window c frame) (all_section_moments rows columns schedule window (c + 1) frames)
        (burst_valued (λ i. cond is_last 0 (delta_after schedule window c (packet_of_section rows columns frame i))) (before % 16) c frame (each.0 is_last c))
        (subst (λ (counter : ℕ). IsValued section_form (all_units (c + 1) frames) (all_packets counter (c + 1) frames) (all_packet_moments rows columns schedule window (c + 1) frames) (all_section_moments rows columns schedule window (c + 1) frames))
        (sym (after before size)) (bursts_valued frames each.1 (before + size) (c + 1)))
        (continue before (before + size) packets rest refl (packetized_go_on section_form true pid before units)
        (subst (λ (counter : ℕ). GoOn (before + size) (all_packets counter (c + 1) frames)) (sym (after before size))
        (apart_go_on pid (before + size) (units_by_burst rows columns unicast schedule window (c + 1) frames))))
      where
        is_last : Bool
        is_last = not schedule.goes_on && eqb (length frames) 0

        units : List (List ℕ)
        units = units_of_burst rows columns unicast schedule window (not schedule.goes_on && eqb (length frames) 0) c frame

        packets : List PacketFields
        packets = packetized section_form true pid (before % 16) (units_of_burst rows columns unicast schedule window (not schedule.goes_on && eqb (length frames) 0) c frame)

        size : ℕ
        size = length (packetized section_form true pid (before % 16) (units_of_burst rows columns unicast schedule window (not schedule.goes_on && eqb (length frames) 0) c frame))

        rest : List PacketFields
        rest = packetized_apart pid ((before % 16 + length (packetized section_form true pid (before % 16)
            (units_of_burst rows columns unicast schedule window (not schedule.goes_on && eqb (length frames) 0) c frame))) % 16) (units_by_burst rows columns unicast schedule window (c + 1) frames)

        after : (b n : ℕ) → (b % 16 + n) % 16 ≡ (b + n) % 16
        after b n = omega arith
