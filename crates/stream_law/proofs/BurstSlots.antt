-- The slots of the packets of a sliced service, and their moments.
use Rattle.std.proofs.Common.{◌≡◌, ◌⊎◌, inl, inr, ℕ, zero, suc, ◌+◌, ◌*◌, ◌/◌, ◌%◌, ◌<◌, ◌≤◌, Bool, true, false, cond, eqb, get_or, List, [], ◌∷◌, ◌++◌, length, map, take, sum, filter_map, replicate, refl, sym, ap, ap₂, ◌∙◌, arith, Option, Some, None}
use Rattle.std.specs.Prelude.{slice_index, slice_index_or, filter}
use Rattle.std.specs.List.{cons_option, range_with_len}
use Rattle.std.proofs.lemmas.List.{length-append, get_or_append_left, get_or-append-add}
use Rattle.std.proofs.lemmas.List.Sums.{sum_by-cons}
use Rattle.std.proofs.lemmas.List.FromFn.{length-map-range_with_len, fill_by_all}
use Rattle.std.proofs.lemmas.Nat.{div-add-mod'}
use Rattle.ts_spec.specs.Packet.{PacketFields, fields_of, is_packet, packet_bytes, null_packet}
use Rattle.ts_spec.specs.Packetized.{packet_at}
use Rattle.ts_spec.specs.Received.{is_of}
use Rattle.ts_packet.specs.Fields.{written_fields}
use Rattle.plan_spec.specs.Plan.{pid_of, kinds, SlicedFields, sliced_of}
use Rattle.plan_spec.specs.Signalling.{table_packets}
use Rattle.plan_spec.specs.Valid.{is_plan}
use Rattle.stream_spec.specs.Services.{kind_at}
use Rattle.stream_spec.specs.Slots.{Slot, of_table, of_service, empty, IsSlotCount}
use Rattle.stream_spec.specs.Windows.{windows_of, out_before}
use Rattle.stream_spec.specs.Parts.{PartFields, service_packets, turn_counts, sizes_in, kept_in, slot_in}
use Rattle.slice_law.proofs.Turned.{IsWindowed}
use Rattle.stream_law.specs.Words.{number_of}
use Rattle.stream_law.proofs.Turns.{carried_there}
use Rattle.stream_law.proofs.Records.{read_of}
use Rattle.stream_law.proofs.Carrying.{IsOfBurst, kept_of_burst}
use Rattle.stream_law.proofs.AllOut.{in_window, all_are}
use Rattle.stream_law.proofs.OnPid.{IsSendable, slot_packet, slot_read, all_numbers}
use Rattle.stream_law.proofs.Sent.{numbered_packets}
use Rattle.stream_law.proofs.BurstValues.{item_at}

-- the slots of bursts of these sizes, in cycles from one on
module _ (cycle start : ℕ) where
  abbrev pub all_slots : ℕ → List ℕ → List ℕ
  all_slots c [] = []
  all_slots c (size ∷ sizes) = map (λ n. c * cycle + start + n) (range_with_len 0 size) ++ all_slots (c + 1) sizes

  pub length-all_slots : (c : ℕ) (sizes : List ℕ) → length (all_slots c sizes) ≡ sum sizes
  length-all_slots c [] = refl
  length-all_slots c (size ∷ sizes) =
      omega (
        arith,
        length-append (map (λ n. c * cycle + start + n) (range_with_len 0 size)) (all_slots (c + 1) sizes),
        length-map-range_with_len (λ n. c * cycle + start + n) 0 size,
        length-all_slots (c + 1) sizes,
        sum_by-cons (λ (n : ℕ). n) size sizes,
      )

  -- packet n of the burst in a cycle
  pub slot_at_number : (first c n : ℕ) (sizes : List ℕ) → n < slice_index sizes c → get_or (all_slots first sizes) (out_before sizes c + n) 0 ≡ (first + c) * cycle + start + n
  slot_at_number first c n [] less = absurd (omega (arith, less))
  slot_at_number first zero n (size ∷ sizes) less =
      let here : first + 0 ≡ first = omega arith in
      let place : 0 + n ≡ n = omega arith in
      ap (λ (i : ℕ). get_or (map (λ j. first * cycle + start + j) (range_with_len 0 size) ++ all_slots (first + 1) sizes) i 0) place
      ∙ get_or_append_left (map (λ j. first * cycle + start + j) (range_with_len 0 size)) (all_slots (first + 1) sizes) 0 n
      (omega (arith, less, length-map-range_with_len (λ j. first * cycle + start + j) 0 size))
      ∙ item_at (λ j. first * cycle + start + j) 0 size n less
      ∙ ap (λ (i : ℕ). first * cycle + start + i) place
      ∙ ap (λ (i : ℕ). i * cycle + start + n) (sym here)
  slot_at_number first (suc c) n (size ∷ sizes) less =
      let count : length (map (λ j. first * cycle + start + j) (range_with_len 0 size)) ≡ size = length-map-range_with_len (λ j. first * cycle + start + j) 0 size in
      let place : out_before (size ∷ sizes) (suc c) + n ≡ length (map (λ j. first * cycle + start + j) (range_with_len 0 size)) + (out_before sizes c + n)
      = omega (arith, count, sum_by-cons (λ (m : ℕ). m) size (take c sizes)) in
      let next : first + 1 + c ≡ first + suc c = omega arith in
      ap (λ (i : ℕ). get_or (all_slots first (size ∷ sizes)) i 0) place
      ∙ get_or-append-add (map (λ j. first * cycle + start + j) (range_with_len 0 size)) (all_slots (first + 1) sizes) (out_before sizes c + n) 0
      ∙ slot_at_number (first + 1) c n sizes less
      ∙ ap (λ (i : ℕ). i * cycle + start + n) next

-- Of the packets of a PID among these bytes, the moments of their slots, which are numbered from one on.
module _ (moment : ℕ → ℕ) (pid : ℕ) where
  abbrev pub slot_moments : ℕ → List (List ℕ) → List ℕ
  slot_moments s [] = []
  slot_moments s (piece ∷ pieces) = cond (is_of pid piece) (moment s ∷ []) [] ++ slot_moments (s + 1) pieces

  pub moments_both : (s : ℕ) (a b : List (List ℕ)) → slot_moments s (a ++ b) ≡ slot_moments s a ++ slot_moments (s + length a) b
  moments_both s [] b = let same : s ≡ s + 0 = omega arith in ap (λ (n : ℕ). slot_moments n b) same
  moments_both s (piece ∷ a) b =
      let next : s + 1 + length a ≡ s + suc (length a) = omega arith in
      by_test (is_of pid piece) (moments_both (s + 1) a b ∙ ap (λ (n : ℕ). slot_moments (s + 1) a ++ slot_moments n b) next)
    where
      by_test : (is : Bool) → slot_moments (s + 1) (a ++ b) ≡ slot_moments (s + 1) a ++ slot_moments (s + suc (length a)) b
          → cond is (moment s ∷ []) [] ++ slot_moments (s + 1) (a ++ b) ≡ (cond is (moment s ∷ []) [] ++ slot_moments (s + 1) a) ++ slot_moments (s + suc (length a)) b
      by_test true later = ap (λ (l : List ℕ). moment s ∷ l) later
      by_test false later = later

  -- as many as packets
  pub moments_count : (s : ℕ) (pieces : List (List ℕ)) → length (slot_moments s pieces) ≡ length (read_of pid pieces)
  moments_count s [] = refl
  moments_count s (piece ∷ pieces) = by_test (is_of pid piece) (moments_count (s + 1) pieces)
    where
      by_test : (is : Bool) → length (slot_moments (s + 1) pieces) ≡ length (read_of pid pieces)
          → length (cond is (moment s ∷ []) [] ++ slot_moments (s + 1) pieces) ≡ length (map fields_of (cond is (piece ∷ filter (is_of pid) pieces) (filter (is_of pid) pieces)))
      by_test true later = ap suc later
      by_test false later = later

module _ (readable : (pid : ℕ) (starts : Bool) (counter : ℕ) (payload : List ℕ) → counter ≤ 15 → pid ≤ 8191 → length payload ≡ 184 → is_packet (packet_bytes pid starts counter payload) ≡ true)
    (fields : (pid : ℕ) (starts : Bool) (counter : ℕ) (payload : List ℕ) → counter ≤ 15 → pid ≤ 8191 → fields_of (packet_bytes pid starts counter payload) ≡ written_fields pid starts counter payload)
    (null_fields : fields_of null_packet ≡ written_fields 0x1FFF false 0 (replicate 184 0xFF))
    (part : PartFields) (sendable : IsSendable part.plan) (accepted : is_plan part.plan ≡ true) (k pid : ℕ) (known : k < length part.plan.services)
    (pid_is : pid_of (kind_at part.plan k) ≡ Some pid) (window : SlicedFields) (is : sliced_of (kind_at part.plan k) ≡ Some window)
    (fits : (c : ℕ) → slice_index (sizes_in part k) c ≤ window.length) where
  abbrev packets : List PacketFields
  packets = slice_index_or (service_packets part) k []

  abbrev slots_of : List ℕ
  slots_of = all_slots part.plan.cycle window.start 0 (sizes_in part k)

  -- a slot that carries a packet of the service is the slot of its number
  slot_is : (s p : ℕ) → slot_in part s ≡ of_service k p → s ≡ get_or slots_of p 0
  slot_is s p e = by_place (carried_there (kept_in part) (turn_counts (kinds part.plan) (service_packets part)) s k p e)
    where
      windowed : IsWindowed part.plan.cycle (table_packets part.plan) (windows_of part.plan) (sizes_in part) (turn_counts (kinds part.plan) (service_packets part)) k window.start window.length
      windowed = in_window part accepted k known window is fits

      of_burst : IsOfBurst part s k p → s ≡ get_or slots_of p 0
      of_burst it =
          let place : window.start + it.place ≡ s % part.plan.cycle = (windowed.owner (s % part.plan.cycle) it.place it.owner).0 in
          let whole : s / part.plan.cycle * part.plan.cycle + s % part.plan.cycle ≡ s = div-add-mod' s part.plan.cycle in
          let zero_first : 0 + s / part.plan.cycle ≡ s / part.plan.cycle = omega arith in
          let number : get_or slots_of p 0 ≡ s / part.plan.cycle * part.plan.cycle + window.start + it.place
          = ap (λ (i : ℕ). get_or slots_of i 0) it.number
          ∙ slot_at_number part.plan.cycle window.start 0 (s / part.plan.cycle) it.place (sizes_in part k) it.below
          ∙ ap (λ (c : ℕ). c * part.plan.cycle + window.start + it.place) zero_first in
          omega (arith, place, whole, number)

      by_place : (kept_in part s ≡ Some (of_service k p)) ⊎ ((k < length (turn_counts (kinds part.plan) (service_packets part))) × (p < slice_index (turn_counts (kinds part.plan) (service_packets part)) k))
          → s ≡ get_or slots_of p 0
      by_place (inl kept) = of_burst (kept_of_burst part s k p kept)
      by_place (inr turn) = absurd (omega (arith, turn.1, windowed.no_turns))

  module _ (moment : ℕ → ℕ) where
    -- what one slot gives
    one_moment : (s : ℕ) → cond (is_of pid (slot_packet part s)) (moment s ∷ []) []
        ≡ map (λ p. moment (get_or slots_of p 0)) (cons_option (number_of k (slot_in part s)) [])
    one_moment s = by_slot (slot_in part s) refl (slot_read readable fields null_fields part sendable k pid known pid_is s)
      where
        by_test : (test : Bool) (o : Option ℕ) → ((p : ℕ) → o ≡ Some p → s ≡ get_or slots_of p 0)
            → map fields_of (cond test (slot_packet part s ∷ []) []) ≡ map (packet_at packets) (cons_option o [])
            → cond test (moment s ∷ []) [] ≡ map (λ p. moment (get_or slots_of p 0)) (cons_option o [])
        by_test true None at e = absurd (cc)
        by_test true (Some p) at e = ap (λ (i : ℕ). moment i ∷ []) (at p refl)
        by_test false None at e = refl
        by_test false (Some p) at e = absurd (cc)

        number_at : (j n : ℕ) → slot_in part s ≡ of_service j n → (same : Bool) → eqb j k ≡ same → (p : ℕ) → cond same (Some n) None ≡ Some p → s ≡ get_or slots_of p 0
        number_at j n e false e2 p e3 = absurd (cc)
        number_at j n e true e2 p e3 =
            let one : j ≡ k = grind (arith, e2) in
            let number : n ≡ p = ap number_in e3 in
            slot_is s p (e ∙ ap₂ of_service one number)
          where
            number_in : Option ℕ → ℕ
            number_in None = 0
            number_in (Some m) = m

        by_slot : (it : Slot) → slot_in part s ≡ it → read_of pid (slot_packet part s ∷ []) ≡ numbered_packets pid k packets (it ∷ [])
            → cond (is_of pid (slot_packet part s)) (moment s ∷ []) [] ≡ map (λ p. moment (get_or slots_of p 0)) (cons_option (number_of k it) [])
        by_slot (of_table n) e read = by_test (is_of pid (slot_packet part s)) None (λ p none. absurd (cc)) read
        by_slot (of_service j n) e read = by_test (is_of pid (slot_packet part s)) (cond (eqb j k) (Some n) None) (number_at j n e (eqb j k) refl) read
        by_slot empty e read = by_test (is_of pid (slot_packet part s)) None (λ p none. absurd (cc)) read

    more_numbers : (o : Option ℕ) (l : List ℕ) → map (λ p. moment (get_or slots_of p 0)) (cons_option o l) ≡ map (λ p. moment (get_or slots_of p 0)) (cons_option o []) ++ map (λ p. moment (get_or slots_of p 0)) l
    more_numbers None l = refl
    more_numbers (Some p) l = refl

    in_slots : (n a : ℕ) → slot_moments moment pid a (map (slot_packet part) (range_with_len a n))
        ≡ map (λ p. moment (get_or slots_of p 0)) (filter_map (number_of k) (map (slot_in part) (range_with_len a n)))
    in_slots zero a = refl
    in_slots (suc n) a =
        ap₂ (λ (x y : List ℕ). x ++ y) (one_moment a) (in_slots n (a + 1))
        ∙ sym (more_numbers (number_of k (slot_in part a)) (filter_map (number_of k) (map (slot_in part) (range_with_len (a + 1) n))))

    all_items : (xs : List ℕ) → map (λ p. moment (get_or xs p 0)) (range_with_len 0 (length xs)) ≡ map moment xs
    all_items xs = from_map (range_with_len 0 (length xs)) ∙ ap (map moment) (sym (fill_by_all (λ p. get_or xs p 0) xs (length xs) 0 refl (λ i less. refl)))
      where
        from_map : (ps : List ℕ) → map (λ p. moment (get_or xs p 0)) ps ≡ map moment (map (λ p. get_or xs p 0) ps)
        from_map [] = refl
        from_map (p ∷ ps) = ap (λ (l : List ℕ). moment (get_or xs p 0) ∷ l) (from_map ps)

    -- the packets of the service have the moments of the slots of its bursts
    pub part_moments : (least slots : ℕ) → IsSlotCount (slot_in part) least → least ≤ slots
        → slot_moments moment pid 0 (map (slot_packet part) (range_with_len 0 slots)) ≡ map moment (all_slots part.plan.cycle window.start 0 (sizes_in part k))
    part_moments least slots count le =
        in_slots slots 0
        ∙ ap (map (λ p. moment (get_or slots_of p 0)))
        (all_numbers readable fields null_fields part sendable k pid known pid_is accepted (λ other is_other c. own_fits other is_other c) least slots count le)
        ∙ ap (λ (n : ℕ). map (λ p. moment (get_or slots_of p 0)) (range_with_len 0 n)) (all_are part accepted k known window is fits ∙ sym (length-all_slots part.plan.cycle window.start 0 (sizes_in part k)))
        ∙ all_items slots_of
      where
        own_fits : (other : SlicedFields) → sliced_of (kind_at part.plan k) ≡ Some other → (c : ℕ) → slice_index (sizes_in part k) c ≤ other.length
        own_fits other is_other c = by_same (sym is ∙ is_other)
          where
            by_same : Some window ≡ Some other → slice_index (sizes_in part k) c ≤ other.length
            by_same e = let same : window ≡ other = cc in omega (arith, fits c, ap (λ (f : SlicedFields). f.length) same)
