-- The moments of the packets of a PID in a stream with time stamps.
use Rattle.std.proofs.Common.{◌≡◌, ℕ, zero, suc, ◌+◌, ◌*◌, ◌/◌, ◌%◌, ◌^◌, ◌<◌, ◌≤◌, Bool, true, false, cond, get_or, List, [], ◌∷◌, ◌++◌, length, map, refl, sym, ap, ap₂, subst, ◌∙◌, arith, Option, Some, None}
use Rattle.std.specs.Prelude.{flat_map}
use Rattle.std.specs.List.{range_with_len}
use Rattle.std.proofs.lemmas.List.FromFn.{fill_by_all}
use Rattle.ts_spec.specs.Recording.{RecordingForm, plain, stamped, m2ts, Record, m2ts_stamp, microseconds, records_of}
use Rattle.ts_spec.specs.Received.{is_of, Arrival, arrival_of, arrivals_from, arrivals}
use Rattle.slice_spec.specs.Moments.{moment_of}
use Rattle.slice_law.proofs.Stamped.{microseconds-written, m2ts_stamp-written, m2ts_moments, stamped_moments}
use Rattle.plan_spec.specs.Plan.{PlanFields}
use Rattle.plan_spec.specs.Checks.{is_plain}
use Rattle.plan_spec.specs.Changes.{versions}
use Rattle.stream_spec.specs.Parts.{stamp_bytes}
use Rattle.stream_law.specs.Words.{HasMoment, HaveMoments, records_before}
use Rattle.stream_law.proofs.Ranges.{sum_next}
use Rattle.stream_law.proofs.Records.{CarryPackets, pieces_have}
use Rattle.stream_law.proofs.Located.{length_carried, length-packets_in}
use Rattle.stream_law.proofs.OnPid.{slot_packet}
use Rattle.stream_law.proofs.Parts.{part, pieces, packets, all_stamped}
use Rattle.stream_law.proofs.BurstSlots.{slot_moments, moments_both}

abbrev moment_in : Arrival → ℕ
moment_in a = a.moment

-- the packets of a PID have the moments of their records
arrived : (moment : ℕ → ℕ) (pid place s : ℕ) (records : List Record) (pieces : List (List ℕ)) → CarryPackets records pieces
    → map (λ (r : Record). r.moment) records ≡ map (λ t. Some (moment t)) (range_with_len s (length records))
    → map moment_in (arrivals_from pid place records) ≡ slot_moments moment pid s pieces
arrived moment pid place s [] [] carry is = refl
arrived moment pid place s [] (piece ∷ pieces) carry is = absurd carry
arrived moment pid place s (r ∷ records) [] carry is = absurd carry
arrived moment pid place s (r ∷ records) (piece ∷ pieces) carry is =
    ap₂ (λ (m : Option ℕ) (b : List ℕ). map moment_in (arrival_of pid place m b ++ arrivals_from pid (place + 1) records)) (ap first_of is) carry.1
    ∙ by_test (is_of pid piece) (arrived moment pid (place + 1) (s + 1) records pieces carry.2 (ap rest_of is))
  where
    first_of : List (Option ℕ) → Option ℕ
    first_of [] = None
    first_of (m ∷ ms) = m

    rest_of : List (Option ℕ) → List (Option ℕ)
    rest_of [] = []
    rest_of (m ∷ ms) = ms

    by_test : (test : Bool) → map moment_in (arrivals_from pid (place + 1) records) ≡ slot_moments moment pid (s + 1) pieces
        → map moment_in (cond test (record { place = place; moment = moment s; bytes = piece } ∷ []) [] ++ arrivals_from pid (place + 1) records)
        ≡ cond test (moment s ∷ []) [] ++ slot_moments moment pid (s + 1) pieces
    by_test true later = ap (λ (l : List ℕ). moment s ∷ l) later
    by_test false later = later

-- Stamps of slots that follow one another, and then packets.

abbrev AreStampedFrom : RecordingForm → ℕ → ℕ → List (List ℕ) → List (List ℕ) → Type 0
AreStampedFrom form rate s [] [] = Unit {0}
AreStampedFrom form rate s [] (packet ∷ packets) = ⊥
AreStampedFrom form rate s (piece ∷ pieces) [] = ⊥
AreStampedFrom form rate s (piece ∷ pieces) (packet ∷ packets) = (HasMoment form rate s × (piece ≡ stamp_bytes form rate s ++ packet)) × AreStampedFrom form rate (s + 1) pieces packets

both_from : (form : RecordingForm) (rate s : ℕ) (a b c d : List (List ℕ)) → AreStampedFrom form rate s a b → AreStampedFrom form rate (s + length a) c d
    → AreStampedFrom form rate s (a ++ c) (b ++ d)
both_from form rate s [] [] c d first second = let same : s + 0 ≡ s = omega arith in subst (λ (n : ℕ). AreStampedFrom form rate n c d) same second
both_from form rate s [] (packet ∷ b) c d first second = absurd first
both_from form rate s (piece ∷ a) [] c d first second = absurd first
both_from form rate s (piece ∷ a) (packet ∷ b) c d first second =
    let next : s + suc (length a) ≡ s + 1 + length a = omega arith in
    (first.0, both_from form rate (s + 1) a b c d first.1 (subst (λ (n : ℕ). AreStampedFrom form rate n c d) next second))

slots_from : (form : RecordingForm) (rate b : ℕ) (packet : ℕ → List ℕ) (n a : ℕ) → ((s : ℕ) → s < a + n → HasMoment form rate (b + s))
    → AreStampedFrom form rate (b + a) (map (λ s. stamp_bytes form rate (b + s) ++ packet s) (range_with_len a n)) (map packet (range_with_len a n))
slots_from form rate b packet zero a each = tt
slots_from form rate b packet (suc n) a each =
    let next : b + (a + 1) ≡ b + a + 1 = omega arith in (
      (each a (omega arith), refl),
      subst (λ (m : ℕ). AreStampedFrom form rate m (map (λ s. stamp_bytes form rate (b + s) ++ packet s) (range_with_len (a + 1) n)) (map packet (range_with_len (a + 1) n))) next
          (slots_from form rate b packet n (a + 1) (λ s less. each s (omega (arith, less)))),
    )

-- the piece of a slot
pub record IsStampedAt (form : RecordingForm) (rate s : ℕ) (piece : List ℕ) : Type 0 where
  pub packet : List ℕ
  pub has : HasMoment form rate s
  pub is : piece ≡ stamp_bytes form rate s ++ packet

piece_at : (form : RecordingForm) (rate s i : ℕ) (pieces packets : List (List ℕ)) → AreStampedFrom form rate s pieces packets → i < length pieces
    → IsStampedAt form rate (s + i) (get_or pieces i [])
piece_at form rate s i [] packets are less = absurd (omega (arith, less))
piece_at form rate s i (piece ∷ pieces) [] are less = absurd are
piece_at form rate s zero (piece ∷ pieces) (packet ∷ packets) are less =
    let same : s ≡ s + 0 = omega arith in
    subst (λ (n : ℕ). IsStampedAt form rate n piece) same (record { packet = packet; has = are.0.0; is = are.0.1 })
piece_at form rate s (suc i) (piece ∷ pieces) (packet ∷ packets) are less =
    let same : s + 1 + i ≡ s + suc i = omega arith in
    subst (λ (n : ℕ). IsStampedAt form rate n (get_or pieces i [])) same (piece_at form rate (s + 1) i pieces packets are.1 (omega (arith, less)))

-- the records have the moments of their slots
all_pieces : (pieces : List (List ℕ)) → map (λ s. get_or pieces s []) (range_with_len 0 (length pieces)) ≡ pieces
all_pieces pieces = sym (fill_by_all (λ s. get_or pieces s []) pieces (length pieces) [] refl (λ i less. refl))

moments_of_form : (form : RecordingForm) (rate : ℕ) → 0 < rate → is_plain form ≡ false → (pieces packets : List (List ℕ)) → AreStampedFrom form rate 0 pieces packets
    → map (λ (r : Record). r.moment) (records_of form pieces) ≡ map (λ s. Some (moment_of form rate s)) (range_with_len 0 (length pieces))
moments_of_form plain rate above e pieces packets are = absurd (cc (e))
moments_of_form stamped rate above e pieces packets are =
    ap (λ (ps : List (List ℕ)). map (λ (r : Record). r.moment) (records_of stamped ps)) (sym (all_pieces pieces))
    ∙ stamped_moments rate (λ s. get_or pieces s []) (length pieces) 0 (λ s from less. read s (omega (arith, less)))
  where
    read : (s : ℕ) → s < length pieces → (microseconds (get_or pieces s []) ≡ moment_of stamped rate s) × (moment_of stamped rate s < 2 ^ 62)
    read s less = by_piece (subst (λ (n : ℕ). IsStampedAt stamped rate n (get_or pieces s [])) zero_first (piece_at stamped rate 0 s pieces packets are less))
      where
        zero_first : 0 + s ≡ s
        zero_first = omega arith

        by_piece : IsStampedAt stamped rate s (get_or pieces s []) → (microseconds (get_or pieces s []) ≡ moment_of stamped rate s) × (moment_of stamped rate s < 2 ^ 62)
        by_piece it = (ap microseconds it.is ∙ microseconds-written (s * 1000000 / rate) it.packet (omega (arith, it.has)), it.has)
moments_of_form m2ts rate above e pieces packets are =
    ap (λ (ps : List (List ℕ)). map (λ (r : Record). r.moment) (records_of m2ts ps)) (sym (all_pieces pieces))
    ∙ m2ts_moments rate above (λ s. get_or pieces s []) (length pieces) (λ s less. read s less)
  where
    read : (s : ℕ) → s < length pieces → m2ts_stamp (get_or pieces s []) ≡ moment_of m2ts rate s % 2 ^ 30
    read s less = by_piece (subst (λ (n : ℕ). IsStampedAt m2ts rate n (get_or pieces s [])) zero_first (piece_at m2ts rate 0 s pieces packets are less))
      where
        zero_first : 0 + s ≡ s
        zero_first = omega arith

        by_piece : IsStampedAt m2ts rate s (get_or pieces s []) → m2ts_stamp (get_or pieces s []) ≡ moment_of m2ts rate s % 2 ^ 30
        by_piece it = ap m2ts_stamp it.is ∙ m2ts_stamp-written (s * 27000000 / rate) it.packet

-- later slots by a number of them
pub moments_shifted : (moment : ℕ → ℕ) (pid b s : ℕ) (pieces : List (List ℕ)) → slot_moments moment pid (b + s) pieces ≡ slot_moments (λ t. moment (b + t)) pid s pieces
moments_shifted moment pid b s [] = refl
moments_shifted moment pid b s (piece ∷ pieces) =
    let next : b + s + 1 ≡ b + (s + 1) = omega arith in
    ap (λ (l : List ℕ). cond (is_of pid piece) (moment (b + s) ∷ []) [] ++ l)
    (ap (λ (n : ℕ). slot_moments moment pid n pieces) next ∙ moments_shifted moment pid b (s + 1) pieces)

-- A stream of parts.
module _ (plan : PlanFields) (datagrams : ℕ → ℕ → List (List ℕ)) (slots : ℕ → ℕ) (timed : HaveMoments plan slots) where
  abbrev packet_of_slot : ℕ → ℕ → List ℕ
  packet_of_slot v s = slot_packet (part plan datagrams slots v) s

  part_from : (v : ℕ) → v ≤ length plan.changes
      → AreStampedFrom plan.recording plan.packet_rate (records_before slots v) (pieces plan datagrams slots v) (packets plan datagrams slots v)
  part_from v within =
      let none : records_before slots v + 0 ≡ records_before slots v = omega arith in
      subst (λ (n : ℕ). AreStampedFrom plan.recording plan.packet_rate n (pieces plan datagrams slots v) (packets plan datagrams slots v)) none
      (slots_from plan.recording plan.packet_rate (records_before slots v) (packet_of_slot v) (slots v) 0 (λ s less. timed v s within (omega (arith, less))))

  length-pieces : (v : ℕ) → length (pieces plan datagrams slots v) ≡ slots v
  length-pieces v = length_map_range (slots v)
    where
      piece : ℕ → List ℕ
      piece s = stamp_bytes plan.recording plan.packet_rate (records_before slots v + s) ++ packet_of_slot v s

      from : (f : ℕ → List ℕ) (a n : ℕ) → length (map f (range_with_len a n)) ≡ n
      from f a zero = refl
      from f a (suc n) = ap suc (from f (a + 1) n)

      length_map_range : (n : ℕ) → length (map (λ s. stamp_bytes plan.recording plan.packet_rate (records_before slots v + s) ++ packet_of_slot v s) (range_with_len 0 n)) ≡ n
      length_map_range n = from (λ s. stamp_bytes plan.recording plan.packet_rate (records_before slots v + s) ++ packet_of_slot v s) 0 n

  parts_from : (n a : ℕ) → a + n ≤ length plan.changes + 1
      → AreStampedFrom plan.recording plan.packet_rate (records_before slots a) (flat_map (pieces plan datagrams slots) (range_with_len a n)) (flat_map (packets plan datagrams slots) (range_with_len a n))
  parts_from zero a le = tt
  parts_from (suc n) a le =
      let next : records_before slots (a + 1) ≡ records_before slots a + length (pieces plan datagrams slots a) = omega (arith, sum_next slots a, length-pieces a) in
      both_from plan.recording plan.packet_rate (records_before slots a) (pieces plan datagrams slots a) (packets plan datagrams slots a)
      (flat_map (pieces plan datagrams slots) (range_with_len (a + 1) n)) (flat_map (packets plan datagrams slots) (range_with_len (a + 1) n))
      (part_from a (omega (arith, le)))
      (subst (λ (m : ℕ). AreStampedFrom plan.recording plan.packet_rate m (flat_map (pieces plan datagrams slots) (range_with_len (a + 1) n)) (flat_map (packets plan datagrams slots) (range_with_len (a + 1) n)))
      next (parts_from n (a + 1) (omega (arith, le))))

  abbrev sent : List Record
  sent = records_of plan.recording (flat_map (pieces plan datagrams slots) (versions plan))

  carried : CarryPackets sent (flat_map (packets plan datagrams slots) (versions plan))
  carried =
      pieces_have plan.recording plan.packet_rate (flat_map (pieces plan datagrams slots) (versions plan)) (flat_map (packets plan datagrams slots) (versions plan))
      (all_stamped plan datagrams slots timed)

  -- as many records as pieces
  same_size : (form : RecordingForm) (rate s : ℕ) (a b : List (List ℕ)) → AreStampedFrom form rate s a b → length a ≡ length b
  same_size form rate s [] [] are = refl
  same_size form rate s [] (y ∷ b) are = absurd are
  same_size form rate s (x ∷ a) [] are = absurd are
  same_size form rate s (x ∷ a) (y ∷ b) are = ap suc (same_size form rate (s + 1) a b are.1)

  -- the moments of each part, one after another
  by_part : (moment : ℕ → ℕ) (pid n a : ℕ) → slot_moments moment pid (records_before slots a) (flat_map (packets plan datagrams slots) (range_with_len a n))
      ≡ flat_map (λ v. slot_moments moment pid (records_before slots v) (packets plan datagrams slots v)) (range_with_len a n)
  by_part moment pid zero a = refl
  by_part moment pid (suc n) a =
      let next : records_before slots a + length (packets plan datagrams slots a) ≡ records_before slots (a + 1) = omega (arith, sum_next slots a, length-packets_in plan datagrams slots 0 a) in
      moments_both moment pid (records_before slots a) (packets plan datagrams slots a) (flat_map (packets plan datagrams slots) (range_with_len (a + 1) n))
      ∙ ap (λ (l : List ℕ). slot_moments moment pid (records_before slots a) (packets plan datagrams slots a) ++ l)
      (ap (λ (m : ℕ). slot_moments moment pid m (flat_map (packets plan datagrams slots) (range_with_len (a + 1) n))) next ∙ by_part moment pid n (a + 1))

  pub arrive_at : 0 < plan.packet_rate → is_plain plan.recording ≡ false → (pid : ℕ)
      → map (λ (a : Arrival). a.moment) (arrivals pid (records_of plan.recording (flat_map (pieces plan datagrams slots) (versions plan))))
      ≡ flat_map (λ v. slot_moments (λ t. moment_of plan.recording plan.packet_rate (records_before slots v + t)) pid 0 (packets plan datagrams slots v)) (versions plan)
  arrive_at above stamps pid =
      arrived (moment_of plan.recording plan.packet_rate) pid 0 0 sent (flat_map (packets plan datagrams slots) (versions plan)) carried
      (moments_of_form plan.recording plan.packet_rate above stamps (flat_map (pieces plan datagrams slots) (versions plan)) (flat_map (packets plan datagrams slots) (versions plan))
      (parts_from (length plan.changes + 1) 0 (omega arith))
      ∙ ap (λ (n : ℕ). map (λ s. Some (moment_of plan.recording plan.packet_rate s)) (range_with_len 0 n)) size)
      ∙ by_part (moment_of plan.recording plan.packet_rate) pid (length plan.changes + 1) 0
      ∙ each_shifted (versions plan)
    where
      size : length (flat_map (pieces plan datagrams slots) (versions plan)) ≡ length sent
      size =
          same_size plan.recording plan.packet_rate 0 (flat_map (pieces plan datagrams slots) (versions plan)) (flat_map (packets plan datagrams slots) (versions plan))
          (parts_from (length plan.changes + 1) 0 (omega arith))
          ∙ sym (length_carried sent (flat_map (packets plan datagrams slots) (versions plan)) carried)

      one_shifted : (v : ℕ) → slot_moments (moment_of plan.recording plan.packet_rate) pid (records_before slots v) (packets plan datagrams slots v)
          ≡ slot_moments (λ t. moment_of plan.recording plan.packet_rate (records_before slots v + t)) pid 0 (packets plan datagrams slots v)
      one_shifted v =
          let none : records_before slots v ≡ records_before slots v + 0 = omega arith in
          ap (λ (n : ℕ). slot_moments (moment_of plan.recording plan.packet_rate) pid n (packets plan datagrams slots v)) none
          ∙ moments_shifted (moment_of plan.recording plan.packet_rate) pid (records_before slots v) 0 (packets plan datagrams slots v)

      each_shifted : (vs : List ℕ) → flat_map (λ v. slot_moments (moment_of plan.recording plan.packet_rate) pid (records_before slots v) (packets plan datagrams slots v)) vs
          ≡ flat_map (λ v. slot_moments (λ t. moment_of plan.recording plan.packet_rate (records_before slots v + t)) pid 0 (packets plan datagrams slots v)) vs
      each_shifted [] = refl
      each_shifted (v ∷ vs) = ap₂ (λ (a b : List ℕ). a ++ b) (one_shifted v) (each_shifted vs)
