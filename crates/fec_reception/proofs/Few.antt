-- How many events there are at most: fewer than 190 a packet, so that those of 2^32 records are fewer than 2^40.
use Rattle.std.proofs.Common.{◌≡◌, ℕ, zero, suc, ◌+◌, ◌*◌, ◌^◌, ◌<◌, ◌≤◌, Bool, true, false, cond, ◌&&◌, nat_lt, nat_le, List, [], ◌∷◌, ◌++◌, length, drop, flat_map, refl, arith, length-append, length-drop, Option, None, Some}
use Rattle.ts_spec.specs.Form.{UnitForm, Span, more, stuffing, whole, bad}
use Rattle.ts_spec.specs.Packet.{PacketFields, fields_of, is_packet, payload_start, pointer, pointer_fits}
use Rattle.ts_spec.specs.Recording.{Record}
use Rattle.ts_spec.specs.Received.{Arrival, packet_of, is_of, arrival_of, arrivals_from, arrivals, repeats, received_after, received_packets}
use Rattle.ts_spec.specs.Reassembly.{Outcome, candidate, bad_length, delimit, no_outcome, outcome_of, bytes_from, starts_behind, starts_within, unit_starts}
use Rattle.ts_spec.specs.Events.{Event, delimit_event, event_by, event_at, misfit_events, packet_events, events_of}
use Rattle.service_reception.proofs.Few.{few_received, few_arrivals}

module _ (form : UnitForm) where
  few_starts : (most place : ℕ) (bytes : List ℕ) → length (starts_within form most place bytes) ≤ most
  few_starts zero place bytes = omega arith
  few_starts (suc most) place bytes = by_room (nat_lt (length bytes) form.start) (λ place2 bytes2. few_starts most place2 bytes2)
    where
      Later : Type 0
      Later = (place2 : ℕ) (bytes2 : List ℕ) → length (starts_within form most place2 bytes2) ≤ most

      by_fit : (n : ℕ) (b : Bool) → Later → length (place ∷ (cond {A = List ℕ} b (starts_within form most (place + n) (drop n bytes)) [])) ≤ suc most
      by_fit n true later = omega (arith, later (place + n) (drop n bytes))
      by_fit n false later = omega arith

      by_span : (span : Span) → Later → length (starts_behind place bytes (length bytes) span (starts_within form most)) ≤ suc most
      by_span more later = omega arith
      by_span stuffing later = omega arith
      by_span bad later = omega arith
      by_span (whole n) later = by_fit n (nat_le n (length bytes)) later

      by_room : (b : Bool) → Later → length (cond {A = List ℕ} b [] (starts_behind place bytes (length bytes) (form.span bytes) (starts_within form most))) ≤ suc most
      by_room true later = omega arith
      by_room false later = by_span (form.span bytes) later

  few_by_outcome : (moment : ℕ) (told : Outcome) → length (event_by form moment told) ≤ 1
  few_by_outcome moment (candidate unit) = omega arith
  few_by_outcome moment bad_length = omega arith
  few_by_outcome moment delimit = omega arith
  few_by_outcome moment no_outcome = omega arith

  few_of_starts : (arrival : Arrival) (behind : List Arrival) (starts : List ℕ) → length (flat_map (event_at form arrival behind) starts) ≤ length starts
  few_of_starts arrival behind [] = omega arith
  few_of_starts arrival behind (start ∷ starts) =
      omega (
        arith,
        few_by_outcome arrival.moment (outcome_of form (bytes_from start (packet_of arrival) behind)),
        few_of_starts arrival behind starts,
        length-append (event_at form arrival behind start) (flat_map (event_at form arrival behind) starts),
      )

  few_unit_starts : (packet : PacketFields) → length (unit_starts form packet) ≤ length packet.payload
  few_unit_starts packet = by_test (packet.starts && pointer_fits packet)
    where
      by_test : (b : Bool) → length (cond {A = List ℕ} b (starts_within form (length packet.payload) (1 + pointer packet) (drop (1 + pointer packet) packet.payload)) []) ≤ length packet.payload
      by_test true = few_starts (length packet.payload) (1 + pointer packet) (drop (1 + pointer packet) packet.payload)
      by_test false = omega arith

  few_misfits : (b : Bool) → length (cond {A = List Event} b (delimit_event ∷ []) []) ≤ 1
  few_misfits true = omega arith
  few_misfits false = omega arith

  few_of_packet : (arrival : Arrival) (behind : List Arrival) → length (packet_events form arrival behind) ≤ 1 + length (packet_of arrival).payload
  few_of_packet arrival behind =
      let started : List Event = flat_map (event_at form arrival behind) (unit_starts form (packet_of arrival)) in
      let misfit : length (misfit_events (packet_of arrival)) ≤ 1 = few_misfits _ in
      omega (arith, misfit, few_of_starts arrival behind (unit_starts form (packet_of arrival)), few_unit_starts (packet_of arrival), length-append (misfit_events (packet_of arrival)) started)

  -- packets have 188 bytes
  abbrev AllShort : List Arrival → Type 0
  AllShort [] = Unit {0}
  AllShort (arrival ∷ behind) = (length (packet_of arrival).payload ≤ 188) × AllShort behind

  few_events : (packets : List Arrival) → AllShort packets → length (events_of form packets) ≤ 189 * length packets
  few_events [] short = omega arith
  few_events (arrival ∷ behind) short =
      omega (arith, few_of_packet arrival behind, few_events behind short.1, short.0, length-append (packet_events form arrival behind) (events_of form behind))

  short_packet : (pid : ℕ) (bytes : List ℕ) → is_of pid bytes ≡ true → length (fields_of bytes).payload ≤ 188
  unfolding is_packet fields_of
  short_packet pid bytes of_pid =
      let size : length bytes ≡ 188 = grind (arith, of_pid) in
      omega (arith, length-drop (payload_start bytes) bytes, size)

  short_arrival : (pid place : ℕ) (moment : Option ℕ) (bytes : List ℕ) → AllShort (arrival_of pid place moment bytes)
  short_arrival pid place None bytes = tt
  short_arrival pid place (Some m) bytes = by_test (is_of pid bytes) refl
    where
      by_test : (b : Bool) → is_of pid bytes ≡ b → AllShort (cond {A = List Arrival} b (record { place = place; moment = m; bytes = bytes } ∷ []) [])
      by_test true e = (short_packet pid bytes e, tt)
      by_test false e = tt

  short_append : (xs ys : List Arrival) → AllShort xs → AllShort ys → AllShort (xs ++ ys)
  short_append [] ys one two = two
  short_append (x ∷ xs) ys one two = (one.0, short_append xs ys one.1 two)

  short_arrivals : (pid place : ℕ) (records : List Record) → AllShort (arrivals_from pid place records)
  short_arrivals pid place [] = tt
  short_arrivals pid place (r ∷ records) = short_append (arrival_of pid place r.moment r.bytes) (arrivals_from pid (place + 1) records) (short_arrival pid place r.moment r.bytes) (short_arrivals pid (place + 1) records)

  short_received : (before : Option (List ℕ)) (packets : List Arrival) → AllShort packets → AllShort (received_after before packets)
  short_received before [] short = tt
  short_received before (arrival ∷ behind) short = by_test (repeats before arrival.bytes) (short_received (Some arrival.bytes) behind short.1)
    where
      by_test : (b : Bool) → AllShort (received_after (Some arrival.bytes) behind) → AllShort (cond {A = List Arrival} b [] (arrival ∷ []) ++ received_after (Some arrival.bytes) behind)
      by_test true rest = rest
      by_test false rest = (short.0, rest)

-- the events of 2^32 records
pub few_in_all : (form : UnitForm) (pid : ℕ) (records : List Record) → length records ≤ 2 ^ 32 → length (events_of form (received_packets pid records)) < 2 ^ 40
few_in_all form pid records few =
    omega (
      arith,
      few_events form (received_packets pid records) (short_received form None (arrivals pid records) (short_arrivals form pid 0 records)),
      few_received None (arrivals pid records),
      few_arrivals pid records,
      few,
    )
