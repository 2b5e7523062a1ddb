-- The moments of units that are accepted in a span are those of their records in what was sent.
use Rattle.std.proofs.Common.{◌≡◌, ℕ, ◌+◌, ◌%◌, ◌^◌, ◌<◌, None, Some, List, length, refl, ap, sym, ◌∙◌, arith}
use Rattle.std.specs.Prelude.{Contains}
use Rattle.std.proofs.lemmas.List.{length-map}
use Rattle.ts_spec.specs.Form.{UnitForm}
use Rattle.ts_spec.specs.Recording.{Record, RecordingForm, plain, stamped, m2ts, records_of}
use Rattle.ts_spec.specs.Received.{record_at, Arrival, arrival_at, no_arrival, packet_of, arrivals, received_packets}
use Rattle.ts_spec.specs.Reassembly.{PlacedUnit, accepted_units}
use Rattle.ts_spec.specs.Packetized.{IsIn}
use Rattle.channel_spec.specs.Channel.{Channel}
use Rattle.channel_spec.specs.Stamps.{KeepsStamps}
use Rattle.channel_spec.specs.Spans.{IsSpanOf, HasNoLoneCopies}
use Rattle.channel_spec.specs.Carried.{packets_sent, IsSentUnit, IsCarried}
use Rattle.channel_law.specs.Words.{IsShift}
use Rattle.channel_law.proofs.Member.{Member, member_at, member_contains}
use Rattle.channel_law.proofs.Arrivals.{ArrivesFrom, arrival_record}
use Rattle.channel_law.proofs.Received.{received_arrived}
use Rattle.channel_law.proofs.Order.{at_received}
use Rattle.channel_law.proofs.Spans.{span_arrived}
use Rattle.channel_law.proofs.Copies.{received_no_copy}
use Rattle.channel_law.proofs.Stamps.{length-m2ts, moment-m2ts, moment_at, times_shifted}

-- the moments of records that are no copies differ from those of their records by the shift
abbrev pub AreShifted : {pids : List ℕ} {sent recorded : List Record} → Channel pids sent recorded → ℕ → Type 0
AreShifted {pids} {sent} {recorded} channel shift =
    (j n recorded_moment sent_moment : ℕ) → j < length recorded → channel.first j ≡ j → channel.place j ≡ Some n
    → (record_at recorded j).moment ≡ Some recorded_moment → (record_at sent n).moment ≡ Some sent_moment → recorded_moment + shift ≡ sent_moment

-- moments that are there
some_same : (a b : ℕ) → Some a ≡ Some b → a ≡ b
some_same a b same = cc

-- such a shift there is
pub moments_shifted : (recording : RecordingForm) (pids : List ℕ) (sent : List Record) (pieces : List (List ℕ)) (channel : Channel pids sent (records_of recording pieces))
    → KeepsStamps recording channel → (shift : ℕ) × IsShift recording shift × AreShifted channel shift
moments_shifted plain pids sent pieces channel stamps =
    (0, refl, λ j n recorded_moment sent_moment within no_copy place is also. omega (arith, some_same recorded_moment sent_moment (sym is ∙ stamps.no_copy j n within no_copy place ∙ also)))
moments_shifted stamped pids sent pieces channel stamps =
    (0, refl, λ j n recorded_moment sent_moment within no_copy place is also. omega (arith, some_same recorded_moment sent_moment (sym is ∙ stamps.no_copy j n within no_copy place ∙ also)))
moments_shifted m2ts pids sent pieces channel stamps = by_shift (times_shifted pids pieces sent channel stamps)
  where
    by_shift : ((shift : ℕ) × (shift % 2 ^ 30 ≡ 0) × ((j : ℕ) → j < length pieces → moment_at None pieces j + shift ≡ stamps.time j))
        → (shift : ℕ) × (shift % 2 ^ 30 ≡ 0) × AreShifted channel shift
    by_shift found = (
      found.0,
      found.1,
      λ j n recorded_moment sent_moment within no_copy place is also.
          let known : j < length pieces = omega (arith, length-m2ts None pieces) in
          let recorded_is : moment_at None pieces j ≡ recorded_moment = some_same (moment_at None pieces j) recorded_moment (sym (moment-m2ts None pieces j known) ∙ is) in
          let sent_is : stamps.time j ≡ sent_moment = some_same (stamps.time j) sent_moment (sym (stamps.no_copy j n within no_copy place) ∙ also) in
          omega (arith, found.2 j known, recorded_is, sent_is),
    )

module _ (recording : RecordingForm) (pids : List ℕ) (sent : List Record) (pieces : List (List ℕ)) (channel : Channel pids sent (records_of recording pieces))
    (stamps : KeepsStamps recording channel) (span : List Record) (is_span : IsSpanOf span (records_of recording pieces)) (form : UnitForm) (pid : ℕ)
    (read : Contains pids pid) (no_lone_copies : HasNoLoneCopies channel span pid) (units : List (List ℕ)) (begin : ℕ → ℕ) (carried : IsCarried form pid sent units begin) where
  -- what was recorded
  abbrev recorded : List Record
  recorded = records_of recording pieces

  -- an accepted unit has the moment of its record, but for the shift
  pub accepted_moment : (shift : ℕ) → AreShifted channel shift
      → (x : PlacedUnit) → Contains (accepted_units form pid span) x → (n : ℕ) (is : IsSentUnit channel pid units begin n x)
      → x.moment + shift ≡ (arrival_at (arrivals pid sent) is.packet).moment
  accepted_moment shift shifted x contained n is = by_arrival (at_received form carried.lawful (received_packets pid span) x (member_contains (accepted_units form pid span) x contained))
    where
      is_in : IsIn (packets_sent pid sent) is.packet (begin n)
      is_in = is.start.packet

      sent_is : ArrivesFrom pid sent (arrival_at (arrivals pid sent) is.packet)
      sent_is = arrival_record pid sent (arrival_at (arrivals pid sent) is.packet) (member_at (arrivals pid sent) is.packet no_arrival (omega (arith, is_in.within, length-map (arrivals pid sent) packet_of)))

      by_arrival : ((a : Arrival) × Member (received_packets pid span) a × (x.place ≡ a.place) × (x.moment ≡ a.moment)) → x.moment + shift ≡ (arrival_at (arrivals pid sent) is.packet).moment
      by_arrival found =
          let place : channel.place found.0.place ≡ Some (arrival_at (arrivals pid sent) is.packet).place = ap channel.place (sym found.2) ∙ is.record_is in
          let recorded_is : ArrivesFrom pid recorded found.0 =
          arrival_record pid recorded found.0 (span_arrived span recorded is_span pid found.0 (received_arrived None (arrivals pid span) found.0 found.1)) in
          let no_copy : channel.first found.0.place ≡ found.0.place =
          received_no_copy pids sent recorded channel recording stamps span is_span pid read no_lone_copies found.0 (arrival_at (arrivals pid sent) is.packet).place (arrival_at (arrivals pid sent) is.packet).moment found.1 place sent_is.moment in
          ap (λ (t : ℕ). t + shift) found.3
          ∙ shifted found.0.place (arrival_at (arrivals pid sent) is.packet).place found.0.moment (arrival_at (arrivals pid sent) is.packet).moment recorded_is.within no_copy place recorded_is.moment sent_is.moment
