-- Where stamps survive, and no copy stands in a span without the record that it is a copy of, what is received in the span is no copy.
use Rattle.std.proofs.Common.{◌≡◌, ◌⊎◌, inl, inr, ℕ, ◌%◌, ◌^◌, ◌<◌, ◌≤◌, Option, None, Some, List, length, refl, ap, sym, ◌∙◌, arith}
use Rattle.std.specs.Prelude.{option_map, Contains}
use Rattle.std.proofs.lemmas.Bool.{cases_lt}
use Rattle.ts_spec.specs.Recording.{Record, RecordingForm, plain, stamped, m2ts}
use Rattle.ts_spec.specs.Received.{record_at, Arrival, arrivals, received_packets}
use Rattle.channel_spec.specs.Channel.{Channel}
use Rattle.channel_spec.specs.Stamps.{KeepsStamps}
use Rattle.channel_spec.specs.Spans.{IsSpanOf, HasNoLoneCopies}
use Rattle.channel_law.proofs.Member.{Member, contains_member}
use Rattle.channel_law.proofs.Arrivals.{arrivals_above, ArrivesFrom, arrival_record, record_arrives}
use Rattle.channel_law.proofs.Received.{received_arrived, no_copy_of_arrival}
use Rattle.channel_law.proofs.Spans.{span_arrived}
use Rattle.channel_law.proofs.Channel.{span_alone}

-- a record whose stamp is told has a moment
has_moment : {T U : Type 0} (f : T → U) (moment : Option T) (stamp : U) → option_map f moment ≡ Some stamp → (time : T) × (moment ≡ Some time)
has_moment f None stamp told = absurd (cc)
has_moment f (Some time) stamp told = (time, refl)

module _ (pids : List ℕ) (sent recorded : List Record) (channel : Channel pids sent recorded) where
  -- a record that is no copy has a moment where its record has one in what was sent
  moment_kept : (recording : RecordingForm) → KeepsStamps recording channel → (j n time : ℕ) → j < length recorded → channel.first j ≡ j → channel.place j ≡ Some n
      → (record_at sent n).moment ≡ Some time → (moment : ℕ) × ((record_at recorded j).moment ≡ Some moment)
  moment_kept plain stamps j n time within no_copy place is = (time, stamps.no_copy j n within no_copy place ∙ is)
  moment_kept stamped stamps j n time within no_copy place is = (time, stamps.no_copy j n within no_copy place ∙ is)
  moment_kept m2ts stamps j n time within no_copy place is =
      has_moment (λ moment. moment % 2 ^ 30) (record_at recorded j).moment (stamps.time j % 2 ^ 30) (stamps.stamp j within)

  module _ (recording : RecordingForm) (stamps : KeepsStamps recording channel) (span : List Record) (is_span : IsSpanOf span recorded) (pid : ℕ)
      (read : Contains pids pid) (no_lone_copies : HasNoLoneCopies channel span pid) where
    -- a received packet whose record arrived when it was sent is no copy
    pub received_no_copy : (x : Arrival) (n time : ℕ) → Member (received_packets pid span) x → channel.place x.place ≡ Some n → (record_at sent n).moment ≡ Some time
        → channel.first x.place ≡ x.place
    received_no_copy x n time received place moment = by_order (cases_lt (channel.first x.place) x.place)
      where
        arrived : Member (arrivals pid span) x
        arrived = received_arrived None (arrivals pid span) x received

        x_is : ArrivesFrom pid recorded x
        x_is = arrival_record pid recorded x (span_arrived span recorded is_span pid x arrived)

        first_within : channel.first x.place < length recorded
        first_within = omega (arith, x_is.within, channel.behind x.place x_is.within)

        here : record_at span (channel.first x.place) ≡ record_at recorded (channel.first x.place)
        here = no_lone_copies.each x (contains_member (arrivals pid span) x arrived)

        -- a copy stands after the record that it is a copy of, which arrived
        no_copy : channel.first x.place < x.place → ((moment : ℕ) × ((record_at recorded (channel.first x.place)).moment ≡ Some moment)) → ⊥
        no_copy less kept =
            let there : Member (arrivals pid span) (record { place = channel.first x.place; moment = kept.0; bytes = x.bytes }) =
            record_arrives pid (channel.first x.place) span kept.0 x.bytes (omega (arith, first_within, is_span.size)) (ap (λ (r : Record). r.moment) here ∙ kept.1)
            (ap (λ (r : Record). r.bytes) here ∙ sym (channel.same x.place x_is.within) ∙ x_is.bytes) x_is.of_pid in
            omega (
              arith,
              no_copy_of_arrival channel.first None 0 (arrivals pid span) (span_alone pids sent recorded channel pid span is_span read) (arrivals_above pid 0 span)
                  (record { place = channel.first x.place; moment = kept.0; bytes = x.bytes }) x there received less,
            )

        by_order : (channel.first x.place < x.place) ⊎ (x.place ≤ channel.first x.place) → channel.first x.place ≡ x.place
        by_order (inr up_to) = omega (arith, channel.behind x.place x_is.within)
        by_order (inl less) =
            absurd (no_copy less (moment_kept recording stamps (channel.first x.place) n time first_within (channel.no_copy x.place x_is.within)
            (sym (channel.same_place x.place x_is.within) ∙ place) moment))
