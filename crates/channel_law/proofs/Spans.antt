-- Spans: what arrives in one arrives in the recording, and the recording is a span of itself.
use Rattle.std.proofs.Common.{◌≡◌, ◌⊎◌, inl, inr, ℕ, None, Some, List, refl, ap, sym, ◌∙◌, arith}
use Rattle.ts_spec.specs.Recording.{Record}
use Rattle.ts_spec.specs.Received.{no_record, record_at, Arrival, arrivals}
use Rattle.channel_spec.specs.Channel.{Channel}
use Rattle.channel_spec.specs.Spans.{IsSpanOf, HasNoLoneCopies}
use Rattle.channel_law.proofs.Member.{Member}
use Rattle.channel_law.proofs.Arrivals.{ArrivesFrom, arrival_record, record_arrives}

-- the recording is a span of itself
pub whole_is_span : (recorded : List Record) → IsSpanOf recorded recorded
whole_is_span recorded = record { size = refl; each = λ j. inl refl }

-- in which each copy has the record that it is a copy of
pub whole_has_no_lone_copies : {pids : List ℕ} {sent recorded : List Record} (channel : Channel pids sent recorded) (pid : ℕ) → HasNoLoneCopies channel recorded pid
whole_has_no_lone_copies channel pid = record { each = λ copy there. refl }

module _ (span recorded : List Record) (is_span : IsSpanOf span recorded) (pid : ℕ) where
  -- a record of the span that has a moment is that of the recording
  pub record_same : (j time : ℕ) → (record_at span j).moment ≡ Some time → record_at span j ≡ record_at recorded j
  record_same j time is = by_part (is_span.each j)
    where
      by_part : (record_at span j ≡ record_at recorded j) ⊎ (record_at span j ≡ no_record) → record_at span j ≡ record_at recorded j
      by_part (inl same) = same
      by_part (inr blank) =
          let none : None ≡ Some time = sym (ap (λ (r : Record). r.moment) blank) ∙ is in
          absurd (cc (none))

  -- what arrives in a span arrives in the recording
  pub span_arrived : (a : Arrival) → Member (arrivals pid span) a → Member (arrivals pid recorded) a
  span_arrived a there =
      let is : ArrivesFrom pid span a = arrival_record pid span a there in
      let same : record_at span a.place ≡ record_at recorded a.place = record_same a.place a.moment is.moment in
      record_arrives pid a.place recorded a.moment a.bytes (omega (arith, is.within, is_span.size))
      (ap (λ (r : Record). r.moment) (sym same) ∙ is.moment) (ap (λ (r : Record). r.bytes) (sym same) ∙ is.bytes) is.of_pid
