-- What a channel makes of the arrivals of a PID, in the recording and in a span of it.
use Rattle.std.proofs.Common.{◌≡◌, ◌⊎◌, inl, inr, ℕ, ◌<◌, ◌≤◌, Option, None, Some, List, [], ◌∷◌, refl, ap, sym, ◌∙◌, subst, arith}
use Rattle.std.specs.Prelude.{Contains, unwrap_or}
use Rattle.std.proofs.lemmas.Bool.{cases_lt}
use Rattle.ts_spec.specs.Recording.{Record}
use Rattle.ts_spec.specs.Received.{record_at, Arrival, arrivals, received_packets}
use Rattle.channel_spec.specs.Channel.{Channel}
use Rattle.channel_spec.specs.Spans.{IsSpanOf}
use Rattle.channel_law.proofs.Member.{Member, contains_member}
use Rattle.channel_law.proofs.Arrivals.{arrivals_above, ArrivesFrom, arrival_record, record_arrives}
use Rattle.channel_law.proofs.Received.{AreAlone, Orders, InOrder, received_in_order}
use Rattle.channel_law.proofs.Spans.{span_arrived}

-- a place among the sent records, 0 of a record that was inserted
abbrev pub place_sent : (ℕ → Option ℕ) → ℕ → ℕ
place_sent place j = unwrap_or (place j) 0

-- of a record that comes from a place it is that
pub place_told : (place : ℕ → Option ℕ) (j n : ℕ) → place j ≡ Some n → place_sent place j ≡ n
place_told place j n is = ap (λ (o : Option ℕ). unwrap_or o 0) is

module _ (pids : List ℕ) (sent recorded : List Record) (channel : Channel pids sent recorded) (pid : ℕ) where
  -- an arrival on a PID that is read comes from a sent record
  pub arrival_sent : Contains pids pid → (a : Arrival) → ArrivesFrom pid recorded a → channel.place a.place ≡ Some (place_sent channel.place a.place)
  arrival_sent read a is = by_place (channel.place a.place) refl
    where
      by_place : (o : Option ℕ) → channel.place a.place ≡ o → o ≡ Some (unwrap_or o 0)
      by_place None none =
          absurd (subst (λ (t : List Arrival). Member t (record { place = 0; moment = a.moment; bytes = a.bytes })) (channel.foreign a.place is.within none pid read)
          (record_arrives pid 0 (record_at recorded a.place ∷ []) a.moment a.bytes (omega arith) is.moment is.bytes is.of_pid))
      by_place (Some n) some = refl

  -- between a record and its copy only such copies arrive
  pub channel_alone : Contains pids pid → AreAlone channel.first (arrivals pid recorded)
  channel_alone read copy other there_copy there from below = by_order (cases_lt (channel.first copy.place) other.place)
    where
      copy_is : ArrivesFrom pid recorded copy
      copy_is = arrival_record pid recorded copy there_copy

      other_is : ArrivesFrom pid recorded other
      other_is = arrival_record pid recorded other there

      by_order : (channel.first copy.place < other.place) ⊎ (other.place ≤ channel.first copy.place) → other.bytes ≡ copy.bytes
      by_order (inl less) = channel.alone pid copy other read (contains_member (arrivals pid recorded) copy there_copy) (contains_member (arrivals pid recorded) other there) less below
      by_order (inr up_to) =
          let same : channel.first copy.place ≡ other.place = omega arith in
          sym other_is.bytes
          ∙ ap (λ (t : ℕ). (record_at recorded t).bytes) (sym same)
          ∙ sym (channel.same copy.place copy_is.within)
          ∙ copy_is.bytes

  -- a later arrival comes from a later place, where it is no copy of a record up to the earlier one
  pub channel_orders : Contains pids pid → Orders channel.first (place_sent channel.place) (arrivals pid recorded)
  channel_orders read x y there_x there_y less later =
      channel.in_order (channel.first x.place) (channel.first y.place) (place_sent channel.place x.place) (place_sent channel.place y.place)
      (omega (arith, later, channel.behind x.place x_is.within)) (omega (arith, y_is.within, channel.behind y.place y_is.within))
      (channel.no_copy x.place x_is.within) (channel.no_copy y.place y_is.within)
      (sym (channel.same_place x.place x_is.within) ∙ arrival_sent read x x_is) (sym (channel.same_place y.place y_is.within) ∙ arrival_sent read y y_is)
    where
      x_is : ArrivesFrom pid recorded x
      x_is = arrival_record pid recorded x there_x

      y_is : ArrivesFrom pid recorded y
      y_is = arrival_record pid recorded y there_y

  -- A span.
  module _ (span : List Record) (is_span : IsSpanOf span recorded) where
    -- what arrives in the span is as in the recording
    pub span_alone : Contains pids pid → AreAlone channel.first (arrivals pid span)
    span_alone read copy other there_copy there = channel_alone read copy other (span_arrived span recorded is_span pid copy there_copy) (span_arrived span recorded is_span pid other there)

    span_orders : Contains pids pid → Orders channel.first (place_sent channel.place) (arrivals pid span)
    span_orders read x y there_x there_y = channel_orders read x y (span_arrived span recorded is_span pid x there_x) (span_arrived span recorded is_span pid y there_y)

    -- received packets come in the order in which they were sent, each once
    pub received_rise : Contains pids pid → InOrder (place_sent channel.place) (received_packets pid span)
    received_rise read = received_in_order channel.first (place_sent channel.place) None 0 (arrivals pid span) (span_alone read) (span_orders read) (arrivals_above pid 0 span)
