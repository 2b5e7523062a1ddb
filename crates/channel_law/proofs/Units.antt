-- What arrives of units in a span, by their numbers.
use Rattle.std.proofs.Common.{◌≡◌, ℕ, ◌<◌, List, [], length, map, sym, subst, arith}
use Rattle.std.specs.Prelude.{Contains}
use Rattle.wire_spec.specs.Lists.{IsSubsequence}
use Rattle.ts_spec.specs.Form.{UnitForm}
use Rattle.ts_spec.specs.Recording.{Record}
use Rattle.ts_spec.specs.Received.{received_packets}
use Rattle.ts_spec.specs.Reassembly.{PlacedUnit, accepted_units}
use Rattle.ts_spec.specs.Packetized.{unit_at}
use Rattle.channel_spec.specs.Channel.{Channel}
use Rattle.channel_spec.specs.Spans.{IsSpanOf}
use Rattle.channel_spec.specs.Carried.{IsSentUnit, NoUndetectedError, ArrivedIntact, IsAccepted, IsCarried, IsRising, IncludesIntact}
use Rattle.channel_law.proofs.Member.{Member, contains_member, member_contains}
use Rattle.channel_law.proofs.Subsequences.{subsequence_map, rising_subsequence, items_subsequence}
use Rattle.channel_law.proofs.Order.{accepted_sorted}
use Rattle.channel_law.proofs.Channel.{place_sent, received_rise}
use Rattle.channel_law.proofs.Numbers.{numbers_of, numbers_rise, units_of, number_known, number_there, later_number, one_number}
use Rattle.channel_law.proofs.Intact.{intact_accepted}

module _ (pids : List ℕ) (sent recorded : List Record) (channel : Channel pids sent recorded) (span : List Record) (is_span : IsSpanOf span recorded) (form : UnitForm) (pid : ℕ)
    (read : Contains pids pid) (units : List (List ℕ)) (begin : ℕ → ℕ) (carried : IsCarried form pid sent units begin) (no_error : NoUndetectedError channel span form pid units begin) where
  -- the number of a sent unit
  abbrev IsNumber : PlacedUnit → ℕ → Type 0
  IsNumber x n = IsSentUnit channel pid units begin n x

  -- each accepted unit has the number of a sent one
  abbrev numbered : (x : PlacedUnit) → Member (accepted_units form pid span) x → (n : ℕ) × IsNumber x n
  numbered x there = no_error.each x (contains_member (accepted_units form pid span) x there)

  -- the numbers of the accepted units, in order
  abbrev pub accepted_numbers : List ℕ
  accepted_numbers = numbers_of IsNumber (accepted_units form pid span) numbered

  -- the accepted units are the sent ones of their numbers
  pub accepted_are : map (λ (x : PlacedUnit). x.unit) (accepted_units form pid span) ≡ map (unit_at units) accepted_numbers
  accepted_are = units_of IsNumber units (λ x n is. is.bytes) (accepted_units form pid span) numbered

  -- the numbers rise, and each unit that arrived intact is among them
  pub includes_intact : IncludesIntact channel span pid units begin accepted_numbers
  includes_intact = record {
    rising =
        numbers_rise IsNumber (place_sent channel.place) (later_number pids sent recorded channel form pid units begin carried) (accepted_units form pid span) numbered
        (accepted_sorted form carried.lawful (place_sent channel.place) (received_packets pid span) (received_rise pids sent recorded channel pid span is_span read)) 0 (λ x n there number. omega arith);
    within = λ n there. within n (number_known IsNumber (accepted_units form pid span) numbered n (member_contains accepted_numbers n there));
    intact = λ n known intact. accepted n (intact_accepted pids sent recorded channel span is_span form pid read units begin carried n known intact);
  }
    where
      within : (n : ℕ) → ((x : PlacedUnit) × IsSentUnit channel pid units begin n x) → n < length units
      within n found =
          let is : IsSentUnit channel pid units begin n found.0 = found.1 in
          is.start.unit

      accepted : (n : ℕ) → IsAccepted channel span form pid units begin n → Contains accepted_numbers n
      accepted n is =
          contains_member accepted_numbers n
          (number_there IsNumber n (accepted_units form pid span) numbered is.accepted (member_contains (accepted_units form pid span) is.accepted is.contained)
          (λ m other. one_number pids sent recorded channel form pid units begin carried is.accepted m n other is.sent_unit))

-- Subsequences, read off the numbers.

-- units of numbers that rise are a subsequence of all
pub numbered_subsequence : (units : List (List ℕ)) (numbers : List ℕ) → IsRising 0 numbers → ((n : ℕ) → Contains numbers n → n < length units)
    → IsSubsequence (map (unit_at units) numbers) units
numbered_subsequence units numbers rising within = items_subsequence units [] numbers rising (λ n there. within n (contains_member numbers n there))

module _ {pids : List ℕ} {sent recorded : List Record} (channel : Channel pids sent recorded) (span : List Record) (pid : ℕ) (units : List (List ℕ)) (begin : ℕ → ℕ)
    (numbers : List ℕ) (includes : IncludesIntact channel span pid units begin numbers) where
  -- units that arrived intact are a subsequence of those of the numbers
  pub intact_subsequence : (intact : List ℕ) → IsRising 0 intact → ((n : ℕ) → Contains intact n → (n < length units) × ArrivedIntact channel span pid units begin n)
      → IsSubsequence intact numbers
  intact_subsequence intact rising each =
      rising_subsequence intact numbers 0 0 rising includes.rising
      (λ n there. let arrived : (n < length units) × ArrivedIntact channel span pid units begin n = each n (contains_member intact n there) in
      member_contains numbers n (includes.intact n arrived.0 arrived.1))

-- The accepted units.

module _ (pids : List ℕ) (sent recorded : List Record) (channel : Channel pids sent recorded) (span : List Record) (is_span : IsSpanOf span recorded) (form : UnitForm) (pid : ℕ)
    (read : Contains pids pid) (units : List (List ℕ)) (begin : ℕ → ℕ) (carried : IsCarried form pid sent units begin) (no_error : NoUndetectedError channel span form pid units begin) where
  -- they are a subsequence of those sent
  pub accepted_were_sent : IsSubsequence (map (λ (x : PlacedUnit). x.unit) (accepted_units form pid span)) units
  accepted_were_sent =
      let numbers : List ℕ = accepted_numbers pids sent recorded channel span is_span form pid read units begin carried no_error in
      let includes : IncludesIntact channel span pid units begin numbers = includes_intact pids sent recorded channel span is_span form pid read units begin carried no_error in
      subst (λ (t : List (List ℕ)). IsSubsequence t units) (sym (accepted_are pids sent recorded channel span is_span form pid read units begin carried no_error))
      (numbered_subsequence units numbers includes.rising includes.within)

  -- those that arrived intact are a subsequence of them
  pub intact_among_accepted : (intact : List ℕ) → IsRising 0 intact → ((n : ℕ) → Contains intact n → (n < length units) × ArrivedIntact channel span pid units begin n)
      → IsSubsequence (map (unit_at units) intact) (map (λ (x : PlacedUnit). x.unit) (accepted_units form pid span))
  intact_among_accepted intact rising each =
      let numbers : List ℕ = accepted_numbers pids sent recorded channel span is_span form pid read units begin carried no_error in
      let includes : IncludesIntact channel span pid units begin numbers = includes_intact pids sent recorded channel span is_span form pid read units begin carried no_error in
      subst (IsSubsequence (map (unit_at units) intact)) (sym (accepted_are pids sent recorded channel span is_span form pid read units begin carried no_error))
      (subsequence_map (unit_at units) intact numbers (intact_subsequence channel span pid units begin numbers includes intact rising each))
