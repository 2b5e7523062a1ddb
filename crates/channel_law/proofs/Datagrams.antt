-- The datagrams that accepted SNDUs carry.
use Rattle.std.proofs.Common.{◌≡◌, ℕ, ◌<◌, List, length, map, flat_map, ap, sym, ◌∙◌, subst}
use Rattle.std.specs.Prelude.{Contains}
use Rattle.std.proofs.lemmas.List.Folds.{flat_map-map}
use Rattle.wire_spec.specs.Lists.{IsSubsequence}
use Rattle.ts_spec.specs.Recording.{Record}
use Rattle.ts_spec.specs.Reassembly.{PlacedUnit, accepted_units}
use Rattle.ts_spec.specs.Packetized.{unit_at, Packetizes}
use Rattle.ts_spec.specs.Sndu.{sndu_form}
use Rattle.channel_spec.specs.Channel.{Channel}
use Rattle.channel_spec.specs.Spans.{IsSpanOf}
use Rattle.channel_spec.specs.Carried.{packets_sent, IsCarried, NoUndetectedError, ArrivedIntact, IsRising, IncludesIntact}
use Rattle.channel_spec.specs.Delivered.{carried_by_sndu, delivered_by_ule}
use Rattle.channel_law.proofs.Subsequences.{subsequence_flat}
use Rattle.channel_law.proofs.Sndu.{sndu_lawful}
use Rattle.channel_law.proofs.Units.{accepted_numbers, accepted_are, includes_intact, numbered_subsequence, intact_subsequence}

-- the datagram that unit n carries, as a list of at most one
abbrev pub carried_by_number : List (List ℕ) → ℕ → List (List ℕ)
carried_by_number units n = carried_by_sndu (unit_at units n)

module _ (pids : List ℕ) (sent recorded : List Record) (channel : Channel pids sent recorded) (span : List Record) (is_span : IsSpanOf span recorded) (pid : ℕ)
    (read : Contains pids pid) (units : List (List ℕ)) (begin : ℕ → ℕ) (packetized : Packetizes sndu_form units (packets_sent pid sent) begin) (no_error : NoUndetectedError channel span sndu_form pid units begin) where
  -- SNDUs are a lawful kind of unit
  abbrev carried : IsCarried sndu_form pid sent units begin
  carried = record { lawful = sndu_lawful; packetized = packetized }

  -- the numbers of the accepted SNDUs
  abbrev pub delivered_numbers : List ℕ
  delivered_numbers = accepted_numbers pids sent recorded channel span is_span sndu_form pid read units begin carried no_error

  -- each SNDU that arrived intact is among them
  pub delivered_include_intact : IncludesIntact channel span pid units begin delivered_numbers
  delivered_include_intact = includes_intact pids sent recorded channel span is_span sndu_form pid read units begin carried no_error

  -- the delivered datagrams are those that the SNDUs of these numbers carry
  pub delivered_are : delivered_by_ule pid span ≡ flat_map (carried_by_number units) delivered_numbers
  delivered_are =
      sym (flat_map-map carried_by_sndu (λ (x : PlacedUnit). x.unit) (accepted_units sndu_form pid span))
      ∙ ap (flat_map carried_by_sndu) (accepted_are pids sent recorded channel span is_span sndu_form pid read units begin carried no_error)
      ∙ flat_map-map carried_by_sndu (unit_at units) delivered_numbers

  -- they are a subsequence of those sent
  pub delivered_were_sent : IsSubsequence (delivered_by_ule pid span) (flat_map carried_by_sndu units)
  delivered_were_sent =
      subst (λ (t : List (List ℕ)). IsSubsequence t (flat_map carried_by_sndu units))
      (flat_map-map carried_by_sndu (unit_at units) delivered_numbers ∙ sym delivered_are)
      (subsequence_flat carried_by_sndu (map (unit_at units) delivered_numbers) units
      (numbered_subsequence units delivered_numbers delivered_include_intact.rising delivered_include_intact.within))

  -- those of SNDUs that arrived intact are a subsequence of them
  pub intact_are_delivered : (intact : List ℕ) → IsRising 0 intact → ((n : ℕ) → Contains intact n → (n < length units) × ArrivedIntact channel span pid units begin n)
      → IsSubsequence (flat_map (carried_by_number units) intact) (delivered_by_ule pid span)
  intact_are_delivered intact rising each =
      subst (IsSubsequence (flat_map (carried_by_number units) intact)) (sym delivered_are)
      (subsequence_flat (carried_by_number units) intact delivered_numbers (intact_subsequence channel span pid units begin delivered_numbers delivered_include_intact intact rising each))
