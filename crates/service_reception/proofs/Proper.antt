-- The units that reassembly gives are units: of their own length, and their checks hold.
use Rattle.std.proofs.Common.{◌≡◌, ℕ, ◌≤◌, Bool, true, false, cond, nat_le, List, [], ◌∷◌, ◌++◌, length, take, flat_map, refl, ap, sym, ◌∙◌, subst, arith, length-append, if◌then◌else◌}
use Rattle.std.proofs.lemmas.List.{length-take-le}
use Rattle.std.proofs.lemmas.Bool.{leb-true}
use Rattle.ts_spec.specs.Form.{UnitForm, IsLawful, Span, more, stuffing, whole, bad}
use Rattle.ts_spec.specs.Received.{Arrival, packet_of}
use Rattle.ts_spec.specs.Reassembly.{Given, all_given, Outcome, candidate, bad_length, delimit, no_outcome, incomplete, is_complete, outcome_by, outcome_of, bytes_from, unit_starts}
use Rattle.ts_spec.specs.Events.{Event, unit_event, bad_check_event, delimit_event, event_by, event_at, misfit_events, events_of}
use Rattle.service_reception.specs.Taking.{IsProper}

module _ (form : UnitForm) (lawful : IsLawful form) where
  abbrev pub AllProper : List Event → Type 0
  AllProper [] = Unit {0}
  AllProper (event ∷ events) = IsProper form event × AllProper events

  proper_append : (first second : List Event) → AllProper first → AllProper second → AllProper (first ++ second)
  proper_append [] second one two = two
  proper_append (event ∷ first) second one two = (one.0, proper_append first second one.1 two)

  -- a candidate has the length that its bytes tell
  candidate_sized : (given : Given) (span : Span) (unit : List ℕ) → form.span (all_given given) ≡ span → outcome_by span given ≡ candidate unit → form.span unit ≡ whole (length unit)
  candidate_sized given more unit told e = absurd (not_candidate given.is_ended e)
    where
      not_candidate : (b : Bool) → cond b delimit no_outcome ≡ candidate unit → ⊥
      not_candidate true e = cc
      not_candidate false e = cc
  candidate_sized given stuffing unit told e = absurd (not_candidate given.is_ended e)
    where
      not_candidate : (b : Bool) → cond b delimit no_outcome ≡ candidate unit → ⊥
      not_candidate true e = cc
      not_candidate false e = cc
  candidate_sized given bad unit told e = absurd (cc)
  candidate_sized given (whole n) unit told e = by_test (is_complete n given) refl e
    where
      not_candidate : (b : Bool) → cond b delimit no_outcome ≡ candidate unit → ⊥
      not_candidate true e = cc
      not_candidate false e = cc

      within : is_complete n given ≡ true → n ≤ length (all_given given)
      within c = first (nat_le n (length given.payloads)) refl
        where
          first : (b : Bool) → nat_le n (length given.payloads) ≡ b → n ≤ length (all_given given)
          first true h = omega (arith, leb-true n (length given.payloads) h, length-append given.payloads given.rest)
          first false h = grind (arith, c, h)

      by_test : (b : Bool) → is_complete n given ≡ b → cond b (candidate (take n (all_given given))) (incomplete given) ≡ candidate unit → form.span unit ≡ whole (length unit)
      by_test false c e = absurd (not_candidate given.is_ended e)
      by_test true c e =
          let unit_is : take n (all_given given) ≡ unit = cc in
          let size : length unit ≡ n = ap length (sym unit_is) ∙ length-take-le n (all_given given) (within c) in
          ap form.span (sym unit_is) ∙ lawful.of_unit (all_given given) n told ∙ ap whole (sym size)

  proper_outcome : (moment : ℕ) (told : Outcome) → ((unit : List ℕ) → told ≡ candidate unit → form.span unit ≡ whole (length unit)) → AllProper (event_by form moment told)
  proper_outcome moment bad_length sized = (tt, tt)
  proper_outcome moment delimit sized = (tt, tt)
  proper_outcome moment no_outcome sized = tt
  proper_outcome moment (candidate unit) sized = checked (form.check unit) refl
    where
      checked : (b : Bool) → form.check unit ≡ b → AllProper ((if b then unit_event moment unit else bad_check_event) ∷ [])
      checked false right = (tt, tt)
      checked true right = (record { size = sized unit refl; checked = right }, tt)

  proper_starts : (arrival : Arrival) (behind : List Arrival) (starts : List ℕ) → AllProper (flat_map (event_at form arrival behind) starts)
  proper_starts arrival behind [] = tt
  proper_starts arrival behind (start ∷ starts) =
      let given : Given = bytes_from start (packet_of arrival) behind in
      proper_append (event_at form arrival behind start) (flat_map (event_at form arrival behind) starts)
      (proper_outcome arrival.moment (outcome_of form given) (λ unit e. candidate_sized given (form.span (all_given given)) unit refl e))
      (proper_starts arrival behind starts)

  proper_misfit : (b : Bool) → AllProper (cond {A = List Event} b (delimit_event ∷ []) [])
  proper_misfit true = (tt, tt)
  proper_misfit false = tt

  proper_events : (packets : List Arrival) → AllProper (events_of form packets)
  proper_events [] = tt
  proper_events (arrival ∷ behind) =
      let started : List Event = flat_map (event_at form arrival behind) (unit_starts form (packet_of arrival)) in
      proper_append (misfit_events (packet_of arrival) ++ started) (events_of form behind)
      (proper_append (misfit_events (packet_of arrival)) started (proper_misfit _) (proper_starts arrival behind (unit_starts form (packet_of arrival))))
      (proper_events behind)

  behind_proper : (given events : List Event) → AllProper (given ++ events) → AllProper events
  behind_proper [] events all = all
  behind_proper (one ∷ given) events all = behind_proper given events all.1

  -- events after some of them
  pub events_proper : (packets : List Arrival) (given events : List Event) → events_of form packets ≡ given ++ events → AllProper events
  events_proper packets given events same = behind_proper given events (subst AllProper same (proper_events packets))
