-- What one packet more adds ends in it: of a unit under way too few bytes came before, and a unit that starts in it has some.
use Rattle.std.proofs.Common.{◌≡◌, ◌⊎◌, inl, inr, ℕ, zero, suc, ◌+◌, ◌-◌, ◌<◌, ◌≤◌, Bool, true, false, cond, not, ◌&&◌, ◌||◌, eqb, List, [], ◌∷◌, ◌++◌, length, take, drop, flat_map, All, refl, ap, sym, subst, ◌∙◌, arith, length-append, append_assoc}
use Rattle.std.specs.Prelude.{nat_le}
use Rattle.std.proofs.lemmas.List.{append-nil, take-append-le, length-take-le}
use Rattle.std.proofs.Math.Seq.{take-append-add, take-length}
use Rattle.std.proofs.lemmas.List.{take-append-drop}
use Rattle.std.proofs.lemmas.List.Elements.{All-nil, All-cons}
use Rattle.std.proofs.lemmas.Bool.{cases_lt, or_cases, eqb-true}
use Rattle.ts_spec.specs.Form.{UnitForm, Span, more, stuffing, whole, bad, IsLawful}
use Rattle.ts_spec.specs.Packet.{PacketFields, continues, pointer, pointer_fits}
use Rattle.ts_spec.specs.Received.{Arrival, packet_of}
use Rattle.ts_spec.specs.Reassembly.{Given, all_given, with_payload, bytes_from, candidate, delimit, no_outcome, is_complete, incomplete, outcome_by, outcome_of, unit_starts}
use Rattle.ts_spec.specs.Events.{Event, unit_event, bad_check_event, delimit_event, bad_length_event, event_by, event_at, misfit_events, packet_events, events_of}
use Rattle.reassembly_law.specs.UnderWay.{is_told, Open, open_units, nothing_given, given_next, resumed, new_events, last_packet, unit_of_event, OnePacketMore, AreUnderWay}
use Rattle.ts_spec.specs.Packetized.{no_packet}
use Rattle.channel_law.proofs.Member.{Member, contains_member}
use Rattle.last_byte_law.specs.Ends.{EndsIn, AddsUnits}

-- bytes that stand in the payload
record IsSlice (payload bytes : List ℕ) : Type 0 where
  place : ℕ
  stands : take (length bytes) (drop place payload) ≡ bytes

take_whole : (xs : List ℕ) → take (length xs) xs ≡ xs
take_whole xs = take-length xs

-- a front of such bytes stands there too
front_slice : (payload bytes : List ℕ) (k : ℕ) → k ≤ length bytes → IsSlice payload bytes → IsSlice payload (take k bytes)
front_slice payload bytes k within slice = record {
  place = slice.place;
  stands =
      let size : length (take k bytes) ≡ k = length-take-le k bytes within in
      ap (λ (n : ℕ). take n (drop slice.place payload)) size
      ∙ sym (ap (take k) (sym slice.stands) ∙ fewer k (length bytes) (drop slice.place payload) within);
}
  where
    fewer : (k n : ℕ) (xs : List ℕ) → k ≤ n → take k (take n xs) ≡ take k xs
    fewer zero n xs le = refl
    fewer (suc k) zero xs le = absurd (omega (arith, le))
    fewer (suc k) (suc n) [] le = refl
    fewer (suc k) (suc n) (x ∷ xs) le = ap (λ (t : List ℕ). x ∷ t) (fewer k n xs (omega (arith, le)))

-- What each event says.

abbrev EventEnds : List ℕ → Event → Type 0
EventEnds payload (unit_event moment unit) = EndsIn payload unit
EventEnds payload bad_check_event = Unit {0}
EventEnds payload delimit_event = Unit {0}
EventEnds payload bad_length_event = Unit {0}

abbrev AllEnd : List ℕ → List Event → Type 0
AllEnd payload [] = Unit {0}
AllEnd payload (e ∷ events) = EventEnds payload e × AllEnd payload events

all-append : (payload : List ℕ) (xs ys : List Event) → AllEnd payload xs → AllEnd payload ys → AllEnd payload (xs ++ ys)
all-append payload [] ys first second = second
all-append payload (x ∷ xs) ys first second = (first.0, all-append payload xs ys first.1 second)

all-flat_map : {X : Type 0} (payload : List ℕ) (f : X → List Event) (xs : List X) → ((x : X) → Member xs x → AllEnd payload (f x)) → AllEnd payload (flat_map f xs)
all-flat_map payload f [] each = tt
all-flat_map payload f (x ∷ xs) each =
    all-append payload (f x) (flat_map f xs) (each x (inl refl)) (all-flat_map payload f xs (λ y m. each y (inr m)))

units_end : (payload : List ℕ) (events : List Event) → AllEnd payload events → All (λ (unit : ℕ × List ℕ). EndsIn payload unit.1) (flat_map unit_of_event events)
units_end payload [] all = All-nil (λ (unit : ℕ × List ℕ). EndsIn payload unit.1)
units_end payload (unit_event moment unit ∷ events) all =
    All-cons (λ (u : ℕ × List ℕ). EndsIn payload u.1) (moment, unit) (flat_map unit_of_event events) all.0 (units_end payload events all.1)
units_end payload (bad_check_event ∷ events) all = units_end payload events all.1
units_end payload (delimit_event ∷ events) all = units_end payload events all.1
units_end payload (bad_length_event ∷ events) all = units_end payload events all.1

module _ (form : UnitForm) (lawful : IsLawful form) where
  -- Bytes that leave the outcome opened are fewer than the unit has.

  past : (b p : List ℕ) → is_told (form.span b) (length b) ≡ false → (n : ℕ) → form.span (b ++ p) ≡ whole n → length b < n
  past b p untold n is = by_span (form.span b) refl untold
    where
      same_count : (m k : ℕ) → whole m ≡ whole k → m ≡ k
      same_count m k e = cc

      by_told : (s : Span) → form.span b ≡ s → (s ≡ more → ⊥) → s ≡ whole n
      by_told s e other = from (lawful.told b p)
        where
          from : (form.span b ≡ more) ⊎ (form.span (b ++ p) ≡ form.span b) → s ≡ whole n
          from (inl is_more) = absurd (other (sym e ∙ is_more))
          from (inr stays) = sym e ∙ sym stays ∙ is

      too_few : form.span b ≡ more → n ≤ length b → ⊥
      too_few e le = from (lawful.told (take n b) (drop n b))
        where
          told_front : form.span (take n b) ≡ whole n
          told_front = ap form.span (sym (take-append-le n b p le)) ∙ lawful.of_unit (b ++ p) n is

          from : (form.span (take n b) ≡ more) ⊎ (form.span (take n b ++ drop n b) ≡ form.span (take n b)) → ⊥
          from (inl is_more) = let never : more ≡ whole n = sym is_more ∙ told_front in cc
          from (inr stays) = let never : more ≡ whole n = sym e ∙ ap form.span (sym (take-append-drop n b)) ∙ stays ∙ told_front in cc

      by_span : (s : Span) → form.span b ≡ s → is_told s (length b) ≡ false → length b < n
      by_span more e opened = by_order (cases_lt (length b) n)
        where
          by_order : (length b < n) ⊎ (n ≤ length b) → length b < n
          by_order (inl less) = less
          by_order (inr le) = absurd (too_few e le)
      by_span stuffing e opened = absurd (let never : stuffing ≡ whole n = by_told stuffing e (λ f. cc) in cc)
      by_span (whole m) e opened =
          let same : m ≡ n = same_count m n (by_told (whole m) e (λ f. cc)) in
          grind (arith, opened, same)
      by_span bad e opened = absurd (cc)

  -- One unit: some bytes before, and then bytes that stand in the payload.

  unit_ends : (payload b x : List ℕ) (n : ℕ) → length b < n → n ≤ length (b ++ x) → IsSlice payload x → EndsIn payload (take n (b ++ x))
  unit_ends payload b x n less within slice =
      let count : length (b ++ x) ≡ length b + length x = length-append b x in
      let k : ℕ = n - length b in
      let last : IsSlice payload (take k x) = front_slice payload x k (omega (arith, within, count)) slice in
      record {
        before = b;
        last = take k x;
        unit_is =
            ap (λ (m : ℕ). take m (b ++ x)) (let e : n ≡ length b + k = omega (arith, less) in e)
            ∙ take-append-add b x k;
        some = let size : length (take k x) ≡ k = length-take-le k x (omega (arith, within, count)) in omega (arith, size, less);
        place = last.place;
        stands = last.stands;
      }

  complete_within : (n : ℕ) (given : Given) → is_complete n given ≡ true → n ≤ length (all_given given)
  complete_within n given is = by_part (or_cases (nat_le n (length given.payloads)) (eqb n (length (all_given given))) is)
    where
      by_part : (nat_le n (length given.payloads) ≡ true) ⊎ (eqb n (length (all_given given)) ≡ true) → n ≤ length (all_given given)
      by_part (inl le) = grind (arith, le, length-append given.payloads given.rest)
      by_part (inr eq) = omega (arith, eqb-true n (length (all_given given)) eq)

  -- the event of bytes that are given, where a whole unit among them ends in the payload
  event_ends : (payload : List ℕ) (moment : ℕ) (given : Given)
      → ((n : ℕ) → form.span (all_given given) ≡ whole n → n ≤ length (all_given given) → EndsIn payload (take n (all_given given)))
      → AllEnd payload (event_by form moment (outcome_of form given))
  event_ends payload moment given ends = by_span (form.span (all_given given)) refl
    where
      lost : AllEnd payload (event_by form moment (incomplete given))
      lost = by_end given.is_ended
        where
          by_end : (t : Bool) → AllEnd payload (event_by form moment (cond t delimit no_outcome))
          by_end true = (tt, tt)
          by_end false = tt

      checked : (t : Bool) (unit : List ℕ) → EndsIn payload unit → AllEnd payload (cond t (unit_event moment unit) bad_check_event ∷ [])
      checked true unit it = (it, tt)
      checked false unit it = (tt, tt)

      by_span : (s : Span) → form.span (all_given given) ≡ s → AllEnd payload (event_by form moment (outcome_by s given))
      by_span more e = lost
      by_span stuffing e = lost
      by_span bad e = (tt, tt)
      by_span (whole n) e = by_complete (is_complete n given) refl
        where
          by_complete : (t : Bool) → is_complete n given ≡ t → AllEnd payload (event_by form moment (cond t (candidate (take n (all_given given))) (incomplete given)))
          by_complete true is = checked (form.check (take n (all_given given))) (take n (all_given given)) (ends n e (complete_within n given is))
          by_complete false is = lost

  -- A unit under way.

  next_slice : (is_continuous : Bool) (packet : PacketFields) → IsSlice packet.payload ((given_next is_continuous packet).payloads ++ (given_next is_continuous packet).rest)
  next_slice false packet = record { place = 0; stands = refl }
  next_slice true packet = by_start packet.starts (pointer_fits packet)
    where
      nothing : IsSlice packet.payload []
      nothing = record { place = 0; stands = refl }

      by_start : (s f : Bool) → IsSlice packet.payload (
          (cond s (cond f (record { payloads = []; rest = take (pointer packet) (drop 1 packet.payload); is_ended = true }) (record { payloads = []; rest = []; is_ended = not s || f }))
          (with_payload packet.payload nothing_given)).payloads
          ++ (cond s (cond f (record { payloads = []; rest = take (pointer packet) (drop 1 packet.payload); is_ended = true }) (record { payloads = []; rest = []; is_ended = not s || f }))
          (with_payload packet.payload nothing_given)).rest)
      by_start true true = record { place = 1; stands = take_taken (pointer packet) (drop 1 packet.payload) }
        where
          take_taken : (k : ℕ) (xs : List ℕ) → take (length (take k xs)) xs ≡ take k xs
          take_taken zero xs = refl
          take_taken (suc k) [] = refl
          take_taken (suc k) (x ∷ xs) = ap (λ (t : List ℕ). x ∷ t) (take_taken k xs)
      by_start true false = nothing
      by_start false f = subst (IsSlice packet.payload) (sym (append-nil (packet.payload ++ []) ∙ append-nil packet.payload)) (record { place = 0; stands = take_whole packet.payload })

  resumed_ends : (is_continuous : Bool) (packet : PacketFields) (opened : Open) → is_told (form.span opened.bytes) (length opened.bytes) ≡ false
      → AllEnd packet.payload (resumed form is_continuous packet opened)
  resumed_ends is_continuous packet opened untold =
      let given : Given = given_next is_continuous packet in
      let x : List ℕ = given.payloads ++ given.rest in
      let all : all_given (with_payload opened.bytes given) ≡ opened.bytes ++ x = append_assoc opened.bytes given.payloads given.rest in
      event_ends packet.payload opened.moment (with_payload opened.bytes given) (λ n is within.
      subst (λ (t : List ℕ). EndsIn packet.payload (take n t)) (sym all)
      (unit_ends packet.payload opened.bytes x n (past opened.bytes x untold n (sym (ap form.span all) ∙ is))
      (subst (λ (t : List ℕ). n ≤ length t) all within) (next_slice is_continuous packet)))

  -- A unit that starts in the packet.

  start_ends : (next : Arrival) (s : ℕ) → AllEnd (packet_of next).payload (event_at form next [] s)
  start_ends next s =
      let payload : List ℕ = (packet_of next).payload in
      let given : Given = bytes_from s (packet_of next) [] in
      let all : all_given given ≡ drop s payload = append-nil (drop s payload ++ []) ∙ append-nil (drop s payload) in
      event_ends payload next.moment given (λ n is within.
      subst (λ (t : List ℕ). EndsIn payload (take n t)) (sym all)
      (unit_ends payload [] (drop s payload) n (let least = lawful.whole_least (all_given given) n is in omega (arith, least, lawful.start_least))
      (subst (λ (t : List ℕ). n ≤ length t) all within) (record { place = s; stands = take_whole (drop s payload) })))

  misfits_end : (packet : PacketFields) → AllEnd packet.payload (misfit_events packet)
  misfits_end packet = by_test (packet.starts && not (pointer_fits packet))
    where
      by_test : (t : Bool) → AllEnd packet.payload (cond t (delimit_event ∷ []) [])
      by_test true = (tt, tt)
      by_test false = tt

  -- All that one packet more adds.

  new_end : (packets : List Arrival) (next : Arrival) (is_continuous : Bool) → AreUnderWay form packets
      → AllEnd (packet_of next).payload (new_events form is_continuous (open_units form packets) next)
  new_end packets next is_continuous way =
      all-append (packet_of next).payload (flat_map (resumed form is_continuous (packet_of next)) (open_units form packets)) (packet_events form next [])
      (all-flat_map (packet_of next).payload (resumed form is_continuous (packet_of next)) (open_units form packets)
      (λ opened m. resumed_ends is_continuous (packet_of next) opened (way opened (contains_member (open_units form packets) opened m)).untold))
      (all-append (packet_of next).payload (misfit_events (packet_of next)) (flat_map (event_at form next []) (unit_starts form (packet_of next))) (misfits_end (packet_of next))
      (all-flat_map (packet_of next).payload (event_at form next []) (unit_starts form (packet_of next)) (λ s m. start_ends next s)))

flat-append : (xs ys : List Event) → flat_map unit_of_event (xs ++ ys) ≡ flat_map unit_of_event xs ++ flat_map unit_of_event ys
flat-append [] ys = refl
flat-append (x ∷ xs) ys =
    ap (λ (t : List (ℕ × List ℕ)). unit_of_event x ++ t) (flat-append xs ys)
    ∙ sym (append_assoc (unit_of_event x) (flat_map unit_of_event xs) (flat_map unit_of_event ys))

pub adds_units : (form : UnitForm) → IsLawful form → ((ps : List Arrival) (q : Arrival) → OnePacketMore form ps q) → ((ps : List Arrival) → AreUnderWay form ps)
    → (packets : List Arrival) (next : Arrival) → AddsUnits form packets next
adds_units form lawful step way packets next =
    let more_events : List Event = new_events form (continues (last_packet no_packet packets) (packet_of next)) (open_units form packets) next in
    record {
      units = flat_map unit_of_event more_events;
      added =
          sym (step (packets ++ next ∷ []) next).units
          ∙ ap (flat_map unit_of_event) (step packets next).events
          ∙ flat-append (events_of form packets) more_events
          ∙ ap (λ (t : List (ℕ × List ℕ)). t ++ flat_map unit_of_event more_events) (step packets next).units;
      ends = units_end (packet_of next).payload more_events (new_end form lawful packets next (continues (last_packet no_packet packets) (packet_of next)) (way packets));
    }
