-- Events of packets with frames: what each adds to what was taken.
use Rattle.std.proofs.Common.{◌≡◌, ◌⊎◌, inl, inr, ℕ, zero, suc, ◌+◌, ◌^◌, ◌<◌, ◌≤◌, Bool, cond, List, [], ◌∷◌, ◌++◌, length, map, refl, ap, sym, ◌∙◌, subst, arith, append_assoc, append-nil, length-append, Result, Bor}
use Rattle.std.specs.List.{flat_map, count_by}
use Rattle.std.proofs.lemmas.List.Sums.{count_by-le-length, sum_by-append}
use Rattle.std.proofs.lemmas.Grind.{flat_map-append}
use Rattle.ts_spec.specs.Form.{IsUnit}
use Rattle.ts_spec.specs.Recording.{Record}
use Rattle.ts_spec.specs.Received.{received_packets}
use Rattle.ts_spec.specs.Reassembly.{PlacedUnit, accepted_units}
use Rattle.ts_spec.specs.Events.{Event, unit_event, bad_check_event, delimit_event, bad_length_event, events_of}
use Rattle.section_spec.specs.Section.{section_form}
use Rattle.reassembly_law.specs.UnderWay.{unit_of_event}
use Rattle.reassembly_law.proofs.Units.{of_events}
use Rattle.section_codec.specs.Spans.{section_lawful}
use Rattle.slice_spec.specs.Sections.{Timing}
use Rattle.fec_frame_spec.specs.Sections.{FrameSection, TimedSection, timed_section, frame_sections_in, timed_sections_in, sections_of_unit, frame_sections}
use Rattle.fec_frame_spec.specs.Delivered.{datagrams_of_frames}
use Rattle.reception_spec.specs.Numbers.{PidNumbers}
use Rattle.service_reception.specs.Counting.{counted_event, raised_by, units_in}
use Rattle.service_reception.proofs.Counted.{event_counted, units_in-append, few_units}
use Rattle.service_reception.proofs.Proper.{AllProper}
use Rattle.unit_stream.specs.Telling.{HasHeard}
use Rattle.unit_stream.specs.States.{event_in}
use Rattle.unit_stream.specs.declared.reading.JoinEvent.{JoinEvent}
use Rattle.unit_stream.specs.declared.reading.JoinEvent.TheVariants as how
use Rattle.fec_frame_law.proofs.Units.{one_section}
use Rattle.fec_reception.specs.Frames.{is_unread}
use Rattle.fec_reception.specs.Steps.{closed_with, open_with, sections_of_pair, sections_of_events}
use Rattle.outlet_spec.specs.Going.{DeliversAfter, GoesOn}
use Rattle.fec_reception.specs.Reception.{FramesState}
use Rattle.fec_reception.specs.Hearing.{HasFrames, HasHeardFrames, Hearing, HearsFrames, going_of, told_after}
use Rattle.fec_reception.proofs.Groups.{closed_with-append, open_with-append}
use Rattle.fec_reception.proofs.Numbers.{told-append}
use Rattle.fec_reception.proofs.Joined.{same_frames}
use Rattle.outlet_spec.proofs.Going.{goes_nowhere, goes_then, after_none, after_then, after_same}

pub sections-append : (rows : ℕ) (xs ys : List Event) → sections_of_events rows (xs ++ ys) ≡ sections_of_events rows xs ++ sections_of_events rows ys
sections-append rows xs ys =
    ap (flat_map (sections_of_pair rows)) (flat_map-append unit_of_event xs ys)
    ∙ flat_map-append (sections_of_pair rows) (flat_map unit_of_event xs) (flat_map unit_of_event ys)

-- the sections of the accepted units of a PID are those of its events
of_units : (rows : ℕ) (units : List PlacedUnit)
    → flat_map (sections_of_pair rows) (map (λ (a : PlacedUnit). (a.moment, a.unit)) units) ≡ flat_map (sections_of_unit rows) units
of_units rows [] = refl
of_units rows (a ∷ units) = ap (λ (l : List TimedSection). sections_of_unit rows a ++ l) (of_units rows units)

pub sections_of_pid : (rows pid : ℕ) (records : List Record) → sections_of_events rows (events_of section_form (received_packets pid records)) ≡ frame_sections rows pid records
sections_of_pid rows pid records =
    ap (flat_map (sections_of_pair rows)) (of_events section_form (received_packets pid records)) ∙ of_units rows (accepted_units section_form pid records)

-- a unit is one section at most
few_in_unit : (rows moment : ℕ) (unit : List ℕ) → length (timed_sections_in rows moment unit) ≤ 1
few_in_unit rows moment unit = by_one (frame_sections_in rows unit) (one_section rows unit)
  where
    by_one : (xs : List FrameSection) → (xs ≡ []) ⊎ ((s : FrameSection) × (xs ≡ s ∷ [])) → length (map (timed_section moment) xs) ≤ 1
    by_one xs (inl none) = omega (arith, ap (λ (l : List FrameSection). length (map (timed_section moment) l)) none)
    by_one xs (inr (s, one)) = omega (arith, ap (λ (l : List FrameSection). length (map (timed_section moment) l)) one)

few_in_pairs : (rows : ℕ) (pairs : List (ℕ × List ℕ)) → length (flat_map (sections_of_pair rows) pairs) ≤ length pairs
few_in_pairs rows [] = omega arith
few_in_pairs rows (pair ∷ pairs) =
    omega (arith, few_in_unit rows pair.0 pair.1, few_in_pairs rows pairs, length-append (sections_of_pair rows pair) (flat_map (sections_of_pair rows) pairs))

few_pairs : (events : List Event) → length (flat_map unit_of_event events) ≤ length events
few_pairs [] = omega arith
few_pairs (unit_event moment unit ∷ events) = omega (arith, few_pairs events)
few_pairs (bad_check_event ∷ events) = omega (arith, few_pairs events)
few_pairs (delimit_event ∷ events) = omega (arith, few_pairs events)
few_pairs (bad_length_event ∷ events) = omega (arith, few_pairs events)

pub few_sections : (rows : ℕ) (events : List Event) → length (sections_of_events rows events) ≤ length events
few_sections rows events = omega (arith, few_in_pairs rows (flat_map unit_of_event events), few_pairs events)

-- the unread units, with those of an event
raised_by_below : (n k : ℕ) → n + k < 2 ^ 64 → raised_by n k ≡ n + k
raised_by_below n zero few = omega arith
raised_by_below n (suc k) few = omega (arith, few)

count_more : (p : List ℕ → Bool) (xs ys : List (List ℕ)) → count_by p (xs ++ ys) ≡ count_by p xs + count_by p ys
count_more p xs ys = sum_by-append (λ y. cond (p y) 1 0) xs ys

unread_more : (rows : ℕ) (given : List Event) (event : Event) → length (given ++ event ∷ []) < 2 ^ 64
    → raised_by (count_by (is_unread rows) (units_in given)) (count_by (is_unread rows) (units_in (event ∷ []))) ≡ count_by (is_unread rows) (units_in (given ++ event ∷ []))
unread_more rows given event few =
    raised_by_below (count_by (is_unread rows) (units_in given)) (count_by (is_unread rows) (units_in (event ∷ [])))
    (omega (
      arith,
      count_by-le-length (is_unread rows) (units_in given),
      count_by-le-length (is_unread rows) (units_in (event ∷ [])),
      few_units given,
      few_units (event ∷ []),
      length-append given (event ∷ []),
      few,
    ))
    ∙ sym (ap (count_by (is_unread rows)) (units_in-append given (event ∷ [])) ∙ count_more (is_unread rows) (units_in given) (units_in (event ∷ [])))

-- an event is taken: its sections were placed, and it is counted
pub event_heard : (timing : Timing) (rows : ℕ) (links : PidNumbers) (given : List Event) (event : Event) (old new : FramesState)
    → HasHeardFrames timing rows links given old
    → new.on_pid ≡ counted_event old.on_pid event
    → new.unread ≡ raised_by old.unread (count_by (is_unread rows) (units_in (event ∷ [])))
    → HasFrames timing rows
    (closed_with timing rows [] (sections_of_events rows given) ++ closed_with timing rows (open_with timing rows [] (sections_of_events rows given)) (sections_of_events rows (event ∷ [])))
    (open_with timing rows (open_with timing rows [] (sections_of_events rows given)) (sections_of_events rows (event ∷ []))) new
    → HasHeardFrames timing rows links (given ++ event ∷ []) new
event_heard timing rows links given event old new heard on_pid unread frames = record {
  frames =
      let before : List TimedSection = sections_of_events rows given in
      let added : List TimedSection = sections_of_events rows (event ∷ []) in
      let all : sections_of_events rows (given ++ event ∷ []) ≡ before ++ added = sections-append rows given (event ∷ []) in
      subst (λ (l : List TimedSection). HasFrames timing rows (closed_with timing rows [] l) (open_with timing rows [] l) new) (sym all)
      (subst (λ (g : List TimedSection). HasFrames timing rows (closed_with timing rows [] (before ++ added)) g new) (sym (open_with-append timing rows [] before added))
      (subst (λ (l : List (List TimedSection)). HasFrames timing rows l (open_with timing rows (open_with timing rows [] before) added) new)
      (sym (closed_with-append timing rows [] before added)) frames));
  on_pid_are = λ few.
      on_pid
      ∙ ap (λ (n : PidNumbers). counted_event n event) (heard.on_pid_are (omega (arith, few, length-append given (event ∷ []))))
      ∙ event_counted links given event few;
  unread_is = λ few.
      unread
      ∙ ap (λ (n : ℕ). raised_by n (count_by (is_unread rows) (units_in (event ∷ [])))) (heard.unread_is (omega (arith, few, length-append given (event ∷ []))))
      ∙ unread_more rows given event few;
}

-- what events tell after others
pub told_after-cons : (timing : Timing) (rows : ℕ) (given : List Event) (event : Event) (events : List Event)
    → told_after timing rows given (event ∷ []) ++ told_after timing rows (given ++ event ∷ []) events ≡ told_after timing rows given (event ∷ events)
told_after-cons timing rows given event events =
    let before : List TimedSection = sections_of_events rows given in
    let one : List TimedSection = sections_of_events rows (event ∷ []) in
    let rest : List TimedSection = sections_of_events rows events in
    let group : List TimedSection = open_with timing rows [] before in
    ap (λ (g : List TimedSection). told_after timing rows given (event ∷ []) ++ datagrams_of_frames rows (closed_with timing rows g rest))
    (ap (open_with timing rows []) (sections-append rows given (event ∷ [])) ∙ open_with-append timing rows [] before one)
    ∙ sym (told-append rows (closed_with timing rows group one) (closed_with timing rows (open_with timing rows group one) rest))
    ∙ ap (datagrams_of_frames rows) (sym (closed_with-append timing rows group one rest))
    ∙ ap (λ (l : List TimedSection). datagrams_of_frames rows (closed_with timing rows group l)) (sym (sections-append rows (event ∷ []) events))

-- the frames before an event is counted, and after
mid_frames : (timing : Timing) (rows : ℕ) (closed : List (List TimedSection)) (group : List TimedSection) (old mid : FramesState) (packets : PidNumbers)
    → mid ≡ record old { on_pid = packets } → HasFrames timing rows closed group old → HasFrames timing rows closed group mid
mid_frames timing rows closed group old mid packets same has =
    same_frames timing rows closed group old mid (ap (λ (s : FramesState). s.table) same) (ap (λ (s : FramesState). s.seen) same) (ap (λ (s : FramesState). s.of_frames) same) has

pub no_pair_in : (event : JoinEvent) → ((moment : ℕ) (bytes : Bor (List ℕ)) → event ≡ how.Unit moment bytes → ⊥) → flat_map unit_of_event (event_in event ∷ []) ≡ []
no_pair_in (how.Unit moment bytes) other = absurd (other moment bytes refl)
no_pair_in how.BadCheck other = refl
no_pair_in how.Delimit other = refl
no_pair_in how.BadLength other = refl

module _ {T A E : Type 0} (StandsFor : T → List (ℕ × List ℕ) → Type 0) (Refused : T → ℕ → List ℕ → Type 0) (services faults : T → ℕ) (number : ℕ) where
  -- an event of no unit is counted alone
  pub hears_other : (event : Event) (old new : FramesState) (outlet : T) (went : Result A E) → flat_map unit_of_event (event ∷ []) ≡ []
      → new ≡ record old { on_pid = counted_event old.on_pid event }
      → HearsFrames StandsFor Refused services faults event (record { frames = old; number = number; outlet = outlet; went = went })
      (record { frames = new; number = number; outlet = outlet; went = went })
  hears_other event old new outlet went none same = record {
    number_is = refl;
    goes = goes_nowhere StandsFor Refused services faults number (record { outlet = outlet; went = went });
    heard = λ timing rows links given proper has.
        let before : List TimedSection = sections_of_events rows given in
        let closed : List (List TimedSection) = closed_with timing rows [] before in
        let group : List TimedSection = open_with timing rows [] before in
        let mid : HasFrames timing rows closed group new = mid_frames timing rows closed group old new (counted_event old.on_pid event) same has.frames in
        event_heard timing rows links given event old new has
        (ap (λ (s : FramesState). s.on_pid) same)
        (ap (λ (s : FramesState). s.unread) same
        ∙ ap (λ (l : List (ℕ × List ℕ)). raised_by old.unread (count_by (is_unread rows) (map (λ (pair : ℕ × List ℕ). pair.1) l))) (sym none))
        (subst (λ (l : List TimedSection). HasFrames timing rows (closed ++ closed_with timing rows group l) (open_with timing rows group l) new)
        (ap (flat_map (sections_of_pair rows)) (sym none))
        (subst (λ (l : List (List TimedSection)). HasFrames timing rows l group new) (sym (append-nil closed)) mid));
    delivered = λ timing rows links given proper has.
        subst
        (λ (l : List TimedSection). DeliversAfter StandsFor Refused number (datagrams_of_frames rows (closed_with timing rows (open_with timing rows [] (sections_of_events rows given)) l))
        (record { outlet = outlet; went = went }) (record { outlet = outlet; went = went }))
        (ap (flat_map (sections_of_pair rows)) (sym none))
        (after_none StandsFor Refused services faults number (record { outlet = outlet; went = went }));
  }

  -- a unit is taken too
  pub hears_unit : (moment : ℕ) (unit : List ℕ) (old mid new : FramesState) (a b : T) (was now : Result A E)
      → mid ≡ record old { on_pid = counted_event old.on_pid (unit_event moment unit) } → new.on_pid ≡ mid.on_pid
      → (IsUnit section_form unit → new.unread ≡ raised_by mid.unread (count_by (is_unread mid.table.rows) (unit ∷ [])))
      → GoesOn services faults (record { outlet = a; went = was }) (record { outlet = b; went = now })
      → ((timing : Timing) (rows : ℕ) (closed : List (List TimedSection)) (group : List TimedSection) → IsUnit section_form unit → HasFrames timing rows closed group mid
      → HasFrames timing rows (closed ++ closed_with timing rows group (timed_sections_in rows moment unit)) (open_with timing rows group (timed_sections_in rows moment unit)) new)
      → ((timing : Timing) (rows : ℕ) (closed : List (List TimedSection)) (group : List TimedSection) → IsUnit section_form unit → HasFrames timing rows closed group mid
      → DeliversAfter StandsFor Refused number (datagrams_of_frames rows (closed_with timing rows group (timed_sections_in rows moment unit))) (record { outlet = a; went = was }) (record { outlet = b; went = now }))
      → HearsFrames StandsFor Refused services faults (unit_event moment unit) (record { frames = old; number = number; outlet = a; went = was })
      (record { frames = new; number = number; outlet = b; went = now })
  hears_unit moment unit old mid new a b was now counted packets unread goes framed delivered = record {
    number_is = refl;
    goes = goes;
    heard = λ timing rows links given proper has.
        let before : List TimedSection = sections_of_events rows given in
        let closed : List (List TimedSection) = closed_with timing rows [] before in
        let group : List TimedSection = open_with timing rows [] before in
        let same : HasFrames timing rows closed group mid =
        mid_frames timing rows closed group old mid (counted_event old.on_pid (unit_event moment unit)) counted has.frames in
        event_heard timing rows links given (unit_event moment unit) old new has
        (packets ∙ ap (λ (s : FramesState). s.on_pid) counted)
        (unread proper
        ∙ ap (λ (s : FramesState). raised_by s.unread (count_by (is_unread s.table.rows) (unit ∷ []))) counted
        ∙ ap (λ (r : ℕ). raised_by old.unread (count_by (is_unread r) (unit ∷ []))) has.frames.over.rows_are)
        (subst (λ (l : List TimedSection). HasFrames timing rows (closed ++ closed_with timing rows group l) (open_with timing rows group l) new)
        (sym (append-nil (timed_sections_in rows moment unit))) (framed timing rows closed group proper same));
    delivered = λ timing rows links given proper has.
        let before : List TimedSection = sections_of_events rows given in
        let closed : List (List TimedSection) = closed_with timing rows [] before in
        let group : List TimedSection = open_with timing rows [] before in
        let same : HasFrames timing rows closed group mid =
        mid_frames timing rows closed group old mid (counted_event old.on_pid (unit_event moment unit)) counted has.frames in
        subst
        (λ (l : List TimedSection). DeliversAfter StandsFor Refused number (datagrams_of_frames rows (closed_with timing rows group l)) (record { outlet = a; went = was }) (record { outlet = b; went = now }))
        (sym (append-nil (timed_sections_in rows moment unit))) (delivered timing rows closed group proper same);
  }

-- A listener that takes each event so takes all of them so.
module _ {L T A E : Type 0} (StandsFor : T → List (ℕ × List ℕ) → Type 0) (Refused : T → ℕ → List ℕ → Type 0) (services faults : T → ℕ)
    (Hears : L → Event → L → Type 0) (view : L → Hearing T A E)
    (each : (old new : L) (event : Event) → Hears old event new → HearsFrames StandsFor Refused services faults event (view old) (view new)) where
  pub all_go : (events : List Event) (old new : L) → HasHeard Hears old events new → GoesOn services faults (going_of (view old)) (going_of (view new))
  all_go [] old new heard =
      subst (λ (l : L). GoesOn services faults (going_of (view old)) (going_of (view l))) (sym heard) (goes_nowhere StandsFor Refused services faults (view old).number (going_of (view old)))
  all_go (event ∷ events) old new (mid, (one, rest)) =
      goes_then StandsFor Refused services faults (view old).number (going_of (view old)) (going_of (view mid)) (going_of (view new)) (each old mid event one).goes (all_go events mid new rest)

  -- what is known once these events were taken after others
  pub record HaveHeard (timing : Timing) (rows : ℕ) (links : PidNumbers) (given events : List Event) (old new : L) : Type 0 where
    pub heard : HasHeardFrames timing rows links (given ++ events) (view new).frames
    pub delivered : DeliversAfter StandsFor Refused (view old).number (told_after timing rows given events) (going_of (view old)) (going_of (view new))

  pub all_heard : (timing : Timing) (rows : ℕ) (links : PidNumbers) (given events : List Event) (old new : L) → AllProper section_form section_lawful events
      → HasHeardFrames timing rows links given (view old).frames → HasHeard Hears old events new → HaveHeard timing rows links given events old new
  all_heard timing rows links given [] old new proper before heard =
      subst (λ (l : L). HaveHeard timing rows links given [] old l) (sym heard) (record {
        heard = subst (λ (l : List Event). HasHeardFrames timing rows links l (view old).frames) (sym (append-nil given)) before;
        delivered = after_none StandsFor Refused services faults (view old).number (going_of (view old));
      })
  all_heard timing rows links given (event ∷ events) old new proper before (mid, (one, rest)) =
      let hears = each old mid event one in
      let then : HaveHeard timing rows links (given ++ event ∷ []) events mid new =
      all_heard timing rows links (given ++ event ∷ []) events mid new proper.1 (hears.heard timing rows links given proper.0 before) rest in
      record {
        heard = subst (λ (l : List Event). HasHeardFrames timing rows links l (view new).frames) (append_assoc given (event ∷ []) events) then.heard;
        delivered = after_same StandsFor Refused services faults (view old).number
            (told_after timing rows given (event ∷ []) ++ told_after timing rows (given ++ event ∷ []) events) (told_after timing rows given (event ∷ events))
            (going_of (view old)) (going_of (view new)) (told_after-cons timing rows given event events)
            (after_then StandsFor Refused services faults (view old).number (told_after timing rows given (event ∷ [])) (told_after timing rows (given ++ event ∷ []) events)
            (going_of (view old)) (going_of (view mid)) (going_of (view new)) (hears.delivered timing rows links given proper.0 before)
            (subst (λ (n : ℕ). DeliversAfter StandsFor Refused n (told_after timing rows (given ++ event ∷ []) events) (going_of (view mid)) (going_of (view new))) hears.number_is then.delivered)
            (all_go events mid new rest));
      }
