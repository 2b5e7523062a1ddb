-- One packet of a PID with frames, and its end: what was received before, and what is received with it.
use Rattle.std.proofs.Common.{◌≡◌, ℕ, ◌^◌, ◌<◌, ◌≤◌, true, false, List, [], ◌∷◌, ◌++◌, length, drop, refl, ap, sym, ◌∙◌, subst, arith, length-append, Option, None, Some, Result, Ok, Err, OnOk, OnErr}
use Rattle.std.specs.List.{count_by}
use Rattle.std.proofs.lemmas.List.{drop_at}
use Rattle.ts_spec.specs.Recording.{Record}
use Rattle.ts_spec.specs.Received.{is_of, received_packets}
use Rattle.ts_spec.specs.Events.{Event, events_of}
use Rattle.section_spec.specs.Section.{section_form}
use Rattle.section_codec.specs.Spans.{section_lawful}
use Rattle.reassembly_law.specs.Records.{last_bytes}
use Rattle.slice_spec.specs.Sections.{Timing}
use Rattle.fec_frame_spec.specs.Sections.{TimedSection, sections_of, frame_sections}
use Rattle.fec_frame_spec.specs.Groups.{received_frames}
use Rattle.fec_frame_spec.specs.Delivered.{datagrams_of_frames}
use Rattle.fec_frame_law.proofs.ClosedFrames.{closed_ended}
use Rattle.reception_spec.specs.Numbers.{PidNumbers, no_numbers, pid_numbers}
use Rattle.ts_packet.specs.declared.continuity.Link.{Link}
use Rattle.ts_packet.specs.Links.{link_of}
use Rattle.unit_stream.specs.Joining.{JoinerState, Stands, packets_with}
use Rattle.unit_stream.specs.Telling.{HasTold}
use Rattle.fec_frame.specs.Stands.{Stands as TableStands}
use Rattle.service_reception.specs.Counting.{counted_link, units_in, with_events}
use Rattle.service_reception.specs.Reception.{packet_record}
use Rattle.outlet_spec.specs.Pairs.{pairs_of, Delivers, DeliversFront}
use Rattle.service_reception.proofs.Records.{packet_at, last_with}
use Rattle.service_reception.proofs.Links.{link_counted}
use Rattle.service_reception.proofs.Units.{units_accepted}
use Rattle.service_reception.proofs.Proper.{events_proper}
use Rattle.service_reception.proofs.Taken.{told_with}
use Rattle.reception_spec.specs.Frames.{frame_numbers}
use Rattle.fec_reception.specs.Frames.{closed_in, open_in, is_unread, unread_in, told_in}
use Rattle.fec_reception.specs.Steps.{frame_with, closed_with, open_with, sections_of_events}
use Rattle.outlet_spec.specs.Going.{DeliversAfter}
use Rattle.fec_reception.specs.Reception.{FramesState, FecReceptionState, HasTaken, HasEnded, added_by, added_by_end}
use Rattle.fec_reception.specs.Hearing.{HasFrames, HasHeardFrames, Hearing, HearsFrames, going_of, told_after}
use Rattle.fec_reception.proofs.Groups.{AreParts, parted_in_steps, closed_with-append, few_closed, few_open}
use Rattle.fec_reception.proofs.Numbers.{told-append}
use Rattle.fec_reception.proofs.Few.{few_in_all}
use Rattle.fec_reception.proofs.Heard.{sections-append, sections_of_pid, few_sections, all_heard, HaveHeard}

-- What events of a PID tell, and what its records do.
module _ (timing : Timing) (rows pid : ℕ) (records : List Record) where
  abbrev pub came : List Event
  came = events_of section_form (received_packets pid records)

  parts : AreParts (received_frames timing rows (frame_sections rows pid records)) (closed_with timing rows [] (frame_sections rows pid records)) (open_with timing rows [] (frame_sections rows pid records))
  parts = parted_in_steps timing rows (frame_sections rows pid records)

  pub closed_is : closed_with timing rows [] (sections_of_events rows came) ≡ closed_in false timing rows pid records
  closed_is = ap (closed_with timing rows []) (sections_of_pid rows pid records) ∙ sym parts.closed_are

  pub open_is : open_with timing rows [] (sections_of_events rows came) ≡ open_in timing rows pid records
  open_is = ap (open_with timing rows []) (sections_of_pid rows pid records) ∙ sym parts.open_is

  -- all frames are the closed ones and the open one
  pub all_is : closed_in false timing rows pid records ++ frame_with (open_in timing rows pid records) ≡ closed_in true timing rows pid records
  all_is =
      ap (λ (l : List (List TimedSection)). l ++ frame_with (open_in timing rows pid records)) parts.closed_are
      ∙ ap (λ (g : List TimedSection). closed_with timing rows [] (frame_sections rows pid records) ++ frame_with g) parts.open_is
      ∙ sym parts.all
      ∙ sym (closed_ended (received_frames timing rows (frame_sections rows pid records)))

  pub unread_is_of : unread_in rows pid records ≡ count_by (is_unread rows) (units_in came)
  unread_is_of = ap (count_by (is_unread rows)) (sym (units_accepted section_form pid records))

  -- few frames
  pub few_frames : length records ≤ 2 ^ 32 → length (closed_in false timing rows pid records) < 2 ^ 41
  few_frames few =
      omega (
        arith,
        ap (λ (l : List (List TimedSection)). length l) closed_is,
        few_closed timing rows [] (sections_of_events rows came),
        few_sections rows came,
        few_in_all section_form pid records few,
      )

  -- what was received, as events taken
  pub frames_of : (state : FecReceptionState) → HasTaken timing rows pid state records
      → HasFrames timing rows (closed_in false timing rows pid records) (open_in timing rows pid records) state.frames
  frames_of state taken = record {
    over = taken.over;
    stands = taken.table_stands;
    seen_is = taken.seen_is;
    numbers_are = λ few. taken.of_frames_are;
  }

  pub heard_of : (links : PidNumbers) (state : FecReceptionState) (now : FramesState) → HasTaken timing rows pid state records
      → now ≡ record state.frames { on_pid = now.on_pid } → now.on_pid ≡ with_events links came → HasHeardFrames timing rows links came now
  heard_of links state now taken same packets = record {
    frames =
        subst (λ (l : List (List TimedSection)). HasFrames timing rows l (open_with timing rows [] (sections_of_events rows came)) now) (sym closed_is)
        (subst (λ (g : List TimedSection). HasFrames timing rows (closed_in false timing rows pid records) g now) (sym open_is) (record {
          over = record {
            timing_is = ap (λ (s : FramesState). s.seen.timing) same ∙ taken.over.timing_is;
            rows_are = ap (λ (s : FramesState). s.table.rows) same ∙ taken.over.rows_are;
            rows_right = taken.over.rows_right;
          };
          stands = subst (λ (s : FramesState). TableStands s.table (sections_of (open_in timing rows pid records))) (sym same) taken.table_stands;
          seen_is = ap (λ (s : FramesState). s.seen.last) same ∙ taken.seen_is;
          numbers_are = λ few. ap (λ (s : FramesState). s.of_frames) same ∙ taken.of_frames_are;
        }));
    on_pid_are = λ few. packets;
    unread_is = λ few. ap (λ (s : FramesState). s.unread) same ∙ taken.unread_is ∙ unread_is_of;
  }

  -- and back
  pub taken_of : (last : Option (List ℕ)) (joiner : JoinerState) (now : FramesState) (links : PidNumbers) → length records ≤ 2 ^ 32
      → last ≡ last_bytes None (received_packets pid records) → Stands section_form joiner (received_packets pid records)
      → with_events links came ≡ pid_numbers section_form pid records → HasHeardFrames timing rows links came now
      → HasTaken timing rows pid (record { last = last; joiner = joiner; frames = now }) records
  taken_of last joiner now links few last_is stands links_are heard =
      let frames : HasFrames timing rows (closed_in false timing rows pid records) (open_in timing rows pid records) now =
      subst (λ (l : List (List TimedSection)). HasFrames timing rows l (open_in timing rows pid records) now) closed_is
      (subst (λ (g : List TimedSection). HasFrames timing rows (closed_with timing rows [] (sections_of_events rows came)) g now) open_is heard.frames) in
      record {
        over = frames.over;
        last_is = last_is;
        stands = stands;
        on_pid_are = heard.on_pid_are (omega (arith, few_in_all section_form pid records few)) ∙ links_are;
        unread_is = heard.unread_is (omega (arith, few_in_all section_form pid records few)) ∙ sym unread_is_of;
        of_frames_are = frames.numbers_are (omega (arith, few_frames few));
        table_stands = frames.stands;
        seen_is = frames.seen_is;
      }

  -- the end
  pub ended_of : (state new : FecReceptionState) → length records ≤ 2 ^ 32 → HasTaken timing rows pid state records
      → new.frames.on_pid ≡ state.frames.on_pid → new.frames.unread ≡ state.frames.unread
      → HasFrames timing rows (closed_in false timing rows pid records ++ frame_with (open_in timing rows pid records)) [] new.frames
      → HasEnded timing rows pid new records
  ended_of state new few taken packets unread frames = record {
    over = frames.over;
    on_pid_are = packets ∙ taken.on_pid_are;
    unread_is = unread ∙ taken.unread_is;
    of_frames_are =
        frames.numbers_are (omega (
          arith,
          few_frames few,
          few_open timing rows (open_in timing rows pid records),
          length-append (closed_in false timing rows pid records) (frame_with (open_in timing rows pid records)),
        ))
        ∙ ap (frame_numbers rows) all_is;
  }

  pub told_by_end : datagrams_of_frames rows (frame_with (open_in timing rows pid records)) ≡ added_by_end timing rows pid records
  told_by_end =
      let before : List (List ℕ) = told_in false timing rows pid records in
      let rest : List (List ℕ) = datagrams_of_frames rows (frame_with (open_in timing rows pid records)) in
      sym (ap (drop (length before)) (sym (ap (datagrams_of_frames rows) all_is) ∙ told-append rows (closed_in false timing rows pid records) (frame_with (open_in timing rows pid records)))
      ∙ drop_at before rest (length before) refl)

-- what the events of a record tell
pub told_more : (timing : Timing) (rows pid : ℕ) (records : List Record) (r : Record) (events : List Event)
    → events_of section_form (received_packets pid (records ++ r ∷ [])) ≡ events_of section_form (received_packets pid records) ++ events
    → told_in false timing rows pid (records ++ r ∷ []) ≡ told_in false timing rows pid records ++ told_after timing rows (events_of section_form (received_packets pid records)) events
told_more timing rows pid records r events told =
    let given : List Event = events_of section_form (received_packets pid records) in
    let xs : List TimedSection = sections_of_events rows given in
    let ys : List TimedSection = sections_of_events rows events in
    ap (datagrams_of_frames rows) (sym (closed_is timing rows pid (records ++ r ∷ [])))
    ∙ ap (λ (l : List Event). datagrams_of_frames rows (closed_with timing rows [] (sections_of_events rows l))) told
    ∙ ap (λ (l : List TimedSection). datagrams_of_frames rows (closed_with timing rows [] l)) (sections-append rows given events)
    ∙ ap (datagrams_of_frames rows) (closed_with-append timing rows [] xs ys)
    ∙ told-append rows (closed_with timing rows [] xs) (closed_with timing rows (open_with timing rows [] xs) ys)
    ∙ ap (λ (l : List (List TimedSection)). datagrams_of_frames rows l ++ told_after timing rows given events) (closed_is timing rows pid records)

pub told_by_record : (timing : Timing) (rows pid : ℕ) (records : List Record) (r : Record) (events : List Event)
    → events_of section_form (received_packets pid (records ++ r ∷ [])) ≡ events_of section_form (received_packets pid records) ++ events
    → told_after timing rows (events_of section_form (received_packets pid records)) events ≡ added_by timing rows pid records r
told_by_record timing rows pid records r events told =
    let before : List (List ℕ) = told_in false timing rows pid records in
    let added : List (List ℕ) = told_after timing rows (events_of section_form (received_packets pid records)) events in
    sym (ap (drop (length before)) (told_more timing rows pid records r events told) ∙ drop_at before added (length before) refl)

-- a delivery that began with nothing refused
pub told_if_ok : {T A E : Type 0} (StandsFor : T → List (ℕ × List ℕ) → Type 0) (Refused : T → ℕ → List ℕ → Type 0) (service : ℕ) (xs ys : List (List ℕ)) (a b : T) (x : A) (now : Result A E)
    → xs ≡ ys → DeliversAfter StandsFor Refused service xs (record { outlet = a; went = Ok x }) (record { outlet = b; went = now }) → OnOk now (Delivers (StandsFor a) (StandsFor b) (pairs_of service ys))
told_if_ok StandsFor Refused service xs ys a b x (Err e) same delivers = tt
told_if_ok StandsFor Refused service xs ys a b x (Ok y) same delivers = subst (λ (l : List (List ℕ)). Delivers (StandsFor a) (StandsFor b) (pairs_of service l)) same delivers.told

pub stopped_if_not : {T A E : Type 0} (StandsFor : T → List (ℕ × List ℕ) → Type 0) (Refused : T → ℕ → List ℕ → Type 0) (service : ℕ) (xs ys : List (List ℕ)) (a b : T) (x : A) (now : Result A E)
    → xs ≡ ys → DeliversAfter StandsFor Refused service xs (record { outlet = a; went = Ok x }) (record { outlet = b; went = now })
    → OnErr now (DeliversFront (StandsFor a) (StandsFor b) (Refused b) (pairs_of service ys))
stopped_if_not StandsFor Refused service xs ys a b x (Ok y) same delivers = tt
stopped_if_not StandsFor Refused service xs ys a b x (Err e) same delivers =
    subst (λ (l : List (List ℕ)). DeliversFront (StandsFor a) (StandsFor b) (Refused b) (pairs_of service l)) same delivers.failed

-- What is known of a record once the listener took its events.
pub record IsTaken {T A E : Type 0} (StandsFor : T → List (ℕ × List ℕ) → Type 0) (Refused : T → ℕ → List ℕ → Type 0) (timing : Timing) (rows pid : ℕ) (state : FecReceptionState)
    (records : List Record) (r : Record) (number : ℕ) (before after : T) (went : Result A E) : Type 0 where
  pub received : HasTaken timing rows pid state (records ++ r ∷ [])
  pub told : OnOk went (Delivers (StandsFor before) (StandsFor after) (pairs_of number (added_by timing rows pid records r)))
  pub stopped : OnErr went (DeliversFront (StandsFor before) (StandsFor after) (Refused after) (pairs_of number (added_by timing rows pid records r)))

module _ {L T A E : Type 0} (StandsFor : T → List (ℕ × List ℕ) → Type 0) (Refused : T → ℕ → List ℕ → Type 0) (services faults : T → ℕ)
    (Hears : L → Event → L → Type 0) (view : L → Hearing T A E)
    (each : (old new : L) (event : Event) → Hears old event new → HearsFrames StandsFor Refused services faults event (view old) (view new)) where
  pub record_taken : (timing : Timing) (rows pid : ℕ) (records : List Record) (moment : ℕ) (bytes : List ℕ) (state : FecReceptionState) (now_last : Option (List ℕ)) (now : JoinerState) (link : Link) (a b : L) (x : A)
      → length records < 2 ^ 32 → HasTaken timing rows pid state records → is_of pid bytes ≡ true → link ≡ link_of state.last bytes → now_last ≡ Some bytes
      → (view a).frames ≡ record state.frames { on_pid = counted_link state.frames.on_pid link } → (view a).went ≡ Ok x
      → HasTold section_form now (packets_with link (received_packets pid records) (packet_at records moment bytes)) (events_of section_form (received_packets pid records)) Hears a b
      → IsTaken StandsFor Refused timing rows pid (record { last = now_last; joiner = now; frames = (view b).frames }) records (packet_record moment bytes)
      (view a).number (view a).outlet (view b).outlet (view b).went
  record_taken timing rows pid records moment bytes state now_last now link a b x few taken of_pid linked seen begun going fed =
      let r : Record = packet_record moment bytes in
      let given : List Event = events_of section_form (received_packets pid records) in
      let links : PidNumbers = pid_numbers section_form pid (records ++ r ∷ []) in
      let told = told_with Hears section_form pid records moment bytes state.last link now a b taken.last_is of_pid linked fed in
      let packets : (view a).frames.on_pid ≡ with_events links given =
      ap (λ (s : FramesState). s.on_pid) begun
      ∙ ap (λ (n : PidNumbers). counted_link n link) taken.on_pid_are
      ∙ link_counted section_form pid records moment bytes state.last link taken.last_is of_pid linked few in
      let same : (view a).frames ≡ record state.frames { on_pid = (view a).frames.on_pid } =
      begun ∙ ap (λ (n : PidNumbers). record state.frames { on_pid = n }) (sym (ap (λ (s : FramesState). s.on_pid) begun)) in
      let have : HaveHeard StandsFor Refused services faults Hears view each timing rows links given told.events a b =
      all_heard StandsFor Refused services faults Hears view each timing rows links given told.events a b
      (events_proper section_form section_lawful (received_packets pid (records ++ r ∷ [])) given told.events told.events_are)
      (heard_of timing rows pid records links state (view a).frames taken same packets) told.heard in
      let added : told_after timing rows given told.events ≡ added_by timing rows pid records r = told_by_record timing rows pid records r told.events told.events_are in
      let delivered : DeliversAfter StandsFor Refused (view a).number (told_after timing rows given told.events) (record { outlet = (view a).outlet; went = Ok x }) (going_of (view b)) =
      subst (λ (w : Result A E). DeliversAfter StandsFor Refused (view a).number (told_after timing rows given told.events) (record { outlet = (view a).outlet; went = w }) (going_of (view b))) going have.delivered in
      record {
        received = taken_of timing rows pid (records ++ r ∷ []) now_last now (view b).frames links (omega (arith, few, length-append records (r ∷ [])))
            (seen ∙ last_with pid records moment bytes state.last taken.last_is of_pid) told.stands refl
            (subst (λ (l : List Event). HasHeardFrames timing rows links l (view b).frames) (sym told.events_are) have.heard);
        told = told_if_ok StandsFor Refused (view a).number _ _ (view a).outlet (view b).outlet x (view b).went added delivered;
        stopped = stopped_if_not StandsFor Refused (view a).number _ _ (view a).outlet (view b).outlet x (view b).went added delivered;
      }

-- nothing was received
pub nothing_taken : (timing : Timing) (rows pid : ℕ) (last : Option (List ℕ)) (joiner : JoinerState) (frames : FramesState) → last ≡ None → Stands section_form joiner []
    → HasFrames timing rows [] [] frames → frames.on_pid ≡ no_numbers → frames.unread ≡ 0
    → HasTaken timing rows pid (record { last = last; joiner = joiner; frames = frames }) []
nothing_taken timing rows pid last joiner frames none stands has packets unread = record {
  over = has.over;
  last_is = none;
  stands = stands;
  on_pid_are = packets;
  unread_is = unread;
  of_frames_are = has.numbers_are (omega arith);
  table_stands = has.stands;
  seen_is = has.seen_is;
}
