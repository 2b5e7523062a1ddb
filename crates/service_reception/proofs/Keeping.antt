-- Sections of the INT's PID, one after another.
use Rattle.std.proofs.Common.{◌≡◌, ℕ, ◌^◌, ◌<◌, ◌≤◌, true, List, [], ◌∷◌, ◌++◌, length, refl, ap, sym, ◌∙◌, subst, arith, append_assoc, length-append, Option, Some}
use Rattle.std.proofs.lemmas.List.{append-nil}
use Rattle.wire_spec.specs.Causes.{raised}
use Rattle.ts_spec.specs.Form.{IsUnit}
use Rattle.ts_spec.specs.Recording.{Record}
use Rattle.ts_spec.specs.Received.{is_of, received_packets}
use Rattle.ts_spec.specs.Events.{Event, unit_event, bad_check_event, delimit_event, bad_length_event, events_of}
use Rattle.section_spec.specs.Section.{section_form}
use Rattle.section_codec.specs.Spans.{section_lawful}
use Rattle.plan_spec.specs.Plan.{IntFields, PlanFields}
use Rattle.ts_packet.specs.declared.continuity.Link.{Link}
use Rattle.ts_packet.specs.Links.{link_of}
use Rattle.unit_stream.specs.Joining.{JoinerState, packets_with}
use Rattle.unit_stream.specs.Telling.{HasHeard, HasTold}
use Rattle.service_reception.specs.Counting.{units_in}
use Rattle.service_reception.specs.Reception.{packet_record}
use Rattle.service_reception.specs.Table.{KeptSections, kept_of, put_in_force, version_with, shown_with, KeepsSection, KeepsEvent, HasReceivedTable}
use Rattle.service_reception.specs.Taking.{IsProper}
use Rattle.service_reception.proofs.Counted.{units_in-append, few_units}
use Rattle.service_reception.proofs.Proper.{AllProper, events_proper}
use Rattle.service_reception.proofs.Few.{few_in_all}
use Rattle.service_reception.proofs.InForce.{version_next, shown_next}
use Rattle.service_reception.proofs.Records.{packet_at, last_with}
use Rattle.service_reception.proofs.Taken.{told_with}
use Rattle.service_reception.proofs.Units.{units_accepted}

abbrev kept_from : ℕ → ℕ → ℕ → ℕ → Option (List ℕ) → KeptSections
kept_from platform last units version shown = record { platform_id = platform; last_version = last; units = units; version = version; shown = shown }

same_kept : {p q l m u v n w : ℕ} {s t : Option (List ℕ)} → p ≡ q → l ≡ m → u ≡ v → n ≡ w → s ≡ t → kept_from p l u n s ≡ kept_from q m v w t
same_kept {p} {q} {l} {m} {u} {v} {n} {w} {s} {t} one two three four five =
    ap (λ (x : ℕ). kept_from x l u n s) one ∙ ap (λ (x : ℕ). kept_from q x u n s) two ∙ ap (λ (x : ℕ). kept_from q m x n s) three
    ∙ ap (λ (x : ℕ). kept_from q m v x s) four ∙ ap (kept_from q m v w) five

-- one section more is kept
section_kept : (plan : PlanFields) (int : IntFields) → plan.table ≡ Some int → (sections : List (List ℕ)) (section : List ℕ) (before after : KeptSections)
    → length (sections ++ section ∷ []) < 2 ^ 64 → length section ≤ 4096 → before ≡ kept_of plan int sections → KeepsSection section before after
    → after ≡ kept_of plan int (sections ++ section ∷ [])
section_kept plan int table_is sections section before after few short same keeps =
    same_kept
    (keeps.platform_is ∙ ap (λ (k : KeptSections). k.platform_id) same)
    (keeps.last_is ∙ ap (λ (k : KeptSections). k.last_version) same)
    (keeps.units_are ∙ ap (λ (k : KeptSections). raised k.units 1) same ∙ counted)
    (keeps.version_is short ∙ ap (λ (k : KeptSections). version_with k (put_in_force k section)) same ∙ version_next plan int table_is sections section)
    (keeps.shown_is short ∙ ap (λ (k : KeptSections). shown_with k section (put_in_force k section)) same ∙ shown_next plan int table_is sections section)
  where
    counted : raised (length sections) 1 ≡ length (sections ++ section ∷ [])
    counted = omega (arith, length-append sections (section ∷ []), few)

-- a section has 4,096 bytes at most
pub section_short : (section : List ℕ) → IsUnit section_form section → length section ≤ 4096
section_short section unit = section_lawful.whole_most section (length section) unit.size

-- the events are taken, and their sections are kept
pub kept_heard : (plan : PlanFields) (int : IntFields) → plan.table ≡ Some int → {L : Type 0} (Hears : L → Event → L → Type 0) (view : L → KeptSections) → ((old new : L) (event : Event) → Hears old event new → KeepsEvent event (view old) (view new))
    → (events given : List Event) (old new : L) → HasHeard Hears old events new → AllProper section_form section_lawful events → length (given ++ events) < 2 ^ 64
    → view old ≡ kept_of plan int (units_in given) → view new ≡ kept_of plan int (units_in (given ++ events))
kept_heard plan int table_is Hears view each [] given old new heard proper few kept = ap view heard ∙ kept ∙ ap (λ (t : List Event). kept_of plan int (units_in t)) (sym (append-nil given))
kept_heard plan int table_is Hears view each (event ∷ events) given old new (mid, (one, rest)) proper few kept =
    let same : (given ++ event ∷ []) ++ events ≡ given ++ event ∷ events = append_assoc given (event ∷ []) events in
    let fewer : length (given ++ event ∷ []) < 2 ^ 64 = omega (arith, few, ap (λ (t : List Event). length t) same, length-append (given ++ event ∷ []) events) in
    kept_heard plan int table_is Hears view each events (given ++ event ∷ []) mid new rest proper.1 (subst (λ (t : List Event). length t < 2 ^ 64) (sym same) few)
    (one_kept event given (view old) (view mid) (each old mid event one) proper.0 fewer kept)
    ∙ ap (λ (t : List Event). kept_of plan int (units_in t)) same
  where
    no_section : (event : Event) (given : List Event) (before after : KeptSections) → units_in (event ∷ []) ≡ [] → after ≡ before → before ≡ kept_of plan int (units_in given)
        → after ≡ kept_of plan int (units_in (given ++ event ∷ []))
    no_section event given before after none same kept =
        same ∙ kept ∙ ap (kept_of plan int) (sym (units_in-append given (event ∷ []) ∙ ap (λ (t : List (List ℕ)). units_in given ++ t) none ∙ append-nil (units_in given)))

    one_kept : (event : Event) (given : List Event) (before after : KeptSections) → KeepsEvent event before after → IsProper section_form event → length (given ++ event ∷ []) < 2 ^ 64
        → before ≡ kept_of plan int (units_in given) → after ≡ kept_of plan int (units_in (given ++ event ∷ []))
    one_kept (unit_event moment section) given before after keeps proper few kept =
        section_kept plan int table_is (units_in given) section before after
        (omega (arith, few_units (given ++ unit_event moment section ∷ []), ap (λ (t : List (List ℕ)). length t) (units_in-append given (unit_event moment section ∷ [])), few))
        (section_short section proper) kept keeps
        ∙ ap (kept_of plan int) (sym (units_in-append given (unit_event moment section ∷ [])))
    one_kept bad_check_event given before after keeps proper few kept = no_section bad_check_event given before after refl keeps kept
    one_kept delimit_event given before after keeps proper few kept = no_section delimit_event given before after refl keeps kept
    one_kept bad_length_event given before after keeps proper few kept = no_section bad_length_event given before after refl keeps kept

-- the packet is taken, and its sections are kept
pub table_heard : {L : Type 0} (Hears : L → Event → L → Type 0) (view : L → KeptSections) → ((old new : L) (event : Event) → Hears old event new → KeepsEvent event (view old) (view new))
    → (plan : PlanFields) (int : IntFields) (pid : ℕ) (records : List Record) (moment : ℕ) (bytes : List ℕ) (last now_last : Option (List ℕ)) (joiner now : JoinerState) (link : Link) (a b : L)
    → HasReceivedTable plan int pid (record { last = last; joiner = joiner; kept = view a }) records → is_of pid bytes ≡ true → link ≡ link_of last bytes → length records < 2 ^ 32 → now_last ≡ Some bytes
    → HasTold section_form now (packets_with link (received_packets pid records) (packet_at records moment bytes)) (events_of section_form (received_packets pid records)) Hears a b
    → HasReceivedTable plan int pid (record { last = now_last; joiner = now; kept = view b }) (records ++ packet_record moment bytes ∷ [])
table_heard Hears view each plan int pid records moment bytes last now_last joiner now link a b received of_pid linked few seen fed =
    let given : List Event = events_of section_form (received_packets pid records) in
    let all : List Event = events_of section_form (received_packets pid (records ++ packet_record moment bytes ∷ [])) in
    let told = told_with Hears section_form pid records moment bytes last link now a b received.last_is of_pid linked fed in
    let few_events : length (given ++ told.events) < 2 ^ 64 =
    subst (λ (t : List Event). length t < 2 ^ 64) told.events_are
    (few_in_all section_form pid (records ++ packet_record moment bytes ∷ []) (omega (arith, length-append records (packet_record moment bytes ∷ []), few))) in
    let kept : view b ≡ kept_of plan int (units_in (given ++ told.events)) =
    kept_heard plan int received.table_is Hears view each told.events given a b told.heard
    (events_proper section_form section_lawful (received_packets pid (records ++ packet_record moment bytes ∷ [])) given told.events told.events_are)
    few_events (received.kept_are ∙ ap (kept_of plan int) (sym (units_accepted section_form pid records))) in
    record {
      table_is = received.table_is;
      last_is = seen ∙ last_with pid records moment bytes last received.last_is of_pid;
      stands = told.stands;
      kept_are = kept ∙ ap (λ (t : List Event). kept_of plan int (units_in t)) (sym told.events_are) ∙ ap (kept_of plan int) (units_accepted section_form pid (records ++ packet_record moment bytes ∷ []));
    }

-- an event leaves the last version of the plan
pub last_stays : (old new : KeptSections) (event : Event) → KeepsEvent event old new → new.last_version ≡ old.last_version
last_stays old new (unit_event moment section) keeps = keeps.last_is
last_stays old new bad_check_event keeps = ap (λ (k : KeptSections). k.last_version) keeps
last_stays old new delimit_event keeps = ap (λ (k : KeptSections). k.last_version) keeps
last_stays old new bad_length_event keeps = ap (λ (k : KeptSections). k.last_version) keeps
