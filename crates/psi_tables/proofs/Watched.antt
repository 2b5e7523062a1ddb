-- A watch, with one record more.
use Rattle.std.proofs.Common.{◌≡◌, ℕ, Bool, true, false, ◌&&◌, ◌==◌, List, [], ◌∷◌, ◌++◌, find, refl, ap, sym, ◌∙◌, subst, None, Some}
use Rattle.std.proofs.lemmas.Bool.{ne_eqb}
use Rattle.ts_spec.specs.Packet.{fields_of, is_packet}
use Rattle.ts_spec.specs.Recording.{Record}
use Rattle.ts_spec.specs.Received.{Arrival, is_of, received_packets}
use Rattle.ts_spec.specs.Events.{Event, events_of}
use Rattle.section_spec.specs.Section.{section_form}
use Rattle.section_codec.specs.Spans.{section_lawful}
use Rattle.reassembly_law.specs.Records.{last_bytes}
use Rattle.ts_packet.specs.declared.continuity.Link.{Link}
use Rattle.ts_packet.specs.Links.{link_of}
use Rattle.unit_stream.specs.Joining.{Stands, packets_with}
use Rattle.unit_stream.specs.Telling.{HasTold}
use Rattle.reception_spec.specs.Packets.{is_on}
use Rattle.service_reception.specs.Counting.{units_in}
use Rattle.service_reception.specs.Reception.{packet_record}
use Rattle.service_reception.proofs.Proper.{events_proper}
use Rattle.service_reception.proofs.Records.{packet_at, last_with, none_received}
use Rattle.service_reception.proofs.Taken.{told_with}
use Rattle.service_reception.proofs.Units.{units_accepted}
use Rattle.psi_spec.specs.Named.{sections_on}
use Rattle.psi_tables.specs.First.{FirstSection, wants, TakesEvent}
use Rattle.psi_tables.specs.Watching.{HasWatched}
use Rattle.psi_tables.specs.declared.watch.Watch.{Watch}
use Rattle.psi_tables.proofs.Sections.{same_sections}
use Rattle.psi_tables.proofs.FirstWanted.{HasFirst, all_taken}

-- a packet of the PID was taken
pub watch_taken : {L : Type 0} (Hears : L → Event → L → Type 0) (view : L → FirstSection) → ((old new : L) (event : Event) → Hears old event new → TakesEvent event (view old) (view new))
    → (old new : Watch) (a b : L) (records : List Record) (moment : ℕ) (bytes : List ℕ) (link : Link)
    → view a ≡ old.first → view b ≡ new.first → new.pid ≡ old.pid
    → HasWatched old records → is_of old.pid bytes ≡ true → link ≡ link_of old.continuity bytes → new.continuity ≡ Some bytes
    → HasTold section_form new.joiner (packets_with link (received_packets old.pid records) (packet_at records moment bytes)) (events_of section_form (received_packets old.pid records)) Hears a b
    → HasWatched new (records ++ packet_record moment bytes ∷ [])
watch_taken Hears view each old new a b records moment bytes link is_a is_b pid_is watched of_pid linked seen fed =
    let more : List Record = records ++ packet_record moment bytes ∷ [] in
    let given : List Event = events_of section_form (received_packets old.pid records) in
    let told = told_with Hears section_form old.pid records moment bytes old.continuity link new.joiner a b watched.last_is of_pid linked fed in
    let first : HasFirst old.first.wanted (view b) (units_in (given ++ told.events)) =
    all_taken old.first.wanted Hears view each told.events given a b told.heard
    (events_proper section_form section_lawful (received_packets old.pid more) given told.events told.events_are)
    (record {
      wanted_is = ap (λ (f : FirstSection). f.wanted) is_a;
      found_is = ap (λ (f : FirstSection). f.found) is_a ∙ watched.found_is ∙ ap (find (wants old.first.wanted)) (sym (units_accepted section_form old.pid records));
    }) in
    let sections : units_in (given ++ told.events) ≡ sections_on old.pid more =
    ap units_in (sym told.events_are) ∙ units_accepted section_form old.pid more in
    let wanted : new.first.wanted ≡ old.first.wanted = ap (λ (f : FirstSection). f.wanted) (sym is_b) ∙ first.wanted_is in
    record {
      last_is = seen ∙ last_with old.pid records moment bytes old.continuity watched.last_is of_pid ∙ ap (λ (p : ℕ). last_bytes None (received_packets p more)) (sym pid_is);
      stands = subst (λ (p : ℕ). Stands section_form new.joiner (received_packets p more)) (sym pid_is) told.stands;
      found_is = ap (λ (f : FirstSection). f.found) (sym is_b) ∙ first.found_is
          ∙ ap (find (wants old.first.wanted)) sections
          ∙ ap (λ w. find (wants w) (sections_on old.pid more)) (sym wanted)
          ∙ ap (λ (p : ℕ). find (wants new.first.wanted) (sections_on p more)) (sym pid_is);
    }

-- a record that is no packet of the PID changes nothing
pub watch_stays : (watch : Watch) (records : List Record) (r : Record) → is_on watch.pid r ≡ false → HasWatched watch records → HasWatched watch (records ++ r ∷ [])
watch_stays watch records r off watched = record {
  last_is = watched.last_is ∙ ap (last_bytes None) (sym (none_received watch.pid records r off));
  stands = subst (λ (t : List Arrival). Stands section_form watch.joiner t) (sym (none_received watch.pid records r off)) watched.stands;
  found_is = watched.found_is ∙ ap (find (wants watch.first.wanted)) (sym (same_sections watch.pid records r off));
}

-- a packet of another PID
pub other_pid : (pid other moment : ℕ) (bytes : List ℕ) → other ≡ (fields_of bytes).pid → (other ≡ pid → ⊥) → is_on pid (packet_record moment bytes) ≡ false
other_pid pid other moment bytes same apart =
    by_test (is_packet bytes) (ap (λ (n : ℕ). n == pid) (sym same) ∙ ne_eqb other pid apart)
  where
    by_test : (b : Bool) {c : Bool} → c ≡ false → (b && c) ≡ false
    by_test true e = e
    by_test false e = refl
