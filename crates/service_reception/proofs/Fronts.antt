-- What some records deliver, with one record more.
use Rattle.std.proofs.Common.{◌≡◌, ℕ, List, [], ◌∷◌, ◌++◌, length, drop, map, flat_map, count_by, ◌-◌, false, refl, subst, ap, sym, ◌∙◌, append_assoc, arith, Option, None, Some}
use Rattle.std.proofs.lemmas.List.{append-nil, drop_all}
use Rattle.ts_spec.specs.Form.{UnitForm, IsLawful}
use Rattle.ts_spec.specs.Packet.{continues}
use Rattle.ts_spec.specs.Packetized.{no_packet}
use Rattle.ts_spec.specs.Recording.{Record}
use Rattle.ts_spec.specs.Received.{Arrival, packet_of, arrivals, received_after, received_packets}
use Rattle.ts_spec.specs.Events.{Event, events_of}
use Rattle.ts_spec.specs.Reassembly.{PlacedUnit, accepted_in}
use Rattle.section_spec.specs.Section.{section_form}
use Rattle.unit_stream.specs.Joining.{Stands}
use Rattle.reassembly_law.specs.UnderWay.{open_units, last_packet, new_events}
use Rattle.reassembly_law.specs.Records.{last_bytes}
use Rattle.reassembly_law.proofs.Steps.{events_more}
use Rattle.ule_unit.specs.Spans.{sndu_lawful}
use Rattle.section_codec.specs.Spans.{section_lawful}
use Rattle.plan_spec.specs.Plan.{KindFields, ule, mpe, fec, gse, ServiceFields, IntFields, PlanFields, pid_of}
use Rattle.stream_spec.specs.Services.{form_of_kind}
use Rattle.reception_spec.specs.Units.{delivered_by_unit}
use Rattle.reception_spec.specs.Numbers.{PidNumbers, pid_numbers, gaps_in, is_unit, is_bad_check, is_delimit, is_bad_length, unit_numbers, units_on, units_of}
use Rattle.reception_spec.specs.Delivered.{delivered_datagrams}
use Rattle.service_reception.specs.Taking.{delivered_of}
use Rattle.service_reception.specs.Reception.{ReceptionState, HasTaken, added_by}
use Rattle.reception_spec.specs.Packets.{is_on}
use Rattle.service_reception.specs.Table.{TableState, HasReceivedTable, kept_of}
use Rattle.service_reception.proofs.Records.{packet_in, received_more, none_arrived, none_received}
use Rattle.service_reception.proofs.Counted.{delivered_of-append}
use Rattle.service_reception.proofs.Units.{delivered_of_events, numbers_of_pid}
use Rattle.service_reception.proofs.Taken.{same_pid, added_of}

lawful_of : (kind : KindFields) → IsLawful (form_of_kind kind)
lawful_of (ule pid address packing) = sndu_lawful
lawful_of (mpe pid) = section_lawful
lawful_of (fec pid rows parity window) = section_lawful
lawful_of (gse isi address) = section_lawful

-- events stay, whatever packets follow
events_front : (form : UnitForm) → IsLawful form → (packets others : List Arrival) → (more : List Event) × (events_of form (packets ++ others) ≡ events_of form packets ++ more)
events_front form lawful packets [] = ([], ap (events_of form) (append-nil packets) ∙ sym (append-nil (events_of form packets)))
events_front form lawful packets (next ∷ others) =
    let one : List Event = new_events form (continues (last_packet no_packet packets) (packet_of next)) (open_units form packets) next in
    let rest : (more : List Event) × (events_of form ((packets ++ next ∷ []) ++ others) ≡ events_of form (packets ++ next ∷ []) ++ more) = events_front form lawful (packets ++ next ∷ []) others in (
      one ++ rest.0,
      ap (events_of form) (sym (append_assoc packets (next ∷ []) others)) ∙ rest.1
          ∙ ap (λ (t : List Event). t ++ rest.0) (events_more form lawful no_packet packets next)
          ∙ append_assoc (events_of form packets) one rest.0,
    )

-- on a PID
added_on : (it : ServiceFields) (pid : ℕ) (records : List Record) (r : Record) → pid_of it.kind ≡ Some pid
    → delivered_datagrams it (records ++ r ∷ []) ≡ delivered_datagrams it records ++ added_by it records r
added_on it pid records r pid_is =
    let form : UnitForm = form_of_kind it.kind in
    let packets : List Arrival = received_packets pid records in
    let others : List Arrival = received_after (last_bytes None packets) (packet_in pid records r) in
    let front : (more : List Event) × (events_of form (packets ++ others) ≡ events_of form packets ++ more) = events_front form (lawful_of it.kind) packets others in
    let told : events_of form (received_packets pid (records ++ r ∷ [])) ≡ events_of form packets ++ front.0 =
    ap (events_of form) (received_more pid records r (last_bytes None packets) refl) ∙ front.1 in
    delivered_of_events form pid it (records ++ r ∷ []) refl pid_is
    ∙ ap (delivered_of it) told
    ∙ delivered_of-append it (events_of form packets) front.0
    ∙ ap (λ (t : List (List ℕ)). t ++ delivered_of it front.0) (sym (delivered_of_events form pid it records refl pid_is))
    ∙ ap (λ (t : List (List ℕ)). delivered_datagrams it records ++ t) (sym (added_of form pid it records r front.0 refl pid_is told))

-- without a PID there are no units
none_delivered : (it : ServiceFields) (records : List Record) → pid_of it.kind ≡ None → delivered_datagrams it records ≡ []
none_delivered it records pid_is = ap (λ (p : Option ℕ). flat_map (delivered_by_unit it) (units_on (form_of_kind it.kind) p records)) pid_is

pub delivered_stays : (it : ServiceFields) (records : List Record) (r : Record)
    → delivered_datagrams it (records ++ r ∷ []) ≡ delivered_datagrams it records ++ added_by it records r
delivered_stays it records r = by_pid (pid_of it.kind) refl
  where
    by_pid : (o : Option ℕ) → pid_of it.kind ≡ o → delivered_datagrams it (records ++ r ∷ []) ≡ delivered_datagrams it records ++ added_by it records r
    by_pid (Some pid) pid_is = added_on it pid records r pid_is
    by_pid None pid_is =
        let before : delivered_datagrams it records ≡ [] = none_delivered it records pid_is in
        ap (λ (t : List (List ℕ)). drop (length t) (delivered_datagrams it (records ++ r ∷ []))) (sym before)
        ∙ ap (λ (t : List (List ℕ)). t ++ added_by it records r) (sym before)

-- A record that is no packet of the PID.

abbrev numbers_by : UnitForm → List Arrival → List Arrival → PidNumbers
numbers_by form came packets = record {
  heard = length packets;
  repeats = length came - length packets;
  gaps = gaps_in packets;
  units = count_by is_unit (events_of form packets);
  bad_check = count_by is_bad_check (events_of form packets);
  delimited = count_by is_delimit (events_of form packets);
  bad_length = count_by is_bad_length (events_of form packets);
}

pub same_numbers : (form : UnitForm) (pid : ℕ) (records : List Record) (r : Record) → is_on pid r ≡ false → pid_numbers form pid (records ++ r ∷ []) ≡ pid_numbers form pid records
same_numbers form pid records r off =
    ap (λ (t : List Arrival). numbers_by form (arrivals pid (records ++ r ∷ [])) t) (none_received pid records r off)
    ∙ ap (λ (t : List Arrival). numbers_by form t (received_packets pid records)) (none_arrived pid records r off)

pub same_units : (form : UnitForm) (pid : ℕ) (records : List Record) (r : Record) → is_on pid r ≡ false → units_on form (Some pid) (records ++ r ∷ []) ≡ units_on form (Some pid) records
same_units form pid records r off = ap (λ (t : List Arrival). map (λ (a : PlacedUnit). a.unit) (accepted_in form t)) (none_received pid records r off)

same_units_of : (it : ServiceFields) (pid : ℕ) (records : List Record) (r : Record) → pid_of it.kind ≡ Some pid → is_on pid r ≡ false → units_of it (records ++ r ∷ []) ≡ units_of it records
same_units_of it pid records r pid_is off =
    let form : UnitForm = form_of_kind it.kind in
    ap (λ (p : Option ℕ). units_on form p (records ++ r ∷ [])) pid_is
    ∙ same_units form pid records r off
    ∙ ap (λ (p : Option ℕ). units_on form p records) (sym pid_is)

pub nothing_added : (it : ServiceFields) (pid : ℕ) (records : List Record) (r : Record) → pid_of it.kind ≡ Some pid → is_on pid r ≡ false → added_by it records r ≡ []
nothing_added it pid records r pid_is off =
    ap (λ (t : List (List ℕ)). drop (length (delivered_datagrams it records)) (flat_map (delivered_by_unit it) t)) (same_units_of it pid records r pid_is off)
    ∙ drop_all (length (delivered_datagrams it records)) (delivered_datagrams it records) (omega arith)

-- what was received stays
pub received_stays : (it : ServiceFields) (pid : ℕ) (state : ReceptionState) (records : List Record) (r : Record) → pid_of it.kind ≡ Some pid → is_on pid r ≡ false
    → HasTaken it state records → HasTaken it state (records ++ r ∷ [])
received_stays it pid state records r pid_is off received =
    let form : UnitForm = form_of_kind it.kind in
    let same : received.pid ≡ pid = same_pid received.pid pid (pid_of it.kind) received.pid_is pid_is in
    let packets : received_packets received.pid records ≡ received_packets pid (records ++ r ∷ []) =
    ap (λ (p : ℕ). received_packets p records) same ∙ sym (none_received pid records r off) in
    record {
      pid = pid;
      pid_is = pid_is;
      last_is = received.last_is ∙ ap (last_bytes None) packets;
      stands = subst (λ (t : List Arrival). Stands form state.joiner t) packets received.stands;
      on_pid_are = received.on_pid_are
          ∙ numbers_of_pid form pid it records refl pid_is ∙ sym (same_numbers form pid records r off) ∙ sym (numbers_of_pid form pid it (records ++ r ∷ []) refl pid_is);
      of_units_are = received.of_units_are ∙ ap (unit_numbers it) (sym (same_units_of it pid records r pid_is off));
    }

pub table_stays : (plan : PlanFields) (int : IntFields) (pid : ℕ) (state : TableState) (records : List Record) (r : Record) → is_on pid r ≡ false
    → HasReceivedTable plan int pid state records → HasReceivedTable plan int pid state (records ++ r ∷ [])
table_stays plan int pid state records r off received = record {
  table_is = received.table_is;
  last_is = received.last_is ∙ ap (last_bytes None) (sym (none_received pid records r off));
  stands = subst (λ (t : List Arrival). Stands section_form state.joiner t) (sym (none_received pid records r off)) received.stands;
  kept_are = received.kept_are ∙ ap (kept_of plan int) (sym (same_units section_form pid records r off));
}
