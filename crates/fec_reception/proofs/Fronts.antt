-- What the frames of some records deliver, with one record more.
use Rattle.std.proofs.Common.{◌≡◌, ℕ, true, false, List, [], ◌∷◌, ◌++◌, length, drop, flat_map, refl, ap, sym, ◌∙◌, subst, append_assoc, append-nil, arith, None}
use Rattle.std.proofs.lemmas.List.{drop_all}
use Rattle.ts_spec.specs.Packet.{continues}
use Rattle.ts_spec.specs.Packetized.{no_packet}
use Rattle.ts_spec.specs.Recording.{Record}
use Rattle.ts_spec.specs.Received.{Arrival, packet_of, received_after, received_packets}
use Rattle.ts_spec.specs.Events.{Event, events_of}
use Rattle.ts_spec.specs.Reassembly.{accepted_in}
use Rattle.section_spec.specs.Section.{section_form}
use Rattle.section_codec.specs.Spans.{section_lawful}
use Rattle.unit_stream.specs.Joining.{Stands}
use Rattle.reassembly_law.specs.UnderWay.{open_units, last_packet, new_events}
use Rattle.reassembly_law.specs.Records.{last_bytes}
use Rattle.reassembly_law.proofs.Steps.{events_more}
use Rattle.slice_spec.specs.Sections.{Timing}
use Rattle.fec_frame_spec.specs.Sections.{TimedSection, sections_of, sections_of_unit, frame_sections}
use Rattle.fec_frame_spec.specs.Groups.{received_frames, closed_frames}
use Rattle.fec_frame_spec.specs.Delivered.{datagrams_of_frames}
use Rattle.fec_frame.specs.Stands.{Stands as TableStands}
use Rattle.reception_spec.specs.Packets.{is_on}
use Rattle.service_reception.proofs.Records.{packet_in, received_more, none_received}
use Rattle.service_reception.proofs.Fronts.{same_numbers, same_units}
use Rattle.std.specs.List.{count_by}
use Rattle.reception_spec.specs.Frames.{frame_numbers}
use Rattle.fec_reception.specs.Frames.{open_sections, last_time, is_unread, told_in}
use Rattle.fec_reception.specs.Steps.{frame_with}
use Rattle.fec_reception.specs.Reception.{FecReceptionState, HasTaken, added_by, added_by_end}
use Rattle.fec_reception.specs.Frames.{open_in, closed_in}
use Rattle.fec_reception.proofs.Numbers.{told-append}
use Rattle.fec_reception.proofs.Taken.{all_is, told_by_end, told_more, told_by_record}

-- events stay, whatever packets follow
events_front : (packets others : List Arrival) → (more : List Event) × (events_of section_form (packets ++ others) ≡ events_of section_form packets ++ more)
events_front packets [] = ([], ap (events_of section_form) (append-nil packets) ∙ sym (append-nil (events_of section_form packets)))
events_front packets (next ∷ others) =
    let one : List Event = new_events section_form (continues (last_packet no_packet packets) (packet_of next)) (open_units section_form packets) next in
    let rest : (more : List Event) × (events_of section_form ((packets ++ next ∷ []) ++ others) ≡ events_of section_form (packets ++ next ∷ []) ++ more) = events_front (packets ++ next ∷ []) others in (
      one ++ rest.0,
      ap (events_of section_form) (sym (append_assoc packets (next ∷ []) others)) ∙ rest.1
          ∙ ap (λ (t : List Event). t ++ rest.0) (events_more section_form section_lawful no_packet packets next)
          ∙ append_assoc (events_of section_form packets) one rest.0,
    )

pub told_stays : (timing : Timing) (rows pid : ℕ) (records : List Record) (r : Record)
    → told_in false timing rows pid (records ++ r ∷ []) ≡ told_in false timing rows pid records ++ added_by timing rows pid records r
told_stays timing rows pid records r =
    let packets : List Arrival = received_packets pid records in
    let others : List Arrival = received_after (last_bytes None packets) (packet_in pid records r) in
    let front : (more : List Event) × (events_of section_form (packets ++ others) ≡ events_of section_form packets ++ more) = events_front packets others in
    let told : events_of section_form (received_packets pid (records ++ r ∷ [])) ≡ events_of section_form packets ++ front.0 =
    ap (events_of section_form) (received_more pid records r (last_bytes None packets) refl) ∙ front.1 in
    told_more timing rows pid records r front.0 told
    ∙ ap (λ (l : List (List ℕ)). told_in false timing rows pid records ++ l) (told_by_record timing rows pid records r front.0 told)

pub told_at_end : (timing : Timing) (rows pid : ℕ) (records : List Record)
    → told_in true timing rows pid records ≡ told_in false timing rows pid records ++ added_by_end timing rows pid records
told_at_end timing rows pid records =
    sym (ap (datagrams_of_frames rows) (all_is timing rows pid records))
    ∙ told-append rows (closed_in false timing rows pid records) (frame_with (open_in timing rows pid records))
    ∙ ap (λ (l : List (List ℕ)). told_in false timing rows pid records ++ l) (told_by_end timing rows pid records)

-- A record that is no packet of the PID.
same_sections : (rows pid : ℕ) (records : List Record) (r : Record) → is_on pid r ≡ false → frame_sections rows pid (records ++ r ∷ []) ≡ frame_sections rows pid records
same_sections rows pid records r off = ap (λ (t : List Arrival). flat_map (sections_of_unit rows) (accepted_in section_form t)) (none_received pid records r off)

pub nothing_told : (timing : Timing) (rows pid : ℕ) (records : List Record) (r : Record) → is_on pid r ≡ false → added_by timing rows pid records r ≡ []
nothing_told timing rows pid records r off =
    let before : List (List ℕ) = told_in false timing rows pid records in
    ap (λ (l : List TimedSection). drop (length before) (datagrams_of_frames rows (closed_frames false (received_frames timing rows l)))) (same_sections rows pid records r off)
    ∙ drop_all (length before) before (omega arith)

pub frames_stay : (timing : Timing) (rows pid : ℕ) (state : FecReceptionState) (records : List Record) (r : Record) → is_on pid r ≡ false
    → HasTaken timing rows pid state records → HasTaken timing rows pid state (records ++ r ∷ [])
frames_stay timing rows pid state records r off taken =
    let packets : received_packets pid records ≡ received_packets pid (records ++ r ∷ []) = sym (none_received pid records r off) in
    let sections : frame_sections rows pid records ≡ frame_sections rows pid (records ++ r ∷ []) = sym (same_sections rows pid records r off) in
    record {
      over = taken.over;
      last_is = taken.last_is ∙ ap (last_bytes None) packets;
      stands = subst (λ (t : List Arrival). Stands section_form state.joiner t) packets taken.stands;
      on_pid_are = taken.on_pid_are ∙ sym (same_numbers section_form pid records r off);
      unread_is = taken.unread_is ∙ ap (count_by (is_unread rows)) (sym (same_units section_form pid records r off));
      of_frames_are = taken.of_frames_are ∙ ap (λ (l : List TimedSection). frame_numbers rows (closed_frames false (received_frames timing rows l))) sections;
      table_stands = subst (λ (l : List TimedSection). TableStands state.frames.table (sections_of (open_sections (received_frames timing rows l)))) sections taken.table_stands;
      seen_is = taken.seen_is ∙ ap (λ (l : List TimedSection). last_time (open_sections (received_frames timing rows l))) sections;
    }
