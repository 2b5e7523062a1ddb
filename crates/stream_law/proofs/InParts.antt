-- All packets of a stream stand in the part of a version that has their PID, and each INT in that of its version.
use Rattle.std.proofs.Common.{◌≡◌, ◌⊎◌, inl, inr, ℕ, zero, suc, ◌+◌, ◌<◌, ◌≤◌, Bool, true, false, cond, leb, get_or, List, [], ◌∷◌, length, replicate, refl, sym, ap, subst, ◌∙◌, arith, Option, Some, None}
use Rattle.std.specs.Prelude.{◌↔◌, flat_map, sum_by, Contains}
use Rattle.std.specs.Option.{unwrap_or}
use Rattle.std.proofs.lemmas.Bool.{cases_lt}
use Rattle.std.proofs.lemmas.List.{length-map}
use Rattle.std.proofs.lemmas.List.Concat.{length-flat_map}
use Rattle.ts_spec.specs.Form.{IsLawful}
use Rattle.ts_spec.specs.Packet.{PacketFields, fields_of, is_packet, packet_bytes, null_packet}
use Rattle.ts_spec.specs.Packetized.{unit_at, Packetizes}
use Rattle.ts_spec.specs.Received.{no_arrival, Arrival, arrivals, arrival_at, packet_of}
use Rattle.ts_spec.specs.Recording.{Record, records_of}
use Rattle.ts_packet.specs.Fields.{written_fields}
use Rattle.section_spec.specs.Section.{section_form}
use Rattle.channel_spec.specs.Carried.{packets_sent, HoldsPart}
use Rattle.int_spec.specs.Table.{TableFields, table_bytes}
use Rattle.int_spec.specs.Reading.{IsInt}
use Rattle.int_spec.specs.Versions.{version_of_platform}
use Rattle.plan_spec.specs.Plan.{IntFields, PlanFields}
use Rattle.plan_spec.specs.Changes.{plan_in, pid_in, has_pid, versions}
use Rattle.plan_spec.specs.InForce.{if_version, version_by, version_in}
use Rattle.plan_spec.specs.Signalling.{table_of}
use Rattle.plan_spec.specs.Wholes.{is_whole_plan}
use Rattle.stream_spec.specs.Services.{IsPidOf}
use Rattle.stream_spec.specs.Parts.{service_packets, int_packets}
use Rattle.stream_spec.specs.Stream.{part_of, earlier, IsPartCount}
use Rattle.stream_spec.specs.Standing.{AreParts, IsInPart, IsInOwnPart, Signals, StandInParts}
use Rattle.stream_law.specs.Words.{records_before, HaveMoments, FitsWindow, packets_of_int, sections_of_int}
use Rattle.stream_law.proofs.Ranges.{sum_same, sum_next, sum_rises}
use Rattle.stream_law.proofs.Records.{CarryPackets, read_of, pieces_have}
use Rattle.stream_law.proofs.Parts.{pieces, packets, all_stamped, read_in_part, table_in_part, table_sent, has_its_pid}
use Rattle.stream_law.proofs.TableCycles.{versions_carry, IsOfVersion, held_in}
use Rattle.stream_law.proofs.Located.{length_carried, IsLocated, located, length-packets_in, out_before as out_on}

module _ (plan : PlanFields) (whole : is_whole_plan plan ≡ true) (datagrams : ℕ → ℕ → List (List ℕ)) (slots : ℕ → ℕ)
    (each : (version : ℕ) → version ≤ length plan.changes → IsPartCount plan datagrams slots version) (timed : HaveMoments plan slots) (fit : (k : ℕ) → FitsWindow plan datagrams k)
    (readable : (pid : ℕ) (starts : Bool) (counter : ℕ) (payload : List ℕ) → counter ≤ 15 → pid ≤ 8191 → length payload ≡ 184 → is_packet (packet_bytes pid starts counter payload) ≡ true)
    (fields : (pid : ℕ) (starts : Bool) (counter : ℕ) (payload : List ℕ) → counter ≤ 15 → pid ≤ 8191 → fields_of (packet_bytes pid starts counter payload) ≡ written_fields pid starts counter payload)
    (null_fields : fields_of null_packet ≡ written_fields 0x1FFF false 0 (replicate 184 0xFF)) where
  abbrev sent : List Record
  sent = records_of plan.recording (flat_map (pieces plan datagrams slots) (versions plan))

  abbrev begin : ℕ → ℕ
  begin version = records_before slots version

  abbrev bound : ℕ
  bound = length plan.changes + 1

  carried : CarryPackets sent (flat_map (packets plan datagrams slots) (versions plan))
  carried =
      pieces_have plan.recording plan.packet_rate (flat_map (pieces plan datagrams slots) (versions plan)) (flat_map (packets plan datagrams slots) (versions plan))
      (all_stamped plan datagrams slots timed)

  -- The parts, one after another.

  are_parts : AreParts plan sent begin
  are_parts = record {
    first = refl;
    in_order = λ version within. omega (arith, sum_next slots version);
    last = sym (length_carried sent (flat_map (packets plan datagrams slots) (versions plan)) carried
        ∙ length-flat_map (packets plan datagrams slots) (versions plan)
        ∙ sum_same (λ v. length (packets plan datagrams slots v)) slots 0 bound (λ v less. length-packets_in plan datagrams slots 0 v));
  }

  -- packet m of a PID, in its part
  in_part : (pid m : ℕ) → m < length (arrivals pid sent) → IsLocated plan datagrams slots pid 0 bound m (arrival_at (arrivals pid sent) m).place
  in_part pid m less = located plan datagrams slots pid bound 0 sent carried m m (omega arith) less

  -- Services.

  at_place : (xs : List Arrival) (k : ℕ) (a d : Arrival) → k < length xs → get_or xs k a ≡ get_or xs k d
  at_place [] k a d less = absurd (omega (arith, less))
  at_place (x ∷ xs) zero a d less = refl
  at_place (x ∷ xs) (suc k) a d less = at_place xs k a d (omega (arith, less))

  in_own_part : (k pid : ℕ) (a : Arrival) → IsPidOf plan k pid → Contains (arrivals pid sent) a → IsInOwnPart plan begin k pid a.place
  in_own_part k pid a own there =
      by_place (in_part pid there.0 there.1) (ap (λ (x : Arrival). x.place) (at_place (arrivals pid sent) there.0 no_arrival a there.1 ∙ there.2))
    where
      has_it : (version : ℕ) → version ≤ length plan.changes → 1 ≤ length (read_of pid (packets plan datagrams slots version)) → pid_in plan version k ≡ Some pid
      has_it version within some = by_pid (has_pid (pid_in plan version k) pid) refl
        where
          by_pid : (is : Bool) → has_pid (pid_in plan version k) pid ≡ is → pid_in plan version k ≡ Some pid
          by_pid true e = has_its_pid (pid_in plan version k) pid e
          by_pid false e =
              let none : read_of pid (packets plan datagrams slots version) ≡ []
              = read_in_part plan datagrams slots readable fields null_fields whole each k pid own (fit k) version within
              ∙ ap (λ (b : Bool). cond b (get_or (service_packets (part_of plan datagrams slots version)) k []) []) e in
              absurd (omega (arith, some, ap (λ (l : List PacketFields). length l) none))

      by_place : IsLocated plan datagrams slots pid 0 bound there.0 (arrival_at (arrivals pid sent) there.0).place
          → (arrival_at (arrivals pid sent) there.0).place ≡ a.place → IsInOwnPart plan begin k pid a.place
      by_place it same = record {
        version = it.number;
        within = omega (arith, it.below);
        part = subst (λ (place : ℕ). IsInPart begin it.number place) same it.part_is;
        own = has_it it.number (omega (arith, it.below)) (omega (arith, it.after, it.until, sum_next (λ v. length (read_of pid (packets plan datagrams slots v))) it.number));
      }

  -- The INT.

  module _ (lawful : IsLawful section_form)
      (one : (int : IntFields) (version c : ℕ) → plan.table ≡ Some int → version ≤ length plan.changes
      → (starts : ℕ → ℕ) × Packetizes section_form (table_bytes (table_of (plan_in plan version) int) ∷ []) (int_packets (part_of plan datagrams slots version) (Some int) c) starts)
      (reads : (int : IntFields) (version : ℕ) → plan.table ≡ Some int → version ≤ length plan.changes → IsInt (table_bytes (table_of (plan_in plan version) int)) (table_of (plan_in plan version) int))
      (told : (b : List ℕ) (platform_id version : ℕ) → (version_of_platform platform_id b ≡ Some version)
      ↔ ((table : TableFields) × IsInt b table × (table.platform_id ≡ platform_id) × (table.version ≡ version))) where
    -- what the section of a version says
    says : (int : IntFields) (version : ℕ) → plan.table ≡ Some int → version ≤ length plan.changes → version_in plan (table_bytes (table_of (plan_in plan version) int)) ≡ Some version
    says int version is within =
        ap (λ t. version_by plan t (table_bytes (table_of (plan_in plan version) int))) is
        ∙ ap (if_version plan)
        ((told (table_bytes (table_of (plan_in plan version) int)) int.platform_id version).1 (table_of (plan_in plan version) int, reads int version is within, refl, refl))
        ∙ ap (λ (b : Bool). cond b (Some version) None) (so_leb version (length plan.changes) within)
      where
        so_leb : (a b : ℕ) → a ≤ b → leb a b ≡ true
        so_leb a b le = grind (arith, le)

    module _ (int : IntFields) (is : plan.table ≡ Some int) where
      in_version : (version c : ℕ) → version ≤ length plan.changes
          → (starts : ℕ → ℕ) × Packetizes section_form (table_bytes (table_of (plan_in plan version) int) ∷ []) (int_packets (part_of plan datagrams slots version) (Some int) c) starts
      in_version version c within = one int version c is within

      abbrev sections : List (List ℕ)
      sections = flat_map (sections_of_int plan slots int) (versions plan)

      abbrev int_sent : List PacketFields
      int_sent = flat_map (packets_of_int plan datagrams slots int) (versions plan)

      abbrev starts : ℕ → ℕ
      starts = (versions_carry plan whole datagrams slots each int is lawful in_version).0

      abbrev int_before : ℕ → ℕ
      int_before version = sum_by (λ v. length (packets_of_int plan datagrams slots int v)) (earlier version)

      sent_are : packets_sent int.pid sent ≡ flat_map (packets_of_int plan datagrams slots int) (versions plan)
      sent_are = table_sent plan datagrams slots readable fields null_fields whole each timed int is

      same_before : (version : ℕ) → version ≤ length plan.changes + 1 → out_on plan datagrams slots int.pid version ≡ int_before version
      same_before version within =
          sum_same (λ v. length (read_of int.pid (packets plan datagrams slots v))) (λ v. length (packets_of_int plan datagrams slots int v)) 0 version
          (λ v less. ap (λ (l : List PacketFields). length l) (table_in_part plan datagrams slots readable fields null_fields whole each int is v (omega (arith, less, within))))

      -- a part that a section's packet stands in is that of its version
      same_part : (v w m : ℕ) → v ≤ length plan.changes → out_on plan datagrams slots int.pid v ≤ m → m < out_on plan datagrams slots int.pid (v + 1)
          → int_before w ≤ m → m < int_before (w + 1) → v ≡ w
      same_part v w m within after until after2 until2 = by_order (cases_lt v w) (cases_lt w v)
        where
          by_order : (v < w) ⊎ (w ≤ v) → (w < v) ⊎ (v ≤ w) → v ≡ w
          by_order (inl low) other =
              absurd (omega (
                arith,
                until,
                after2,
                same_before (v + 1) (omega (arith, within)),
                sum_rises (λ u. length (packets_of_int plan datagrams slots int u)) (v + 1) w (omega (arith, low)),
              ))
          by_order (inr high) (inl low) =
              absurd (omega (
                arith,
                after,
                until2,
                same_before v (omega (arith, within)),
                sum_rises (λ u. length (packets_of_int plan datagrams slots int u)) (w + 1) v (omega (arith, low)),
              ))
          by_order (inr high) (inr low) = omega (arith, high, low)

      stands : (n version m : ℕ) → n < length sections → version_in plan (unit_at sections n) ≡ Some version → HoldsPart sections int_sent starts n m
          → m < length (arrivals int.pid sent) → IsInPart begin version (arrival_at (arrivals int.pid sent) m).place
      stands n version m less says_it holds there =
          by_parts (held_in plan whole datagrams slots each int is lawful in_version n m less holds) (in_part int.pid m there)
        where
          by_parts : IsOfVersion plan whole datagrams slots each int is lawful in_version n m
              → IsLocated plan datagrams slots int.pid 0 bound m (arrival_at (arrivals int.pid sent) m).place
              → IsInPart begin version (arrival_at (arrivals int.pid sent) m).place
          by_parts it at =
              let said : Some it.version ≡ Some version
              = sym (says int it.version is it.within) ∙ ap (version_in plan) (sym it.section_is) ∙ says_it in
              let told_is : it.version ≡ version = ap (λ (o : Option ℕ). unwrap_or o 0) said in
              let same : at.number ≡ it.version = same_part at.number it.version m (omega (arith, at.below)) at.after at.until it.after it.until in
              subst (λ (v : ℕ). IsInPart begin v (arrival_at (arrivals int.pid sent) m).place) (same ∙ told_is) at.part_is

      signals : Signals plan int sent begin
      signals = record {
        sections = flat_map (sections_of_int plan slots int) (versions plan);
        starts = (versions_carry plan whole datagrams slots each int is lawful in_version).0;
        packetized = subst (λ (ps : List PacketFields). Packetizes section_form sections ps starts) (sym sent_are) (versions_carry plan whole datagrams slots each int is lawful in_version).1;
        whole = λ n version m less says_it above holds.
            stands n version m less says_it (subst (λ (ps : List PacketFields). HoldsPart sections ps starts n m) sent_are holds)
            (omega (arith, holds.within, length-map (arrivals int.pid sent) packet_of));
      }

    pub all_stand : StandInParts plan sent begin
    all_stand = record { parts = are_parts; services = in_own_part; table = signals }
