-- What a stream of parts gives on a PID: what each part gives, one after another.
use Rattle.std.proofs.Common.{◌≡◌, ℕ, ◌+◌, ◌-◌, ◌%◌, ◌≤◌, Bool, true, false, cond, List, [], length, map, replicate, refl, sym, ap, subst, ◌∙◌, arith, Option, Some, None}
use Rattle.std.specs.Prelude.{sum_by, flat_map, slice_index, slice_index_or}
use Rattle.std.specs.List.{range_with_len}
use Rattle.std.proofs.lemmas.Bool.{eqb-true}
use Rattle.std.proofs.lemmas.Nat.{div-add-mod'}
use Rattle.std.proofs.Math.Nat.{mod-lt}
use Rattle.ts_spec.specs.Packet.{fields_of, is_packet, packet_bytes, null_packet}
use Rattle.ts_spec.specs.Recording.{records_of}
use Rattle.ts_packet.specs.Fields.{written_fields}
use Rattle.channel_spec.specs.Carried.{packets_sent}
use Rattle.plan_spec.specs.Plan.{IntFields, PlanFields}
use Rattle.plan_spec.specs.Changes.{plan_in, pid_in, has_pid, versions}
use Rattle.plan_spec.specs.Signalling.{table_packets}
use Rattle.plan_spec.specs.Wholes.{is_whole_plan}
use Rattle.stream_spec.specs.Services.{IsPidOf}
use Rattle.stream_spec.specs.Parts.{PartFields, service_packets, records_of_slots}
use Rattle.stream_spec.specs.Stream.{part_of, earlier, is_last, whole_cycles, IsPartCount}
use Rattle.stream_law.specs.Words.{HaveMoments, FitsWindow, begun_cycles, packets_on, packets_of_int}
use Rattle.stream_law.proofs.Ranges.{flat_map_same}
use Rattle.stream_law.proofs.Records.{read_of, AreStamped, sent_is_read, pieces_have, slots_stamped, parts_stamped, parts_read}
use Rattle.stream_law.proofs.OnPid.{IsSendable, slot_packet, nothing_sent, packets_sent_in}
use Rattle.stream_law.proofs.TableOnPid.{ends_behind, ends_cycle, table_sent_in}
use Rattle.stream_law.proofs.Plans.{sendable}
use Rattle.stream_law.proofs.Kept.{pid_of_version, sizes_kept, sliced_kept}
use Rattle.stream_law.proofs.Wholes.{version_accepted, pid_most, known_in, table_has_other, others_have_other}

-- the PID that a service has
pub has_its_pid : (o : Option ℕ) (pid : ℕ) → has_pid o pid ≡ true → o ≡ Some pid
has_its_pid None pid is = absurd (cc)
has_its_pid (Some own) pid is = ap (λ (p : ℕ). Some p) (eqb-true own pid is)

-- so many slots are not more than the cycles that they begin
pub cycles_hold : (cycle slots : ℕ) → 1 ≤ cycle → slots ≤ whole_cycles cycle slots
cycles_hold cycle slots some = omega (arith, some, div-add-mod' (slots + cycle - 1) cycle, mod-lt (slots + cycle - 1) {m = cycle} some)

module _ (plan : PlanFields) (datagrams : ℕ → ℕ → List (List ℕ)) (slots : ℕ → ℕ) where
  -- the part of a version, its records, and their packets
  abbrev pub part : ℕ → PartFields
  part version = part_of plan datagrams slots version

  abbrev pub pieces : ℕ → List (List ℕ)
  pieces version = records_of_slots (part version) (slots version)

  abbrev pub packets : ℕ → List (List ℕ)
  packets version = map (slot_packet (part version)) (range_with_len 0 (slots version))

  pub part_stamped : HaveMoments plan slots → (version : ℕ) → version ≤ length plan.changes → AreStamped plan.recording plan.packet_rate (pieces version) (packets version)
  part_stamped timed version within =
      slots_stamped plan.recording plan.packet_rate (λ s. sum_by slots (earlier version) + s) (slot_packet (part version)) 0 (slots version)
      (λ s less. timed version s within (omega (arith, less)))

  pub all_stamped : HaveMoments plan slots → AreStamped plan.recording plan.packet_rate (flat_map pieces (versions plan)) (flat_map packets (versions plan))
  all_stamped timed = parts_stamped plan.recording plan.packet_rate pieces packets 0 (length plan.changes + 1) (λ version less. part_stamped timed version (omega (arith, less)))

  pub all_read : HaveMoments plan slots → (pid : ℕ)
      → packets_sent pid (records_of plan.recording (flat_map pieces (versions plan))) ≡ flat_map (λ version. read_of pid (packets version)) (versions plan)
  all_read timed pid =
      sent_is_read pid (records_of plan.recording (flat_map pieces (versions plan))) (flat_map packets (versions plan))
      (pieces_have plan.recording plan.packet_rate (flat_map pieces (versions plan)) (flat_map packets (versions plan)) (all_stamped timed))
      ∙ parts_read pid packets 0 (length plan.changes + 1)

  -- with the laws of packets that are written
  module _ (readable : (pid : ℕ) (starts : Bool) (counter : ℕ) (payload : List ℕ) → counter ≤ 15 → pid ≤ 8191 → length payload ≡ 184 → is_packet (packet_bytes pid starts counter payload) ≡ true)
      (fields : (pid : ℕ) (starts : Bool) (counter : ℕ) (payload : List ℕ) → counter ≤ 15 → pid ≤ 8191 → fields_of (packet_bytes pid starts counter payload) ≡ written_fields pid starts counter payload)
      (null_fields : fields_of null_packet ≡ written_fields 0x1FFF false 0 (replicate 184 0xFF))
      (whole : is_whole_plan plan ≡ true) (each : (version : ℕ) → version ≤ length plan.changes → IsPartCount plan datagrams slots version) where
    can_send : (version : ℕ) → version ≤ length plan.changes → IsSendable (plan_in plan version)
    can_send version within = sendable (plan_in plan version) (version_accepted plan whole version within)

    pub least_within : (version : ℕ) (within : version ≤ length plan.changes) → (each version within).least ≤ slots version
    least_within version within = by_last (is_last plan datagrams version) (each version within).slots_are
      where
        least : ℕ
        least = (each version within).least

        by_last : (last : Bool) → slots version ≡ cond last (each version within).least (whole_cycles plan.cycle (each version within).least) → (each version within).least ≤ slots version
        by_last true e = omega (arith, e)
        by_last false e = omega (arith, e, cycles_hold plan.cycle (each version within).least (omega (arith, (can_send version within).leaves)))

    -- of a service
    pub read_in_part : (k pid : ℕ) → IsPidOf plan k pid → FitsWindow plan datagrams k
        → (version : ℕ) → version ≤ length plan.changes → read_of pid (packets version) ≡ packets_on plan datagrams slots k pid version
    read_in_part k pid own fits version within = by_pid (has_pid (pid_in plan version k) pid) refl
      where
        by_pid : (is : Bool) → has_pid (pid_in plan version k) pid ≡ is → read_of pid (packets version) ≡ cond is (slice_index_or (service_packets (part version)) k []) []
        by_pid true e =
            packets_sent_in readable fields null_fields (part version) (can_send version within) k pid (known_in plan whole k pid own version within)
            (sym (pid_of_version plan version k) ∙ has_its_pid (pid_in plan version k) pid e)
            (version_accepted plan whole version within)
            (λ fields is c. subst (λ (l : List ℕ). slice_index l c ≤ fields.length) (sym (sizes_kept plan version k (datagrams version k)))
            (fits version c fields within (sym (sliced_kept plan version k) ∙ is)))
            (each version within).least (slots version) (each version within).count (least_within version within)
        by_pid false e =
            nothing_sent readable fields null_fields (part version) (can_send version within) pid (pid_most plan whole k pid own version within)
            (table_has_other plan whole k pid own version within) (others_have_other plan whole k pid own version within e) (range_with_len 0 (slots version))

    pub service_sent : HaveMoments plan slots → (k pid : ℕ) → IsPidOf plan k pid → FitsWindow plan datagrams k
        → packets_sent pid (records_of plan.recording (flat_map pieces (versions plan))) ≡ flat_map (packets_on plan datagrams slots k pid) (versions plan)
    service_sent timed k pid own fits =
        all_read timed pid
        ∙ flat_map_same (λ version. read_of pid (packets version)) (packets_on plan datagrams slots k pid) 0 (length plan.changes + 1)
        (λ version less. read_in_part k pid own fits version (omega (arith, less)))

    -- of the INT
    pub table_in_part : (int : IntFields) → plan.table ≡ Some int → (version : ℕ) → version ≤ length plan.changes
        → read_of int.pid (packets version) ≡ packets_of_int plan datagrams slots int version
    table_in_part int is version within =
        table_sent_in readable fields null_fields (part version) (can_send version within) int is (slots version) (by_last (is_last plan datagrams version) (each version within).slots_are)
      where
        by_last : (last : Bool) → slots version ≡ cond last (each version within).least (whole_cycles plan.cycle (each version within).least)
            → (s : ℕ) → slots version ≡ s + 1 → table_packets (plan_in plan version) ≤ s % plan.cycle
        by_last true e s end =
            ends_behind readable fields null_fields (part version) (can_send version within) int is (each version within).least (each version within).count s (sym e ∙ end)
        by_last false e s end =
            ends_cycle readable fields null_fields (part version) (can_send version within) int is (begun_cycles plan.cycle (each version within).least) s (sym e ∙ end)

    pub table_sent : HaveMoments plan slots → (int : IntFields) → plan.table ≡ Some int
        → packets_sent int.pid (records_of plan.recording (flat_map pieces (versions plan))) ≡ flat_map (packets_of_int plan datagrams slots int) (versions plan)
    table_sent timed int is =
        all_read timed int.pid
        ∙ flat_map_same (λ version. read_of int.pid (packets version)) (packets_of_int plan datagrams slots int) 0 (length plan.changes + 1)
        (λ version less. table_in_part int is version (omega (arith, less)))
