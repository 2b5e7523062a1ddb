-- The section of the INT, once in each cycle of each part.
use Rattle.std.proofs.Common.{◌≡◌, ℕ, zero, suc, ◌+◌, ◌-◌, ◌*◌, ◌/◌, ◌<◌, ◌≤◌, Bool, true, false, cond, List, [], ◌∷◌, length, replicate, refl, sym, ap, subst, ◌∙◌, arith, Some}
use Rattle.std.specs.Prelude.{flat_map, sum_by}
use Rattle.std.specs.List.{range_with_len}
use Rattle.std.proofs.lemmas.List.{length-append, length-replicate, get_or-replicate}
use Rattle.std.proofs.lemmas.Nat.{div-mul-add}
use Rattle.std.proofs.Math.Nat.{add-mul}
use Rattle.ts_spec.specs.Form.{IsLawful}
use Rattle.ts_spec.specs.Packet.{PacketFields}
use Rattle.ts_spec.specs.Packetized.{unit_at, Packetizes}
use Rattle.channel_spec.specs.Carried.{HoldsPart}
use Rattle.section_spec.specs.Section.{section_form}
use Rattle.int_spec.specs.Table.{table_bytes}
use Rattle.plan_spec.specs.Plan.{IntFields, PlanFields}
use Rattle.plan_spec.specs.Changes.{plan_in, versions}
use Rattle.plan_spec.specs.Signalling.{table_of, table_packets}
use Rattle.plan_spec.specs.Wholes.{is_whole_plan}
use Rattle.stream_spec.specs.Parts.{PartFields, int_packets}
use Rattle.stream_spec.specs.Stream.{part_of, earlier, is_last, whole_cycles, IsPartCount}
use Rattle.stream_law.specs.Words.{begun_cycles, packets_of_int, sections_of_int}
use Rattle.stream_law.proofs.Ranges.{sum_same, sum_next}
use Rattle.stream_law.proofs.Packets.{GoOn, none_go_on, packetized_go_on}
use Rattle.stream_law.proofs.TableOnPid.{length-int_packets}
use Rattle.stream_law.proofs.Joined.{all_go_on, joined, IsOwn, own}
use Rattle.stream_law.proofs.Wholes.{version_accepted}
use Rattle.stream_law.proofs.Plans.{sendable}
use Rattle.stream_law.proofs.Lasts.{none_behind_last}

-- The cycles of one part.
module _ (part : PartFields) (int : IntFields) (table_is : part.plan.table ≡ Some int) where
  abbrev packets : ℕ → List PacketFields
  packets c = int_packets part (Some int) c

  abbrev section : List ℕ
  section = table_bytes (table_of part.plan int)

  abbrev before : ℕ → ℕ
  before c = part.table_before + c * table_packets part.plan

  go_on : (c : ℕ) → GoOn (before c) (packets c)
  go_on c = packetized_go_on section_form true int.pid (before c) (section ∷ [])

  next : (c : ℕ) → before (c + 1) ≡ before c + length (packets c)
  next c = omega (arith, length-int_packets part int c table_is, add-mul c 1 (table_packets part.plan))

  pub length-cycles : (n a : ℕ) → length (flat_map packets (range_with_len a n)) ≡ n * table_packets part.plan
  length-cycles zero a = omega arith
  length-cycles (suc n) a =
      let one : suc n ≡ n + 1 = omega arith in
      length-append (packets a) (flat_map packets (range_with_len (a + 1) n))
      ∙ omega (arith, length-int_packets part int a table_is, length-cycles n (a + 1), ap (λ (k : ℕ). k * table_packets part.plan) one, add-mul n 1 (table_packets part.plan))

  once_each : (n a : ℕ) → flat_map (λ c. section ∷ []) (range_with_len a n) ≡ replicate n section
  once_each zero a = refl
  once_each (suc n) a = ap (λ (l : List (List ℕ)). section ∷ l) (once_each n (a + 1))

  pub cycles_go_on : (n : ℕ) → GoOn part.table_before (flat_map packets (range_with_len 0 n))
  cycles_go_on n =
      subst (λ (b : ℕ). GoOn b (flat_map packets (range_with_len 0 n))) from_zero
      (all_go_on packets before n (λ c less. go_on c) (λ c less. next c) n 0 (omega arith))
    where
      from_zero : part.table_before + 0 * table_packets part.plan ≡ part.table_before
      from_zero = omega arith

  pub cycles_carry : IsLawful section_form → ((c : ℕ) → (begin : ℕ → ℕ) × Packetizes section_form (section ∷ []) (packets c) begin)
      → (n : ℕ) → (begin : ℕ → ℕ) × Packetizes section_form (replicate n section) (flat_map packets (range_with_len 0 n)) begin
  cycles_carry lawful one n =
      subst (λ (us : List (List ℕ)). (begin : ℕ → ℕ) × Packetizes section_form us (flat_map packets (range_with_len 0 n)) begin) (once_each n 0)
      (joined packets before n (λ c less. go_on c) (λ c less. next c) section_form lawful (λ c. section ∷ []) (λ c less. one c) n 0 (omega arith))

-- The parts of a stream.
module _ (plan : PlanFields) (whole : is_whole_plan plan ≡ true) (datagrams : ℕ → ℕ → List (List ℕ)) (slots : ℕ → ℕ)
    (each : (version : ℕ) → version ≤ length plan.changes → IsPartCount plan datagrams slots version) (int : IntFields) (table_is : plan.table ≡ Some int) where
  abbrev part : ℕ → PartFields
  part version = part_of plan datagrams slots version

  abbrev of_version : ℕ → List PacketFields
  of_version version = packets_of_int plan datagrams slots int version

  -- so many are out before a part: as many as it says, where it has slots
  abbrev out_before : ℕ → ℕ
  out_before version = sum_by (λ v. length (of_version v)) (earlier version)

  some_cycle : 1 ≤ plan.cycle
  some_cycle = omega (arith, (sendable (plan_in plan 0) (version_accepted plan whole 0 (omega arith))).leaves)

  no_cycles : begun_cycles plan.cycle 0 ≡ 0
  no_cycles =
      let few : (0 * plan.cycle + (plan.cycle - 1)) / plan.cycle ≡ 0 = div-mul-add 0 plan.cycle (plan.cycle - 1) (omega (arith, some_cycle)) in
      let same : 0 + plan.cycle - 1 ≡ 0 * plan.cycle + (plan.cycle - 1) = omega (arith, some_cycle) in
      ap (λ (n : ℕ). n / plan.cycle) same ∙ few

  begun_whole : (n : ℕ) → begun_cycles plan.cycle (n * plan.cycle) ≡ n
  begun_whole n =
      let same : n * plan.cycle + plan.cycle - 1 ≡ n * plan.cycle + (plan.cycle - 1) = omega (arith, some_cycle) in
      ap (λ (k : ℕ). k / plan.cycle) same ∙ div-mul-add n plan.cycle (plan.cycle - 1) (omega (arith, some_cycle))

  whole_has : (n : ℕ) → n * plan.cycle / plan.cycle ≡ n
  whole_has n =
      let same : n * plan.cycle ≡ n * plan.cycle + 0 = omega arith in
      ap (λ (k : ℕ). k / plan.cycle) same ∙ div-mul-add n plan.cycle 0 (omega (arith, some_cycle))

  -- a part that others follow is whole cycles
  followed : (later version : ℕ) → later ≤ length plan.changes → version < later → 1 ≤ slots later
      → length (of_version version) ≡ slots version / plan.cycle * table_packets (plan_in plan version)
  followed later version within before some =
      by_count (each version (omega (arith, within, before)))
      (none_behind_last plan some_cycle datagrams slots later (each later within) version before within some)
    where
      by_count : IsPartCount plan datagrams slots version → is_last plan datagrams version ≡ false
          → length (of_version version) ≡ slots version / plan.cycle * table_packets (plan_in plan version)
      by_count it not_last =
          let slots_are : slots version ≡ begun_cycles plan.cycle it.least * plan.cycle
          = it.slots_are ∙ ap (λ (b : Bool). cond b it.least (whole_cycles plan.cycle it.least)) not_last in
          length-cycles (part version) int table_is (begun_cycles plan.cycle (slots version)) 0
          ∙ ap (λ (n : ℕ). n * table_packets (plan_in plan version))
          (ap (begun_cycles plan.cycle) slots_are ∙ begun_whole (begun_cycles plan.cycle it.least)
          ∙ sym (ap (λ (n : ℕ). n / plan.cycle) slots_are ∙ whole_has (begun_cycles plan.cycle it.least)))

  part_goes_on : (version : ℕ) → version ≤ length plan.changes → GoOn (out_before version) (of_version version)
  part_goes_on version within = by_slots (slots version) refl
    where
      by_slots : (n : ℕ) → slots version ≡ n → GoOn (out_before version) (of_version version)
      by_slots zero e =
          let none : of_version version ≡ []
          = ap (λ (n : ℕ). flat_map (int_packets (part version) (Some int)) (range_with_len 0 n)) (ap (begun_cycles plan.cycle) e ∙ no_cycles) in
          subst (λ (ps : List PacketFields). GoOn (out_before version) ps) (sym none) (none_go_on (out_before version))
      by_slots (suc n) e =
          subst (λ (b : ℕ). GoOn b (of_version version))
          (sum_same (λ v. slots v / plan.cycle * table_packets (plan_in plan v)) (λ v. length (of_version v)) 0 version
          (λ v less. sym (followed version v within (omega (arith, less)) (omega (arith, e)))))
          (cycles_go_on (part version) int table_is (begun_cycles plan.cycle (slots version)))

  abbrev bound : ℕ
  bound = length plan.changes + 1

  all_in : 0 + (length plan.changes + 1) ≤ length plan.changes + 1
  all_in = omega arith

  goes_on_in : (version : ℕ) → version < length plan.changes + 1 → GoOn (out_before version) (of_version version)
  goes_on_in version less = part_goes_on version (omega (arith, less))

  next_in : (version : ℕ) → version < length plan.changes + 1 → out_before (version + 1) ≡ out_before version + length (of_version version)
  next_in version less = sum_next (λ v. length (of_version v)) version

  -- the sections of all versions
  module _ (lawful : IsLawful section_form)
      (one : (version c : ℕ) → version ≤ length plan.changes → (begin : ℕ → ℕ) × Packetizes section_form (table_bytes (table_of (plan_in plan version) int) ∷ []) (int_packets (part version) (Some int) c) begin) where
    carry_in : (version : ℕ) → version < length plan.changes + 1 → (begin : ℕ → ℕ) × Packetizes section_form (sections_of_int plan slots int version) (of_version version) begin
    carry_in version less = cycles_carry (part version) int table_is lawful (λ c. one version c (omega (arith, less))) (begun_cycles plan.cycle (slots version))

    pub versions_carry : (begin : ℕ → ℕ) × Packetizes section_form (flat_map (sections_of_int plan slots int) (versions plan)) (flat_map (packets_of_int plan datagrams slots int) (versions plan)) begin
    versions_carry = joined of_version out_before bound goes_on_in next_in section_form lawful (sections_of_int plan slots int) carry_in bound 0 all_in

    -- a packet that holds a part of section n is one of its version
    pub record IsOfVersion (n m : ℕ) : Type 0 where
      pub version : ℕ
      pub within : version ≤ length plan.changes
      pub section_is : unit_at (flat_map (sections_of_int plan slots int) (versions plan)) n ≡ table_bytes (table_of (plan_in plan version) int)
      pub after : sum_by (λ v. length (packets_of_int plan datagrams slots int v)) (earlier version) ≤ m
      pub until : m < sum_by (λ v. length (packets_of_int plan datagrams slots int v)) (earlier (version + 1))

    pub held_in : (n m : ℕ) → n < length (flat_map (sections_of_int plan slots int) (versions plan))
        → HoldsPart (flat_map (sections_of_int plan slots int) (versions plan)) (flat_map (packets_of_int plan datagrams slots int) (versions plan)) versions_carry.0 n m → IsOfVersion n m
    unfolding versions_carry
    held_in n m less holds = as_version (own of_version out_before bound goes_on_in next_in section_form lawful (sections_of_int plan slots int) carry_in bound 0 all_in n m m from_zero less holds)
      where
        from_zero : m ≡ out_before 0 + m
        from_zero = omega arith

        as_version : IsOwn of_version out_before bound goes_on_in next_in section_form lawful (sections_of_int plan slots int) carry_in 0 bound n m → IsOfVersion n m
        as_version it = record {
          version = it.number;
          within = omega (arith, it.below);
          section_is = it.unit_is
              ∙ get_or-replicate (begun_cycles plan.cycle (slots it.number)) it.place (table_bytes (table_of (plan_in plan it.number) int)) []
              (omega (arith, it.unit, length-replicate (begun_cycles plan.cycle (slots it.number)) (table_bytes (table_of (plan_in plan it.number) int))));
          after = it.after;
          until = it.until;
        }
