-- The INT of a plan: its entries, its size, and its packets from slot to slot.
use Rattle.std.proofs.Common.{◌≡◌, ℕ, zero, suc, ◌+◌, ◌*◌, ◌/◌, ◌%◌, ◌<◌, ◌≤◌, min, Bool, true, false, ◌&&◌, leb, ltb, List, [], ◌∷◌, ◌++◌, length, map, take, drop, refl, sym, ap, ap₂, ◌∙◌, arith, add-one, length-drop, subst, Option, Some, None}
use Rattle.std.specs.Prelude.{All, slice_get}
use Rattle.std.specs.List.{list_all}
use Rattle.addr_rules.specs.Bits.{is_zero_past}
use Rattle.addr_rules.specs.Texts.{address_bytes, bit_count}
use Rattle.addr_rules.specs.declared.rules.Rule.{Rule}
use Rattle.int_spec.specs.Descriptors.{has_right_slash}
use Rattle.int_spec.specs.Table.{EntryFields, TableFields, IsRule, table_body, table_bytes}
use Rattle.plan_spec.specs.Plan.{ServiceFields, IntFields, PlanFields}
use Rattle.plan_spec.specs.Checks.{is_between}
use Rattle.plan_spec.specs.Signalling.{slices_of, entry_of, table_of, packets_of_table, table_packets}
use Rattle.plan_spec.specs.Valid.{is_valid_rule, is_valid_service, is_valid_int, is_plan}
use Rattle.stream_law.proofs.Plans.{both, at_most, at_least, ranges, has_ranges}
use Rattle.stream_law.proofs.Plans.{few_services, few_rules, sendable}
use Rattle.stream_law.proofs.Next.{true_ltb, false_ltb}
use Rattle.stream_law.proofs.TableSizes.{table_size}
use Rattle.stream_law.proofs.TableOnPid.{length-int_packets, none_without}
use Rattle.std.proofs.lemmas.Nat.{mod-mul-add, div-mul-add, div-add-mod'}
use Rattle.std.proofs.lemmas.List.{take_all}
use Rattle.std.proofs.Math.Nat.{add-mul, mod-lt}
use Rattle.ts_spec.specs.Packet.{PacketFields}
use Rattle.ts_spec.specs.Packetized.{packet_at}
use Rattle.section_spec.specs.Section.{section_form}
use Rattle.unit_stream.specs.Packing.{packetized}
use Rattle.stream_spec.specs.Parts.{PartFields, int_packets, written}
use Rattle.ts_mux.specs.SectionPackets.{OnWay}
use Rattle.section_codec.proofs.Written.{length-section_bytes}
use Rattle.plan_spec.specs.Wholes.{is_whole_plan}
use Rattle.stream_law.proofs.Wholes.{version_accepted}
use Rattle.ts_mux.specs.Slots.{is_early, IsPartOf}
use Rattle.ts_mux.specs.IntPackets.{IsSignalled, IsSignalling, IsTableAt, packet_of_table}
use Rattle.ts_mux.specs.declared.int_packets.IntPackets.{IntPackets}
use Rattle.ts_mux.proofs.Items.{list_all_at}

-- What a plan says of its parts.

pub platform_below : (plan : PlanFields) (int : IntFields) → is_plan plan ≡ true → plan.table ≡ Some int → (int.platform_id < 16777216) × (int.pid ≤ 8191)
platform_below plan int accepted is = of_int (ap is_valid_int (sym is) ∙ (ranges plan accepted).int)
  where
    of_int : is_valid_int (Some int) ≡ true → (int.platform_id < 16777216) × (int.pid ≤ 8191)
    of_int e =
        let rest : Bool = is_between 0 65535 int.network_id && (is_between 0 65535 int.original_network_id && is_between 0 65535 int.transport_stream_id) in
        let parts : (is_between 32 8190 int.pid ≡ true) × ((is_between 0 16777215 int.platform_id && rest) ≡ true) = both (is_between 32 8190 int.pid) (is_between 0 16777215 int.platform_id && rest) e in
        let platform : is_between 0 16777215 int.platform_id ≡ true = (both (is_between 0 16777215 int.platform_id) rest parts.1).0 in
        (omega (arith, at_most 0 16777215 int.platform_id platform), omega (arith, at_most 32 8190 int.pid parts.0))

pub rules_valid : (plan : PlanFields) (i : ℕ) (service : ServiceFields) → is_plan plan ≡ true → slice_get plan.services i ≡ Some service → list_all is_valid_rule service.rules ≡ true
rules_valid plan i service accepted found =
    (has_ranges (ranges plan accepted).least service (list_all_at (is_valid_service (ranges plan accepted).least) plan.services i service found (ranges plan accepted).services)).rules

pub slashes_right : (rules : List Rule) → list_all is_valid_rule rules ≡ true → list_all has_right_slash rules ≡ true
slashes_right [] e = refl
slashes_right (rule ∷ rules) e =
    let parts : (is_valid_rule rule ≡ true) × (list_all is_valid_rule rules ≡ true) = both (is_valid_rule rule) (list_all is_valid_rule rules) e in
    let slash : has_right_slash rule ≡ true = (both (leb rule.slash (bit_count rule.address)) (is_zero_past rule.slash (address_bytes rule.address)) parts.0).0 in
    ap₂ (λ (a b : Bool). a && b) slash (slashes_right rules parts.1)

-- The entries.

pub entry_is : (rate : ℕ) (service : ServiceFields) (entry : EntryFields) → entry.rules ≡ service.rules → entry.service_id ≡ service.service_id
    → entry.component_tag ≡ service.component_tag → entry.slices ≡ slices_of rate service.kind → entry ≡ entry_of rate service
entry_is rate service entry rules service_id component_tag slices = rw (← slices, ← rules, ← service_id, ← component_tag) refl

pub with_entry : (table old new : TableFields) (entries more : List EntryFields) (entry here : EntryFields) → old ≡ record table { entries = entries }
    → new ≡ record old { entries = old.entries ++ entry ∷ [] } → entry ≡ here → more ≡ entries ++ here ∷ [] → new ≡ record table { entries = more }
with_entry table old new entries more entry here old_is new_is same more_is = rw (new_is, old_is, same, more_is) refl

-- the table of a plan fits one section
pub table_fits : (plan : PlanFields) (int : IntFields) (table : TableFields) (place : ℕ) → is_plan plan ≡ true → length plan.services ≤ place
    → table ≡ record (table_of plan int) { entries = map (entry_of plan.packet_rate) (take place plan.services) }
    → All (All IsRule) (map (λ (s : ServiceFields). s.rules) (take place plan.services)) → length (table_bytes table) ≤ 4096
table_fits plan int table place accepted all table_is rules =
    let whole : take place plan.services ≡ plan.services = take_all place plan.services all in
    let same : table ≡ table_of plan int = table_is ∙ ap (λ (ss : List ServiceFields). let t : TableFields = record (table_of plan int) { entries = map (entry_of plan.packet_rate) ss } in t) whole in
    subst (λ (t : TableFields). length (table_bytes t) ≤ 4096) (sym same)
    (below (length (table_bytes (table_of plan int)))
    (table_size plan int (few_services plan accepted) (few_rules plan accepted) (subst (λ (ss : List ServiceFields). All (All IsRule) (map (λ (s : ServiceFields). s.rules) ss)) whole rules)))
  where
    below : (n : ℕ) → n ≤ 3730 → n ≤ 4096
    below n le = omega (arith, le)

-- Places of slots in their cycles.

module _ (slot cycle : ℕ) where
  pub next_place : slot % cycle + 1 < cycle → ((slot + 1) / cycle ≡ slot / cycle) × ((slot + 1) % cycle ≡ slot % cycle + 1)
  next_place less =
      let same : slot + 1 ≡ slot / cycle * cycle + (slot % cycle + 1) = omega (arith, div-add-mod' slot cycle) in
      (ap (λ (n : ℕ). n / cycle) same ∙ div-mul-add (slot / cycle) cycle (slot % cycle + 1) less, ap (λ (n : ℕ). n % cycle) same ∙ mod-mul-add (slot / cycle) cycle (slot % cycle + 1) less)

  pub last_place : 0 < cycle → slot % cycle + 1 ≡ cycle → ((slot + 1) / cycle ≡ slot / cycle + 1) × ((slot + 1) % cycle ≡ 0)
  last_place some last =
      let same : slot + 1 ≡ (slot / cycle + 1) * cycle + 0 = omega (arith, div-add-mod' slot cycle, add-mul (slot / cycle) 1 cycle, last) in
      (ap (λ (n : ℕ). n / cycle) same ∙ div-mul-add (slot / cycle + 1) cycle 0 some, ap (λ (n : ℕ). n % cycle) same ∙ mod-mul-add (slot / cycle + 1) cycle 0 some)

-- a slot of a part that begins with a cycle has the same place in its cycle from the first of the stream
pub same_place : (before slot cycle : ℕ) → 0 < cycle → before % cycle ≡ 0 → (before + slot) % cycle ≡ slot % cycle
same_place before slot cycle some whole =
    let same : before + slot ≡ (before / cycle + slot / cycle) * cycle + slot % cycle
    = omega (arith, div-add-mod' before cycle, div-add-mod' slot cycle, add-mul (before / cycle) (slot / cycle) cycle, whole) in
    ap (λ (n : ℕ). n % cycle) same ∙ mod-mul-add (before / cycle + slot / cycle) cycle (slot % cycle) (mod-lt slot {m = cycle} some)

pub first_place : (cycle : ℕ) → 0 < cycle → (0 / cycle ≡ 0) × (0 % cycle ≡ 0)
first_place cycle some =
    let same : 0 ≡ 0 * cycle + 0 = omega arith in
    (ap (λ (n : ℕ). n / cycle) same ∙ div-mul-add 0 cycle 0 some, ap (λ (n : ℕ). n % cycle) same ∙ mod-mul-add 0 cycle 0 some)

-- From slot to slot.

drop_head : (packets : List PacketFields) (n : ℕ) (packet : PacketFields) (rest : List PacketFields) → drop n packets ≡ packet ∷ rest → (packet_at packets n ≡ packet) × (drop (suc n) packets ≡ rest)
drop_head [] zero packet rest e = absurd (cc)
drop_head [] (suc n) packet rest e = absurd (cc)
drop_head (first ∷ packets) zero packet rest e = (cc, cc)
drop_head (first ∷ packets) (suc n) packet rest e = drop_head packets n packet rest e

module _ (part : PartFields) (int : IntFields) (some : 0 < part.plan.cycle) (leaves : table_packets part.plan < part.plan.cycle) where
  pub signalled_first : (way : OnWay) → way.pid ≡ int.pid → way.packing ≡ true → way.units ≡ table_bytes (table_of part.plan int) ∷ [] → way.counter ≡ part.table_before % 16 → IsSignalled part int 0 way
  signalled_first way pid packing units counter = record {
    pid = pid;
    packing = packing;
    units = units;
    counter = counter ∙ sym (rw ((first_place part.plan.cycle some).0, (first_place part.plan.cycle some).1) (none part.table_before (table_packets part.plan)));
    packets = λ behind le. absurd (omega (arith, behind, (first_place part.plan.cycle some).1));
  }
    where
      none : (b t : ℕ) → (b + (0 * t + min 0 t)) % 16 ≡ b % 16
      none b t = omega arith

  module _ (slot : ℕ) where
    -- the packets that are still to come in this cycle
    abbrev pub to_come : List PacketFields
    to_come = drop (slot % part.plan.cycle) (int_packets part (Some int) (slot / part.plan.cycle))

    pub some_to_come : part.plan.table ≡ Some int → slot % part.plan.cycle < table_packets part.plan → 0 < length to_come
    some_to_come is early =
        omega (arith, length-drop (slot % part.plan.cycle) (int_packets part (Some int) (slot / part.plan.cycle)), length-int_packets part int (slot / part.plan.cycle) is, early)

    pub begun_anew : (way : OnWay) → IsSignalled part int slot way → slot % part.plan.cycle ≡ 0 → packetized section_form way.packing way.pid way.counter way.units ≡ to_come
    begun_anew way at first =
        let counter : way.counter ≡ (part.table_before + slot / part.plan.cycle * table_packets part.plan) % 16 = at.counter ∙ omega (arith, first) in
        rw (at.packing, at.pid, counter, at.units, first) refl

    pub going_on : (way : OnWay) → IsSignalled part int slot way → slot % part.plan.cycle < table_packets part.plan → (slot % part.plan.cycle ≡ 0 → ⊥) → way.packets ≡ to_come
    going_on way at early behind = at.packets (omega (arith, behind)) (omega (arith, early))

    pub signalled_next : (old new : OnWay) (packet : PacketFields) → IsSignalled part int slot old → slot % part.plan.cycle < table_packets part.plan → to_come ≡ packet ∷ new.packets
        → new.pid ≡ old.pid → new.packing ≡ old.packing → new.units ≡ old.units → new.counter ≡ (old.counter + 1) % 16
        → IsSignalled part int (slot + 1) new × (packet_at (int_packets part (Some int) (slot / part.plan.cycle)) (slot % part.plan.cycle) ≡ packet)
    signalled_next old new packet at early came pid packing units counter = (
      record {
        pid = pid ∙ at.pid;
        packing = packing ∙ at.packing;
        units = units ∙ at.units;
        counter = counter ∙ ap (λ (n : ℕ). (n + 1) % 16) at.counter ∙ count ∙ sym (rw (place.0, place.1) refl);
        packets = λ behind le.
            sym (ap₂ (λ (o c : ℕ). drop o (int_packets part (Some int) c)) (place.1 ∙ add-one (slot % part.plan.cycle)) place.0 ∙ (drop_head (int_packets part (Some int) (slot / part.plan.cycle)) (slot % part.plan.cycle) packet new.packets came).1);
      },
      (drop_head (int_packets part (Some int) (slot / part.plan.cycle)) (slot % part.plan.cycle) packet new.packets came).0,
    )
      where
        place : ((slot + 1) / part.plan.cycle ≡ slot / part.plan.cycle) × ((slot + 1) % part.plan.cycle ≡ slot % part.plan.cycle + 1)
        place = next_place slot part.plan.cycle (omega (arith, early, leaves))

        count : ((part.table_before + (slot / part.plan.cycle * table_packets part.plan + min (slot % part.plan.cycle) (table_packets part.plan))) % 16 + 1) % 16
            ≡ (part.table_before + (slot / part.plan.cycle * table_packets part.plan + min (slot % part.plan.cycle + 1) (table_packets part.plan))) % 16
        count = counts part.table_before (slot / part.plan.cycle * table_packets part.plan) (slot % part.plan.cycle) (table_packets part.plan) early
          where
            counts : (b a o t : ℕ) → o < t → ((b + (a + min o t)) % 16 + 1) % 16 ≡ (b + (a + min (o + 1) t)) % 16
            counts b a o t less = omega (arith, less)

    pub signalled_passes : (way : OnWay) → IsSignalled part int slot way → table_packets part.plan ≤ slot % part.plan.cycle → IsSignalled part int (slot + 1) way
    signalled_passes way at late = by_place (ltb (slot % part.plan.cycle + 1) part.plan.cycle) refl
      where
        by_place : (within : Bool) → ltb (slot % part.plan.cycle + 1) part.plan.cycle ≡ within → IsSignalled part int (slot + 1) way
        by_place true e =
            let place : ((slot + 1) / part.plan.cycle ≡ slot / part.plan.cycle) × ((slot + 1) % part.plan.cycle ≡ slot % part.plan.cycle + 1) = next_place slot part.plan.cycle (true_ltb (slot % part.plan.cycle + 1) part.plan.cycle e) in
            record {
              pid = at.pid;
              packing = at.packing;
              units = at.units;
              counter = at.counter ∙ counts part.table_before (slot / part.plan.cycle * table_packets part.plan) (slot % part.plan.cycle) (table_packets part.plan) late ∙ sym (rw (place.0, place.1) refl);
              packets = λ behind le. absurd (omega (arith, le, place.1, late));
            }
          where
            counts : (b a o t : ℕ) → t ≤ o → (b + (a + min o t)) % 16 ≡ (b + (a + min (o + 1) t)) % 16
            counts b a o t le = omega (arith, le)
        by_place false e =
            let last : slot % part.plan.cycle + 1 ≡ part.plan.cycle = omega (arith, false_ltb (slot % part.plan.cycle + 1) part.plan.cycle e, mod-lt slot {m = part.plan.cycle} some) in
            let place : ((slot + 1) / part.plan.cycle ≡ slot / part.plan.cycle + 1) × ((slot + 1) % part.plan.cycle ≡ 0) = last_place slot part.plan.cycle some last in
            record {
              pid = at.pid;
              packing = at.packing;
              units = at.units;
              counter = at.counter
                  ∙ counts part.table_before (slot / part.plan.cycle * table_packets part.plan) ((slot / part.plan.cycle + 1) * table_packets part.plan) (slot % part.plan.cycle) (table_packets part.plan) late (add-mul (slot / part.plan.cycle) 1 (table_packets part.plan))
                  ∙ sym (rw (place.0, place.1) refl);
              packets = λ behind le. absurd (omega (arith, behind, place.1));
            }
          where
            counts : (d a b o t : ℕ) → t ≤ o → b ≡ a + 1 * t → (d + (a + min o t)) % 16 ≡ (d + (b + min 0 t)) % 16
            counts d a b o t le e2 = omega (arith, le, e2)

-- units that give the packet of this slot next
pub record IsReady (part : PartFields) (slot : ℕ) (way : OnWay) : Type 0 where
  pub int : IntFields
  pub table_is : part.plan.table ≡ Some int
  pub old : OnWay
  pub at : IsSignalled part int slot old
  pub pid : way.pid ≡ old.pid
  pub packing : way.packing ≡ old.packing
  pub units : way.units ≡ old.units
  pub counter : way.counter ≡ old.counter
  pub to_come : way.packets ≡ drop (slot % part.plan.cycle) (int_packets part (Some int) (slot / part.plan.cycle))

module _ (plan : PlanFields) (accepted : is_plan plan ≡ true) where
  pub cycle_some : 0 < plan.cycle
  cycle_some = omega (arith, at_least 100 1000000 plan.cycle (ranges plan accepted).cycle)

  pub leaves : table_packets plan < plan.cycle
  leaves = (sendable plan accepted).leaves

module _ (part : PartFields) (accepted : is_plan part.plan ≡ true) (slot : ℕ) where
  abbrev early_here : Bool
  early_here = is_early part.plan.cycle (table_packets part.plan) slot

  some : 0 < part.plan.cycle
  some = cycle_some part.plan accepted

  fewer : table_packets part.plan < part.plan.cycle
  fewer = leaves part.plan accepted

  pub some_early : early_here ≡ true → slot % part.plan.cycle < table_packets part.plan
  some_early e = true_ltb (slot % part.plan.cycle) (table_packets part.plan) e

  pub some_late : early_here ≡ false → table_packets part.plan ≤ slot % part.plan.cycle
  some_late e = false_ltb (slot % part.plan.cycle) (table_packets part.plan) e

  some_int : (way : Option OnWay) → IsSignalling part part.plan.table slot way → early_here ≡ true
      → (int : IntFields) × (old : OnWay) × (part.plan.table ≡ Some int) × (way ≡ Some old) × IsSignalled part int slot old
  some_int way at early = by_table part.plan.table refl way at
    where
      by_table : (table : Option IntFields) → part.plan.table ≡ table → (w : Option OnWay) → IsSignalling part table slot w
          → (int : IntFields) × (old : OnWay) × (part.plan.table ≡ Some int) × (w ≡ Some old) × IsSignalled part int slot old
      by_table None is w at2 = absurd (omega (arith, none_without part.plan is, some_early early))
      by_table (Some int) is None at2 = absurd at2
      by_table (Some int) is (Some old) at2 = (int, old, is, refl, at2)

  pub none_is_not : IsSignalling part part.plan.table slot None → early_here ≡ true → ⊥
  none_is_not at early = let found = some_int None at early in absurd (cc)

  pub ready_first : (old again : OnWay) → IsSignalling part part.plan.table slot (Some old) → early_here ≡ true → slot % part.plan.cycle ≡ 0
      → again ≡ record old { packets = packetized section_form old.packing old.pid old.counter old.units } → IsReady part slot again
  ready_first old again at early first is =
      let found = some_int (Some old) at early in
      let same : found.1 ≡ old = cc in
      let at_old : IsSignalled part found.0 slot old = subst (λ (w : OnWay). IsSignalled part found.0 slot w) same found.4 in
      record {
        int = found.0;
        table_is = found.2;
        old = old;
        at = at_old;
        pid = ap (λ (w : OnWay). w.pid) is;
        packing = ap (λ (w : OnWay). w.packing) is;
        units = ap (λ (w : OnWay). w.units) is;
        counter = ap (λ (w : OnWay). w.counter) is;
        to_come = ap (λ (w : OnWay). w.packets) is ∙ begun_anew part found.0 some fewer slot old at_old first;
      }

  pub ready_behind : (old : OnWay) → IsSignalling part part.plan.table slot (Some old) → early_here ≡ true → (slot % part.plan.cycle ≡ 0 → ⊥) → IsReady part slot old
  ready_behind old at early behind =
      let found = some_int (Some old) at early in
      let same : found.1 ≡ old = cc in
      let at_old : IsSignalled part found.0 slot old = subst (λ (w : OnWay). IsSignalled part found.0 slot w) same found.4 in
      record {
        int = found.0;
        table_is = found.2;
        old = old;
        at = at_old;
        pid = refl;
        packing = refl;
        units = refl;
        counter = refl;
        to_come = going_on part found.0 some fewer slot old at_old (some_early early) behind;
      }

  pub ready_some : (way : OnWay) → IsReady part slot way → early_here ≡ true → 0 < length way.packets
  ready_some way ready early =
      omega (arith, ap (λ (ps : List PacketFields). length ps) ready.to_come, some_to_come part ready.int some fewer slot ready.table_is (some_early early))

  pub ready_next : (way new : OnWay) (packet : PacketFields) → IsReady part slot way → early_here ≡ true → way.packets ≡ packet ∷ new.packets
      → new.pid ≡ way.pid → new.packing ≡ way.packing → new.units ≡ way.units → new.counter ≡ (way.counter + 1) % 16
      → IsSignalling part part.plan.table (slot + 1) (Some new) × (written packet ≡ packet_of_table part slot)
  ready_next way new packet ready early came pid packing units counter =
      let next = signalled_next part ready.int some fewer slot ready.old new packet ready.at (some_early early) (sym ready.to_come ∙ came)
      (pid ∙ ready.pid) (packing ∙ ready.packing) (units ∙ ready.units) (counter ∙ ap (λ (n : ℕ). (n + 1) % 16) ready.counter) in (
        subst (λ (table : Option IntFields). IsSignalling part table (slot + 1) (Some new)) (sym ready.table_is) next.0,
        ap written (sym next.1) ∙ ap (λ (table : Option IntFields). written (packet_at (int_packets part table (slot / part.plan.cycle)) (slot % part.plan.cycle))) (sym ready.table_is),
      )

  -- the other slots leave the INT as it is
  pub signalling_passes : (way : Option OnWay) → IsSignalling part part.plan.table slot way → early_here ≡ false → IsSignalling part part.plan.table (slot + 1) way
  signalling_passes way at late = by_table part.plan.table way at
    where
      by_table : (table : Option IntFields) (w : Option OnWay) → IsSignalling part table slot w → IsSignalling part table (slot + 1) w
      by_table None w at2 = tt
      by_table (Some int) None at2 = absurd at2
      by_table (Some int) (Some old) at2 = signalled_passes part int some fewer slot old at2 (some_late late)

-- before the first slot
module _ (part : PartFields) (accepted : is_plan part.plan ≡ true) where
  pub no_table_at : (table : IntPackets) → part.plan.table ≡ None → table.count ≡ 0 → IsTableAt part 0 table
  no_table_at table none count = record {
    count = count ∙ sym (none_without part.plan none);
    packets = subst (λ (t : Option IntFields). IsSignalling part t 0 table.packets) (sym none) tt;
  }

  pub table_at : (int : IntFields) (way : OnWay) (count counter : ℕ) (section : List ℕ) → part.plan.table ≡ Some int → section ≡ table_bytes (table_of part.plan int)
      → counter ≡ part.table_before % 16
      → way ≡ record { pid = int.pid; packing = true; counter = counter; units = section ∷ []; packets = packetized section_form true int.pid counter (section ∷ []) }
      → count ≡ length (packetized section_form true int.pid ((part.table_before + 0 * table_packets part.plan) % 16) (section ∷ [])) → (count ≡ table_packets part.plan) × IsSignalling part part.plan.table 0 (Some way)
  table_at int way count counter section is section_is counter_is way_is count_is =
      let packets : packetized section_form true int.pid ((part.table_before + 0 * table_packets part.plan) % 16) (section ∷ []) ≡ int_packets part (Some int) 0
      = ap (λ (unit : List ℕ). packetized section_form true int.pid ((part.table_before + 0 * table_packets part.plan) % 16) (unit ∷ [])) section_is in (
        omega (arith, count_is, ap (λ (ps : List PacketFields). length ps) packets, length-int_packets part int 0 is),
        subst (λ (t : Option IntFields). IsSignalling part t 0 (Some way)) (sym is)
            (signalled_first part int (cycle_some part.plan accepted) (leaves part.plan accepted) way (ap (λ (w : OnWay). w.pid) way_is) (ap (λ (w : OnWay). w.packing) way_is)
            (ap (λ (w : OnWay). w.units) way_is ∙ ap (λ (unit : List ℕ). unit ∷ []) section_is) (ap (λ (w : OnWay). w.counter) way_is ∙ counter_is)),
      )

-- the part of a version of a whole plan
module _ (plan : PlanFields) (whole : is_whole_plan plan ≡ true) (part : PartFields) (is : IsPartOf plan part) where
  pub part_accepted : is_plan part.plan ≡ true
  part_accepted = ap is_plan is.plan_is ∙ version_accepted plan whole is.version is.within

  pub cycle_is : part.plan.cycle ≡ plan.cycle
  cycle_is = ap (λ (p : PlanFields). p.cycle) is.plan_is

  pub table_is : part.plan.table ≡ plan.table
  table_is = ap (λ (p : PlanFields). p.table) is.plan_is

  pub place_is : (slot of_stream : ℕ) → of_stream ≡ part.slots_before + slot → of_stream % plan.cycle ≡ slot % part.plan.cycle
  place_is slot of_stream e =
      ap (λ (n : ℕ). n % plan.cycle) e ∙ same_place part.slots_before slot plan.cycle (omega (arith, cycle_is, cycle_some part.plan part_accepted)) is.whole
      ∙ ap (λ (n : ℕ). slot % n) (sym cycle_is)

  -- a slot of the INT is one in the stream and in the part
  pub early_is : (slot of_stream count : ℕ) → of_stream ≡ part.slots_before + slot → count ≡ table_packets part.plan
      → is_early plan.cycle count of_stream ≡ is_early part.plan.cycle (table_packets part.plan) slot
  early_is slot of_stream count e count_is = ap₂ (λ (o t : ℕ). ltb o t) (place_is slot of_stream e) count_is

-- a section has a byte
pub section_some : (plan : PlanFields) (int : IntFields) (section : List ℕ) → section ≡ table_bytes (table_of plan int) → 0 < length section
section_some plan int section is = omega (arith, ap (λ (bytes : List ℕ). length bytes) is, length-section_bytes 0x4C 0xF0 (table_body (table_of plan int)))

-- a section has at most 23 packets
pub few_packets : (plan : PlanFields) (int : IntFields) → plan.table ≡ Some int → length (table_bytes (table_of plan int)) ≤ 4096 → table_packets plan ≤ 23
unfolding table_packets
few_packets plan int is le = subst (λ (t : Option IntFields). packets_of_table plan t ≤ 23) (sym is) (few (length (table_bytes (table_of plan int))) le)
  where
    few : (n : ℕ) → n ≤ 4096 → (1 + n + 183) / 184 ≤ 23
    few n le2 = omega (arith, le2)
