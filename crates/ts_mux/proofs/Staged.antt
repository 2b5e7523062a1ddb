-- The parts of the stream of what lists have, as they are begun.
use Rattle.std.proofs.Common.{◌≡◌, ℕ, ◌+◌, ◌*◌, ◌/◌, ◌%◌, ◌^◌, ◌<◌, ◌≤◌, min, Bool, true, false, List, [], length, take, get_or, refl, sym, ap, ◌∙◌, arith, subst, Option, Some, None, Ok, Err}
use Rattle.std.specs.Prelude.{flat_map, sum_by, slice_get, slice_index, slice_index_or}
use Rattle.std.specs.Io.KnownBytes.{Appends}
use Rattle.wire_spec.specs.Lists.{joined}
use Rattle.int_spec.specs.Table.{table_bytes}
use Rattle.plan_spec.specs.Plan.{IntFields, PlanFields}
use Rattle.plan_spec.specs.Changes.{plan_in, versions}
use Rattle.plan_spec.specs.Signalling.{table_of, table_packets}
use Rattle.stream_spec.specs.Stream.{are_on_pids}
use Rattle.plan_spec.specs.Wholes.{is_whole_plan}
use Rattle.plan.specs.PlanView.{plan_fields}
use Rattle.plan.specs.declared.plan.Plan.{Plan}
use Rattle.stream_spec.specs.Parts.{PartFields, service_packets, slot_in}
use Rattle.stream_spec.specs.Stream.{earlier, part_of, IsPartCount, IsStream}
use Rattle.stream_law.proofs.Streams.{slots as slots_found, counted, is_stream}
use Rattle.stream_law.proofs.TableOnPid.{none_without}
use Rattle.ts_mux.specs.Slots.{IsPartOf, IsFew, StandBefore, slots_with}
use Rattle.ts_mux.specs.IntPackets.{IsTableAt}
use Rattle.ts_mux.specs.declared.int_packets.IntPackets.{IntPackets}
use Rattle.ts_mux.specs.PartUnits.{MadeUnits, AreUnitsOf}
use Rattle.ts_mux.specs.Services.{Serving, packet_total, left_in, HasLists, Begins, counter_at, frames_before}
use Rattle.ts_mux.specs.Sending.{AreDatagrams, AreUnits, WritesRecords}
use Rattle.datagram_routing.specs.Offering.{datagram_count}
use Rattle.ts_mux.proofs.Moved.{there_is as there_is_item}
use Rattle.ts_mux.proofs.Signalled.{section_some, few_packets, part_accepted, cycle_some}
use Rattle.ts_mux.proofs.Again.{counter_is}
use Rattle.ts_mux.proofs.Parted.{Fits, pieces, HasHanded, IsBehind, IsLastOf, part_is, part_begins, counter_behind}
use Rattle.ts_mux.proofs.Streamed.{has_lists, has_pids, units_at, list_most, version_most}
use Rattle.ts_mux.proofs.Bounded.{fits_listed, slots_few, few_there}
use Rattle.ts_mux.proofs.Ended.{left_none}
use Rattle.ts_mux.proofs.Filled.{end_most, slots_more}
use Rattle.plan_law.proofs.Kept.{length-services_in}
use Rattle.stream_law.proofs.Plans.{ranges, at_most}
use Rattle.stream_law.proofs.Wholes.{version_accepted}
use Rattle.plan_spec.specs.Valid.{is_plan}
use Rattle.stream_spec.specs.Slots.{IsSlotCount}

-- how many slots the parts of the stream have
abbrev pub slots_of : (plan : PlanFields) → is_whole_plan plan ≡ true → (ℕ → ℕ → List (List ℕ)) → ℕ → ℕ
slots_of plan whole datagrams = slots_found plan datagrams whole

pub each_of : (plan : PlanFields) (whole : is_whole_plan plan ≡ true) (datagrams : ℕ → ℕ → List (List ℕ)) (version : ℕ) → version ≤ length plan.changes
    → IsPartCount plan datagrams (slots_of plan whole datagrams) version
each_of plan whole datagrams = counted plan datagrams whole

-- what a part is sent from, at the place of its version
pub unit_found : (units : List MadeUnits) (i version : ℕ) (made : MadeUnits) → i ≡ version → version < length units → made ≡ get_or units i made → slice_get units version ≡ Some made
unit_found units i version made same less is =
    there_is_item units version made less ∙ ap (λ (m : MadeUnits). Some m) (sym (is ∙ ap (λ (j : ℕ). get_or units j made) same))

-- What is written.
module _ (plan : PlanFields) (whole : is_whole_plan plan ≡ true) (on_pids : are_on_pids plan ≡ true) (datagrams : ℕ → ℕ → List (List ℕ)) (old new : Option (List ℕ)) where
  abbrev all : List (List ℕ)
  all = flat_map (pieces plan datagrams (slots_of plan whole datagrams)) (versions plan)

  stream : IsStream plan datagrams all
  stream = is_stream plan datagrams whole on_pids

  pub writes_some : {E : Type 0} (e : E) → (m : ℕ) × Appends old new (take m (joined all)) → WritesRecords plan datagrams (Err e) old new
  writes_some e some = record {
    records = all;
    stream = stream;
    written = some;
    packets = tt;
  }

  pub writes_all : {E : Type 0} (slot : ℕ) → Appends old new (joined all) → slot ≡ length all → WritesRecords {E = E} plan datagrams (Ok slot) old new
  writes_all slot put count = record {
    records = all;
    stream = stream;
    written = put;
    packets = count;
  }

-- at the end of a part nothing is left
pub all_out : (plan : PlanFields) (whole : is_whole_plan plan ≡ true) (part : PartFields) (fills : Bool) (least : ℕ) → IsSlotCount (slot_in part) least → (slot : ℕ) (serving : Serving) (signals : IntPackets)
    → StandBefore plan part (slots_with fills part.plan.cycle least) slot serving signals → left_in serving ≡ 0
all_out plan whole part fills least count slot serving signals stand =
    left_none part (part_accepted plan whole part stand.of_plan) stand.of_plan.fits (slots_with fills part.plan.cycle least) serving stand.services least count (slots_more plan whole part stand.of_plan fills least)

-- The parts.
module _ (plan : Plan) (lists : List (List (List (List ℕ)))) (units : List MadeUnits) (are : AreUnits (plan_fields plan) lists units) where
  abbrev fields : PlanFields
  fields = plan_fields plan

  -- the section of the INT of a version
  module _ (version : ℕ) (within : version ≤ length (plan_fields plan).changes) (made : MadeUnits) (is : slice_get units version ≡ Some made) where
    pub made_is : AreUnitsOf fields version (frames_before fields lists version) (get_or lists version []) made
    made_is = are.each version made is

    pub section_there : (int : IntFields) → fields.table ≡ Some int → 0 < length made.section
    section_there int table = section_some (plan_in fields version) int made.section (made_is.section_is int table)

  module _ (datagrams : ℕ → ℕ → List (List ℕ)) (listed : AreDatagrams (plan_fields plan) datagrams lists) where
    abbrev slots : ℕ → ℕ
    slots = slots_of fields plan.whole datagrams

    abbrev part : ℕ → PartFields
    part version = part_of fields datagrams slots version

    -- the services
    pub first_begins : (serving : Serving) → ((p : PartFields) → HasLists fields 0 lists (λ k. 0) 0 p → Begins p serving) → Begins (part 0) serving
    first_begins serving begun = begun (part 0) (has_lists fields datagrams lists listed slots 0 0 (λ k. 0) (omega arith) refl (λ k known. refl))

    -- bursts fit their windows
    pub fits_all : Fits fields datagrams
    fits_all = fits_listed fields plan.whole lists datagrams listed (λ version within. (units_at fields lists units are version within).2.lists_are.taken)

    pub next_begins : (on_pids : are_on_pids fields ≡ true) (before version slot : ℕ) → version ≡ before + 1 → version ≤ length fields.changes → slot ≡ sum_by slots (earlier version) → (behind : List ℕ)
        → ((k : ℕ) → k < length fields.services → slice_index behind k ≡ ((part before).packets_before k + length (slice_index_or (service_packets (part before)) k [])) % 16)
        → (serving : Serving) → ((p : PartFields) → HasLists fields version lists (counter_at fields version behind) slot p → Begins p serving) → Begins (part version) serving
    next_begins on_pids before version slot next within slot_is behind behind_is serving begun =
        begun (part version) (has_lists fields datagrams lists listed slots version slot (counter_at fields version behind) within slot_is
        (λ k known. subst (λ (v : ℕ). counter_at fields v behind k ≡ (part v).packets_before k % 16) (sym next)
        (counter_is fields plan.whole datagrams slots k known (has_pids plan on_pids k known) before (omega (arith, within, next)) behind (behind_is k known))))

    -- the slots of a part are few
    module _ (few : datagram_count lists < 2 ^ 32) (version : ℕ) (within : version ≤ length (plan_fields plan).changes) (made : MadeUnits) (is : slice_get units version ≡ Some made)
        (serving : Serving) (begins : Begins (part version) serving) (turns : packet_total serving.turns ≤ 2 ^ 54) where
      accepted : is_plan (part version).plan ≡ true
      accepted = version_accepted fields plan.whole version within

      few_table : table_packets (plan_in fields version) ≤ 23
      few_table = by_table fields.table refl
        where
          by_table : (table : Option IntFields) → fields.table ≡ table → table_packets (plan_in fields version) ≤ 23
          by_table None e = omega (arith, none_without (plan_in fields version) e)
          by_table (Some int) e =
              few_packets (plan_in fields version) int e
              (omega (arith, (are.each version made is).short, ap (λ (bytes : List ℕ). length bytes) ((are.each version made is).section_is int e)))

      few_list : (k : ℕ) → k < length (plan_in fields version).services → length (datagrams version k) < 2 ^ 32
      few_list k less =
          omega (
            arith,
            few,
            list_most (get_or lists version []) k (datagrams version k) (listed.each version k within (omega (arith, less, length-services_in fields version))),
            version_most lists version,
          )

      pub few_in : (first : ℕ) → first ≤ 31 * 400000000000000000 → IsFew (part version) first
      few_in first le = few_there (part version) accepted serving begins turns few_list few_table first le

      pub few_more : (fills : Bool) (least : ℕ) → IsSlotCount (slot_in (part version)) least → slots_with fills (part version).plan.cycle least ≤ 400000000000000000
      few_more fills least count = by_fill fills
        where
          most : least ≤ 320000000000000000
          most = slots_few (part version) accepted serving begins turns few_list few_table least count

          by_fill : (b : Bool) → slots_with b (part version).plan.cycle least ≤ 400000000000000000
          by_fill true =
              omega (
                arith,
                most,
                end_most (part version).plan.cycle (cycle_some (part version).plan accepted) least,
                at_most 100 1000000 (part version).plan.cycle (ranges (part version).plan accepted).cycle,
              )
          by_fill false = omega (arith, most)

    -- the INT
    module _ (last : ℕ) (last_is : IsLastOf (plan_fields plan) datagrams last) where
      pub it_is : are_on_pids fields ≡ true → (version : ℕ) → version ≤ last → IsPartOf fields (part version)
      it_is on_pids version le = part_is fields datagrams slots plan.whole (each_of fields plan.whole datagrams) last last_is fits_all version le

      pub table_begins : are_on_pids fields ≡ true → (version : ℕ) (le : version ≤ last) (made : MadeUnits) → slice_get units version ≡ Some made → (counter : ℕ) (signals : IntPackets)
          → ((int : IntFields) → fields.table ≡ Some int → counter ≡ (part version).table_before % 16)
          → ((p : PartFields) → IsPartOf fields p → ((int : IntFields) → p.plan.table ≡ Some int → counter ≡ p.table_before % 16)
          → ((int : IntFields) → p.plan.table ≡ Some int → made.section ≡ table_bytes (table_of p.plan int)) → IsTableAt p 0 signals)
          → IsTableAt (part version) 0 signals
      table_begins on_pids version le made is counter signals counter_so at =
          at (part version) (it_is on_pids version le) counter_so (λ int table. (are.each version made is).section_is int table)

      pub next_counter : (before version : ℕ) → version ≡ before + 1 → version ≤ last → (counter : ℕ)
          → counter ≡ ((part before).table_before + (slots before / fields.cycle * table_packets (plan_in fields before) + min (slots before % fields.cycle) (table_packets (plan_in fields before)))) % 16
          → counter ≡ (part version).table_before % 16
      next_counter before version next le counter is =
          counter_behind fields datagrams slots plan.whole (each_of fields plan.whole datagrams) last last_is before counter (omega (arith, next, le)) is
          ∙ ap (λ (v : ℕ). (part v).table_before % 16) (sym next)

      -- all stands before the first slot of a part
      pub stands : are_on_pids fields ≡ true → (version : ℕ) (le : version ≤ last) (made : MadeUnits) → slice_get units version ≡ Some made → (counter slot : ℕ) (section : List ℕ) (signals : IntPackets) (serving : Serving)
          → section ≡ made.section → ((int : IntFields) → fields.table ≡ Some int → counter ≡ (part version).table_before % 16)
          → ((p : PartFields) → IsPartOf fields p → ((int : IntFields) → p.plan.table ≡ Some int → counter ≡ p.table_before % 16)
          → ((int : IntFields) → p.plan.table ≡ Some int → section ≡ table_bytes (table_of p.plan int)) → IsTableAt p 0 signals)
          → slot ≡ sum_by slots (earlier version) → Begins (part version) serving → StandBefore fields (part version) 0 slot serving signals
      stands on_pids version le made is counter slot section signals serving section_is counter_so at slot_is begins =
          part_begins fields datagrams slots plan.whole (each_of fields plan.whole datagrams) last last_is fits_all version slot serving signals le slot_is begins
          (table_begins on_pids version le made is counter signals counter_so (λ p of_plan counted sections. at p of_plan counted (λ int table. section_is ∙ sections int table)))

      -- and before that of the next
      module _ (on_pids : are_on_pids (plan_fields plan) ≡ true) (before version : ℕ) (next : version ≡ before + 1) (le : version ≤ last) (slot : ℕ) (old new : Option (List ℕ)) (back : List ℕ)
          (old_serving serving : Serving) (old_signals signals : IntPackets)
          (behind : IsBehind (plan_fields plan) datagrams (slots_of (plan_fields plan) plan.whole datagrams) before slot old new back old_serving old_signals)
          (begun : (p : PartFields) → HasLists (plan_fields plan) version lists (counter_at (plan_fields plan) version old_serving.behind) slot p → Begins p serving) where
        pub next_handed : HasHanded fields datagrams slots version slot old new back
        next_handed = subst (λ (v : ℕ). HasHanded fields datagrams slots v slot old new back) (sym next) behind.handed

        pub next_begun : Begins (part version) serving
        next_begun = next_begins on_pids before version slot next (omega (arith, le, last_is.within)) next_handed.slot_is old_serving.behind behind.behind serving begun

        pub next_stands : (made : MadeUnits) → slice_get units version ≡ Some made → (counter : ℕ) (section : List ℕ) → section ≡ made.section
            → ((p : PartFields) (place : ℕ) (int : IntFields) → p.plan.table ≡ Some int → IsTableAt p place old_signals
            → counter ≡ (p.table_before + (place / p.plan.cycle * table_packets p.plan + min (place % p.plan.cycle) (table_packets p.plan))) % 16)
            → ((p : PartFields) → IsPartOf fields p → ((int : IntFields) → p.plan.table ≡ Some int → counter ≡ p.table_before % 16)
            → ((int : IntFields) → p.plan.table ≡ Some int → section ≡ table_bytes (table_of p.plan int)) → IsTableAt p 0 signals)
            → StandBefore fields (part version) 0 slot serving signals
        next_stands made is counter section section_is read at =
            stands on_pids version le made is counter slot section signals serving section_is
            (λ int table. next_counter before version next le counter (read (part before) (slots before) int table behind.stand.table)) at next_handed.slot_is next_begun
