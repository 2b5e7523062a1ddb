use Rattle.std.proofs.Common.{◌≡◌, ◌∙◌, ℕ, ◌+◌, ◌-◌, ◌*◌, ◌<◌, ◌≤◌, zero, suc, ltb, List, [], ◌∷◌, length, get_or, refl, ap, arith, subst, Option, Some}
use Rattle.std.specs.Prelude.{slice_get, sum_by}
use Rattle.std.proofs.KnownBytes.{Appends-nil}
use Rattle.std.proofs.lemmas.Result.{err_from_is_err_and}
use Rattle.std.proofs.lemmas.List.{length-map}
use Rattle.ipe_io.proofs.Told.{stays-trans}
use Rattle.plan_spec.specs.Plan.{PlanFields}
use Rattle.plan.specs.Parts.{change_seen, service_seen}
use Rattle.plan.specs.PlanView.{plan_fields}
use Rattle.plan.specs.declared.plan.Plan.{Plan}
use Rattle.stream_spec.specs.Stream.{part_of}
use Rattle.stream_law.proofs.Plans.{few_services}
use Rattle.stream_law.proofs.Wholes.{few_changes}
use Rattle.ts_mux.specs.PartUnits.{MadeUnits}
use Rattle.ts_mux.specs.Services.{listed, left_in}
use Rattle.ts_mux.specs.Sending.{AreDatagrams, AreUnits}
use Rattle.ts_mux.proofs.Streamed.{are_listed, services_size, is_last_of}
use Rattle.ts_mux.proofs.Parted.{IsLastOf, IsBehind, HasHanded, nothing_handed, services_stay, sliced_stay, windows_stay, part_behind, part_broken, all_put, some_put, count_is}
use Rattle.ts_mux.proofs.Staged.{slots_of, each_of, unit_found, writes_some, writes_all, section_there, few_in, few_more, all_out, first_begins, stands, next_begun, next_handed, next_stands}
use Rattle.ts_mux.proofs.sending.put_parts.Goals as goal

-- a slot of the last part at most
few_slots : (slot version : ℕ) → slot ≤ version * 400000000000000000 → version ≤ 31 → slot ≤ 31 * 400000000000000000
few_slots slot version le le2 = omega (arith, le, le2)

-- The numbers of versions and services.

few_lists : (plan : Plan) (lists : List (List (List (List ℕ)))) → length lists ≡ length plan.changes + 1 → length lists ≤ 32
few_lists plan lists is = omega (arith, is, few_changes (plan_fields plan) plan.whole, length-map plan.changes change_seen)

pub last_version-last-requires-clause-versions : goal.last_version-last-requires-clause-versions
last_version-last-requires-clause-versions g c =
    let size : length c.args.lists.now ≡ length c.args.plan.now.changes + 1 = omega (arith, c.requires.units.versions, length-map c.args.plan.now.changes change_seen) in
    (omega (arith, size), few_lists c.args.plan.now c.args.lists.now size)

pub last_version-last-requires-clause-services : goal.last_version-last-requires-clause-services
last_version-last-requires-clause-services g c = λ k d less.
    let plan : PlanFields = plan_fields c.args.plan.now in
    omega (
      arith,
      few_services plan c.args.plan.now.valid,
      any_default c.args.lists.now k d less,
      services_size plan c.args.lists.now c.args.units.now c.requires.units k (omega (arith, less, c.requires.units.versions)),
    )
  where
    any_default : (xs : List (List (List (List ℕ)))) (i : ℕ) (d : List (List (List ℕ))) → i < length xs → length (get_or xs i d) ≡ length (get_or xs i [])
    any_default [] i d less = absurd (omega (arith, less))
    any_default (x ∷ xs) zero d less = refl
    any_default (x ∷ xs) (suc i) d less = any_default xs i d (omega (arith, less))

-- The first part.

last_there : (plan : Plan) (lists : List (List (List (List ℕ)))) (units : List MadeUnits) → AreUnits (plan_fields plan) lists units → (last : ℕ) → last < length lists
    → ((version : ℕ) → last < version → version < length lists → sum_by (λ (list : List (List ℕ)). length list) (get_or lists version []) ≡ 0)
    → (0 < last → 0 < sum_by (λ (list : List (List ℕ)). length list) (get_or lists last [])) → (datagrams : ℕ → ℕ → List (List ℕ)) → AreDatagrams (plan_fields plan) datagrams lists → IsLastOf (plan_fields plan) datagrams last
last_there plan lists units are last within none some datagrams is =
    is_last_of (plan_fields plan) datagrams lists is last within none some (services_size (plan_fields plan) lists units are last (omega (arith, within, are.versions)))

first_unit : (lists : List (List (List (List ℕ)))) (units : List MadeUnits) (made : MadeUnits) → length units ≡ length lists → 0 < length lists → made ≡ get_or units 0 made → slice_get units 0 ≡ Some made
first_unit lists units made size some is = unit_found units 0 0 made refl (omega (arith, size, some)) is

pub new-table-requires-clause-section : goal.new-table-requires-clause-section
new-table-requires-clause-section g c = λ int table.
    let found = first_unit c.args.lists.now c.args.units.now c.index-units-0.result c.requires.units.size (omega (arith, c.last_version-last.ensures.within)) c.index-units-0.is in
    omega (arith, ap (λ (l : List ℕ). length l) c.section.ensures.read, section_there c.args.plan.now c.args.lists.now c.args.units.now c.requires.units 0 (omega arith) c.index-units-0.result found int table)

pub put_slots-requires-clause-stand : goal.put_slots-requires-clause-stand
put_slots-requires-clause-stand g c =
    let plan : Plan = c.args.plan.now in
    let lists = c.args.lists.now in
    let units = c.args.units.now in
    let datagrams : ℕ → ℕ → List (List ℕ) = listed lists in
    let are = are_listed (plan_fields plan) lists units c.requires.units in
    let last_is = last_there plan lists units c.requires.units c.last_version-last.result c.last_version-last.ensures.within c.last_version-last.ensures.none c.last_version-last.ensures.some datagrams are in
    let found = first_unit lists units c.index-units-0.result c.requires.units.size (omega (arith, c.last_version-last.ensures.within)) c.index-units-0.is in (
      part_of (plan_fields plan) datagrams (slots_of (plan_fields plan) plan.whole datagrams) 0,
      stands plan lists units c.requires.units datagrams are c.last_version-last.result last_is c.requires.on_pids 0 (omega arith) c.index-units-0.result found 0 0 c.section.result.now c.new-table.result c.args.services.now
          c.section.ensures.read (λ int table. refl) c.new-table.ensures.at refl (first_begins plan lists units c.requires.units datagrams are c.args.services.now c.requires.begun),
      few_in plan lists units c.requires.units datagrams are c.requires.few 0 (omega arith) c.index-units-0.result found c.args.services.now (first_begins plan lists units c.requires.units datagrams are c.args.services.now c.requires.begun)
          c.requires.total 0 (omega arith),
    )

pub returns-in_err-slot-clause-written : goal.returns-in_err-slot-clause-written
returns-in_err-slot-clause-written g c = λ datagrams are.
    let plan : Plan = c.args.plan.now in
    let fields : PlanFields = plan_fields plan in
    let lists = c.args.lists.now in
    let units = c.args.units.now in
    let last : ℕ = c.last_version-last.result in
    let slots : ℕ → ℕ = slots_of fields plan.whole datagrams in
    let old : Option (List ℕ) = (g.K.Sink.told c.args.sink.now).held in
    let new : Option (List ℕ) = (g.K.Sink.told c.put_slots.new.sink).held in
    let last_is = last_there plan lists units c.requires.units last c.last_version-last.ensures.within c.last_version-last.ensures.none c.last_version-last.ensures.some datagrams are in
    let found = first_unit lists units c.index-units-0.result c.requires.units.size (omega (arith, c.last_version-last.ensures.within)) c.index-units-0.is in
    let stand = stands plan lists units c.requires.units datagrams are last last_is c.requires.on_pids 0 (omega arith) c.index-units-0.result found 0 0 c.section.result.now c.new-table.result c.args.services.now
    c.section.ensures.read (λ int table. refl) c.new-table.ensures.at refl (first_begins plan lists units c.requires.units datagrams are c.args.services.now c.requires.begun) in
    let wrote = c.in_err-slot.ensures.written (part_of fields datagrams slots 0) stand in
    let failed = err_from_is_err_and c.from_residual.result c.from_residual.ensures.1 in
    rw failed.1 (writes_some fields plan.whole c.requires.on_pids datagrams old new failed.0
    (part_broken fields datagrams slots plan.whole (each_of fields plan.whole datagrams) last last_is 0 0 (ltb 0 last) old old new c.args.batch.now [] (omega arith) refl wrote.least wrote.count
    (nothing_handed fields datagrams slots 0 old c.args.batch.now refl c.requires.empty (Appends-nil old)) wrote.passes))

pub overflow_add-version-end : goal.overflow_add-version-end
overflow_add-version-end g c =
    omega (arith, c.last_version-last.ensures.within, few_lists c.args.plan.now c.args.lists.now (omega (arith, c.requires.units.versions, length-map c.args.plan.now.changes change_seen)))

pub loop-version-init : goal.loop-version-init
loop-version-init g c = record {
  behind = λ datagrams are.
      let plan : Plan = c.args.plan.now in
      let fields : PlanFields = plan_fields plan in
      let lists = c.args.lists.now in
      let units = c.args.units.now in
      let last : ℕ = c.last_version-last.result in
      let slots : ℕ → ℕ = slots_of fields plan.whole datagrams in
      let old : Option (List ℕ) = (g.K.Sink.told c.args.sink.now).held in
      let new : Option (List ℕ) = (g.K.Sink.told c.put_slots.new.sink).held in
      let last_is = last_there plan lists units c.requires.units last c.last_version-last.ensures.within c.last_version-last.ensures.none c.last_version-last.ensures.some datagrams are in
      let found = first_unit lists units c.index-units-0.result c.requires.units.size (omega (arith, c.last_version-last.ensures.within)) c.index-units-0.is in
      let begins = first_begins plan lists units c.requires.units datagrams are c.args.services.now c.requires.begun in
      let stand = stands plan lists units c.requires.units datagrams are last last_is c.requires.on_pids 0 (omega arith) c.index-units-0.result found 0 0 c.section.result.now c.new-table.result c.args.services.now
      c.section.ensures.read (λ int table. refl) c.new-table.ensures.at refl begins in
      let wrote = c.in_ok-slot.ensures.written (part_of fields datagrams slots 0) stand in
      part_behind fields datagrams slots plan.whole (each_of fields plan.whole datagrams) last last_is 0 0 (ltb 0 last) old old new c.args.batch.now c.put_slots.new.batch (omega arith) refl wrote.least wrote.count
      (nothing_handed fields datagrams slots 0 old c.args.batch.now refl c.requires.empty (Appends-nil old)) c.in_ok-slot.slot c.args.services.now c.put_slots.new.services c.put_slots.new.table
      wrote.passes wrote.stand begins c.in_ok-slot.ensures.behind;
  few =
      let plan : Plan = c.args.plan.now in
      let lists = c.args.lists.now in
      let units = c.args.units.now in
      let datagrams : ℕ → ℕ → List (List ℕ) = listed lists in
      let are = are_listed (plan_fields plan) lists units c.requires.units in
      let last_is = last_there plan lists units c.requires.units c.last_version-last.result c.last_version-last.ensures.within c.last_version-last.ensures.none c.last_version-last.ensures.some datagrams are in
      let found = first_unit lists units c.index-units-0.result c.requires.units.size (omega (arith, c.last_version-last.ensures.within)) c.index-units-0.is in
      let begins = first_begins plan lists units c.requires.units datagrams are c.args.services.now c.requires.begun in
      let stand = stands plan lists units c.requires.units datagrams are c.last_version-last.result last_is c.requires.on_pids 0 (omega arith) c.index-units-0.result found 0 0 c.section.result.now c.new-table.result c.args.services.now
      c.section.ensures.read (λ int table. refl) c.new-table.ensures.at refl begins in
      let wrote = c.in_ok-slot.ensures.written (part_of (plan_fields plan) datagrams (slots_of (plan_fields plan) plan.whole datagrams) 0) stand in
      omega (
        arith,
        wrote.stand.place,
        stand.place,
        few_more plan lists units c.requires.units datagrams are c.requires.few 0 (omega arith) c.index-units-0.result found c.args.services.now begins c.requires.total (ltb 0 c.last_version-last.result) wrote.least wrote.count,
      );
  out =
      let plan : Plan = c.args.plan.now in
      let lists = c.args.lists.now in
      let units = c.args.units.now in
      let datagrams : ℕ → ℕ → List (List ℕ) = listed lists in
      let are = are_listed (plan_fields plan) lists units c.requires.units in
      let last_is = last_there plan lists units c.requires.units c.last_version-last.result c.last_version-last.ensures.within c.last_version-last.ensures.none c.last_version-last.ensures.some datagrams are in
      let found = first_unit lists units c.index-units-0.result c.requires.units.size (omega (arith, c.last_version-last.ensures.within)) c.index-units-0.is in
      let begins = first_begins plan lists units c.requires.units datagrams are c.args.services.now c.requires.begun in
      let stand = stands plan lists units c.requires.units datagrams are c.last_version-last.result last_is c.requires.on_pids 0 (omega arith) c.index-units-0.result found 0 0 c.section.result.now c.new-table.result c.args.services.now
      c.section.ensures.read (λ int table. refl) c.new-table.ensures.at refl begins in
      let wrote = c.in_ok-slot.ensures.written (part_of (plan_fields plan) datagrams (slots_of (plan_fields plan) plan.whole datagrams) 0) stand in
      all_out (plan_fields plan) plan.whole (part_of (plan_fields plan) datagrams (slots_of (plan_fields plan) plan.whole datagrams) 0) (ltb 0 c.last_version-last.result) wrote.least wrote.count
      c.in_ok-slot.slot c.put_slots.new.services c.put_slots.new.table wrote.stand;
  room = c.in_ok-slot.ensures.room;
  flushed = c.in_ok-slot.ensures.flushed;
  same = c.in_ok-slot.ensures.cause.kept;
}

-- The others.

pub begin-requires-clause-lists : goal.begin-requires-clause-lists
begin-requires-clause-lists g c =
    (c.requires.units.each c.loop-version.version c.index-units-from.result
    (unit_found c.args.units.now c.from.result c.loop-version.version c.index-units-from.result c.from.ensures
    (omega (arith, c.loop-version-test.true, c.last_version-last.ensures.within, c.requires.units.size)) c.index-units-from.is)).lists_are

pub begin-requires-clause-all : goal.begin-requires-clause-all
begin-requires-clause-all g c = record {
  versions = c.requires.units.versions;
  services = λ version within. services_size (plan_fields c.args.plan.now) c.args.lists.now c.args.units.now c.requires.units version within;
}

pub begin-requires-clause-shapes : goal.begin-requires-clause-shapes
begin-requires-clause-shapes g c =
    let plan : Plan = c.args.plan.now in
    let datagrams : ℕ → ℕ → List (List ℕ) = listed c.args.lists.now in
    let slots : ℕ → ℕ = slots_of (plan_fields plan) plan.whole datagrams in
    let before = c.loop-version.invariant.behind datagrams (are_listed (plan_fields plan) c.args.lists.now c.args.units.now c.requires.units) in
    sliced_stay (plan_fields plan) datagrams slots (c.loop-version.version - 1) (slots (c.loop-version.version - 1)) c.loop-version.slot c.loop-version.services c.loop-version.table before.stand

pub begin-requires-clause-windows : goal.begin-requires-clause-windows
begin-requires-clause-windows g c =
    let plan : Plan = c.args.plan.now in
    let datagrams : ℕ → ℕ → List (List ℕ) = listed c.args.lists.now in
    let slots : ℕ → ℕ = slots_of (plan_fields plan) plan.whole datagrams in
    let before = c.loop-version.invariant.behind datagrams (are_listed (plan_fields plan) c.args.lists.now c.args.units.now c.requires.units) in
    windows_stay (plan_fields plan) datagrams slots (c.loop-version.version - 1) (slots (c.loop-version.version - 1)) c.loop-version.slot c.loop-version.services c.loop-version.table before.stand

pub begin-requires-clause-size : goal.begin-requires-clause-size
begin-requires-clause-size g c =
    let plan : Plan = c.args.plan.now in
    let datagrams : ℕ → ℕ → List (List ℕ) = listed c.args.lists.now in
    let slots : ℕ → ℕ = slots_of (plan_fields plan) plan.whole datagrams in
    let before = c.loop-version.invariant.behind datagrams (are_listed (plan_fields plan) c.args.lists.now c.args.units.now c.requires.units) in
    services_stay (plan_fields plan) datagrams slots (c.loop-version.version - 1) (slots (c.loop-version.version - 1)) c.loop-version.slot c.loop-version.services c.loop-version.table before.stand
    ∙ length-map plan.services service_seen

pub new-table-requires-in-loop-version-clause-section : goal.new-table-requires-in-loop-version-clause-section
new-table-requires-in-loop-version-clause-section g c = λ int table.
    let less : c.loop-version.version < length c.args.units.now = omega (arith, c.loop-version-test.true, c.last_version-last.ensures.within, c.requires.units.size) in
    omega (
      arith,
      ap (λ (l : List ℕ). length l) c.section-in-loop-version.ensures.read,
      section_there c.args.plan.now c.args.lists.now c.args.units.now c.requires.units c.loop-version.version (omega (arith, less, c.requires.units.size, c.requires.units.versions)) c.index-units-from.result
          (unit_found c.args.units.now c.from.result c.loop-version.version c.index-units-from.result c.from.ensures less c.index-units-from.is) int table,
    )

pub put_slots-requires-in-loop-version-clause-stand : goal.put_slots-requires-in-loop-version-clause-stand
put_slots-requires-in-loop-version-clause-stand g c =
    let plan : Plan = c.args.plan.now in
    let lists = c.args.lists.now in
    let units = c.args.units.now in
    let last : ℕ = c.last_version-last.result in
    let version : ℕ = c.loop-version.version in
    let datagrams : ℕ → ℕ → List (List ℕ) = listed lists in
    let are = are_listed (plan_fields plan) lists units c.requires.units in
    let last_is = last_there plan lists units c.requires.units last c.last_version-last.ensures.within c.last_version-last.ensures.none c.last_version-last.ensures.some datagrams are in
    let found = unit_found units c.from.result version c.index-units-from.result c.from.ensures (omega (arith, c.loop-version-test.true, c.last_version-last.ensures.within, c.requires.units.size)) c.index-units-from.is in (
      part_of (plan_fields plan) datagrams (slots_of (plan_fields plan) plan.whole datagrams) version,
      next_stands plan lists units c.requires.units datagrams are last last_is c.requires.on_pids (version - 1) version (omega (arith, c.loop-version.auto.version)) (omega (arith, c.loop-version-test.true)) c.loop-version.slot
          (g.K.Sink.told c.args.sink.now).held (g.K.Sink.told c.loop-version.sink).held c.loop-version.batch c.loop-version.services c.begin.new.self c.loop-version.table c.new-table-in-loop-version.result
          (c.loop-version.invariant.behind datagrams are) c.begin.ensures.begun c.index-units-from.result found c.counter.result c.section-in-loop-version.result.now c.section-in-loop-version.ensures.read
          c.counter.ensures.read c.new-table-in-loop-version.ensures.at,
      few_in plan lists units c.requires.units datagrams are c.requires.few version (omega (arith, c.loop-version-test.true, last_is.within)) c.index-units-from.result found c.begin.new.self
          (next_begun plan lists units c.requires.units datagrams are last last_is c.requires.on_pids (version - 1) version (omega (arith, c.loop-version.auto.version)) (omega (arith, c.loop-version-test.true)) c.loop-version.slot
          (g.K.Sink.told c.args.sink.now).held (g.K.Sink.told c.loop-version.sink).held c.loop-version.batch c.loop-version.services c.begin.new.self c.loop-version.table c.new-table-in-loop-version.result
          (c.loop-version.invariant.behind datagrams are) c.begin.ensures.begun)
          c.begin.ensures.most c.loop-version.slot (few_slots c.loop-version.slot version c.loop-version.invariant.few (omega (arith, c.loop-version-test.true, last_is.within, few_changes (plan_fields plan) plan.whole))),
    )

pub returns-in_err-slot-2-clause-written : goal.returns-in_err-slot-2-clause-written
returns-in_err-slot-2-clause-written g c = λ datagrams are.
    let plan : Plan = c.args.plan.now in
    let fields : PlanFields = plan_fields plan in
    let lists = c.args.lists.now in
    let units = c.args.units.now in
    let last : ℕ = c.last_version-last.result in
    let version : ℕ = c.loop-version.version in
    let slots : ℕ → ℕ = slots_of fields plan.whole datagrams in
    let old : Option (List ℕ) = (g.K.Sink.told c.args.sink.now).held in
    let mid : Option (List ℕ) = (g.K.Sink.told c.loop-version.sink).held in
    let new : Option (List ℕ) = (g.K.Sink.told c.put_slots-in-loop-version.new.sink).held in
    let last_is = last_there plan lists units c.requires.units last c.last_version-last.ensures.within c.last_version-last.ensures.none c.last_version-last.ensures.some datagrams are in
    let found = unit_found units c.from.result version c.index-units-from.result c.from.ensures (omega (arith, c.loop-version-test.true, c.last_version-last.ensures.within, c.requires.units.size)) c.index-units-from.is in
    let next : version ≡ version - 1 + 1 = omega (arith, c.loop-version.auto.version) in
    let le : version ≤ last = omega (arith, c.loop-version-test.true) in
    let before = c.loop-version.invariant.behind datagrams are in
    let stand = next_stands plan lists units c.requires.units datagrams are last last_is c.requires.on_pids (version - 1) version next le c.loop-version.slot
    old mid c.loop-version.batch c.loop-version.services c.begin.new.self c.loop-version.table c.new-table-in-loop-version.result
    before c.begin.ensures.begun c.index-units-from.result found c.counter.result c.section-in-loop-version.result.now c.section-in-loop-version.ensures.read
    c.counter.ensures.read c.new-table-in-loop-version.ensures.at in
    let handed = next_handed plan lists units c.requires.units datagrams are last last_is c.requires.on_pids (version - 1) version next le c.loop-version.slot
    old mid c.loop-version.batch c.loop-version.services c.begin.new.self c.loop-version.table c.new-table-in-loop-version.result before c.begin.ensures.begun in
    let wrote = c.in_err-slot-2.ensures.written (part_of fields datagrams slots version) stand in
    let failed = err_from_is_err_and c.from_residual-in_err-slot-2.result c.from_residual-in_err-slot-2.ensures.1 in
    rw failed.1 (writes_some fields plan.whole c.requires.on_pids datagrams old new failed.0
    (part_broken fields datagrams slots plan.whole (each_of fields plan.whole datagrams) last last_is version c.loop-version.slot (ltb version last) old mid new c.loop-version.batch [] le refl wrote.least wrote.count
    handed wrote.passes))

pub loop-version-preserved : goal.loop-version-preserved
loop-version-preserved g c = record {
  behind = λ datagrams are.
      let plan : Plan = c.args.plan.now in
      let fields : PlanFields = plan_fields plan in
      let lists = c.args.lists.now in
      let units = c.args.units.now in
      let last : ℕ = c.last_version-last.result in
      let version : ℕ = c.loop-version.version in
      let slots : ℕ → ℕ = slots_of fields plan.whole datagrams in
      let old : Option (List ℕ) = (g.K.Sink.told c.args.sink.now).held in
      let mid : Option (List ℕ) = (g.K.Sink.told c.loop-version.sink).held in
      let new : Option (List ℕ) = (g.K.Sink.told c.put_slots-in-loop-version.new.sink).held in
      let last_is = last_there plan lists units c.requires.units last c.last_version-last.ensures.within c.last_version-last.ensures.none c.last_version-last.ensures.some datagrams are in
      let found = unit_found units c.from.result version c.index-units-from.result c.from.ensures (omega (arith, c.loop-version-test.true, c.last_version-last.ensures.within, c.requires.units.size)) c.index-units-from.is in
      let next : version ≡ version - 1 + 1 = omega (arith, c.loop-version.auto.version) in
      let le : version ≤ last = omega (arith, c.loop-version-test.true) in
      let before = c.loop-version.invariant.behind datagrams are in
      let stand = next_stands plan lists units c.requires.units datagrams are last last_is c.requires.on_pids (version - 1) version next le c.loop-version.slot
      old mid c.loop-version.batch c.loop-version.services c.begin.new.self c.loop-version.table c.new-table-in-loop-version.result
      before c.begin.ensures.begun c.index-units-from.result found c.counter.result c.section-in-loop-version.result.now c.section-in-loop-version.ensures.read
      c.counter.ensures.read c.new-table-in-loop-version.ensures.at in
      let handed = next_handed plan lists units c.requires.units datagrams are last last_is c.requires.on_pids (version - 1) version next le c.loop-version.slot
      old mid c.loop-version.batch c.loop-version.services c.begin.new.self c.loop-version.table c.new-table-in-loop-version.result before c.begin.ensures.begun in
      let begins = next_begun plan lists units c.requires.units datagrams are last last_is c.requires.on_pids (version - 1) version next le c.loop-version.slot
      old mid c.loop-version.batch c.loop-version.services c.begin.new.self c.loop-version.table c.new-table-in-loop-version.result before c.begin.ensures.begun in
      let wrote = c.in_ok-slot-2.ensures.written (part_of fields datagrams slots version) stand in
      let same : version ≡ version + 1 - 1 = omega arith in
      subst (λ (v : ℕ). IsBehind fields datagrams slots v c.in_ok-slot-2.slot old new c.put_slots-in-loop-version.new.batch c.put_slots-in-loop-version.new.services c.put_slots-in-loop-version.new.table) same
      (part_behind fields datagrams slots plan.whole (each_of fields plan.whole datagrams) last last_is version c.loop-version.slot (ltb version last) old mid new c.loop-version.batch c.put_slots-in-loop-version.new.batch le refl
      wrote.least wrote.count handed c.in_ok-slot-2.slot c.begin.new.self c.put_slots-in-loop-version.new.services c.put_slots-in-loop-version.new.table wrote.passes wrote.stand begins c.in_ok-slot-2.ensures.behind);
  few = omega (arith, (wrote_next datagrams_here are_here).0, c.loop-version.invariant.few);
  out = (wrote_next datagrams_here are_here).1;
  room = c.in_ok-slot-2.ensures.room;
  flushed = stays-trans (g.K.Sink.told c.args.sink.now).flushed (g.K.Sink.told c.loop-version.sink).flushed (g.K.Sink.told c.put_slots-in-loop-version.new.sink).flushed c.loop-version.invariant.flushed c.in_ok-slot-2.ensures.flushed;
  same = c.in_ok-slot-2.ensures.cause.kept ∙ c.loop-version.invariant.same;
}
  where
    datagrams_here : ℕ → ℕ → List (List ℕ)
    datagrams_here = listed c.args.lists.now

    are_here : AreDatagrams (plan_fields c.args.plan.now) (listed c.args.lists.now) c.args.lists.now
    are_here = are_listed (plan_fields c.args.plan.now) c.args.lists.now c.args.units.now c.requires.units

    -- the slot is not much later, and all packets are out
    wrote_next : (datagrams : ℕ → ℕ → List (List ℕ)) → AreDatagrams (plan_fields c.args.plan.now) datagrams c.args.lists.now
        → (c.in_ok-slot-2.slot ≤ c.loop-version.slot + 400000000000000000) × (left_in c.put_slots-in-loop-version.new.services ≡ 0)
    wrote_next datagrams are =
        let plan : Plan = c.args.plan.now in
        let fields : PlanFields = plan_fields plan in
        let lists = c.args.lists.now in
        let units = c.args.units.now in
        let last : ℕ = c.last_version-last.result in
        let version : ℕ = c.loop-version.version in
        let slots : ℕ → ℕ = slots_of fields plan.whole datagrams in
        let old : Option (List ℕ) = (g.K.Sink.told c.args.sink.now).held in
        let mid : Option (List ℕ) = (g.K.Sink.told c.loop-version.sink).held in
        let last_is = last_there plan lists units c.requires.units last c.last_version-last.ensures.within c.last_version-last.ensures.none c.last_version-last.ensures.some datagrams are in
        let found = unit_found units c.from.result version c.index-units-from.result c.from.ensures (omega (arith, c.loop-version-test.true, c.last_version-last.ensures.within, c.requires.units.size)) c.index-units-from.is in
        let next : version ≡ version - 1 + 1 = omega (arith, c.loop-version.auto.version) in
        let le : version ≤ last = omega (arith, c.loop-version-test.true) in
        let before = c.loop-version.invariant.behind datagrams are in
        let stand = next_stands plan lists units c.requires.units datagrams are last last_is c.requires.on_pids (version - 1) version next le c.loop-version.slot
        old mid c.loop-version.batch c.loop-version.services c.begin.new.self c.loop-version.table c.new-table-in-loop-version.result
        before c.begin.ensures.begun c.index-units-from.result found c.counter.result c.section-in-loop-version.result.now c.section-in-loop-version.ensures.read
        c.counter.ensures.read c.new-table-in-loop-version.ensures.at in
        let begins = next_begun plan lists units c.requires.units datagrams are last last_is c.requires.on_pids (version - 1) version next le c.loop-version.slot
        old mid c.loop-version.batch c.loop-version.services c.begin.new.self c.loop-version.table c.new-table-in-loop-version.result before c.begin.ensures.begun in
        let wrote = c.in_ok-slot-2.ensures.written (part_of fields datagrams slots version) stand in (
          omega (
            arith,
            wrote.stand.place,
            stand.place,
            few_more plan lists units c.requires.units datagrams are c.requires.few version (omega (arith, le, last_is.within)) c.index-units-from.result found c.begin.new.self begins c.begin.ensures.most
                (ltb version last) wrote.least wrote.count,
          ),
          all_out fields plan.whole (part_of fields datagrams slots version) (ltb version last) wrote.least wrote.count c.in_ok-slot-2.slot c.put_slots-in-loop-version.new.services c.put_slots-in-loop-version.new.table
              wrote.stand,
        )

-- All parts were written.

pub returns-in_err-put-clause-written : goal.returns-in_err-put-clause-written
returns-in_err-put-clause-written g c = λ datagrams are.
    let plan : Plan = c.args.plan.now in
    let fields : PlanFields = plan_fields plan in
    let lists = c.args.lists.now in
    let units = c.args.units.now in
    let last : ℕ = c.last_version-last.result in
    let slots : ℕ → ℕ = slots_of fields plan.whole datagrams in
    let old : Option (List ℕ) = (g.K.Sink.told c.args.sink.now).held in
    let mid : Option (List ℕ) = (g.K.Sink.told c.loop-version.sink).held in
    let new : Option (List ℕ) = (g.K.Sink.told c.put.new.sink).held in
    let last_is = last_there plan lists units c.requires.units last c.last_version-last.ensures.within c.last_version-last.ensures.none c.last_version-last.ensures.some datagrams are in
    let end : c.loop-version.version - 1 + 1 ≡ last + 1 = omega (arith, c.loop-version-test.false, c.loop-version.auto.version, c.loop-version.auto.version-end) in
    let handed = subst (λ (v : ℕ). HasHanded fields datagrams slots v c.loop-version.slot old mid c.loop-version.batch) end (c.loop-version.invariant.behind datagrams are).handed in
    let failed = err_from_is_err_and c.from_residual-in_err-put.result c.from_residual-in_err-put.ensures.1 in
    rw failed.1 (writes_some fields plan.whole c.requires.on_pids datagrams old new failed.0
    (some_put fields datagrams slots plan.whole (each_of fields plan.whole datagrams) last last_is c.loop-version.slot old mid new c.loop-version.batch handed c.in_err-put.ensures.written))

pub returns-clause-written : goal.returns-clause-written
returns-clause-written g c = λ datagrams are.
    let plan : Plan = c.args.plan.now in
    let fields : PlanFields = plan_fields plan in
    let lists = c.args.lists.now in
    let units = c.args.units.now in
    let last : ℕ = c.last_version-last.result in
    let slots : ℕ → ℕ = slots_of fields plan.whole datagrams in
    let old : Option (List ℕ) = (g.K.Sink.told c.args.sink.now).held in
    let mid : Option (List ℕ) = (g.K.Sink.told c.loop-version.sink).held in
    let new : Option (List ℕ) = (g.K.Sink.told c.put.new.sink).held in
    let last_is = last_there plan lists units c.requires.units last c.last_version-last.ensures.within c.last_version-last.ensures.none c.last_version-last.ensures.some datagrams are in
    let end : c.loop-version.version - 1 + 1 ≡ last + 1 = omega (arith, c.loop-version-test.false, c.loop-version.auto.version, c.loop-version.auto.version-end) in
    let handed = subst (λ (v : ℕ). HasHanded fields datagrams slots v c.loop-version.slot old mid c.loop-version.batch) end (c.loop-version.invariant.behind datagrams are).handed in
    writes_all fields plan.whole c.requires.on_pids datagrams old new c.loop-version.slot
    (all_put fields datagrams slots plan.whole (each_of fields plan.whole datagrams) last last_is c.loop-version.slot old mid new c.loop-version.batch handed c.in_ok-put.ensures.written)
    (count_is fields datagrams slots plan.whole (each_of fields plan.whole datagrams) last last_is c.loop-version.slot old mid c.loop-version.batch handed)
