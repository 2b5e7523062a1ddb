-- The parts of a stream, one after another, as their records are written or held back.
use Rattle.std.proofs.Common.{◌≡◌, ◌⊎◌, inl, inr, ℕ, zero, suc, ◌+◌, ◌-◌, ◌*◌, ◌/◌, ◌%◌, ◌<◌, ◌≤◌, min, Bool, true, false, cond, not, ◌||◌, ltb, List, [], ◌∷◌, ◌++◌, length, take, drop, refl, sym, ap, ap₂, ◌∙◌, arith, append_assoc, append-nil, subst, Option, Some, None}
use Rattle.std.specs.Prelude.{sum_by, flat_map, slice_index, slice_index_or}
use Rattle.std.specs.List.{list_any, range_with_len}
use Rattle.std.specs.Io.KnownBytes.{Appends}
use Rattle.std.proofs.KnownBytes.{Appends-trans}
use Rattle.std.proofs.lemmas.Bool.{cases_lt}
use Rattle.std.proofs.lemmas.List.{length-append, length-map, take_at, take-append-drop}
use Rattle.std.proofs.lemmas.List.Sums.{sum_by-cons}
use Rattle.std.proofs.lemmas.Grind.{flat_map-append}
use Rattle.wire_spec.specs.Lists.{joined}
use Rattle.plan_spec.specs.Plan.{ServiceFields, PlanFields, kinds, SlicedFields, sliced_of}
use Rattle.plan_spec.specs.Changes.{plan_in, versions}
use Rattle.plan_spec.specs.Signalling.{table_packets}
use Rattle.plan_spec.specs.Wholes.{is_whole_plan}
use Rattle.plan_law.proofs.Kept.{length-services_in}
use Rattle.stream_spec.specs.Services.{kind_at}
use Rattle.stream_spec.specs.Units.{burst_sizes}
use Rattle.stream_spec.specs.Windows.{windows_of}
use Rattle.stream_spec.specs.Slots.{IsSlotCount}
use Rattle.stream_spec.specs.Parts.{PartFields, service_packets, slot_in, record_of_slot, records_of_slots}
use Rattle.stream_spec.specs.Stream.{earlier, part_of, has_datagrams, is_last, whole_cycles, IsPartCount}
use Rattle.stream_law.proofs.Ranges.{range_append, sum_next}
use Rattle.stream_law.proofs.Ends.{one_count}
use Rattle.stream_law.proofs.Lasts.{none_behind_last}
use Rattle.ts_mux.specs.Services.{Serving, shape_of, shapes_of, Begins}
use Rattle.ts_mux.specs.Slots.{IsPartOf, StandBefore, slots_with}
use Rattle.ts_mux.specs.IntPackets.{IsTableAt}
use Rattle.ts_mux.specs.declared.int_packets.IntPackets.{IntPackets}
use Rattle.ts_mux.proofs.Signalled.{cycle_some, same_place}
use Rattle.ts_mux.proofs.Made.{same_items, shape_kept, shapes_at, windows_kept}
use Rattle.ts_mux.proofs.Ended.{services_start, joined-append}
use Rattle.ts_mux.proofs.Filled.{is_end}
use Rattle.stream_law.proofs.Wholes.{version_accepted}

-- Tests over the versions.

pub any_there : (p : ℕ → Bool) (start n i x : ℕ) → x ≡ start + i → i < n → p x ≡ true → list_any p (range_with_len start n) ≡ true
any_there p start zero i x e less is = absurd (omega (arith, less))
any_there p start (suc n) zero x e less is =
    let here : start ≡ x = omega (arith, e) in
    first (p start) (list_any p (range_with_len (start + 1) n)) (ap p here ∙ is)
  where
    first : (a b : Bool) → a ≡ true → (a || b) ≡ true
    first true b e2 = refl
    first false b e2 = absurd (cc)
any_there p start (suc n) (suc i) x e less is = rest (p start) (list_any p (range_with_len (start + 1) n)) (any_there p (start + 1) n i x (omega (arith, e)) (omega (arith, less)) is)
  where
    rest : (a b : Bool) → b ≡ true → (a || b) ≡ true
    rest true b e2 = refl
    rest false b e2 = e2

pub none_there : (p : ℕ → Bool) (start n : ℕ) → ((x : ℕ) → start ≤ x → x < start + n → p x ≡ false) → list_any p (range_with_len start n) ≡ false
none_there p start zero each = refl
none_there p start (suc n) each =
    both (p start) (list_any p (range_with_len (start + 1) n)) (each start (omega arith) (omega arith)) (none_there p (start + 1) n (λ x le less. each x (omega (arith, le)) (omega (arith, less))))
  where
    both : (a b : Bool) → a ≡ false → b ≡ false → (a || b) ≡ false
    both true b e e2 = absurd (cc)
    both false b e e2 = e2

-- no burst is longer than its window
abbrev pub Fits : PlanFields → (ℕ → ℕ → List (List ℕ)) → Type 0
Fits plan datagrams = (version : ℕ) → version ≤ length plan.changes → (k : ℕ) (fields : SlicedFields) → sliced_of (kind_at (plan_in plan version) k) ≡ Some fields
    → (c : ℕ) → slice_index (burst_sizes (kind_at (plan_in plan version) k) (datagrams version k)) c ≤ fields.length

shapes_kept : (plan : PlanFields) (version : ℕ) → shapes_of (plan_in plan version) ≡ shapes_of plan
shapes_kept plan version =
    same_items None (shapes_of (plan_in plan version)) (shapes_of plan) size
    (λ k less.
    shapes_at (kinds (plan_in plan version)) k (omega (arith, less, size, length-map (kinds (plan_in plan version)) shape_of))
    ∙ shape_kept plan version k
    ∙ sym (shapes_at (kinds plan) k (omega (arith, less, length-map (kinds plan) shape_of))))
  where
    size : length (shapes_of (plan_in plan version)) ≡ length (shapes_of plan)
    size =
        length-map (kinds (plan_in plan version)) shape_of ∙ length-map (plan_in plan version).services (λ (s : ServiceFields). s.kind)
        ∙ length-services_in plan version ∙ sym (length-map plan.services (λ (s : ServiceFields). s.kind)) ∙ sym (length-map (kinds plan) shape_of)

-- this version is the last with datagrams, where one has some
pub record IsLastOf (plan : PlanFields) (datagrams : ℕ → ℕ → List (List ℕ)) (last : ℕ) : Type 0 where
  pub within : last ≤ length plan.changes
  pub later : (version : ℕ) → last < version → version ≤ length plan.changes → has_datagrams plan datagrams version ≡ false
  pub some : 0 < last → has_datagrams plan datagrams last ≡ true

module _ (plan : PlanFields) (datagrams : ℕ → ℕ → List (List ℕ)) (slots : ℕ → ℕ) where
  abbrev pub part : ℕ → PartFields
  part version = part_of plan datagrams slots version

  abbrev pub pieces : ℕ → List (List ℕ)
  pieces version = records_of_slots (part version) (slots version)

  -- the bytes of the parts before a version
  abbrev pub bytes_before : ℕ → List ℕ
  bytes_before version = joined (flat_map pieces (earlier version))

  pieces_next : (version : ℕ) → flat_map pieces (earlier (version + 1)) ≡ flat_map pieces (earlier version) ++ pieces version
  pieces_next version =
      ap (flat_map pieces) (range_append 0 version 1 version (omega arith)) ∙ flat_map-append pieces (range_with_len 0 version) (version ∷ [])
      ∙ ap (λ (t : List (List ℕ)). flat_map pieces (range_with_len 0 version) ++ t) (append-nil (pieces version))

  bytes_next : (version : ℕ) → bytes_before (version + 1) ≡ bytes_before version ++ joined (pieces version)
  bytes_next version = ap joined (pieces_next version) ∙ joined-append (flat_map pieces (earlier version)) (pieces version)

  -- all records are those before a version and others
  all_split : (version : ℕ) → version ≤ length plan.changes → flat_map pieces (versions plan) ≡ flat_map pieces (earlier (version + 1)) ++ flat_map pieces (range_with_len (version + 1) (length plan.changes - version))
  all_split version within =
      let count : length plan.changes + 1 ≡ version + 1 + (length plan.changes - version) = omega (arith, within) in
      ap (λ (n : ℕ). flat_map pieces (range_with_len 0 n)) count
      ∙ ap (flat_map pieces) (range_append 0 (version + 1) (length plan.changes - version) (version + 1) (omega arith))
      ∙ flat_map-append pieces (range_with_len 0 (version + 1)) (range_with_len (version + 1) (length plan.changes - version))

  -- Parts that are written.

  -- of the records before a version a front was appended, and the others are held back
  pub record HasHanded (version slot : ℕ) (old new : Option (List ℕ)) (back : List ℕ) : Type 0 where
    pub slot_is : slot ≡ sum_by slots (earlier version)
    pub front : List ℕ
    pub appended : Appends old new front
    pub bytes_are : bytes_before version ≡ front ++ back

  pub nothing_handed : (slot : ℕ) (old : Option (List ℕ)) (back : List ℕ) → slot ≡ 0 → back ≡ [] → Appends old old [] → HasHanded 0 slot old old back
  nothing_handed slot old back first empty none = record { slot_is = first; front = []; appended = none; bytes_are = sym empty }

  pub one_part_more : (version slot after : ℕ) (old mid new : Option (List ℕ)) (held back : List ℕ) → HasHanded version slot old mid held → after ≡ sum_by slots (earlier version) + slots version
      → (front : List ℕ) × Appends mid new front × (held ++ joined (pieces version) ≡ front ++ back) → HasHanded (version + 1) after old new back
  one_part_more version slot after old mid new held back handed after_is piece = record {
    slot_is = after_is ∙ sym (sum_next slots version);
    front = handed.front ++ piece.0;
    appended = Appends-trans old mid new handed.front piece.0 handed.appended piece.1;
    bytes_are = bytes_next version ∙ ap (λ (t : List ℕ). t ++ joined (pieces version)) handed.bytes_are ∙ append_assoc handed.front held (joined (pieces version))
        ∙ ap (λ (t : List ℕ). handed.front ++ t) piece.2 ∙ sym (append_assoc handed.front piece.0 back);
  }

  -- a prefix of bytes that begin as all do is a prefix of all
  prefix_of : (old mid new : Option (List ℕ)) (front some behind all : List ℕ) → all ≡ front ++ (some ++ behind) → Appends old mid front → (n : ℕ) × Appends mid new (take n some)
      → (m : ℕ) × Appends old new (take m all)
  prefix_of old mid new front some behind all is appended it = (
    length piece,
    subst (Appends old new) (sym (ap (take (length piece)) whole_is ∙ take_at piece (drop it.0 some ++ behind) (length piece) refl)) (Appends-trans old mid new front (take it.0 some) appended it.1),
  )
    where
      piece : List ℕ
      piece = front ++ take it.0 some

      whole_is : all ≡ piece ++ (drop it.0 some ++ behind)
      whole_is =
          is ∙ ap (λ (t : List ℕ). front ++ (t ++ behind)) (sym (take-append-drop it.0 some))
          ∙ ap (λ (t : List ℕ). front ++ t) (append_assoc (take it.0 some) (drop it.0 some) behind)
          ∙ sym (append_assoc front (take it.0 some) (drop it.0 some ++ behind))

  pub part_failed : (version slot : ℕ) (old mid new : Option (List ℕ)) (held : List ℕ) → version ≤ length plan.changes → HasHanded version slot old mid held
      → (n : ℕ) × Appends mid new (take n (held ++ joined (pieces version))) → (m : ℕ) × Appends old new (take m (joined (flat_map pieces (versions plan))))
  part_failed version slot old mid new held within handed some =
      prefix_of old mid new handed.front (held ++ joined (pieces version)) rest (joined (flat_map pieces (versions plan))) all_is handed.appended some
    where
      rest : List ℕ
      rest = joined (flat_map pieces (range_with_len (version + 1) (length plan.changes - version)))

      all_is : joined (flat_map pieces (versions plan)) ≡ handed.front ++ ((held ++ joined (pieces version)) ++ rest)
      all_is =
          ap joined (all_split version within) ∙ joined-append (flat_map pieces (earlier (version + 1))) (flat_map pieces (range_with_len (version + 1) (length plan.changes - version)))
          ∙ ap (λ (t : List ℕ). t ++ rest) (bytes_next version ∙ ap (λ (t : List ℕ). t ++ joined (pieces version)) handed.bytes_are ∙ append_assoc handed.front held (joined (pieces version)))
          ∙ append_assoc handed.front (held ++ joined (pieces version)) rest

  -- how many services there are
  pub services_stay : (version place slot : ℕ) (serving : Serving) (signals : IntPackets) → StandBefore plan (part version) place slot serving signals → length serving.bursts ≡ length plan.services
  services_stay version place slot serving signals stand = stand.services.count ∙ length-services_in plan version

  -- which of them are sliced, and their windows
  pub sliced_stay : (version place slot : ℕ) (serving : Serving) (signals : IntPackets) → StandBefore plan (part version) place slot serving signals → serving.shapes ≡ shapes_of plan
  sliced_stay version place slot serving signals stand = stand.services.shapes ∙ shapes_kept plan version

  pub windows_stay : (version place slot : ℕ) (serving : Serving) (signals : IntPackets) → StandBefore plan (part version) place slot serving signals → serving.windows ≡ windows_of plan
  windows_stay version place slot serving signals stand = stand.services.windows ∙ windows_kept plan version

  -- all parts up to that of a version are written or held back, and all stands after it
  pub record IsBehind (version slot : ℕ) (old new : Option (List ℕ)) (back : List ℕ) (serving : Serving) (signals : IntPackets) : Type 0 where
    pub handed : HasHanded (version + 1) slot old new back
    pub stand : StandBefore plan (part version) (slots version) slot serving signals
    pub behind : (k : ℕ) → k < length plan.services → slice_index serving.behind k ≡ ((part version).packets_before k + length (slice_index_or (service_packets (part version)) k [])) % 16

  -- The last part.

  module _ (whole : is_whole_plan plan ≡ true) (each : (version : ℕ) → version ≤ length plan.changes → IsPartCount plan datagrams slots version)
      (last : ℕ) (is : IsLastOf plan datagrams last) where
    some_cycle : 0 < plan.cycle
    some_cycle = cycle_some (plan_in plan 0) (version_accepted plan whole 0 (omega arith))

    is_last_there : is_last plan datagrams last ≡ true
    is_last_there = ap not (none_there (has_datagrams plan datagrams) (last + 1) (length plan.changes - last) (λ v le less. is.later v (omega (arith, le)) (omega (arith, le, less))))

    not_last : (version : ℕ) → version < last → is_last plan datagrams version ≡ false
    not_last version before =
        ap not (any_there (has_datagrams plan datagrams) (version + 1) (length plan.changes - version) (last - (version + 1)) last (omega (arith, before)) (omega (arith, before, is.within))
        (is.some (omega (arith, before))))

    -- how many slots a part has
    pub slots_so : (version least : ℕ) (fills : Bool) → version ≤ last → fills ≡ ltb version last → IsSlotCount (slot_in (part version)) least → slots version ≡ slots_with fills plan.cycle least
    slots_so version least fills le fills_is count = by_order (cases_lt version last)
      where
        within : version ≤ length plan.changes
        within = omega (arith, le, is.within)

        it : IsPartCount plan datagrams slots version
        it = each version within

        same : it.least ≡ least
        same = one_count (slot_in (part version)) it.least least it.count count

        ltb_true : version < last → ltb version last ≡ true
        ltb_true less = grind (arith, less)

        ltb_false : last ≤ version → ltb version last ≡ false
        ltb_false more = grind (arith, more)

        at_last : last ≤ version → is_last plan datagrams version ≡ true
        at_last more = let here : version ≡ last = omega (arith, le, more) in ap (is_last plan datagrams) here ∙ is_last_there

        by_order : (version < last) ⊎ (last ≤ version) → slots version ≡ cond fills (whole_cycles plan.cycle least) least
        by_order (inl less) =
            it.slots_are ∙ ap (λ (b : Bool). cond b it.least (whole_cycles plan.cycle it.least)) (not_last version less) ∙ ap (whole_cycles plan.cycle) same
            ∙ sym (ap (λ (b : Bool). cond b (whole_cycles plan.cycle least) least) (fills_is ∙ ltb_true less))
        by_order (inr more) =
            it.slots_are ∙ ap (λ (b : Bool). cond b it.least (whole_cycles plan.cycle it.least)) (at_last more) ∙ same
            ∙ sym (ap (λ (b : Bool). cond b (whole_cycles plan.cycle least) least) (fills_is ∙ ltb_false more))

    -- a part that is not the last is of whole cycles
    pub whole_part : (version : ℕ) → version < last → slots version % plan.cycle ≡ 0
    whole_part version less =
        let it = each version (omega (arith, less, is.within)) in
        ap (λ (n : ℕ). n % plan.cycle) (it.slots_are ∙ ap (λ (b : Bool). cond b it.least (whole_cycles plan.cycle it.least)) (not_last version less))
        ∙ is_end plan.cycle some_cycle ((it.least + plan.cycle - 1) / plan.cycle)

    whole_before : (version : ℕ) → version ≤ last → sum_by slots (earlier version) % plan.cycle ≡ 0
    whole_before zero le = let none : 0 ≡ 0 * plan.cycle = omega arith in ap (λ (n : ℕ). n % plan.cycle) none ∙ is_end plan.cycle some_cycle 0
    whole_before (suc version) le =
        let next : suc version ≡ version + 1 = omega arith in
        ap (λ (n : ℕ). sum_by slots (earlier n) % plan.cycle) next ∙ ap (λ (n : ℕ). n % plan.cycle) (sum_next slots version)
        ∙ same_place (sum_by slots (earlier version)) (slots version) plan.cycle some_cycle (whole_before version (omega (arith, le)))
        ∙ whole_part version (omega (arith, le))

    within_last : last ≤ length plan.changes
    within_last = is.within

    pub part_is : Fits plan datagrams → (version : ℕ) → version ≤ last → IsPartOf plan (part version)
    part_is fits version le = record {
      version = version;
      within = omega (arith, le, is.within);
      plan_is = refl;
      whole = whole_before version le;
      fits = λ k fields is c. fits version (omega (arith, le, within_last)) k fields is c;
    }

    -- the services and the INT before the first slot of a part
    pub part_begins : Fits plan datagrams → (version slot : ℕ) (serving : Serving) (signals : IntPackets) → version ≤ last → slot ≡ sum_by slots (earlier version) → Begins (part version) serving → IsTableAt (part version) 0 signals
        → StandBefore plan (part version) 0 slot serving signals
    part_begins fits version slot serving signals le slot_is begins table = record {
      of_plan = part_is fits version le;
      place = omega (arith, slot_is);
      table = table;
      services = services_start (part version) (omega (arith, some_cycle)) serving begins;
    }

    -- after a part that is not the last the counter of the INT is that of the next
    pub counter_behind : (version counter : ℕ) → version < last
        → counter ≡ ((part version).table_before + (slots version / plan.cycle * table_packets (plan_in plan version) + min (slots version % plan.cycle) (table_packets (plan_in plan version)))) % 16
        → counter ≡ (part (version + 1)).table_before % 16
    counter_behind version counter less counter_is =
        counter_is
        ∙ ap (λ (n : ℕ). ((part version).table_before + (slots version / plan.cycle * table_packets (plan_in plan version) + min n (table_packets (plan_in plan version)))) % 16) (whole_part version less)
        ∙ ap (λ (n : ℕ). n % 16) (none_more (part version).table_before (slots version / plan.cycle * table_packets (plan_in plan version)) (table_packets (plan_in plan version))
        ∙ sym (sum_next (λ v. slots v / plan.cycle * table_packets (plan_in plan v)) version))
      where
        none_more : (b a t : ℕ) → b + (a + min 0 t) ≡ b + a
        none_more b a t = omega arith

    -- no slots are after the last
    none_later : (version : ℕ) → last < version → version ≤ length plan.changes → slots version ≡ 0
    none_later version more within = by_some (cases_lt 0 (slots version))
      where
        by_some : (0 < slots version) ⊎ (slots version ≤ 0) → slots version ≡ 0
        by_some (inl some) =
            let later : is_last plan datagrams last ≡ false
            = none_behind_last plan (omega (arith, some_cycle)) datagrams slots version (each version within) last more within (omega (arith, some)) in
            absurd (cc (later, is_last_there))
        by_some (inr none) = omega (arith, none)

    none_behind : (start n : ℕ) → last < start → start + n ≤ length plan.changes + 1 → flat_map pieces (range_with_len start n) ≡ []
    none_behind start zero more within = refl
    none_behind start (suc n) more within =
        ap₂ (λ (a b : List (List ℕ)). a ++ b) (ap (records_of_slots (part start)) (none_later start more (omega (arith, within))))
        (none_behind (start + 1) n (omega (arith, more)) (omega (arith, within)))

    pub all_are : flat_map pieces (versions plan) ≡ flat_map pieces (earlier (last + 1))
    all_are =
        all_split last is.within
        ∙ ap (λ (t : List (List ℕ)). flat_map pieces (earlier (last + 1)) ++ t) (none_behind (last + 1) (length plan.changes - last) (omega arith) (omega (arith, is.within)))
        ∙ append-nil (flat_map pieces (earlier (last + 1)))

    -- all parts are handed on
    pub all_put : (slot : ℕ) (old mid new : Option (List ℕ)) (held : List ℕ) → HasHanded (last + 1) slot old mid held → Appends mid new held → Appends old new (joined (flat_map pieces (versions plan)))
    all_put slot old mid new held handed put = subst (Appends old new) (sym (ap joined all_are ∙ handed.bytes_are)) (Appends-trans old mid new handed.front held handed.appended put)

    pub some_put : (slot : ℕ) (old mid new : Option (List ℕ)) (held : List ℕ) → HasHanded (last + 1) slot old mid held → (n : ℕ) × Appends mid new (take n held)
        → (m : ℕ) × Appends old new (take m (joined (flat_map pieces (versions plan))))
    some_put slot old mid new held handed put =
        prefix_of old mid new handed.front held [] (joined (flat_map pieces (versions plan)))
        (ap joined all_are ∙ handed.bytes_are ∙ ap (λ (t : List ℕ). handed.front ++ t) (sym (append-nil held))) handed.appended put

    -- the slots of a part were written
    module _ (version before : ℕ) (fills : Bool) (old mid new : Option (List ℕ)) (held back : List ℕ) (le : version ≤ last) (fills_is : fills ≡ ltb version last) (least : ℕ)
        (count : IsSlotCount (slot_in (part version)) least) (handed : HasHanded version before old mid held) where
      pub part_behind : (after : ℕ) (begun serving : Serving) (signals : IntPackets)
          → (front : List ℕ) × Appends mid new front × (held ++ joined (records_of_slots (part version) (slots_with fills plan.cycle least)) ≡ front ++ back)
          → StandBefore plan (part version) (slots_with fills plan.cycle least) after serving signals → Begins (part version) begun → serving.behind ≡ begun.behind
          → IsBehind version after old new back serving signals
      part_behind after begun serving signals passes stand begins behind =
          let so : slots_with fills plan.cycle least ≡ slots version = sym (slots_so version least fills le fills_is count) in
          let there : StandBefore plan (part version) (slots version) after serving signals = subst (λ (n : ℕ). StandBefore plan (part version) n after serving signals) so stand in
          record {
            handed = one_part_more version before after old mid new held back handed there.place
                (passes.0, passes.1, ap (λ (n : ℕ). held ++ joined (records_of_slots (part version) n)) (sym so) ∙ passes.2);
            stand = there;
            behind = λ k less. ap (λ (ns : List ℕ). slice_index ns k) behind ∙ begins.behind k (omega (arith, less, length-services_in plan version));
          }

      pub part_broken : (n : ℕ) × Appends mid new (take n (held ++ joined (records_of_slots (part version) (slots_with fills plan.cycle least))))
          → (m : ℕ) × Appends old new (take m (joined (flat_map pieces (versions plan))))
      part_broken some =
          let so : slots_with fills plan.cycle least ≡ slots version = sym (slots_so version least fills le fills_is count) in
          part_failed version before old mid new held (omega (arith, le, is.within)) handed
          (some.0, subst (λ (m : ℕ). Appends mid new (take some.0 (held ++ joined (records_of_slots (part version) m)))) so some.1)

    pub count_is : (slot : ℕ) (old new : Option (List ℕ)) (back : List ℕ) → HasHanded (last + 1) slot old new back → slot ≡ length (flat_map pieces (versions plan))
    count_is slot old new back handed = handed.slot_is ∙ sym (ap (λ (ps : List (List ℕ)). length ps) all_are ∙ counts 0 (last + 1))
      where
        length-range : (a n : ℕ) → length (range_with_len a n) ≡ n
        length-range a zero = refl
        length-range a (suc n) = ap suc (length-range (a + 1) n)

        counts : (start n : ℕ) → length (flat_map pieces (range_with_len start n)) ≡ sum_by slots (range_with_len start n)
        counts start zero = refl
        counts start (suc n) =
            length-append (pieces start) (flat_map pieces (range_with_len (start + 1) n))
            ∙ ap₂ (λ (a b : ℕ). a + b) (length-map (range_with_len 0 (slots start)) (record_of_slot (part start)) ∙ length-range 0 (slots start)) (counts (start + 1) n)
            ∙ sym (sum_by-cons slots start (range_with_len (start + 1) n))
