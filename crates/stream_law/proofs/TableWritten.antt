-- The INT of a plan can be written.
use Rattle.std.proofs.Common.{◌≡◌, ℕ, zero, suc, ◌+◌, ◌-◌, ◌*◌, ◌/◌, ◌<◌, ◌≤◌, max, Bool, true, false, ◌&&◌, ◌||◌, leb, ltb, eqb, List, [], ◌∷◌, map, refl, sym, ap, ◌∙◌, arith, Option, Some, None}
use Rattle.std.specs.Prelude.{All, IfSome}
use Rattle.std.specs.List.{cons_option, filter_map, list_all, list_any}
use Rattle.std.proofs.lemmas.List.Elements.{All-nil, All-cons}
use Rattle.std.proofs.Math.Nat.{div-le_of_le-mul}
use Rattle.wire_spec.specs.Bytes.{AreBytes}
use Rattle.section_spec.specs.Section.{IsWritableSection}
use Rattle.section_codec.proofs.Written.{length-section_bytes}
use Rattle.int_spec.specs.Table.{table_body, IsRule, IsSlices, IsWritableEntry, IsWritable}
use Rattle.plan_spec.specs.Plan.{KindFields, ule, mpe, fec, gse, ServiceFields, IntFields, PlanFields, SlicedFields, sliced_of, sliced}
use Rattle.plan_spec.specs.Checks.{is_between, is_row_count, has_pair, leaves_cycle, is_too_short, is_too_long, is_wrong_window, overlaps}
use Rattle.plan_spec.specs.Signalling.{frame_size, burst_duration, slices_of, entry_of, table_of, table_packets}
use Rattle.plan_spec.specs.Valid.{is_valid_window, is_valid_kind, is_valid_service, is_valid_int, is_plan}
use Rattle.plan_spec.specs.Bytes.{IsOfBytes}
use Rattle.stream_law.proofs.Pids.{neither}
use Rattle.stream_law.proofs.Plans.{both, at_most, has_ranges, ranges, checks, few_services, few_rules}
use Rattle.stream_law.proofs.TableSizes.{table_size}

-- The three bytes of frames.

three : (a b c : ℕ) → a < 256 → b < 256 → c < 256 → IsSlices (a ∷ b ∷ c ∷ [])
three a b c of_a of_b of_c = record { bytes = each; three = refl }
  where
    each : AreBytes (a ∷ b ∷ c ∷ [])
    each zero x less = of_a
    each (suc zero) x less = of_b
    each (suc (suc zero)) x less = of_c
    each (suc (suc (suc n))) x less = absurd (omega (arith, less))

few_rows : (rows : ℕ) → is_row_count rows ≡ true → rows ≤ 1024
few_rows rows e =
    by_tests (eqb 256 rows) refl (eqb 512 rows) refl (eqb 768 rows) refl (eqb 1024 rows) refl e
  where
    by_tests : (a : Bool) → eqb 256 rows ≡ a → (b : Bool) → eqb 512 rows ≡ b → (c : Bool) → eqb 768 rows ≡ c → (d : Bool) → eqb 1024 rows ≡ d
        → (a || (b || (c || (d || false)))) ≡ true → rows ≤ 1024
    by_tests true e1 b e2 c e3 d e4 any = grind (arith, e1)
    by_tests false e1 true e2 c e3 d e4 any = grind (arith, e2)
    by_tests false e1 false e2 true e3 d e4 any = grind (arith, e3)
    by_tests false e1 false e2 false e3 true e4 any = grind (arith, e4)
    by_tests false e1 false e2 false e3 false e4 any = absurd (cc)

size_of : (rows : ℕ) → rows ≤ 1024 → frame_size rows ≤ 3
size_of rows le = omega (arith, le)

-- a window of 5.12 seconds at most lasts 256 units of 20 ms
short_burst : (plan : PlanFields) (window : SlicedFields) → is_too_long plan window ≡ false → burst_duration plan.packet_rate window.length ≤ 255
short_burst plan window e =
    let product : window.length * 1000000 ≤ plan.packet_rate * 5120000 = product_is (window.length * 1000000) (5120000 * plan.packet_rate) e (omega arith) in
    units (window.length * 1000000 / plan.packet_rate) (div-le_of_le-mul plan.packet_rate product)
  where
    product_is : (a b : ℕ) → ltb b a ≡ false → b ≡ plan.packet_rate * 5120000 → a ≤ plan.packet_rate * 5120000
    product_is a b e2 same = let le : a ≤ b = no_more a b e2 in omega (arith, le, same)
      where
        no_more : (m n : ℕ) → ltb n m ≡ false → m ≤ n
        no_more m n e3 = grind (arith, e3)

    units : (n : ℕ) → n ≤ 5120000 → (max n 1 - 1) / 20000 ≤ 255
    units n le = omega (arith, le)

slices_are : (least : ℕ) (plan : PlanFields) (kind : KindFields) → is_valid_kind least kind ≡ true → list_any (is_wrong_window (table_packets plan) plan) (filter_map sliced_of (kind ∷ [])) ≡ false
    → IfSome (slices_of plan.packet_rate kind) IsSlices
slices_are least plan (ule pid address packing) valid right = tt
slices_are least plan (mpe pid) valid right = tt
slices_are least plan (gse isi address) valid right = tt
slices_are least plan (fec pid rows parity None) valid right =
    let rows_are : rows ≤ 1024 = few_rows rows (both (is_row_count rows) (is_between 1 64 parity && true) (both (is_between least 8190 pid) (is_row_count rows && (is_between 1 64 parity && true)) valid).1).0 in
    three (0x38 + frame_size rows) 0xFF 0x70 (omega (arith, size_of rows rows_are)) (omega arith) (omega arith)
slices_are least plan (fec pid rows parity (Some window)) valid right =
    let rows_are : rows ≤ 1024 = few_rows rows (both (is_row_count rows) (is_between 1 64 parity && is_valid_window (Some window))
    (both (is_between least 8190 pid) (is_row_count rows && (is_between 1 64 parity && is_valid_window (Some window))) valid).1).0 in
    let not_wrong : is_wrong_window (table_packets plan) plan service ≡ false = (neither (is_wrong_window (table_packets plan) plan service) false right).0 in
    let not_long : is_too_long plan service ≡ false
    = (neither (is_too_short service) (is_too_long plan service) (neither (leaves_cycle (table_packets plan) plan service) (is_too_short service || is_too_long plan service) not_wrong).1).1 in
    three (0xB8 + frame_size rows) (burst_duration plan.packet_rate window.length) 0x70 (omega (arith, size_of rows rows_are)) (omega (arith, short_burst plan service not_long)) (omega arith)
  where
    service : SlicedFields
    service = record { rows = rows; parity = parity; start = window.start; length = window.length }

-- Entries.

module _ (plan : PlanFields) where
  abbrev wrong : SlicedFields → Bool
  wrong service = is_wrong_window (table_packets plan) plan service

  first_right : (kind : KindFields) (kinds : List KindFields) → list_any wrong (filter_map sliced_of (kind ∷ kinds)) ≡ false
      → (list_any wrong (filter_map sliced_of (kind ∷ [])) ≡ false) × (list_any wrong (filter_map sliced_of kinds) ≡ false)
  first_right kind kinds e = by_kind (sliced_of kind) e
    where
      by_kind : (o : Option SlicedFields) → list_any wrong (cons_option o (filter_map sliced_of kinds)) ≡ false
          → (list_any wrong (cons_option o []) ≡ false) × (list_any wrong (filter_map sliced_of kinds) ≡ false)
      by_kind None e2 = (refl, e2)
      by_kind (Some x) e2 =
          let parts : (wrong x ≡ false) × (list_any wrong (filter_map sliced_of kinds) ≡ false) = neither (wrong x) (list_any wrong (filter_map sliced_of kinds)) e2 in
          (ap (λ (b : Bool). b || false) parts.0, parts.1)

  entries_are : (least : ℕ) (services : List ServiceFields) → All (All IsRule) (map (λ (service : ServiceFields). service.rules) services) → list_all (is_valid_service least) services ≡ true
      → list_any wrong (filter_map sliced_of (map (λ (service : ServiceFields). service.kind) services)) ≡ false
      → All IsWritableEntry (map (entry_of plan.packet_rate) services)
  entries_are least [] rules valid right = All-nil IsWritableEntry
  entries_are least (service ∷ services) rules valid right =
      let valids : (is_valid_service least service ≡ true) × (list_all (is_valid_service least) services ≡ true) = both (is_valid_service least service) (list_all (is_valid_service least) services) valid in
      let rights : (list_any wrong (filter_map sliced_of (service.kind ∷ [])) ≡ false) × (list_any wrong (filter_map sliced_of (map (λ (s : ServiceFields). s.kind) services)) ≡ false)
      = first_right service.kind (map (λ (s : ServiceFields). s.kind) services) right in
      All-cons IsWritableEntry (entry_of plan.packet_rate service) (map (entry_of plan.packet_rate) services)
      (record {
        rules = rules 0 [] (omega arith);
        service_id = omega (arith, (has_ranges least service valids.0).service_id);
        component_tag = omega (arith, (has_ranges least service valids.0).component_tag);
        slices = slices_are least plan service.kind (has_ranges least service valids.0).kind rights.0;
      })
      (entries_are least services (λ n d less. rules (suc n) d (omega (arith, less))) valids.1 rights.1)

  pub table_is_writable : (int : IntFields) → is_plan plan ≡ true → IsOfBytes plan → plan.table ≡ Some int → IsWritable (table_of plan int)
  table_is_writable int accepted of_bytes is =
      let numbers : (int.platform_id ≤ 16777215) × (int.network_id ≤ 65535) × (int.original_network_id ≤ 65535) × (int.transport_stream_id ≤ 65535)
      = numbers_of int (ap is_valid_int (sym is) ∙ (ranges plan accepted).int) in
      record {
        version = grind (arith, (ranges plan accepted).version);
        platform_id = omega (arith, numbers.0);
        network_id = omega (arith, numbers.1);
        original_network_id = omega (arith, numbers.2);
        transport_stream_id = omega (arith, numbers.3);
        entries = entries_are (ranges plan accepted).least plan.services of_bytes.rules (ranges plan accepted).services
            (neither (list_any wrong (sliced plan)) (has_pair overlaps (sliced plan))
            (neither (leb plan.cycle (table_packets plan)) (list_any wrong (sliced plan) || has_pair overlaps (sliced plan)) (checks plan accepted).1).1).0;
        size = omega (arith, table_size plan int (few_services plan accepted) (few_rules plan accepted) of_bytes.rules);
      }
    where
      numbers_of : (it : IntFields) → is_valid_int (Some it) ≡ true → (it.platform_id ≤ 16777215) × (it.network_id ≤ 65535) × (it.original_network_id ≤ 65535) × (it.transport_stream_id ≤ 65535)
      numbers_of it e = by_parts (is_between 32 8190 it.pid) (is_between 0 16777215 it.platform_id) refl (is_between 0 65535 it.network_id) refl
          (is_between 0 65535 it.original_network_id) refl (is_between 0 65535 it.transport_stream_id) refl e
        where
          by_parts : (a b : Bool) → is_between 0 16777215 it.platform_id ≡ b → (c : Bool) → is_between 0 65535 it.network_id ≡ c → (d : Bool) → is_between 0 65535 it.original_network_id ≡ d
              → (f : Bool) → is_between 0 65535 it.transport_stream_id ≡ f → (a && (b && (c && (d && f)))) ≡ true
              → (it.platform_id ≤ 16777215) × (it.network_id ≤ 65535) × (it.original_network_id ≤ 65535) × (it.transport_stream_id ≤ 65535)
          by_parts true true e1 true e2 true e3 true e4 all =
              (at_most 0 16777215 it.platform_id e1, at_most 0 65535 it.network_id e2, at_most 0 65535 it.original_network_id e3, at_most 0 65535 it.transport_stream_id e4)
          by_parts false b e1 c e2 d e3 f e4 all = absurd (cc)
          by_parts true false e1 c e2 d e3 f e4 all = absurd (cc)
          by_parts true true e1 false e2 d e3 f e4 all = absurd (cc)
          by_parts true true e1 true e2 false e3 f e4 all = absurd (cc)
          by_parts true true e1 true e2 true e3 false e4 all = absurd (cc)

  -- as a section
  pub section_is_writable : (int : IntFields) → is_plan plan ≡ true → IsOfBytes plan → IsWritableSection 0x4C 0xF0 (table_body (table_of plan int))
  section_is_writable int accepted of_bytes = record {
    table_id_is = omega arith;
    syntax = omega arith;
    byte = omega arith;
    upper_half = refl;
    least = omega arith;
    most = omega (arith, length-section_bytes 0x4C 0xF0 (table_body (table_of plan int)), table_size plan int (few_services plan accepted) (few_rules plan accepted) of_bytes.rules);
  }
