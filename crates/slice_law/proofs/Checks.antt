-- What the checks over settings say of windows.
use Rattle.std.proofs.Common.{◌≡◌, ℕ, zero, suc, ◌+◌, ◌-◌, ◌*◌, ◌/◌, ◌<◌, ◌≤◌, Bool, true, false, not, ◌&&◌, ◌||◌, ltb, leb, get_or, List, [], ◌∷◌, length, filter_map, refl, sym, ap, ◌∙◌, arith, Option, Some, None}
use Rattle.std.specs.List.{cons_option, list_all, list_any}
use Rattle.std.proofs.Math.Nat.{div-lt_iff_lt-mul, le-div_iff_mul-le}
use Rattle.ts_spec.specs.Recording.{RecordingForm, plain, stamped, m2ts}
use Rattle.plan_spec.specs.Plan.{KindFields, mpe, PlanFields, kinds, SlicedFields, sliced_of, sliced, rule_lists, all_rule_lists, is_baseband}
use Rattle.plan_spec.specs.Checks.{is_between, is_plain, has_pair, has_wrong_carrier, has_same_name, has_same_pid, has_too_many_rules, has_no_rule, is_sliced, needs_stamps, leaves_cycle, is_too_short, is_too_long, is_wrong_window, overlaps, has_wrong_window, has_short_gap, has_long_cycle}
use Rattle.plan_spec.specs.Signalling.{table_packets}
use Rattle.plan_spec.specs.Valid.{is_valid_service, is_valid_int, is_valid_frame_size, most_services, has_valid_top, is_in_range, is_consistent, is_lone_service, is_plan_of_settings, is_plan_of_pid, is_plan}
use Rattle.stream_spec.specs.Services.{kind_at}
use Rattle.slice_spec.specs.Moments.{units_per_second, ten}
use Rattle.slice_spec.specs.Bursts.{IsSliceable}
use Rattle.slice_law.specs.Plans.{slicing_of}

pub both : (a b : Bool) → (a && b) ≡ true → (a ≡ true) × (b ≡ true)
both true b e = (refl, e)
both false b e = absurd (cc)

pub neither : (a b : Bool) → (a || b) ≡ false → (a ≡ false) × (b ≡ false)
neither true b e = absurd (cc)
neither false b e = (refl, e)

not_so : (a : Bool) → not a ≡ true → a ≡ false
not_so true e = absurd (cc)
not_so false e = refl

pub not_below : (a b : ℕ) → ltb a b ≡ false → b ≤ a
not_below a b e = grind (arith, e)

at_least : (least most n : ℕ) → is_between least most n ≡ true → least ≤ n
at_least least most n e = let le : leb least n ≡ true = (both (leb least n) (leb n most) e).0 in grind (arith, le)

-- What is refused of one service is so of none.

same_fields : (a b : SlicedFields) → Some a ≡ Some b → a ≡ b
same_fields a b e = cc

pub none_so : (test : SlicedFields → Bool) (all : List KindFields) (k : ℕ) (fields : SlicedFields) → list_any test (filter_map sliced_of all) ≡ false
    → sliced_of (get_or all k (mpe 0)) ≡ Some fields → test fields ≡ false
none_so test [] k fields none is = absurd (cc)
none_so test (kind ∷ others) zero fields none is = by_kind (sliced_of kind) is none
  where
    by_kind : (of : Option SlicedFields) → of ≡ Some fields → list_any test (cons_option of (filter_map sliced_of others)) ≡ false → test fields ≡ false
    by_kind None e none2 = absurd (cc)
    by_kind (Some a) e none2 = ap test (sym (same_fields a fields e)) ∙ (neither (test a) (list_any test (filter_map sliced_of others)) none2).0
none_so test (kind ∷ others) (suc k) fields none is = none_so test others k fields (by_kind (sliced_of kind) none) is
  where
    by_kind : (of : Option SlicedFields) → list_any test (cons_option of (filter_map sliced_of others)) ≡ false → list_any test (filter_map sliced_of others) ≡ false
    by_kind None none2 = none2
    by_kind (Some a) none2 = (neither (test a) (list_any test (filter_map sliced_of others)) none2).1

above : (n : ℕ) → ltb 0 (suc n) ≡ true
above n = grind arith

pub some_sliced : (all : List KindFields) (k : ℕ) (fields : SlicedFields) → sliced_of (get_or all k (mpe 0)) ≡ Some fields → ltb 0 (length (filter_map sliced_of all)) ≡ true
some_sliced [] k fields is = absurd (cc)
some_sliced (kind ∷ others) zero fields is = by_kind (sliced_of kind) is
  where
    by_kind : (of : Option SlicedFields) → of ≡ Some fields → ltb 0 (length (cons_option of (filter_map sliced_of others))) ≡ true
    by_kind None e = absurd (cc)
    by_kind (Some a) e = above (length (filter_map sliced_of others))
some_sliced (kind ∷ others) (suc k) fields is = by_kind (sliced_of kind) (some_sliced others k fields is)
  where
    by_kind : (of : Option SlicedFields) → ltb 0 (length (filter_map sliced_of others)) ≡ true → ltb 0 (length (cons_option of (filter_map sliced_of others))) ≡ true
    by_kind None e = e
    by_kind (Some a) e = above (length (filter_map sliced_of others))

-- The numbers that the checks compare.

gap_of : (g f : ℕ) → 0 < f → ltb (g * 1000000 / f) 10000 ≡ false → 10000 * f ≤ g * 1000000
gap_of g f above e = (le-div_iff_mul-le above).0 (not_below (g * 1000000 / f) 10000 e)

cycle_of : (n f : ℕ) → 0 < f → ltb 40959999 ((n * 1000000 + f - 1) / f) ≡ false → n * 1000000 ≤ 40959999 * f
cycle_of n f above e =
    let most : (n * 1000000 + f - 1) / f < 40960000 = omega (arith, not_below 40959999 ((n * 1000000 + f - 1) / f) e) in
    let below : n * 1000000 + f - 1 < 40960000 * f = (div-lt_iff_lt-mul above).0 most in
    omega (arith, below, above)

gap_in : (form : RecordingForm) (g f : ℕ) → 10000 * f ≤ g * 1000000 → ten form * f ≤ g * units_per_second form
gap_in plain g f le = le
gap_in stamped g f le = le
gap_in m2ts g f le = omega (arith, le)

cycle_in : (form : RecordingForm) (n f : ℕ) → n * 1000000 ≤ 40959999 * f → n * units_per_second form ≤ (4096 * ten form - 1) * f
cycle_in plain n f le = le
cycle_in stamped n f le = le
cycle_in m2ts n f le = omega (arith, le)

-- A plan is in range, and consistent.

in_order : (plan : PlanFields) → is_plan plan ≡ true → (least : ℕ) × (is_in_range least plan ≡ true) × (is_consistent plan ≡ true)
unfolding is_plan_of_settings is_plan_of_pid
in_order plan e = by_kind (is_in_range 32 plan) refl (is_consistent plan) refl (not (has_no_rule (rule_lists plan))) (is_in_range 0 plan) refl (is_plain plan.recording && is_lone_service plan.services) e
  where
    by_kind : (a : Bool) → is_in_range 32 plan ≡ a → (b : Bool) → is_consistent plan ≡ b → (c d : Bool) → is_in_range 0 plan ≡ d → (f : Bool)
        → ((a && (b && c)) || (d && (b && f))) ≡ true → (least : ℕ) × (is_in_range least plan ≡ true) × (is_consistent plan ≡ true)
    by_kind true e1 true e2 c d e3 f any = (32, e1, e2)
    by_kind false e1 true e2 c true e3 f any = (0, e3, e2)
    by_kind false e1 true e2 c false e3 f any = absurd (cc)
    by_kind true e1 false e2 c true e3 f any = absurd (cc)
    by_kind true e1 false e2 c false e3 f any = absurd (cc)
    by_kind false e1 false e2 c true e3 f any = absurd (cc)
    by_kind false e1 false e2 c false e3 f any = absurd (cc)

module _ (plan : PlanFields) (accepted : is_plan plan ≡ true) where
  pub rate_above : 0 < plan.packet_rate
  unfolding is_in_range has_valid_top
  rate_above =
      let order : (least : ℕ) × (is_in_range least plan ≡ true) × (is_consistent plan ≡ true) = in_order plan accepted in
      let top : has_valid_top plan ≡ true = (both (has_valid_top plan) (list_all (is_valid_service order.0) plan.services) order.1).0 in
      at_least 1 1000000 plan.packet_rate
      (both (is_between 1 1000000 plan.packet_rate) (is_between 100 1000000 plan.cycle && (is_valid_frame_size plan.frame_bytes
      && (is_valid_int plan.table && (is_between 1 (most_services (is_baseband plan)) (length plan.services) && leb plan.version 31)))) top).0

  -- the checks on sliced services
  pub checks : (needs_stamps plan ≡ false) × (has_wrong_window (table_packets plan) plan ≡ false) × (has_short_gap plan ≡ false) × (has_long_cycle plan ≡ false)
  unfolding is_consistent
  checks = by_parts (has_wrong_carrier plan) (has_same_name plan) (has_same_pid plan) (has_too_many_rules (all_rule_lists plan)) (needs_stamps plan)
      (has_wrong_window (table_packets plan) plan) (has_short_gap plan) (has_long_cycle plan) (in_order plan accepted).2
    where
      by_parts : (a b c d e f g h : Bool) → (not a && (not b && (not c && (not d && (not e && (not f && (not g && not h))))))) ≡ true → (e ≡ false) × (f ≡ false) × (g ≡ false) × (h ≡ false)
      by_parts false false false false false false false false all = (refl, refl, refl, refl)
      by_parts true b c d e f g h all = absurd (cc)
      by_parts false true c d e f g h all = absurd (cc)
      by_parts false false true d e f g h all = absurd (cc)
      by_parts false false false true e f g h all = absurd (cc)
      by_parts false false false false true f g h all = absurd (cc)
      by_parts false false false false false true g h all = absurd (cc)
      by_parts false false false false false false true h all = absurd (cc)
      by_parts false false false false false false false true all = absurd (cc)

  module _ (k : ℕ) (fields : SlicedFields) (is : sliced_of (kind_at plan k) ≡ Some fields) where
    pub sliceable : IsSliceable (slicing_of plan fields)
    sliceable = record {
      rate_above = rate_above;
      gap = gap_in plan.recording (plan.cycle - fields.length) plan.packet_rate
          (gap_of (plan.cycle - fields.length) plan.packet_rate rate_above
          (none_so (λ (service : SlicedFields). ltb ((plan.cycle - service.length) * 1000000 / plan.packet_rate) 10000) (kinds plan) k fields checks.2 is));
      cycle_below = cycle_in plan.recording plan.cycle plan.packet_rate (cycle_of plan.cycle plan.packet_rate rate_above (by_sliced (is_sliced plan) (some_sliced (kinds plan) k fields is) checks.3));
    }
      where
        by_sliced : (sliced_is : Bool) → sliced_is ≡ true → (sliced_is && ltb 40959999 ((plan.cycle * 1000000 + plan.packet_rate - 1) / plan.packet_rate)) ≡ false
            → ltb 40959999 ((plan.cycle * 1000000 + plan.packet_rate - 1) / plan.packet_rate) ≡ false
        by_sliced true e none = none
        by_sliced false e none = absurd (cc)

    pub no_wrong_window : is_wrong_window (table_packets plan) plan fields ≡ false
    no_wrong_window = none_so (is_wrong_window (table_packets plan) plan) (kinds plan) k fields
        (neither (list_any (is_wrong_window (table_packets plan) plan) (sliced plan)) (has_pair overlaps (sliced plan))
        (neither (leb plan.cycle (table_packets plan)) (list_any (is_wrong_window (table_packets plan) plan) (sliced plan) || has_pair overlaps (sliced plan)) checks.1).1).0 is

    -- the window begins after the INT and ends within the cycle
    pub inside : (table_packets plan ≤ fields.start) × (fields.start + fields.length ≤ plan.cycle)
    inside =
        let stays : leaves_cycle (table_packets plan) plan fields ≡ false
        = (neither (leaves_cycle (table_packets plan) plan fields) (is_too_short fields || is_too_long plan fields) no_wrong_window).0 in
        let parts : (ltb fields.start (table_packets plan) ≡ false) × (ltb plan.cycle (fields.start + fields.length) ≡ false)
        = neither (ltb fields.start (table_packets plan)) (ltb plan.cycle (fields.start + fields.length)) stays in
        (not_below fields.start (table_packets plan) parts.0, not_below plan.cycle (fields.start + fields.length) parts.1)

  -- the INT leaves slots
  pub shorter : table_packets plan < plan.cycle
  shorter = not_le plan.cycle (table_packets plan)
      (neither (leb plan.cycle (table_packets plan)) (list_any (is_wrong_window (table_packets plan) plan) (sliced plan) || has_pair overlaps (sliced plan)) checks.1).0
    where
      not_le : (a b : ℕ) → leb a b ≡ false → b < a
      not_le a b e = grind (arith, e)

  pub none_overlap : has_pair overlaps (sliced plan) ≡ false
  none_overlap =
      (neither (list_any (is_wrong_window (table_packets plan) plan) (sliced plan)) (has_pair overlaps (sliced plan))
      (neither (leb plan.cycle (table_packets plan)) (list_any (is_wrong_window (table_packets plan) plan) (sliced plan) || has_pair overlaps (sliced plan)) checks.1).1).1
