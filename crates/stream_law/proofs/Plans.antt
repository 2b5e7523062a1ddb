-- What a plan says of the PIDs and of the slots.
use Rattle.std.proofs.Common.{◌≡◌, ℕ, zero, suc, ◌<◌, ◌≤◌, Bool, true, false, not, ◌&&◌, ◌||◌, leb, ltb, get_or, List, [], ◌∷◌, ◌++◌, length, map, refl, ap, arith, Option, Some, None}
use Rattle.std.specs.Prelude.{sum_by}
use Rattle.std.specs.List.{list_all, list_any}
use Rattle.plan_spec.specs.Plan.{KindFields, ule, mpe, fec, gse, ServiceFields, IntFields, PlanFields, pid_of, table_pids, service_pids, isis, rule_lists, all_rule_lists, sliced, is_baseband}
use Rattle.plan_spec.specs.Checks.{is_between, is_plain, is_row_count, is_service_name, has_pair, has_wrong_carrier, has_same_name, has_same_pid, has_too_many_rules, has_no_rule, needs_stamps, has_wrong_window, has_short_gap, has_long_cycle, is_wrong_window, overlaps}
use Rattle.plan_spec.specs.Signalling.{table_packets}
use Rattle.plan_spec.specs.Valid.{is_valid_window, is_valid_kind, is_valid_rule, has_valid_values, is_valid_service, is_valid_int, is_valid_frame_size, most_services, has_valid_top, is_in_range, is_consistent, is_lone_service, is_plan_of_settings, is_plan_of_pid, is_plan}
use Rattle.plan_law.proofs.Rules.{rules_within}
use Rattle.stream_law.proofs.Pids.{same_pid, neither}
use Rattle.stream_law.proofs.OnPid.{IsSendable}

pub both : (a b : Bool) → (a && b) ≡ true → (a ≡ true) × (b ≡ true)
both true b e = (refl, e)
both false b e = absurd (cc)

pub not_so : (a : Bool) → not a ≡ true → a ≡ false
not_so true e = absurd (cc)
not_so false e = refl

pub at_most : (least most n : ℕ) → is_between least most n ≡ true → n ≤ most
at_most least most n e = let le : leb n most ≡ true = (both (leb least n) (leb n most) e).1 in grind (arith, le)

pub at_least : (least most n : ℕ) → is_between least most n ≡ true → least ≤ n
at_least least most n e = let le : leb least n ≡ true = (both (leb least n) (leb n most) e).0 in grind (arith, le)

-- The ranges.

kind_most : (least : ℕ) (kind : KindFields) (pid : ℕ) → is_valid_kind least kind ≡ true → pid_of kind ≡ Some pid → pid ≤ 8190
kind_most least (ule p address packing) pid e is = let same : p ≡ pid = by_some is in omega (arith, same, at_most least 8190 p e)
  where
    by_some : Some p ≡ Some pid → p ≡ pid
    by_some e2 = cc
kind_most least (mpe p) pid e is = let same : p ≡ pid = by_some is in omega (arith, same, at_most least 8190 p e)
  where
    by_some : Some p ≡ Some pid → p ≡ pid
    by_some e2 = cc
kind_most least (fec p rows parity window) pid e is =
    let same : p ≡ pid = by_some is in
    omega (arith, same, at_most least 8190 p (both (is_between least 8190 p) (is_row_count rows && (is_between 1 64 parity && is_valid_window window)) e).0)
  where
    by_some : Some p ≡ Some pid → p ≡ pid
    by_some e2 = cc
kind_most least (gse isi address) pid e is = absurd (cc)

-- the values of a service
pub record HasRanges (least : ℕ) (service : ServiceFields) : Type 0 where
  pub kind : is_valid_kind least service.kind ≡ true
  pub service_id : service.service_id ≤ 65535
  pub component_tag : service.component_tag ≤ 255
  pub rules : list_all is_valid_rule service.rules ≡ true

pub has_ranges : (least : ℕ) (service : ServiceFields) → is_valid_service least service ≡ true → HasRanges least service
has_ranges least service e =
    let values : (has_valid_values least service ≡ true) × ((list_all is_valid_rule service.rules && list_all is_valid_rule service.urgent) ≡ true)
    = both (has_valid_values least service) (list_all is_valid_rule service.rules && list_all is_valid_rule service.urgent) e in
    let behind_name : (is_valid_kind least service.kind && (is_between 0 65535 service.service_id && is_between 0 255 service.component_tag)) ≡ true
    = (both (is_service_name service.name) (is_valid_kind least service.kind && (is_between 0 65535 service.service_id && is_between 0 255 service.component_tag)) values.0).1 in
    let behind_kind : (is_between 0 65535 service.service_id && is_between 0 255 service.component_tag) ≡ true
    = (both (is_valid_kind least service.kind) (is_between 0 65535 service.service_id && is_between 0 255 service.component_tag) behind_name).1 in
    let numbers : (is_between 0 65535 service.service_id ≡ true) × (is_between 0 255 service.component_tag ≡ true)
    = both (is_between 0 65535 service.service_id) (is_between 0 255 service.component_tag) behind_kind in
    record {
      kind = (both (is_valid_kind least service.kind) (is_between 0 65535 service.service_id && is_between 0 255 service.component_tag) behind_name).0;
      service_id = at_most 0 65535 service.service_id numbers.0;
      component_tag = at_most 0 255 service.component_tag numbers.1;
      rules = (both (list_all is_valid_rule service.rules) (list_all is_valid_rule service.urgent) values.1).0;
    }

services_most : (least : ℕ) (services : List ServiceFields) → list_all (is_valid_service least) services ≡ true → (k pid : ℕ) → k < length (map (λ (service : ServiceFields). service.kind) services)
    → pid_of (get_or (map (λ (service : ServiceFields). service.kind) services) k (mpe 0)) ≡ Some pid → pid ≤ 8190
services_most least [] e k pid less is = absurd (omega arith)
services_most least (service ∷ services) e zero pid less is =
    kind_most least service.kind pid (has_ranges least service (both (is_valid_service least service) (list_all (is_valid_service least) services) e).0).kind is
services_most least (service ∷ services) e (suc k) pid less is =
    services_most least services (both (is_valid_service least service) (list_all (is_valid_service least) services) e).1 k pid (omega arith) is

int_most : (table : Option IntFields) → is_valid_int table ≡ true → (pid : ℕ) → table_pids table ≡ pid ∷ [] → pid ≤ 8190
int_most None e pid is = absurd (cc)
int_most (Some int) e pid is =
    let same : int.pid ≡ pid = ap (λ (l : List ℕ). get_or l 0 0) is in
    omega (
      arith,
      same,
      at_most 32 8190 int.pid (both (is_between 32 8190 int.pid) (is_between 0 16777215 int.platform_id && (is_between 0 65535 int.network_id
          && (is_between 0 65535 int.original_network_id && is_between 0 65535 int.transport_stream_id))) e).0,
    )

-- the ranges of a plan's values
pub record Ranges (plan : PlanFields) : Type 0 where
  pub least : ℕ
  pub rate : is_between 1 1000000 plan.packet_rate ≡ true
  pub cycle : is_between 100 1000000 plan.cycle ≡ true
  pub int : is_valid_int plan.table ≡ true
  pub count : is_between 1 (most_services (is_baseband plan)) (length plan.services) ≡ true
  pub version : leb plan.version 31 ≡ true
  pub services : list_all (is_valid_service least) plan.services ≡ true

-- a plan is in range, from a least PID on, and consistent
in_order : (plan : PlanFields) → is_plan plan ≡ true → (least : ℕ) × (is_in_range least plan ≡ true) × (is_consistent plan ≡ true)
unfolding is_plan_of_settings is_plan_of_pid
in_order plan e = by_kind (is_in_range 32 plan) refl (is_consistent plan) refl (not (has_no_rule (rule_lists plan))) (is_in_range 0 plan) refl (is_plain plan.recording && is_lone_service plan.services) e
  where
    by_kind : (a : Bool) → is_in_range 32 plan ≡ a → (b : Bool) → is_consistent plan ≡ b → (c d : Bool) → is_in_range 0 plan ≡ d → (f : Bool)
        → ((a && (b && c)) || (d && (b && f))) ≡ true → (least : ℕ) × (is_in_range least plan ≡ true) × (is_consistent plan ≡ true)
    by_kind true e1 true e2 c d e3 f any = (32, e1, e2)
    by_kind false e1 true e2 c true e3 f any = (0, e3, e2)
    by_kind false e1 true e2 c false e3 f any = absurd (cc)
    by_kind true e1 false e2 c true e3 f any = absurd (cc)
    by_kind true e1 false e2 c false e3 f any = absurd (cc)
    by_kind false e1 false e2 c true e3 f any = absurd (cc)
    by_kind false e1 false e2 c false e3 f any = absurd (cc)

module _ (plan : PlanFields) (accepted : is_plan plan ≡ true) where
  abbrev least : ℕ
  least = (in_order plan accepted).0

  in_range : is_in_range least plan ≡ true
  in_range = (in_order plan accepted).1

  consistent : is_consistent plan ≡ true
  consistent = (in_order plan accepted).2

  pub ranges : Ranges plan
  unfolding is_in_range has_valid_top
  ranges =
      let parts : (has_valid_top plan ≡ true) × (list_all (is_valid_service least) plan.services ≡ true)
      = both (has_valid_top plan) (list_all (is_valid_service least) plan.services) in_range in
      let top : (is_between 1 1000000 plan.packet_rate ≡ true) × (is_between 100 1000000 plan.cycle ≡ true) × (is_valid_int plan.table ≡ true)
      × (is_between 1 (most_services (is_baseband plan)) (length plan.services) ≡ true) × (leb plan.version 31 ≡ true)
      = by_parts (is_between 1 1000000 plan.packet_rate) (is_between 100 1000000 plan.cycle) (is_valid_frame_size plan.frame_bytes) (is_valid_int plan.table)
      (is_between 1 (most_services (is_baseband plan)) (length plan.services)) (leb plan.version 31) parts.0 in
      record { least = least; rate = top.0; cycle = top.1; int = top.2; count = top.3; version = top.4; services = parts.1 }
    where
      by_parts : (a b c d e f : Bool) → (a && (b && (c && (d && (e && f))))) ≡ true → (a ≡ true) × (b ≡ true) × (d ≡ true) × (e ≡ true) × (f ≡ true)
      by_parts a b c d e f all =
          let of_b : (b && (c && (d && (e && f)))) ≡ true = (both a (b && (c && (d && (e && f)))) all).1 in
          let of_c : (c && (d && (e && f))) ≡ true = (both b (c && (d && (e && f))) of_b).1 in
          let of_d : (d && (e && f)) ≡ true = (both c (d && (e && f)) of_c).1 in
          let of_e : (e && f) ≡ true = (both d (e && f) of_d).1 in
          ((both a (b && (c && (d && (e && f)))) all).0, (both b (c && (d && (e && f))) of_b).0, (both d (e && f) of_d).0, (both e f of_e).0, (both e f of_e).1)

  pub checks : (has_same_pid plan ≡ false) × (has_wrong_window (table_packets plan) plan ≡ false) × (has_too_many_rules (all_rule_lists plan) ≡ false)
  unfolding is_consistent
  checks = by_parts (has_wrong_carrier plan) (has_same_name plan) (has_same_pid plan) (has_too_many_rules (all_rule_lists plan)) (needs_stamps plan)
      (has_wrong_window (table_packets plan) plan) (not (has_short_gap plan) && not (has_long_cycle plan)) consistent
    where
      by_parts : (a b c d e f g : Bool) → (not a && (not b && (not c && (not d && (not e && (not f && g)))))) ≡ true → (c ≡ false) × (f ≡ false) × (d ≡ false)
      by_parts a b c d e f g all =
          let of_b : (not b && (not c && (not d && (not e && (not f && g))))) ≡ true = (both (not a) (not b && (not c && (not d && (not e && (not f && g))))) all).1 in
          let of_c : (not c && (not d && (not e && (not f && g)))) ≡ true = (both (not b) (not c && (not d && (not e && (not f && g)))) of_b).1 in
          let of_d : (not d && (not e && (not f && g))) ≡ true = (both (not c) (not d && (not e && (not f && g))) of_c).1 in
          let of_e : (not e && (not f && g)) ≡ true = (both (not d) (not e && (not f && g)) of_d).1 in
          let of_f : (not f && g) ≡ true = (both (not e) (not f && g) of_e).1 in
          (not_so c (both (not c) (not d && (not e && (not f && g))) of_c).0, not_so f (both (not f) g of_f).0, not_so d (both (not d) (not e && (not f && g)) of_d).0)

  pub sendable : IsSendable plan
  sendable = record {
    differ = (neither (has_pair same_pid (table_pids plan.table ++ service_pids plan)) (has_pair same_pid (isis plan)) checks.0).0;
    table_most = int_most plan.table ranges.int;
    service_most = services_most ranges.least plan.services ranges.services;
    leaves = by_test (leb plan.cycle (table_packets plan)) refl
        (neither (leb plan.cycle (table_packets plan)) (list_any (is_wrong_window (table_packets plan) plan) (sliced plan) || has_pair overlaps (sliced plan)) checks.1).0;
  }
    where
      by_test : (no : Bool) → leb plan.cycle (table_packets plan) ≡ no → no ≡ false → table_packets plan < plan.cycle
      by_test true e e2 = absurd (cc)
      by_test false e e2 = grind (arith, e)

  pub few_services : length plan.services ≤ 64
  few_services = by_carrier (is_baseband plan) (at_most 1 (most_services (is_baseband plan)) (length plan.services) ranges.count)
    where
      by_carrier : (baseband : Bool) → length plan.services ≤ most_services baseband → length plan.services ≤ 64
      by_carrier true le = omega (arith, le)
      by_carrier false le = omega (arith, le)

  pub few_rules : sum_by length (rule_lists plan) ≤ 128
  few_rules = omega (arith, rules_within plan.services, few (sum_by length (all_rule_lists plan)) checks.2)
    where
      few : (n : ℕ) → ltb 128 n ≡ false → n ≤ 128
      few n e = grind (arith, e)
