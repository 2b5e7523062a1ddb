-- How long the section of a plan's INT is, and how many packets it takes.
use Rattle.std.proofs.Common.{◌≡◌, ℕ, zero, suc, ◌+◌, ◌-◌, ◌*◌, ◌/◌, ◌<◌, ◌≤◌, Bool, true, false, cond, leb, eqb, List, [], ◌∷◌, ◌++◌, length, map, take, drop, refl, ap, ◌∙◌, arith, length-drop, Some, None}
use Rattle.std.specs.Prelude.{flat_map, fold, sum_by, All}
use Rattle.std.proofs.lemmas.List.{length-append, append-nil}
use Rattle.std.proofs.lemmas.Grind.{flat_map-append}
use Rattle.ip_datagram.specs.declared.address.IpAddress.{IpAddress}
use Rattle.ip_datagram.specs.declared.address.IpAddress.TheVariants.{V4, V6}
use Rattle.addr_rules.specs.Texts.{address_bytes}
use Rattle.addr_rules.specs.declared.rules.Rule.{Rule}
use Rattle.section_spec.specs.Section.{section_form}
use Rattle.section_codec.proofs.Written.{length-section_bytes}
use Rattle.unit_stream.specs.Packing.{stuffed, behind_unit, Piece, begin_piece, middle_piece, pieces, byte_count, packetized}
use Rattle.unit_stream.proofs.Written.{length-numbered}
use Rattle.int_spec.specs.Descriptors.{stream_location}
use Rattle.int_spec.specs.Table.{TableFields, goes_into, with_rule, rule_bytes, group_bytes, target_bytes, location_bytes, slices_bytes, operational_bytes, entry_bytes, descriptor_bytes, loop_bytes, table_body, table_bytes, address_size, IsRule}
use Rattle.plan_spec.specs.Plan.{KindFields, ule, mpe, fec, gse, ServiceFields, IntFields, PlanFields, rule_lists}
use Rattle.plan_spec.specs.Signalling.{slices_of, entry_of, table_of, section_packets}

-- Rules.

rule_size : (rule : Rule) → IsRule rule → length (rule_bytes rule) ≤ 17
rule_size rule is = omega (arith, length-append (address_bytes rule.address) (rule.slash ∷ []), is.size, most rule.address)
  where
    most : (address : IpAddress) → address_size address ≤ 16
    most (V4 b) = omega arith
    most (V6 b) = omega arith

rules_more : (rules : List Rule) (rule : Rule) → length (rule_bytes rule) ≤ 17 → length (flat_map rule_bytes (rules ++ rule ∷ [])) ≤ length (flat_map rule_bytes rules) + 17
rules_more rules rule le =
    let parts : length (flat_map rule_bytes (rules ++ rule ∷ [])) ≡ length (flat_map rule_bytes rules) + length (flat_map rule_bytes (rule ∷ []))
    = ap length (flat_map-append rule_bytes rules (rule ∷ [])) ∙ length-append (flat_map rule_bytes rules) (flat_map rule_bytes (rule ∷ [])) in
    let one : length (flat_map rule_bytes (rule ∷ [])) ≡ length (rule_bytes rule) = ap length (append-nil (rule_bytes rule)) in
    omega (arith, parts, one, le)

group_more : (group : List Rule) (rule : Rule) → length (rule_bytes rule) ≤ 17 → length (group_bytes (group ++ rule ∷ [])) ≤ length (group_bytes group) + 19
group_more [] rule le = few (length (flat_map rule_bytes (rule ∷ []))) (length (rule_bytes rule)) (ap length (append-nil (rule_bytes rule))) le
  where
    few : (a b : ℕ) → a ≡ b → b ≤ 17 → suc (suc a) ≤ 0 + 19
    few a b e le2 = omega (arith, e, le2)
group_more (first ∷ others) rule le =
    few (length (flat_map rule_bytes (first ∷ (others ++ rule ∷ [])))) (length (flat_map rule_bytes (first ∷ others))) (rules_more (first ∷ others) rule le)
  where
    few : (a b : ℕ) → a ≤ b + 17 → suc (suc a) ≤ suc (suc b) + 19
    few a b le2 = omega (arith, le2)

abbrev groups_size : List (List Rule) → ℕ
groups_size groups = length (flat_map group_bytes groups)

with_more : (groups : List (List Rule)) (rule : Rule) → length (rule_bytes rule) ≤ 17 → groups_size (with_rule groups rule) ≤ groups_size groups + 19
with_more [] rule le = omega (arith, length-append (group_bytes (rule ∷ [])) [], group_more [] rule le)
with_more (last ∷ []) rule le = by_test (goes_into last rule)
  where
    one : (group : List Rule) → groups_size (group ∷ []) ≡ length (group_bytes group)
    one group = ap length (append-nil (group_bytes group))

    by_test : (goes : Bool) → groups_size (cond goes ((last ++ rule ∷ []) ∷ []) (last ∷ (rule ∷ []) ∷ [])) ≤ groups_size (last ∷ []) + 19
    by_test true = omega (arith, one (last ++ rule ∷ []), one last, group_more last rule le)
    by_test false =
        let parts : groups_size (last ∷ (rule ∷ []) ∷ []) ≡ length (group_bytes last) + groups_size ((rule ∷ []) ∷ [])
        = length-append (group_bytes last) (flat_map group_bytes ((rule ∷ []) ∷ [])) in
        omega (arith, parts, one last, one (rule ∷ []), group_more [] rule le)
with_more (group ∷ next ∷ others) rule le =
    omega (
      arith,
      length-append (group_bytes group) (flat_map group_bytes (with_rule (next ∷ others) rule)),
      length-append (group_bytes group) (flat_map group_bytes (next ∷ others)),
      with_more (next ∷ others) rule le,
    )

abbrev AreRules : List Rule → Type 0
AreRules [] = Unit {0}
AreRules (rule ∷ rules) = IsRule rule × AreRules rules

are_rules : (rules : List Rule) → All IsRule rules → AreRules rules
are_rules [] all = tt
are_rules (rule ∷ rules) all = (all 0 rule (omega arith), are_rules rules (λ n d less. all (suc n) d (omega (arith, less))))

fold_more : (groups : List (List Rule)) (rules : List Rule) → AreRules rules → groups_size (fold with_rule groups rules) ≤ groups_size groups + 19 * length rules
fold_more groups [] are = omega arith
fold_more groups (rule ∷ rules) are =
    omega (arith, fold_more (with_rule groups rule) rules are.1, with_more groups rule (rule_size rule are.0))

-- Entries.

slices_size : (rate : ℕ) (kind : KindFields) → length (slices_bytes (slices_of rate kind)) ≤ 5
slices_size rate (ule pid address packing) = omega arith
slices_size rate (mpe pid) = omega arith
slices_size rate (fec pid rows parity None) = omega arith
slices_size rate (fec pid rows parity (Some window)) = omega arith
slices_size rate (gse isi address) = omega arith

loop_size : (content : List ℕ) → length (loop_bytes content) ≡ 2 + length content
loop_size content = two (length content)
  where
    two : (n : ℕ) → suc (suc n) ≡ 2 + n
    two n = omega arith

entry_size : (table : TableFields) (rate : ℕ) (service : ServiceFields) → All IsRule service.rules
    → length (entry_bytes table (entry_of rate service)) ≤ 20 + 19 * length service.rules
entry_size table rate service all =
    let parts : length (entry_bytes table (entry_of rate service)) ≡ length (loop_bytes (target_bytes service.rules)) + length (loop_bytes (operational_bytes table (entry_of rate service)))
    = length-append (loop_bytes (target_bytes service.rules)) (loop_bytes (operational_bytes table (entry_of rate service))) in
    let location : length (descriptor_bytes stream_location (location_bytes table (entry_of rate service))) ≡ 11 = refl in
    let operational : length (operational_bytes table (entry_of rate service))
    ≡ length (descriptor_bytes stream_location (location_bytes table (entry_of rate service))) + length (slices_bytes (slices_of rate service.kind))
    = length-append (descriptor_bytes stream_location (location_bytes table (entry_of rate service))) (slices_bytes (slices_of rate service.kind)) in
    omega (
      arith,
      parts,
      loop_size (target_bytes service.rules),
      loop_size (operational_bytes table (entry_of rate service)),
      location,
      operational,
      slices_size rate service.kind,
      fold_more [] service.rules (are_rules service.rules all),
    )

abbrev rule_count : List ServiceFields → ℕ
rule_count [] = 0
rule_count (service ∷ services) = length service.rules + rule_count services

count_is : (n : ℕ) (services : List ServiceFields) → fold (λ a rules. a + length rules) n (map (λ (service : ServiceFields). service.rules) services) ≡ n + rule_count services
count_is n [] = omega arith
count_is n (service ∷ services) = count_is (n + length service.rules) services ∙ sum_of n (length service.rules) (rule_count services)
  where
    sum_of : (a b c : ℕ) → a + b + c ≡ a + (b + c)
    sum_of a b c = omega arith

entries_size : (table : TableFields) (rate : ℕ) (services : List ServiceFields) → All (All IsRule) (map (λ (service : ServiceFields). service.rules) services)
    → length (flat_map (entry_bytes table) (map (entry_of rate) services)) ≤ 20 * length services + 19 * rule_count services
entries_size table rate [] all = omega arith
entries_size table rate (service ∷ services) all =
    sizes (length (entry_bytes table (entry_of rate service))) (length (flat_map (entry_bytes table) (map (entry_of rate) services))) (length service.rules) (length services) (rule_count services)
    (length-append (entry_bytes table (entry_of rate service)) (flat_map (entry_bytes table) (map (entry_of rate) services)))
    (entry_size table rate service (all 0 [] (omega arith))) (entries_size table rate services (λ n d less. all (suc n) d (omega (arith, less))))
  where
    sizes : (a b r n c : ℕ) → length (entry_bytes table (entry_of rate service) ++ flat_map (entry_bytes table) (map (entry_of rate) services)) ≡ a + b
        → a ≤ 20 + 19 * r → b ≤ 20 * n + 19 * c
        → length (entry_bytes table (entry_of rate service) ++ flat_map (entry_bytes table) (map (entry_of rate) services)) ≤ 20 * suc n + 19 * (r + c)
    sizes a b r n c e le le2 = omega (arith, e, le, le2)

-- at most 64 services with 128 rules
pub table_size : (plan : PlanFields) (int : IntFields) → length plan.services ≤ 64 → sum_by length (rule_lists plan) ≤ 128 → All (All IsRule) (rule_lists plan)
    → length (table_bytes (table_of plan int)) ≤ 3730
table_size plan int services rules all =
    let body : length (table_body (table_of plan int)) ≡ 11 + length (flat_map (entry_bytes (table_of plan int)) (map (entry_of plan.packet_rate) plan.services))
    = eleven (length (flat_map (entry_bytes (table_of plan int)) (map (entry_of plan.packet_rate) plan.services))) in
    omega (
      arith,
      length-section_bytes 0x4C 0xF0 (table_body (table_of plan int)),
      body,
      entries_size (table_of plan int) plan.packet_rate plan.services all,
      count_is 0 plan.services,
      services,
      rules,
    )
  where
    eleven : (n : ℕ) → suc (suc (suc (suc (suc (suc (suc (suc (suc (suc (suc n)))))))))) ≡ 11 + n
    eleven n = omega arith

-- The packets of one section.

middle_count : (most start : ℕ) (packing : Bool) (rest : List ℕ) → length rest ≤ most → length (pieces most start packing rest []) ≡ (length rest + 183) / 184
middle_count zero start packing rest le = none (length rest) le
  where
    none : (n : ℕ) → n ≤ 0 → 0 ≡ (n + 183) / 184
    none n le2 = omega (arith, le2)
middle_count (suc most) start packing rest le =
    by_test (eqb (length rest) 0) refl (λ few. middle_count most start packing (drop 184 rest) few)
  where
    by_test : (none : Bool) → eqb (length rest) 0 ≡ none
        → (length (drop 184 rest) ≤ most → length (pieces most start packing (drop 184 rest) []) ≡ (length (drop 184 rest) + 183) / 184)
        → length (cond {A = List Piece} none [] (middle_piece rest ∷ pieces most start packing (drop 184 rest) [])) ≡ (length rest + 183) / 184
    by_test true e later = zero_is (length rest) (grind (arith, e))
      where
        zero_is : (n : ℕ) → n ≡ 0 → 0 ≡ (n + 183) / 184
        zero_is n is = omega (arith, is)
    by_test false e later = one_more (length rest) (length (drop 184 rest)) (length (pieces most start packing (drop 184 rest) [])) (length-drop 184 rest) (grind (arith, e)) (later (omega (arith, length-drop 184 rest, le)))
      where
        one_more : (n m c : ℕ) → m ≡ n - 184 → 1 ≤ n → c ≡ (m + 183) / 184 → suc c ≡ (n + 183) / 184
        one_more n m c e1 some e2 = omega (arith, e1, some, e2)

section_count : (start : ℕ) (unit : List ℕ) → 1 ≤ length unit → length (pieces (byte_count (unit ∷ [])) start true [] (unit ∷ [])) ≡ section_packets unit
section_count start unit some = by_most (byte_count (unit ∷ [])) (omega arith)
  where
    by_most : (most : ℕ) → length unit ≤ most → length (pieces most start true [] (unit ∷ [])) ≡ section_packets unit
    by_most zero le = absurd (omega (arith, le, some))
    by_most (suc most) le = by_room (leb (length unit) 183) refl (leb start (183 - length unit))
      where
        one : (n : ℕ) → 1 ≤ n → n ≤ 183 → 1 + 0 ≡ (1 + n + 183) / 184
        one n some2 le2 = omega (arith, some2, le2)

        more : (n m c : ℕ) → m ≡ n - 183 → 183 < n → c ≡ (m + 183) / 184 → suc c ≡ (1 + n + 183) / 184
        more n m c e many e2 = omega (arith, e, many, e2)

        short : length unit ≤ 183 → suc (length (pieces most start true [] [])) ≡ section_packets unit
        short le2 = one_piece (length (pieces most start true [] [])) (length unit) (middle_count most start true [] (omega arith)) some le2
          where
            one_piece : (c n : ℕ) → c ≡ (0 + 183) / 184 → 1 ≤ n → n ≤ 183 → suc c ≡ (1 + n + 183) / 184
            one_piece c n e some2 le3 = omega (arith, e, some2, le3)

        by_room : (fits : Bool) → leb (length unit) 183 ≡ fits → (follows : Bool)
            → length (begin_piece [] (cond fits (behind_unit unit (cond follows (stuffed (183 - length unit) []) (stuffed (183 - length unit) [])))
            (record { bytes = take 183 unit; rest = drop 183 unit; units = [] })) (pieces most start true)) ≡ section_packets unit
        by_room true e true = short (grind (arith, e))
        by_room true e false = short (grind (arith, e))
        by_room false e follows =
            more (length unit) (length (drop 183 unit)) (length (pieces most start true (drop 183 unit) [])) (length-drop 183 unit) (grind (arith, e))
            (middle_count most start true (drop 183 unit) (omega (arith, length-drop 183 unit, le)))

pub length-packetized : (pid counter : ℕ) (unit : List ℕ) → 1 ≤ length unit → length (packetized section_form true pid counter (unit ∷ [])) ≡ section_packets unit
length-packetized pid counter unit some =
    length-numbered pid counter (pieces (byte_count (unit ∷ [])) 1 true [] (unit ∷ [])) ∙ section_count 1 unit some
