-- How many bytes the entries of services have, and how many packets their INT.
use Rattle.std.proofs.Common.{◌≡◌, ℕ, ◌+◌, ◌*◌, ◌/◌, ◌<◌, ◌≤◌, List, length, map, drop, get_or, sum_by, min, Option, Some, None, refl, ap, sym, ◌∙◌, arith}
use Rattle.std.specs.Prelude.{flat_map}
use Rattle.std.proofs.lemmas.List.{length-append, drop_more, drop_all}
use Rattle.std.proofs.lemmas.List.Sums.{sum_by-cons}
use Rattle.int_spec.specs.Table.{TableFields, entry_bytes, table_bytes}
use Rattle.plan_spec.specs.Plan.{WindowFields, KindFields, ule, mpe, fec, gse, ServiceFields, MovedFields, IntFields, PlanFields}
use Rattle.plan_spec.specs.Signalling.{frame_slices, slices_of, entry_of, table_of, table_packets}
use Rattle.plan_spec.specs.Changes.{with_pid, no_service}
use Rattle.plan.specs.Parts.{kind_seen, service_seen}
use Rattle.plan.specs.Moves.{last_move, moves_of, service_after}
use Rattle.plan.specs.declared.service.Service.{Service}
use Rattle.plan.specs.declared.change.Change.{Change}
use Rattle.plan.proofs.VersionLemmas.{moved_so, moved_after}
use Rattle.service_plan.proofs.CheckLemmas.{rules_of}

-- a time_slice_fec_identifier has three bytes
pub length-frame_slices : (packet_rate rows : ℕ) (window : Option WindowFields) → length (frame_slices packet_rate rows window) ≡ 3
length-frame_slices packet_rate rows None = refl
length-frame_slices packet_rate rows (Some window) = refl

-- no move of a service changes it
slices_again : (packet_rate : ℕ) (kind : KindFields) (pid : ℕ) → slices_of packet_rate (with_pid kind pid) ≡ slices_of packet_rate kind
slices_again packet_rate (ule old address packing) pid = refl
slices_again packet_rate (mpe old) pid = refl
slices_again packet_rate (fec old rows parity window) pid = refl
slices_again packet_rate (gse isi address) pid = refl

slices_moved : (packet_rate : ℕ) (service : ServiceFields) (found : Option MovedFields) → slices_of packet_rate (moved_so service found).kind ≡ slices_of packet_rate service.kind
slices_moved packet_rate service None = refl
slices_moved packet_rate service (Some moved) = slices_again packet_rate service.kind moved.pid

pub slices_after : (services : List Service) (changes : List Change) (k : ℕ) (kept : Service) (packet_rate : ℕ) → k < length services → kept ≡ get_or services k kept
    → slices_of packet_rate (kind_seen kept.kind) ≡ slices_of packet_rate (service_after services changes k).kind
slices_after services changes k kept packet_rate within is =
    sym (slices_moved packet_rate (service_seen kept) (last_move k None (moves_of changes)))
    ∙ ap (λ (s : ServiceFields). slices_of packet_rate s.kind) (sym (moved_after services changes k kept within is))

-- the bytes of the entries of services, and how many rules these have
abbrev pub entries_length : TableFields → ℕ → List ServiceFields → ℕ
entries_length table packet_rate services = length (flat_map (entry_bytes table) (map (entry_of packet_rate) services))

abbrev pub rule_count : List ServiceFields → ℕ
rule_count services = sum_by length (rules_of services)

abbrev at_place : List ServiceFields → ℕ → ServiceFields
at_place services i = get_or services i no_service

entries_more : (table : TableFields) (packet_rate : ℕ) (services : List ServiceFields) (i : ℕ) → i < length services
    → entries_length table packet_rate (drop i services) ≡ length (entry_bytes table (entry_of packet_rate (at_place services i))) + entries_length table packet_rate (drop (i + 1) services)
entries_more table packet_rate services i within =
    ap (λ (l : List ServiceFields). entries_length table packet_rate l) (drop_more services i no_service within)
    ∙ length-append (entry_bytes table (entry_of packet_rate (at_place services i))) (flat_map (entry_bytes table) (map (entry_of packet_rate) (drop (i + 1) services)))

pub rules_more : (services : List ServiceFields) (i : ℕ) → i < length services → rule_count (drop i services) ≡ length (at_place services i).rules + rule_count (drop (i + 1) services)
rules_more services i within =
    ap (λ (l : List ServiceFields). rule_count l) (drop_more services i no_service within) ∙ sum_by-cons length (at_place services i).rules (rules_of (drop (i + 1) services))

-- counted so far, and one entry more
pub counted_more : (table : TableFields) (packet_rate : ℕ) (services : List ServiceFields) (i total size : ℕ) → i < length services
    → rule_count (drop i services) ≤ 128 → size ≤ 20 + 19 * length (at_place services i).rules
    → size ≡ min (length (entry_bytes table (entry_of packet_rate (at_place services i)))) 4097
    → total + entries_length table packet_rate (drop i services) ≡ entries_length table packet_rate services
    → (total + size) + entries_length table packet_rate (drop (i + 1) services) ≡ entries_length table packet_rate services
counted_more table packet_rate services i total size within few most told counted =
    let more = entries_more table packet_rate services i within in
    let rules = rules_more services i within in
    omega (arith, few, most, told, counted, more, rules)

pub counted_all : (table : TableFields) (packet_rate : ℕ) (services : List ServiceFields) (i total : ℕ) → length services ≤ i
    → total + entries_length table packet_rate (drop i services) ≡ entries_length table packet_rate services → total ≡ entries_length table packet_rate services
counted_all table packet_rate services i total past counted = let h = rw (drop_all i services past) at counted in omega (arith, h)

pub packets_counted : (plan : PlanFields) (int : IntFields) (services : List ServiceFields) (entries size : ℕ) → plan.table ≡ Some int → plan.services ≡ services
    → ((table : TableFields) (packet_rate : ℕ) → entries ≡ entries_length table packet_rate services)
    → ((table : TableFields) → length (flat_map (entry_bytes table) table.entries) ≡ entries → size ≡ length (table_bytes table))
    → (1 + size + 183) / 184 ≡ table_packets plan
unfolding table_packets
packets_counted plan int services entries size there same counted sized =
    let all : length (flat_map (entry_bytes (table_of plan int)) (map (entry_of plan.packet_rate) plan.services)) ≡ entries =
    rw same (sym (counted (table_of plan int) plan.packet_rate)) in
    rw there (ap (λ n. (1 + n + 183) / 184) (sized (table_of plan int) all))

pub no_packets : (plan : PlanFields) → plan.table ≡ None → 0 ≡ table_packets plan
unfolding table_packets
no_packets plan none = rw none
