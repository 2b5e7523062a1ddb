-- One packet more, over all receivers.
use Rattle.std.proofs.Common.{◌≡◌, ℕ, suc, ◌^◌, ◌<◌, ◌≤◌, Bool, true, false, cond, ◌&&◌, ◌||◌, Option, None, Some, List, [], ◌∷◌, ◌++◌, length, map, set, get_or, refl, ap, sym, ◌∙◌, subst, arith, eq-eqb}
use Rattle.std.specs.Prelude.{◌==◌, slice_get, is_some, find}
use Rattle.std.specs.List.{list_any, filter_map, cons_option}
use Rattle.std.proofs.lemmas.Bool.{eqb-true, ne_eqb}
use Rattle.std.proofs.lemmas.List.{append-nil, map-append, length-set}
use Rattle.std.proofs.lemmas.Option.{slice_get_within}
use Rattle.ts_spec.specs.Packet.{fields_of, is_packet}
use Rattle.ts_spec.specs.Recording.{Record}
use Rattle.section_spec.specs.Section.{section_form}
use Rattle.plan_spec.specs.Plan.{ServiceFields, IntFields, PlanFields, pid_of, table_pids, service_pids}
use Rattle.plan_spec.specs.Checks.{has_pair}
use Rattle.plan_spec.specs.Changes.{no_service, plan_in, services_in, pid_in, all_pids, moves_wrongly, has_wrong_change}
use Rattle.plan_spec.specs.InForce.{version_behind}
use Rattle.plan_law.proofs.Kept.{length-services_in}
use Rattle.plan_law.proofs.Pids.{none_twice_in}
use Rattle.reception_spec.specs.Packets.{is_on, is_pid_of}
use Rattle.reception_spec.specs.Numbers.{units_on}
use Rattle.reception_spec.specs.Table.{is_int_section, table_pid, table_sections}
use Rattle.reception_spec.specs.Shown.{says_version, table_section}
use Rattle.reception_spec.specs.Spans.{version_at_end, span_of}
use Rattle.reception_spec.specs.Delivered.{service_on, pairs_of_record}
use Rattle.reception_law.specs.Words.{added_by}
use Rattle.reception_law.specs.InForce.{pid_in_force}
use Rattle.outlet_spec.specs.Pairs.{pairs_of, pairs_of_all}
use Rattle.service_reception.specs.Table.{shown_among}
use Rattle.service_reception.proofs.Fronts.{table_stays}
use Rattle.demux_core.specs.Moving.{AllFollow, closed_by_switch}
use Rattle.demux_core.specs.Services.{IsReception, HasReceivedOne, HaveReceived, HasReceivedBy, HasReceivedInt, HaveAllReceived, is_table_pid, is_service_pid, version_of_table}
use Rattle.demux_core.specs.declared.service.ServiceReceiver.{ServiceReceiver}
use Rattle.demux_core.specs.declared.int_receiver.IntReceiver.{IntReceiver}
use Rattle.demux_core.proofs.Laws.{Laws}
use Rattle.demux_core.proofs.OnPids.{neither, some_at, set_same, set_other, receiver_pids, none_passes, pids_apart, any_by_pid}
use Rattle.demux_core.proofs.One.{one_passes, one_took, one_follows}
use Rattle.demux_core.proofs.Switches.{switch_pairs}

true_false : true ≡ false → ⊥
true_false e = cc

-- no receiver is on a PID of which the record is a packet
abbrev pub Misses : Record → List ServiceReceiver → Type 0
Misses r receivers = (k : ℕ) (receiver : ServiceReceiver) → slice_get receivers k ≡ Some receiver → is_on receiver.pid r ≡ false

-- a packet of another PID
pub off_pid : (a pid : ℕ) (r : Record) → (fields_of r.bytes).pid ≡ pid → (a ≡ pid → ⊥) → is_on a r ≡ false
off_pid a pid r of_pid other =
    ap (λ (b : Bool). is_some r.moment && (is_packet r.bytes && b)) (ne_eqb (fields_of r.bytes).pid a (λ same. other (sym same ∙ of_pid))) ∙ none (is_some r.moment) (is_packet r.bytes)
  where
    none : (a b : Bool) → (a && (b && false)) ≡ false
    none true true = refl
    none true false = refl
    none false b = refl

-- The PIDs of the version in force.

abbrev pids_of : List ServiceFields → List ℕ
pids_of services = filter_map pid_of (map (λ (service : ServiceFields). service.kind) services)

pids_by : (services : List ServiceFields) (receivers : List ServiceReceiver) → length receivers ≡ length services
    → ((k : ℕ) (receiver : ServiceReceiver) → slice_get receivers k ≡ Some receiver → pid_of (get_or services k no_service).kind ≡ Some receiver.pid)
    → pids_of services ≡ receiver_pids receivers
pids_by [] [] size each = refl
pids_by [] (receiver ∷ receivers) size each = absurd (omega (arith, size))
pids_by (it ∷ services) [] size each = absurd (omega (arith, size))
pids_by (it ∷ services) (receiver ∷ receivers) size each =
    ap (λ (o : Option ℕ). cons_option o (pids_of services)) (each 0 receiver refl)
    ∙ ap (λ (t : List ℕ). receiver.pid ∷ t) (pids_by services receivers (omega (arith, size)) (λ k other found. each (suc k) other found))

pub same_pids : (plan : PlanFields) (version : ℕ) (receivers : List ServiceReceiver) (records : List Record) → HaveReceived false plan version receivers records
    → service_pids (plan_in plan version) ≡ receiver_pids receivers
unfolding pid_in
same_pids plan version receivers records has =
    pids_by (services_in plan version) receivers (has.count_is ∙ sym (length-services_in plan version)) (λ k receiver found. (has.each k receiver found).pid_is)

services_differ : (table : Option IntFields) (pids : List ℕ) → has_pair (λ a b. a == b) (table_pids table ++ pids) ≡ false → has_pair (λ a b. a == b) pids ≡ false
services_differ None pids differ = differ
services_differ (Some int) pids differ = (neither (list_any (λ b. int.pid == b) pids) (has_pair (λ a b. a == b) pids) differ).1

differ_in : (plan : PlanFields) (version : ℕ) → version ≤ length plan.changes → has_wrong_change plan ≡ false
    → has_pair (λ a b. a == b) (table_pids plan.table ++ service_pids (plan_in plan version)) ≡ false
differ_in plan version most right =
    none_twice_in plan version (omega (arith, most))
    (neither (list_any (moves_wrongly plan) plan.changes) (has_pair (λ a b. a == b) (all_pids plan))
    (neither _ (list_any (moves_wrongly plan) plan.changes || has_pair (λ a b. a == b) (all_pids plan)) right).1).1

-- The version that the INT's receiver has.
pub version_is : (plan : PlanFields) (laws : Laws plan) (table : Option IntReceiver) (records : List Record) → HasReceivedInt plan table records
    → version_of_table table ≡ version_at_end plan records
version_is plan laws table records has = by_int plan.table refl table has
  where
    by_int : (int : Option IntFields) → plan.table ≡ int → (t : Option IntReceiver) → HasReceivedBy plan int t records → version_of_table t ≡ version_at_end plan records
    by_int None is None h = sym (laws.without_table records is)
    by_int None is (Some t) h = absurd h
    by_int (Some int) is None h = absurd h
    by_int (Some int) is (Some t) h =
        ap (λ k. k.version) h.1.kept_are
        ∙ ap (λ (p : ℕ). version_behind plan (units_on section_form (Some p) records)) (sym h.0)
        ∙ ap (λ (o : Option IntFields). version_behind plan (units_on section_form (table_pid o) records)) (sym is)
        ∙ sym (laws.in_force records)

-- The section that the INT's receiver shows.
abbrev pub shown_of : Option IntReceiver → Option (List ℕ)
shown_of None = None
shown_of (Some receiver) = receiver.reception.kept.shown

pub shown_is : (plan : PlanFields) (laws : Laws plan) (table : Option IntReceiver) (records : List Record) → HasReceivedInt plan table records
    → shown_of table ≡ table_section plan records
shown_is plan laws table records has = by_int plan.table refl table has
  where
    shown_by : ℕ → List (List ℕ) → Option (List ℕ)
    shown_by version sections = cond (version == 0) (find is_int_section sections) (find (says_version plan version) sections)

    none_shown : (b : Bool) → None ≡ cond {A = Option (List ℕ)} b None None
    none_shown true = refl
    none_shown false = refl

    by_int : (int : Option IntFields) → plan.table ≡ int → (t : Option IntReceiver) → HasReceivedBy plan int t records → shown_of t ≡ table_section plan records
    by_int None is None h =
        none_shown (version_at_end plan records == 0)
        ∙ ap (λ (o : Option IntFields). shown_by (version_at_end plan records) (units_on section_form (table_pid o) records)) (sym is)
    by_int None is (Some t) h = absurd h
    by_int (Some int) is None h = absurd h
    by_int (Some int) is (Some t) h =
        ap (λ k. k.shown) h.1.kept_are
        ∙ ap (λ (p : ℕ). shown_among plan (units_on section_form (Some p) records)) (sym h.0)
        ∙ ap (λ (o : Option IntFields). shown_among plan (units_on section_form (table_pid o) records)) (sym is)
        ∙ ap (λ (version : ℕ). shown_by version (table_sections plan records)) (sym (laws.in_force records))

module _ (plan : PlanFields) (laws : Laws plan) (receivers : List ServiceReceiver) (table : Option IntReceiver) (records : List Record) (r : Record)
    (all : HaveAllReceived false plan receivers table records) where
  abbrev after : List Record
  after = records ++ r ∷ []

  abbrev now : ℕ
  now = version_at_end plan records

  -- no receiver is on the PID of the record, and nor is the INT's
  pub all_pass : Misses r receivers → HaveReceived false plan now receivers after
  all_pass misses = record {
    count_is = all.services.count_is;
    each = λ k receiver found. one_passes plan laws k receiver records r (all.services.each k receiver found) (misses k receiver found);
  }

  int_by : (int : Option IntFields) → plan.table ≡ int → (t : Option IntReceiver) → ((pid : ℕ) → is_table_pid t pid ≡ true → is_on pid r ≡ false)
      → HasReceivedBy plan int t records → HasReceivedBy plan int t after × (version_at_end plan after ≡ now)
  int_by None is None none has = (tt, laws.without_table after is ∙ sym (laws.without_table records is))
  int_by None is (Some t) none has = absurd has
  int_by (Some int) is None none has = absurd has
  int_by (Some int) is (Some t) none has =
      let off : is_on t.pid r ≡ false = none t.pid (eq-eqb t.pid t.pid refl) in (
        (has.0, table_stays plan int t.pid t.reception records r off has.1),
        laws.version_stays int records r is (ap (λ (p : ℕ). is_on p r) has.0 ∙ off),
      )

  pub int_passes : ((pid : ℕ) → is_table_pid table pid ≡ true → is_on pid r ≡ false) → HasReceivedInt plan table after × (version_at_end plan after ≡ now)
  int_passes none = int_by plan.table refl table none all.int

  pub all_passed : ((pid : ℕ) → is_table_pid table pid ≡ true → is_on pid r ≡ false) → Misses r receivers → HaveAllReceived false plan receivers table after
  all_passed none misses =
      let int = int_passes none in
      record { services = subst (λ (v : ℕ). HaveReceived false plan v receivers after) (sym int.1) (all_pass misses); int = int.0 }

  -- the PIDs in force are those of the receivers
  off_services : Misses r receivers → (k pid : ℕ) → k < length plan.services → pid_in_force plan k records ≡ Some pid → is_on pid r ≡ false
  off_services misses k pid less in_force =
      let at = some_at receivers k (omega (arith, less, all.services.count_is)) in
      let same : at.0.pid ≡ pid = same_some (pid_in_force plan k records) at.0.pid pid (all.services.each k at.0 at.1).pid_is in_force in
      ap (λ (p : ℕ). is_on p r) (sym same) ∙ misses k at.0 at.1
    where
      same_some : (o : Option ℕ) (p q : ℕ) → o ≡ Some p → o ≡ Some q → p ≡ q
      same_some o p q is_p is_q = cc

  pub nothing_given : Misses r receivers → version_at_end plan after ≡ now → pairs_of_record plan after (length records) ≡ []
  nothing_given misses stays = laws.pairs_none records r (off_services misses) (λ k less. ap (λ (v : ℕ). pid_in plan v k) stays)

  -- a packet of a PID
  module _ (right : has_wrong_change plan ≡ false) (pid : ℕ) (of_pid : (fields_of r.bytes).pid ≡ pid) where
    same : service_pids (plan_in plan now) ≡ receiver_pids receivers
    same = same_pids plan now receivers records all.services

    pids_differ : has_pair (λ a b. a == b) (table_pids plan.table ++ service_pids (plan_in plan now)) ≡ false
    pids_differ = differ_in plan now (laws.most_version records) right

    receivers_differ : has_pair (λ a b. a == b) (receiver_pids receivers) ≡ false
    receivers_differ = ap (has_pair (λ a b. a == b)) (sym same) ∙ services_differ plan.table (service_pids (plan_in plan now)) pids_differ

    -- whether the PID is one of the plan
    known_by : (int : Option IntFields) (t : Option IntReceiver) → HasReceivedBy plan int t records
        → list_any (λ other. other == pid) (table_pids int ++ service_pids (plan_in plan now)) ≡ (is_table_pid t pid || is_service_pid receivers pid)
    known_by None None has = ap (list_any (λ other. other == pid)) same ∙ sym (any_by_pid receivers pid)
    known_by None (Some t) has = absurd has
    known_by (Some int) None has = absurd has
    known_by (Some int) (Some t) has =
        ap (λ (p : ℕ). (p == pid) || list_any (λ other. other == pid) (service_pids (plan_in plan now))) has.0
        ∙ ap (λ (b : Bool). (t.pid == pid) || b) (ap (list_any (λ other. other == pid)) same ∙ sym (any_by_pid receivers pid))

    pub known : is_pid_of (plan_in plan now) pid ≡ (is_table_pid table pid || is_service_pid receivers pid)
    known = known_by plan.table table all.int

    misses_by : (p : ℕ → Bool) → p pid ≡ true → list_any p (receiver_pids receivers) ≡ false → Misses r receivers
    misses_by p own none = λ k receiver found. off_pid receiver.pid pid r of_pid
        (λ is. true_false (sym own ∙ ap p (sym is) ∙ none_passes p receivers k receiver none found))

    -- a packet of the INT's PID misses all services
    int_misses : (int : Option IntFields) (t : Option IntReceiver) → HasReceivedBy plan int t records
        → has_pair (λ a b. a == b) (table_pids int ++ service_pids (plan_in plan now)) ≡ false → is_table_pid t pid ≡ true → Misses r receivers
    int_misses None None has apart own = absurd (cc)
    int_misses None (Some t) has apart own = absurd has
    int_misses (Some int) None has apart own = absurd has
    int_misses (Some int) (Some t) has apart own =
        misses_by (λ b. int.pid == b) (eq-eqb int.pid pid (has.0 ∙ eqb-true t.pid pid own))
        (ap (list_any (λ b. int.pid == b)) (sym same)
        ∙ (neither (list_any (λ b. int.pid == b) (service_pids (plan_in plan now))) (has_pair (λ a b. a == b) (service_pids (plan_in plan now))) apart).0)

    pub misses_int : is_table_pid table pid ≡ true → Misses r receivers
    misses_int own = int_misses plan.table table all.int pids_differ own

    -- a packet of no service
    pub misses_all : is_service_pid receivers pid ≡ false → Misses r receivers
    misses_all none = misses_by (λ other. other == pid) (eq-eqb pid pid refl) (sym (any_by_pid receivers pid) ∙ none)

    -- and not of the INT
    off_int : is_table_pid table pid ≡ false → (p : ℕ) → is_table_pid table p ≡ true → is_on p r ≡ false
    off_int off = λ p own. off_pid p pid r of_pid (λ is. true_false (sym own ∙ ap (is_table_pid table) is ∙ off))

    -- the version stays
    pub still_in_force : is_table_pid table pid ≡ false → version_at_end plan after ≡ now
    still_in_force off = (int_passes (off_int off)).1

    pub none_took : is_table_pid table pid ≡ false → is_service_pid receivers pid ≡ false → HaveAllReceived false plan receivers table after
    none_took off none = all_passed (off_int off) (misses_all none)

    -- the INT's receiver took it, and left the version in force, or all receivers follow
    module _ (new : Option IntReceiver) (own : is_table_pid table pid ≡ true) (took : HasReceivedInt plan new after) where
      pub int_took : version_of_table new ≡ version_of_table table → HaveAllReceived false plan receivers new after
      int_took stays = record {
        services = subst (λ (v : ℕ). HaveReceived false plan v receivers after)
            (sym (version_is plan laws table records all.int) ∙ sym stays ∙ version_is plan laws new after took) (all_pass (misses_int own));
        int = took;
      }

      pub int_gives_none : version_of_table new ≡ version_of_table table → pairs_of_record plan after (length records) ≡ []
      int_gives_none stays =
          nothing_given (misses_int own) (sym (version_is plan laws new after took) ∙ stays ∙ version_is plan laws table records all.int)

      -- what is closed by the switch
      pub int_gives : is_on pid r ≡ true → (version : ℕ) → version ≡ version_of_table new
          → pairs_of_record plan after (length records) ≡ pairs_of_all (length plan.services) (closed_by_switch plan now version records)
      int_gives on version is_version = by_int plan.table refl table all.int own
        where
          by_int : (int : Option IntFields) → plan.table ≡ int → (t : Option IntReceiver) → HasReceivedBy plan int t records → is_table_pid t pid ≡ true
              → pairs_of_record plan after (length records) ≡ pairs_of_all (length plan.services) (closed_by_switch plan now version records)
          by_int None is None has mine = absurd (cc)
          by_int None is (Some t) has mine = absurd has
          by_int (Some int) is None has mine = absurd has
          by_int (Some int) is (Some t) has mine =
              switch_pairs plan laws records r int is (ap (λ (p : ℕ). is_on p r) (has.0 ∙ eqb-true t.pid pid mine) ∙ on) (off_services (misses_int own))
              ∙ ap (λ (v : ℕ). pairs_of_all (length plan.services) (closed_by_switch plan now v records)) (sym (version_is plan laws new after took) ∙ sym is_version)

      pub int_switched : length records < 2 ^ 32 → length plan.changes ≤ 31 → (news : List ServiceReceiver) → length news ≡ length receivers
          → AllFollow plan (version_of_table new) receivers news → HaveAllReceived false plan news new after
      int_switched few few_changes news count follow = record {
        services = record {
          count_is = count ∙ all.services.count_is;
          each = λ k receiver found.
              let at = some_at receivers k (omega (arith, slice_get_within news k receiver found, count)) in
              one_follows plan laws k at.0 records r (all.services.each k at.0 at.1) (misses_int own k at.0 at.1) few few_changes receiver
              (subst (λ (v : ℕ). AllFollow plan v receivers news) (version_is plan laws new after took) follow k at.0 receiver at.1 found);
        };
        int = took;
      }

    -- the receiver of a service took it
    module _ (k : ℕ) (old : ServiceReceiver) (there : slice_get receivers k ≡ Some old) (at : old.pid ≡ pid) where
      pub service_took : (new : ServiceReceiver) → is_table_pid table pid ≡ false → new.pid ≡ old.pid → new.before ≡ old.before
          → IsReception false plan.recording (service_on plan k old.pid) new.reception (span_of plan k old.pid records ++ r ∷ []) → HaveAllReceived false plan (set receivers k new) table after
      service_took new off pid_same before_same took =
          let int = int_passes (off_int off) in
          record {
            services = subst (λ (v : ℕ). HaveReceived false plan v (set receivers k new) after) (sym int.1) (record {
              count_is = length-set receivers k new ∙ all.services.count_is;
              each = λ j receiver found. by_place j receiver found (j == k) refl;
            });
            int = int.0;
          }
        where
          by_place : (j : ℕ) (receiver : ServiceReceiver) → slice_get (set receivers k new) j ≡ Some receiver → (b : Bool) → (j == k) ≡ b → HasReceivedOne false plan now j receiver after
          by_place j receiver found true e =
              let place : j ≡ k = eqb-true j k e in
              let is : new ≡ receiver = set_same receivers k new receiver (ap (λ (n : ℕ). slice_get (set receivers k new) n) (sym place) ∙ found) in
              subst (λ (n : ℕ). HasReceivedOne false plan now n receiver after) (sym place)
              (subst (λ (t : ServiceReceiver). HasReceivedOne false plan now k t after) is
              (one_took plan laws k old records r (all.services.each k old there) new pid_same before_same took))
          by_place j receiver found false e =
              let apart : j ≡ k → ⊥ = λ same. true_false (sym (eq-eqb j k same) ∙ e) in
              let before : slice_get receivers j ≡ Some receiver = set_other receivers k j new receiver apart found in
              one_passes plan laws j receiver records r (all.services.each j receiver before)
              (off_pid receiver.pid pid r of_pid (λ is. pids_apart receivers j k receiver old receivers_differ before there apart (is ∙ sym at)))

      pub given_by_one : is_on pid r ≡ true → pairs_of_record plan after (length records) ≡ pairs_of k (added_by plan.recording (service_on plan k old.pid) (span_of plan k old.pid records) r)
      given_by_one own = laws.pairs_one k old.pid records r (omega (arith, slice_get_within receivers k old there, all.services.count_is))
          (all.services.each k old there).pid_is (ap (λ (p : ℕ). is_on p r) at ∙ own)
