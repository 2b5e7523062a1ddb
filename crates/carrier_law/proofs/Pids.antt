-- What the checks of settings say of a plan of transport packets: no service is of GSE packets.
use Rattle.std.proofs.Common.{◌≡◌, ℕ, Bool, true, false, not, ◌&&◌, ◌||◌, cond, List, [], ◌∷◌, length, refl}
use Rattle.std.specs.Prelude.{is_some}
use Rattle.std.specs.List.{list_all, list_any}
use Rattle.std.proofs.lemmas.Bool.{and_parts}
use Rattle.plan_spec.specs.Plan.{KindFields, ule, mpe, fec, gse, PlanFields, pid_of, kinds, is_baseband, rule_lists, all_rule_lists}
use Rattle.plan_spec.specs.Checks.{is_plain, is_gse, has_wrong_carrier, has_same_name, has_same_pid, has_too_many_rules, has_no_rule, needs_stamps, has_wrong_window, has_short_gap, has_long_cycle}
use Rattle.plan_spec.specs.Signalling.{table_packets}
use Rattle.plan_spec.specs.Valid.{is_in_range, is_consistent, is_lone_service, is_plan_of_settings, is_plan_of_pid, is_plan}
use Rattle.plan_spec.specs.Wholes.{is_whole_plan}
use Rattle.plan_law.proofs.Versions.{whole_is_plan}
use Rattle.stream_spec.specs.Stream.{are_on_pids}

-- without baseband frames none is of GSE packets
no_gse : (b wrong gses : Bool) → b ≡ false → not (cond b wrong gses) ≡ true → gses ≡ false
no_gse false wrong false is right = refl
no_gse false wrong true is right = absurd (cc)
no_gse true wrong gses is right = absurd (cc)

consistent_carrier : (plan : PlanFields) → is_consistent plan ≡ true → not (has_wrong_carrier plan) ≡ true
unfolding is_consistent
consistent_carrier plan all =
    (and_parts (not (has_wrong_carrier plan))
    (not (has_same_name plan) && (not (has_same_pid plan) && (not (has_too_many_rules (all_rule_lists plan)) && (not (needs_stamps plan)
    && (not (has_wrong_window (table_packets plan) plan) && (not (has_short_gap plan) && not (has_long_cycle plan)))))))
    all).0

-- each plan is consistent
consistent : (plan : PlanFields) → is_plan plan ≡ true → is_consistent plan ≡ true
unfolding is_plan_of_settings is_plan_of_pid
consistent plan e = by_kind (is_in_range 32 plan) (is_consistent plan) (not (has_no_rule (rule_lists plan))) (is_in_range 0 plan) (is_plain plan.recording && is_lone_service plan.services) e
  where
    by_kind : (a b c d f : Bool) → ((a && (b && c)) || (d && (b && f))) ≡ true → b ≡ true
    by_kind a true c d f any = refl
    by_kind true false c true f any = absurd (cc)
    by_kind true false c false f any = absurd (cc)
    by_kind false false c true f any = absurd (cc)
    by_kind false false c false f any = absurd (cc)

all_on_pids : (ks : List KindFields) → list_any is_gse ks ≡ false → list_all (λ kind. is_some (pid_of kind)) ks ≡ true
all_on_pids [] none = refl
all_on_pids (ule pid address packing ∷ ks) none = all_on_pids ks none
all_on_pids (mpe pid ∷ ks) none = all_on_pids ks none
all_on_pids (fec pid rows parity window ∷ ks) none = all_on_pids ks none
all_on_pids (gse isi address ∷ ks) none = absurd (cc)

pub on_pids : (plan : PlanFields) → is_whole_plan plan ≡ true → is_baseband plan ≡ false → are_on_pids plan ≡ true
on_pids plan whole is =
    all_on_pids (kinds plan)
    (no_gse (is_baseband plan) (not (list_all is_gse (kinds plan)) || (is_some plan.table || not (is_plain plan.recording))) (list_any is_gse (kinds plan)) is
    (consistent_carrier plan (consistent plan (whole_is_plan plan whole))))
