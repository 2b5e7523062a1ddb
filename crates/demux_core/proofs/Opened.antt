-- A receiver that was given nothing, and what holds of its plan.
use Rattle.std.proofs.Common.{◌≡◌, inl, inr, ℕ, zero, suc, ◌+◌, Bool, true, false, cond, ◌&&◌, ◌||◌, eqb, Option, None, Some, List, [], ◌∷◌, ◌++◌, length, map, take, get_or, refl, ap, sym, ◌∙◌, subst, arith}
use Rattle.std.specs.Prelude.{◌==◌, not, slice_get, is_some, option_map}
use Rattle.std.specs.List.{list_all, list_any}
use Rattle.std.proofs.lemmas.Bool.{eqb-true}
use Rattle.std.proofs.lemmas.List.{map_push}
use Rattle.ts_spec.specs.Recording.{RecordingForm}
use Rattle.section_spec.specs.Mpe.{IsRows}
use Rattle.plan_spec.specs.Plan.{KindFields, ule, mpe, fec, gse, ServiceFields, PlanFields, pid_of, kinds, is_baseband}
use Rattle.plan_spec.specs.Checks.{is_gse, is_between, is_row_count, is_service_name, has_wrong_carrier, has_same_name, has_same_pid}
use Rattle.plan_spec.specs.Changes.{with_pid, on_pid, no_service, pid_in, has_wrong_change}
use Rattle.plan_spec.specs.Valid.{is_valid_window, is_valid_kind, is_valid_rule, has_valid_values, is_valid_service, has_valid_top, is_in_range, is_consistent, is_plan_of_settings, is_plan_of_pid, is_plan}
use Rattle.plan_spec.specs.Wholes.{has_valid_changes, is_whole_of_settings, is_whole_of_pid, is_whole_plan}
use Rattle.plan_law.proofs.Lists.{neither, not_false}
use Rattle.plan_law.proofs.Alone.{right_alone}
use Rattle.plan.specs.Parts.{window_seen, kind_seen, service_seen}
use Rattle.plan.specs.declared.service.Service.{Service}
use Rattle.reception_spec.specs.Numbers.{no_numbers}
use Rattle.reception_spec.specs.Frames.{no_frames}
use Rattle.reception_law.specs.Sums.{no_units, numbers_before, unit_numbers_before, frame_numbers_before}
use Rattle.demux_core.proofs.Counted.{same_counts}
use Rattle.demux_core.specs.Services.{IsReception, HaveReceived}
use Rattle.demux_core.specs.Opening.{IsOpened, AreOpened, has_right_rows}
use Rattle.demux_core.specs.declared.service.ServiceReceiver.{ServiceReceiver}

-- What holds of a plan.

both : (a b : Bool) → (a && b) ≡ true → (a ≡ true) × (b ≡ true)
both true b e = (refl, e)
both false b e = absurd (cc)

no_item : {X : Type 0} (xs : List X) → length xs ≡ 0 → xs ≡ []
no_item [] none = refl
no_item (x ∷ xs) none = absurd (omega (arith, none))

right_of_settings : (plan : PlanFields) → is_whole_of_settings plan ≡ true → has_wrong_change plan ≡ false
unfolding is_whole_of_settings
right_of_settings plan whole =
    let changes = (both (plan.version == 0) _ whole).1 in
    let right = (both (has_valid_changes plan) _ changes).1 in
    not_false (has_wrong_change plan) (both (not (has_wrong_change plan)) _ right).0

right_of_pid : (plan : PlanFields) → is_whole_of_pid plan ≡ true → has_wrong_change plan ≡ false
unfolding is_whole_of_pid is_plan_of_pid is_consistent
right_of_pid plan whole =
    let first = both (plan.version == 0) ((length plan.changes == 0) && is_plan_of_pid plan) whole in
    let none = both (length plan.changes == 0) (is_plan_of_pid plan) first.1 in
    let consistent = (both (is_consistent plan) _ (both (is_in_range 0 plan) _ none.1).1).0 in
    let differ = (both (not (has_same_pid plan)) _ (both (not (has_same_name plan)) _ (both (not (has_wrong_carrier plan)) _ consistent).1).1).0 in
    right_alone plan (eqb-true plan.version 0 first.0) (no_item plan.changes (eqb-true (length plan.changes) 0 none.0)) (not_false (has_same_pid plan) differ)

-- what changes it is right
pub right_changes : (plan : PlanFields) → is_whole_plan plan ≡ true → has_wrong_change plan ≡ false
right_changes plan whole = by_kind (is_whole_of_settings plan) refl
  where
    by_kind : (b : Bool) → is_whole_of_settings plan ≡ b → has_wrong_change plan ≡ false
    by_kind true is = right_of_settings plan is
    by_kind false is = right_of_pid plan (ap (λ (b : Bool). b || is_whole_of_pid plan) (sym is) ∙ whole)

-- a plan by itself passes the checks over the whole
consistent : (plan : PlanFields) → is_plan plan ≡ true → is_consistent plan ≡ true
unfolding is_plan_of_settings is_plan_of_pid
consistent plan valid = by_parts (is_in_range 32 plan) (is_consistent plan) _ (is_in_range 0 plan) _ valid
  where
    by_parts : (a b c d e : Bool) → ((a && (b && c)) || (d && (b && e))) ≡ true → b ≡ true
    by_parts a true c d e any = refl
    by_parts true false c true e any = absurd (cc)
    by_parts true false c false e any = absurd (cc)
    by_parts false false c true e any = absurd (cc)
    by_parts false false c false e any = absurd (cc)

right_carrier : (plan : PlanFields) → is_consistent plan ≡ true → not (has_wrong_carrier plan) ≡ true
unfolding is_consistent
right_carrier plan all = (both (not (has_wrong_carrier plan)) _ all).0

-- without baseband frames no service is of GSE packets
no_gse : (baseband wrong found : Bool) → baseband ≡ false → not (cond baseband wrong found) ≡ true → found ≡ false
no_gse false wrong found is right = not_false found right
no_gse true wrong found is right = absurd (cc)

pid_of_kind : (kind : KindFields) → is_gse kind ≡ false → is_some (pid_of kind) ≡ true
pid_of_kind (ule pid address packing) is = refl
pid_of_kind (mpe pid) is = refl
pid_of_kind (fec pid rows parity window) is = refl
pid_of_kind (gse isi address) is = absurd (cc)

pids_of_services : (services : List Service) → list_any is_gse (map (λ (s : ServiceFields). s.kind) (map service_seen services)) ≡ false
    → list_all (λ (s : Service). is_some (pid_of (kind_seen s.kind))) services ≡ true
pids_of_services [] none = refl
pids_of_services (s ∷ services) none =
    let parts = neither (is_gse (kind_seen s.kind)) (list_any is_gse (map (λ (t : ServiceFields). t.kind) (map service_seen services))) none in
    ap (λ (b : Bool). b && list_all (λ (t : Service). is_some (pid_of (kind_seen t.kind))) services) (pid_of_kind (kind_seen s.kind) parts.0)
    ∙ pids_of_services services parts.1

-- all services of a plan of transport packets are on PIDs
pub all_on_pids : (plan : PlanFields) (services : List Service) → plan.services ≡ map service_seen services → is_plan plan ≡ true → is_baseband plan ≡ false
    → list_all (λ (s : Service). is_some (pid_of (kind_seen s.kind))) services ≡ true
all_on_pids plan services are valid packets =
    pids_of_services services
    (ap (λ (xs : List ServiceFields). list_any is_gse (map (λ (s : ServiceFields). s.kind) xs)) (sym are)
    ∙ no_gse (is_baseband plan) _ (list_any is_gse (kinds plan)) packets (right_carrier plan (consistent plan valid)))

-- the rows of a frame
pub are_rows : (rows : ℕ) → is_row_count rows ≡ true → IsRows rows
are_rows rows e = by_tests (eqb 256 rows) refl (eqb 512 rows) refl (eqb 768 rows) refl (eqb 1024 rows) refl e
  where
    by_tests : (a : Bool) → eqb 256 rows ≡ a → (b : Bool) → eqb 512 rows ≡ b → (c : Bool) → eqb 768 rows ≡ c → (d : Bool) → eqb 1024 rows ≡ d
        → (a || (b || (c || (d || false)))) ≡ true → IsRows rows
    by_tests true e1 b e2 c e3 d e4 any = inl (sym (eqb-true 256 rows e1))
    by_tests false e1 true e2 c e3 d e4 any = inr (inl (sym (eqb-true 512 rows e2)))
    by_tests false e1 false e2 true e3 d e4 any = inr (inr (inl (sym (eqb-true 768 rows e3))))
    by_tests false e1 false e2 false e3 true e4 any = inr (inr (inr (sym (eqb-true 1024 rows e4))))
    by_tests false e1 false e2 false e3 false e4 any = absurd (cc)

rows_of_kind : (least : ℕ) (kind : KindFields) → is_valid_kind least kind ≡ true → has_right_rows kind ≡ true
rows_of_kind least (ule pid address packing) valid = refl
rows_of_kind least (mpe pid) valid = refl
rows_of_kind least (fec pid rows parity window) valid =
    (both (is_row_count rows) (is_between 1 64 parity && is_valid_window window)
    (both (is_between least 8190 pid) (is_row_count rows && (is_between 1 64 parity && is_valid_window window)) valid).1).0
rows_of_kind least (gse isi address) valid = refl

rows_of_services : (least : ℕ) (services : List Service) → list_all (is_valid_service least) (map service_seen services) ≡ true
    → list_all (λ (it : Service). has_right_rows (kind_seen it.kind)) services ≡ true
rows_of_services least [] valid = refl
rows_of_services least (s ∷ services) valid =
    let it : ServiceFields = service_seen s in
    let parts = both (is_valid_service least it) (list_all (is_valid_service least) (map service_seen services)) valid in
    let values = (both (has_valid_values least it) (list_all is_valid_rule it.rules && list_all is_valid_rule it.urgent) parts.0).0 in
    let kind = (both (is_valid_kind least it.kind) _ (both (is_service_name it.name) _ values).1).0 in
    ap (λ (b : Bool). b && list_all (λ (t : Service). has_right_rows (kind_seen t.kind)) services) (rows_of_kind least it.kind kind)
    ∙ rows_of_services least services parts.1

rows_in_range : (least : ℕ) (plan : PlanFields) (services : List Service) → plan.services ≡ map service_seen services → is_in_range least plan ≡ true
    → list_all (λ (it : Service). has_right_rows (kind_seen it.kind)) services ≡ true
unfolding is_in_range
rows_in_range least plan services are valid =
    rows_of_services least services
    (ap (list_all (is_valid_service least)) (sym are) ∙ (both (has_valid_top plan) (list_all (is_valid_service least) plan.services) valid).1)

-- those of all services of a plan
pub right_rows : (plan : PlanFields) (services : List Service) → plan.services ≡ map service_seen services → is_plan plan ≡ true
    → list_all (λ (it : Service). has_right_rows (kind_seen it.kind)) services ≡ true
unfolding is_plan_of_settings is_plan_of_pid
right_rows plan services are valid = by_kind (is_plan_of_settings plan) refl
  where
    by_kind : (b : Bool) → is_plan_of_settings plan ≡ b → list_all (λ (it : Service). has_right_rows (kind_seen it.kind)) services ≡ true
    by_kind true is = rows_in_range 32 plan services are (both (is_in_range 32 plan) _ is).0
    by_kind false is =
        rows_in_range 0 plan services are (both (is_in_range 0 plan) _ (ap (λ (b : Bool). b || is_plan_of_pid plan) (sym is) ∙ valid)).0

-- a service has a window in the definitions where it has one in the code
pub window_of : (window : Option (ℕ × ℕ)) → is_some (option_map window_seen window) ≡ is_some window
window_of None = refl
window_of (Some w) = refl

-- Services.

-- what holds of the kinds of all holds of each
pub kind_at : (p : KindFields → Bool) (services : List Service) (k : ℕ) (it : Service) → list_all (λ (s : Service). p (kind_seen s.kind)) services ≡ true
    → slice_get services k ≡ Some it → p (kind_seen it.kind) ≡ true
kind_at p [] k it all found = absurd (cc)
kind_at p (s ∷ services) zero it all found =
    let same : s ≡ it = cc in
    ap (λ (t : Service). p (kind_seen t.kind)) (sym same) ∙ (both (p (kind_seen s.kind)) (list_all (λ (t : Service). p (kind_seen t.kind)) services) all).0
kind_at p (s ∷ services) (suc k) it all found =
    kind_at p services k it (both (p (kind_seen s.kind)) (list_all (λ (t : Service). p (kind_seen t.kind)) services) all).1 found

-- one receiver more
opened_push : (form : RecordingForm) (services : List ServiceFields) (receivers : List ServiceReceiver) (it : ServiceFields) (receiver : ServiceReceiver)
    → AreOpened form services receivers → IsOpened form it receiver → AreOpened form (services ++ it ∷ []) (receivers ++ receiver ∷ [])
opened_push form [] [] it receiver all is = (is, tt)
opened_push form [] (r ∷ receivers) it receiver all is = absurd all
opened_push form (s ∷ services) [] it receiver all is = absurd all
opened_push form (s ∷ services) (r ∷ receivers) it receiver all is = (all.0, opened_push form services receivers it receiver all.1 is)

take_next : (services : List Service) (k : ℕ) (it : Service) → slice_get services k ≡ Some it → take (suc k) services ≡ take k services ++ it ∷ []
take_next [] k it found = absurd (cc)
take_next (s ∷ services) zero it found = let same : s ≡ it = cc in ap (λ (t : Service). t ∷ []) same
take_next (s ∷ services) (suc k) it found = ap (λ (t : List Service). s ∷ t) (take_next services k it found)

pub opened_next : (form : RecordingForm) (services : List Service) (receivers : List ServiceReceiver) (k : ℕ) (it : Service) (receiver : ServiceReceiver) → slice_get services k ≡ Some it
    → AreOpened form (map service_seen (take k services)) receivers → IsOpened form (service_seen it) receiver
    → AreOpened form (map service_seen (take (k + 1) services)) (receivers ++ receiver ∷ [])
opened_next form services receivers k it receiver found all is =
    let number : k + 1 ≡ suc k = omega arith in
    subst (λ (t : List ServiceFields). AreOpened form t (receivers ++ receiver ∷ []))
    (sym (ap (λ (n : ℕ). map service_seen (take n services)) number ∙ ap (map service_seen) (take_next services k it found) ∙ map_push service_seen (take k services) it))
    (opened_push form (map service_seen (take k services)) receivers (service_seen it) receiver all is)

pub as_many : (form : RecordingForm) (services : List ServiceFields) (receivers : List ServiceReceiver) → AreOpened form services receivers → length receivers ≡ length services
as_many form [] [] all = refl
as_many form [] (r ∷ receivers) all = absurd all
as_many form (s ∷ services) [] all = absurd all
as_many form (s ∷ services) (r ∷ receivers) all = ap suc (as_many form services receivers all.1)

opened_at : (form : RecordingForm) (services : List ServiceFields) (receivers : List ServiceReceiver) (k : ℕ) (receiver : ServiceReceiver) → AreOpened form services receivers
    → slice_get receivers k ≡ Some receiver → IsOpened form (get_or services k no_service) receiver
opened_at form [] [] k receiver all found = absurd (cc)
opened_at form [] (r ∷ receivers) k receiver all found = absurd all
opened_at form (s ∷ services) [] k receiver all found = absurd all
opened_at form (s ∷ services) (r ∷ receivers) zero receiver all found =
    let same : r ≡ receiver = cc in
    subst (λ (t : ServiceReceiver). IsOpened form s t) same all.0
opened_at form (s ∷ services) (r ∷ receivers) (suc k) receiver all found = opened_at form services receivers k receiver all.1 found

-- on its own PID a service is itself
same_kind : (kind : KindFields) (pid : ℕ) → pid_of kind ≡ Some pid → with_pid kind pid ≡ kind
same_kind (ule own address packing) pid is = let same : pid ≡ own = cc in ap (λ (p : ℕ). ule p address packing) same
same_kind (mpe own) pid is = let same : pid ≡ own = cc in ap mpe same
same_kind (fec own rows parity window) pid is = let same : pid ≡ own = cc in ap (λ (p : ℕ). fec p rows parity window) same
same_kind (gse isi address) pid is = absurd (cc)

same_service : (it : ServiceFields) (pid : ℕ) → pid_of it.kind ≡ Some pid → on_pid it pid ≡ it
same_service it pid is = ap (λ (kind : KindFields). record it { kind = kind }) (same_kind it.kind pid is)

-- receivers that were given nothing, under a plan
pub received_nothing : (plan : PlanFields) (receivers : List ServiceReceiver) → ((k pid : ℕ) → numbers_before plan k pid [] ≡ no_numbers)
    → ((k pid : ℕ) → unit_numbers_before plan k pid [] ≡ no_units) → ((k pid : ℕ) → frame_numbers_before plan k pid [] ≡ no_frames)
    → AreOpened plan.recording plan.services receivers → HaveReceived false plan 0 receivers []
unfolding pid_in
received_nothing plan receivers none no_unit no_frame all = record {
  count_is = as_many plan.recording plan.services receivers all;
  each = λ k receiver found.
      let it : ServiceFields = get_or plan.services k no_service in
      let opened : IsOpened plan.recording it receiver = opened_at plan.recording plan.services receivers k receiver all found in
      record {
        pid_is = opened.pid_is;
        reception = subst (λ (t : ServiceFields). IsReception false plan.recording t receiver.reception []) (sym (same_service it receiver.pid opened.pid_is)) opened.reception;
        before_is = opened.before_is ∙ same_counts (sym (none k receiver.pid)) (sym (no_unit k receiver.pid)) (sym (no_frame k receiver.pid));
      };
}
