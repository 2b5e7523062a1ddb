-- The PIDs of a plan as the code asks for them.
use Rattle.std.proofs.Common.{◌≡◌, ℕ, ◌==◌, ◌||◌, List, [], ◌∷◌, ◌++◌, map, Option, None, Some, option_map, refl, ap, ◌∙◌}
use Rattle.std.specs.Prelude.{flat_map}
use Rattle.std.specs.List.{filter_map, cons_option}
use Rattle.std.proofs.lemmas.List.Folds.{list_any-append}
use Rattle.plan_spec.specs.Plan.{ServiceFields, MovedFields, pid_of, table_pids}
use Rattle.plan.specs.Parts.{int_seen, kind_seen, services_seen, moved_seen, changes_seen, change_seen}
use Rattle.plan.specs.declared.service.Service.{Service}
use Rattle.plan.specs.declared.change.Moved.{Moved}
use Rattle.plan.specs.declared.change.Change.{Change}
use Rattle.plan.specs.declared.plan.Plan.{Plan}
use Rattle.plan.specs.PlanView.{plan_fields}
use Rattle.psi_spec.specs.Tables.{used_pids, moved_pids, is_among}
use Rattle.tables_command.specs.Pids.{is_pid, has_service_on, has_moved_to, has_change_to}

-- the service_ids of services as the definitions see them
pub service_ids-seen : (services : List Service) → map (λ (s : ServiceFields). s.service_id) (services_seen services) ≡ map (λ (s : Service). s.service_id) services
service_ids-seen [] = refl
service_ids-seen (s ∷ services) = ap (λ rest. s.service_id ∷ rest) (service_ids-seen services)

among_option : (o : Option ℕ) (pids : List ℕ) (pid : ℕ) → is_among (cons_option o pids) pid ≡ (is_pid pid o || is_among pids pid)
among_option None pids pid = refl
among_option (Some other) pids pid = refl

among_services : (services : List Service) (pid : ℕ)
    → is_among (filter_map pid_of (map (λ (s : ServiceFields). s.kind) (services_seen services))) pid ≡ has_service_on pid services
among_services [] pid = refl
among_services (s ∷ services) pid =
    among_option (pid_of (kind_seen s.kind)) (filter_map pid_of (map (λ (s : ServiceFields). s.kind) (services_seen services))) pid
    ∙ ap (λ b. is_pid pid (pid_of (kind_seen s.kind)) || b) (among_services services pid)

among_moved : (moved : List Moved) (pid : ℕ) → is_among (map (λ (m : MovedFields). m.pid) (map moved_seen moved)) pid ≡ has_moved_to pid moved
among_moved [] pid = refl
among_moved (m ∷ moved) pid = ap (λ b. (m.pid == pid) || b) (among_moved moved pid)

among_changes : (changes : List Change) (pid : ℕ) → is_among (flat_map moved_pids (changes_seen changes)) pid ≡ has_change_to pid changes
among_changes [] pid = refl
among_changes (change ∷ changes) pid =
    list_any-append (λ m. m == pid) (moved_pids (change_seen change)) (flat_map moved_pids (changes_seen changes))
    ∙ ap (λ b. b || is_among (flat_map moved_pids (changes_seen changes)) pid) (among_moved change.moved pid)
    ∙ ap (λ b. has_moved_to pid change.moved || b) (among_changes changes pid)

-- a PID is used where the INT has it, or a service, or a service moves to it
pub is_among-used : (plan : Plan) (pid : ℕ)
    → is_among (used_pids (plan_fields plan)) pid
    ≡ ((is_among (table_pids (option_map int_seen plan.table)) pid || has_service_on pid plan.services) || has_change_to pid plan.changes)
is_among-used plan pid =
    let own = table_pids (option_map int_seen plan.table) in
    let services = filter_map pid_of (map (λ (s : ServiceFields). s.kind) (services_seen plan.services)) in
    let moved = flat_map moved_pids (changes_seen plan.changes) in
    list_any-append (λ m. m == pid) (own ++ services) moved
    ∙ ap (λ b. b || is_among moved pid) (list_any-append (λ m. m == pid) own services ∙ ap (λ b. is_among own pid || b) (among_services plan.services pid))
    ∙ ap (λ b. (is_among own pid || has_service_on pid plan.services) || b) (among_changes plan.changes pid)
