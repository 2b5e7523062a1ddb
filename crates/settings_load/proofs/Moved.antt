-- The line of a service in a version: its name and the word of its kind stay, its number is its PID there. And each service that a
-- plan moves is one of its services.
use Rattle.std.proofs.Common.{◌≡◌, ℕ, zero, suc, ◌+◌, ◌<◌, Bool, true, false, not, ◌||◌, List, [], ◌∷◌, ◌++◌, length, map, drop, get_or, Option, Some, None, option_map, decimal, eqb, refl, ap, ap₂, sym, ◌∙◌, subst, arith}
use Rattle.std.specs.Prelude.{nat_le, slice_get}
use Rattle.std.specs.Option.{unwrap_or}
use Rattle.std.specs.List.{list_any}
use Rattle.std.proofs.lemmas.Bool.{and_parts, eqb-true}
use Rattle.std.proofs.lemmas.Bool.Decides.{nat_tests}
use Rattle.std.proofs.lemmas.List.{get_or-map, drop_more}
use Rattle.std.proofs.lemmas.Option.{slice_get-map, slice_get_within, slice_get-get_or, get_or_from_slice_get}
use Rattle.plan_spec.specs.Plan.{KindFields, ule, mpe, fec, gse, ServiceFields, MovedFields, ChangeFields, PlanFields, pid_of}
use Rattle.plan_spec.specs.Checks.{has_pair}
use Rattle.plan_spec.specs.Changes.{with_pid, no_service, services_in, service_in, pid_in, rises_from, moved_services, moves_wrongly, all_pids, has_wrong_change}
use Rattle.plan_spec.specs.Wholes.{has_valid_changes, is_whole_of_settings, is_whole_of_pid, is_whole_plan}
use Rattle.plan_law.proofs.Kept.{StaysSame, kept, name_stays, length-services_in}
use Rattle.plan_law.proofs.Lists.{not_false}
use Rattle.plan.specs.Parts.{service_seen, moved_seen, change_seen}
use Rattle.plan.specs.declared.service.Service.{Service}
use Rattle.plan.specs.declared.change.Moved.{Moved}
use Rattle.plan.specs.declared.change.Change.{Change}
use Rattle.settings_load.specs.Lines.{AreThere, change_text, changes_text, kind_word, kind_number, service_line}

word_again : (kind : KindFields) (pid : ℕ) → kind_word (with_pid kind pid) ≡ kind_word kind
word_again (ule old address packing) pid = refl
word_again (mpe old) pid = refl
word_again (fec old rows parity window) pid = refl
word_again (gse isi address) pid = refl

-- the number of a kind without a PID, which stays
abbrev own_number : KindFields → Option ℕ
own_number (ule pid address packing) = None
own_number (mpe pid) = None
own_number (fec pid rows parity window) = None
own_number (gse isi address) = Some isi

number_again : (kind : KindFields) (pid : ℕ) → own_number (with_pid kind pid) ≡ own_number kind
number_again (ule old address packing) pid = refl
number_again (mpe old) pid = refl
number_again (fec old rows parity window) pid = refl
number_again (gse isi address) pid = refl

-- the PID, or the number of one that has none
number_is : (new old : KindFields) → own_number new ≡ own_number old → kind_number new ≡ unwrap_or (pid_of new) (kind_number old)
number_is (ule pid address packing) old same = refl
number_is (mpe pid) old same = refl
number_is (fec pid rows parity window) old same = refl
number_is (gse isi address) (ule pid other packing) same = absurd (cc)
number_is (gse isi address) (mpe pid) same = absurd (cc)
number_is (gse isi address) (fec pid rows parity window) same = absurd (cc)
number_is (gse isi address) (gse own other) same = cc

-- a part of service k that no change moves
part_at : {X : Type 0} (part : ServiceFields → X) → StaysSame part → (plan : PlanFields) (version k : ℕ) → k < length plan.services
    → part (service_in plan version k) ≡ part (get_or plan.services k no_service)
part_at part stays plan version k less =
    let count = length-services_in plan version in
    sym (get_or-map part (services_in plan version) k no_service (part no_service) (rw count less))
    ∙ ap (λ xs. get_or xs k (part no_service)) (kept part stays plan version)
    ∙ get_or-map part plan.services k no_service (part no_service) less

pub line_in : (plan : PlanFields) (version k : ℕ) → k < length plan.services
    → service_line (service_in plan version k) ≡ (get_or plan.services k no_service).name ++ 32 ∷ kind_word (get_or plan.services k no_service).kind
    ++ 32 ∷ decimal (unwrap_or (pid_of (service_in plan version k).kind) (kind_number (get_or plan.services k no_service).kind)) ++ 10 ∷ []
line_in plan version k less =
    let name = part_at (λ (s : ServiceFields). s.name) name_stays plan version k less in
    let word = part_at (λ (s : ServiceFields). kind_word s.kind) (record { same = λ service moved. word_again service.kind moved.pid }) plan version k less in
    let number = number_is (service_in plan version k).kind (get_or plan.services k no_service).kind
    (part_at (λ (s : ServiceFields). own_number s.kind) (record { same = λ service moved. number_again service.kind moved.pid }) plan version k less) in
    ap (λ (t : List ℕ). t ++ 32 ∷ kind_word (service_in plan version k).kind ++ 32 ∷ decimal (kind_number (service_in plan version k).kind) ++ 10 ∷ []) name
    ∙ ap₂ (λ (t : List ℕ) (n : ℕ). (get_or plan.services k no_service).name ++ 32 ∷ t ++ 32 ∷ decimal n ++ 10 ∷ []) word number

-- so it is put, where these are its parts
pub line_put : (plan : PlanFields) (services : List Service) (version k : ℕ) (service : Service) (name word digits : List ℕ) (own count : ℕ)
    → plan.services ≡ map service_seen services → slice_get services k ≡ Some service → name ≡ (service_seen service).name → word ≡ kind_word (service_seen service).kind
    → own ≡ kind_number (service_seen service).kind → count ≡ unwrap_or (pid_in plan version k) own → digits ≡ decimal count
    → name ++ 32 ∷ word ++ 32 ∷ digits ++ 10 ∷ [] ≡ service_line (service_in plan version k)
unfolding pid_in
line_put plan services version k service name word digits own count seen there name_is word_is own_is count_is digits_is =
    let within : k < length services = slice_get_within services k service there in
    let first : get_or plan.services k no_service ≡ service_seen service =
    ap (λ (l : List ServiceFields). get_or l k no_service) seen
    ∙ get_or-map service_seen services k service no_service within
    ∙ ap service_seen (get_or_from_slice_get services k service service there) in
    let less : k < length plan.services = subst (λ (n : ℕ). k < n) (sym (ap length seen ∙ length_of services)) within in
    ap₂ (λ (n w : List ℕ). n ++ 32 ∷ w ++ 32 ∷ digits ++ 10 ∷ []) name_is word_is
    ∙ ap (λ (d : List ℕ). (service_seen service).name ++ 32 ∷ kind_word (service_seen service).kind ++ 32 ∷ d ++ 10 ∷ [])
    (digits_is ∙ ap decimal (count_is ∙ ap (unwrap_or (pid_of (service_in plan version k).kind)) own_is))
    ∙ ap (λ (s : ServiceFields). s.name ++ 32 ∷ kind_word s.kind ++ 32 ∷ decimal (unwrap_or (pid_of (service_in plan version k).kind) (kind_number s.kind)) ++ 10 ∷ []) (sym first)
    ∙ sym (line_in plan version k less)
  where
    length_of : (list : List Service) → length (map service_seen list) ≡ length list
    length_of [] = refl
    length_of (s ∷ list) = ap suc (length_of list)

-- Each service that moves is there.

none_of : {X : Type 0} (test : X → Bool) (xs : List X) (i : ℕ) (x : X) → list_any test xs ≡ false → slice_get xs i ≡ Some x → test x ≡ false
none_of test [] i x none there = absurd (cc)
none_of {X} test (y ∷ xs) zero x none there =
    let same : y ≡ x = cc in
    ap test (sym same) ∙ (neither (test y) (list_any test xs) none).0
  where
    neither : (a b : Bool) → (a || b) ≡ false → (a ≡ false) × (b ≡ false)
    neither true b e = absurd (cc)
    neither false b e = (refl, e)
none_of {X} test (y ∷ xs) (suc i) x none there = none_of test xs i x (behind (test y) (list_any test xs) none) there
  where
    behind : (a b : Bool) → (a || b) ≡ false → b ≡ false
    behind true b e = absurd (cc)
    behind false b e = e

below : (count service : ℕ) → nat_le count service ≡ false → service < count
below count service is = grind (arith, nat_tests)

all_there : (count : ℕ) (moves : List MovedFields) → list_any (λ k. nat_le count k) (map (λ (moved : MovedFields). moved.service) moves) ≡ false → AreThere count moves
all_there count moves none = λ k d within.
    below count (get_or moves k d).service
    (none_of (λ j. nat_le count j) (map (λ (moved : MovedFields). moved.service) moves) k (get_or moves k d).service none
    (slice_get-map (λ (moved : MovedFields). moved.service) moves k ∙ ap (option_map (λ (moved : MovedFields). moved.service)) (slice_get-get_or moves k d within)))

either_false : (a b : Bool) → (a || b) ≡ false → (a ≡ false) × (b ≡ false)
either_false true b e = absurd (cc)
either_false false b e = (refl, e)

of_settings : (plan : PlanFields) → is_whole_of_settings plan ≡ true → has_wrong_change plan ≡ false
unfolding is_whole_of_settings
of_settings plan whole =
    let changes = (and_parts (eqb plan.version 0) _ whole).1 in
    not_false (has_wrong_change plan) (and_parts (not (has_wrong_change plan)) _ (and_parts (has_valid_changes plan) _ changes).1).0

none_of_pid : (plan : PlanFields) → is_whole_of_pid plan ≡ true → length plan.changes ≡ 0
unfolding is_whole_of_pid
none_of_pid plan whole = eqb-true (length plan.changes) 0 (and_parts (eqb (length plan.changes) 0) _ (and_parts (eqb plan.version 0) _ whole).1).0

pub moves_are_there : (plan : PlanFields) (i : ℕ) (change : ChangeFields) → is_whole_plan plan ≡ true → slice_get plan.changes i ≡ Some change
    → AreThere (length plan.services) change.moved
moves_are_there plan i change whole there = by_kind (is_whole_of_settings plan) refl whole
  where
    by_kind : (b : Bool) → is_whole_of_settings plan ≡ b → (b || is_whole_of_pid plan) ≡ true → AreThere (length plan.services) change.moved
    by_kind true is both =
        let wrong = (either_false (not (rises_from 2 plan.changes)) _ (of_settings plan is)).1 in
        let moves = (either_false (list_any (moves_wrongly plan) plan.changes) (has_pair (λ a b. eqb a b) (all_pids plan)) wrong).0 in
        let own = none_of (moves_wrongly plan) plan.changes i change moves there in
        all_there (length plan.services) change.moved
        (either_false (has_pair (λ a b. eqb a b) (moved_services change)) (list_any (λ k. nat_le (length plan.services) k) (moved_services change)) own).1
    by_kind false is both =
        let none = none_of_pid plan both in
        let within = slice_get_within plan.changes i change there in
        absurd (omega (arith, none, within))

pub change_there : (changes : List Change) (i : ℕ) (change : Change) → slice_get changes i ≡ Some change → slice_get (map change_seen changes) i ≡ Some (change_seen change)
change_there changes i change there = slice_get-map change_seen changes i ∙ ap (option_map change_seen) there

pub moved_at : (moves : List Moved) (i : ℕ) (moved : Moved) → slice_get moves i ≡ Some moved → get_or (map moved_seen moves) i (moved_seen moved) ≡ moved_seen moved
moved_at moves i moved there =
    get_or-map moved_seen moves i moved (moved_seen moved) (slice_get_within moves i moved there) ∙ ap moved_seen (get_or_from_slice_get moves i moved moved there)

-- the lines of changes from a place on begin with those of the change there
pub changes_more : (plan : PlanFields) (version : ℕ) (changes : List ChangeFields) (i : ℕ) (change : ChangeFields) → slice_get changes i ≡ Some change
    → changes_text plan version (drop i changes) ≡ change_text plan version change ++ changes_text plan (version + 1) (drop (i + 1) changes)
changes_more plan version changes i change there =
    ap (changes_text plan version) (drop_more changes i change (slice_get_within changes i change there))
    ∙ ap (λ (c : ChangeFields). change_text plan version c ++ changes_text plan (version + 1) (drop (i + 1) changes)) (get_or_from_slice_get changes i change change there)
