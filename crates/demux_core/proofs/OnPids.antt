-- Lists by place, and the receivers on PIDs.
use Rattle.std.proofs.Common.{◌≡◌, ℕ, zero, suc, ◌+◌, ◌<◌, ◌≤◌, Bool, true, false, cond, ◌||◌, None, Some, List, [], ◌∷◌, length, map, set, get_or, refl, ap, sym, ◌∙◌, arith, eq-eqb}
use Rattle.std.specs.Prelude.{◌==◌, not, nat_lt, slice_get}
use Rattle.std.specs.List.{list_any, position, position_or_len}
use Rattle.std.proofs.lemmas.Bool.{eqb-true}
use Rattle.std.proofs.lemmas.List.Quantifiers.{position-Some}
use Rattle.plan_spec.specs.Checks.{has_pair}
use Rattle.demux_core.specs.Services.{is_service_pid}
use Rattle.demux_core.specs.declared.service.ServiceReceiver.{ServiceReceiver}

pub neither : (a b : Bool) → (a || b) ≡ false → (a ≡ false) × (b ≡ false)
neither true b e = absurd (cc)
neither false b e = (refl, e)

-- Places.

pub some_at : {X : Type 0} (xs : List X) (k : ℕ) → k < length xs → (x : X) × (slice_get xs k ≡ Some x)
some_at [] k less = absurd (omega (arith, less))
some_at (x ∷ xs) zero less = (x, refl)
some_at (x ∷ xs) (suc k) less = some_at xs k (omega (arith, less))

-- after one was set
pub set_same : {X : Type 0} (xs : List X) (k : ℕ) (new x : X) → slice_get (set xs k new) k ≡ Some x → new ≡ x
set_same [] k new x found = absurd (cc)
set_same (a ∷ xs) zero new x found = cc
set_same (a ∷ xs) (suc k) new x found = set_same xs k new x found

pub set_other : {X : Type 0} (xs : List X) (k j : ℕ) (new x : X) → (j ≡ k → ⊥) → slice_get (set xs k new) j ≡ Some x → slice_get xs j ≡ Some x
set_other [] k j new x apart found = found
set_other (a ∷ xs) zero zero new x apart found = absurd (apart refl)
set_other (a ∷ xs) zero (suc j) new x apart found = found
set_other (a ∷ xs) (suc k) zero new x apart found = found
set_other (a ∷ xs) (suc k) (suc j) new x apart found = set_other xs k j new x (λ same. apart (ap suc same)) found

-- The PIDs of receivers.

abbrev pub receiver_pids : List ServiceReceiver → List ℕ
receiver_pids receivers = map (λ (receiver : ServiceReceiver). receiver.pid) receivers

-- none passes
pub none_passes : (p : ℕ → Bool) (receivers : List ServiceReceiver) (k : ℕ) (receiver : ServiceReceiver) → list_any p (receiver_pids receivers) ≡ false
    → slice_get receivers k ≡ Some receiver → p receiver.pid ≡ false
none_passes p [] k receiver none found = absurd (cc)
none_passes p (x ∷ xs) zero receiver none found =
    let same : x ≡ receiver = cc in
    ap (λ (r : ServiceReceiver). p r.pid) (sym same) ∙ (neither (p x.pid) (list_any p (receiver_pids xs)) none).0
none_passes p (x ∷ xs) (suc k) receiver none found = none_passes p xs k receiver (neither (p x.pid) (list_any p (receiver_pids xs)) none).1 found

true_false : true ≡ false → ⊥
true_false e = cc

-- two receivers have two PIDs
pub pids_apart : (receivers : List ServiceReceiver) (j k : ℕ) (a b : ServiceReceiver) → has_pair (λ m n. m == n) (receiver_pids receivers) ≡ false
    → slice_get receivers j ≡ Some a → slice_get receivers k ≡ Some b → (j ≡ k → ⊥) → a.pid ≡ b.pid → ⊥
pids_apart [] j k a b differ at_j at_k apart same = absurd (cc)
pids_apart (x ∷ xs) zero zero a b differ at_j at_k apart same = apart refl
pids_apart (x ∷ xs) zero (suc k) a b differ at_j at_k apart same =
    let is : x ≡ a = cc in
    let parts = neither (list_any (λ n. x.pid == n) (receiver_pids xs)) (has_pair (λ m n. m == n) (receiver_pids xs)) differ in
    true_false (sym (eq-eqb x.pid b.pid (ap (λ (r : ServiceReceiver). r.pid) is ∙ same)) ∙ none_passes (λ n. x.pid == n) xs k b parts.0 at_k)
pids_apart (x ∷ xs) (suc j) zero a b differ at_j at_k apart same =
    let is : x ≡ b = cc in
    let parts = neither (list_any (λ n. x.pid == n) (receiver_pids xs)) (has_pair (λ m n. m == n) (receiver_pids xs)) differ in
    true_false (sym (eq-eqb x.pid a.pid (ap (λ (r : ServiceReceiver). r.pid) is ∙ sym same)) ∙ none_passes (λ n. x.pid == n) xs j a parts.0 at_j)
pids_apart (x ∷ xs) (suc j) (suc k) a b differ at_j at_k apart same =
    let parts = neither (list_any (λ n. x.pid == n) (receiver_pids xs)) (has_pair (λ m n. m == n) (receiver_pids xs)) differ in
    pids_apart xs j k a b parts.1 at_j at_k (λ is. apart (ap suc is)) same

pub any_by_pid : (receivers : List ServiceReceiver) (pid : ℕ) → is_service_pid receivers pid ≡ list_any (λ other. other == pid) (receiver_pids receivers)
any_by_pid [] pid = refl
any_by_pid (receiver ∷ receivers) pid = ap (λ (b : Bool). (receiver.pid == pid) || b) (any_by_pid receivers pid)

-- The place that was found.

-- it is that of the PID
pub found_at : (receivers : List ServiceReceiver) (pid k : ℕ) (d : ServiceReceiver) → position (λ (receiver : ServiceReceiver). receiver.pid == pid) receivers ≡ Some k
    → (k < length receivers) × ((get_or receivers k d).pid ≡ pid)
found_at receivers pid k d e =
    let found = position-Some (λ (receiver : ServiceReceiver). receiver.pid == pid) receivers k d e in
    (found.0, eqb-true (get_or receivers k d).pid pid found.1)

-- the receiver is on the PID
abbrev is_own : ℕ → ServiceReceiver → Bool
is_own pid receiver = receiver.pid == pid

-- no place passes
past_all : (pid : ℕ) (xs : List ServiceReceiver) → length xs ≤ position_or_len (is_own pid) xs → is_service_pid xs pid ≡ false
past_all pid [] le = refl
past_all pid (x ∷ xs) le = by_test (is_own pid x) le (past_all pid xs)
  where
    by_test : (b : Bool) → suc (length xs) ≤ cond (not b) (1 + position_or_len (is_own pid) xs) 0 → (length xs ≤ position_or_len (is_own pid) xs → is_service_pid xs pid ≡ false) → (b || is_service_pid xs pid) ≡ false
    by_test true short later = absurd (omega (arith, short))
    by_test false short later = later (omega (arith, short))

-- none was found
pub not_found : (receivers : List ServiceReceiver) (pid : ℕ) → position (λ (receiver : ServiceReceiver). receiver.pid == pid) receivers ≡ None → is_service_pid receivers pid ≡ false
not_found receivers pid e = by_length (nat_lt (position_or_len (is_own pid) receivers) (length receivers)) refl
  where
    none_some : (k : ℕ) → Some k ≡ None → ⊥
    none_some k e2 = cc

    by_length : (b : Bool) → nat_lt (position_or_len (is_own pid) receivers) (length receivers) ≡ b → is_service_pid receivers pid ≡ false
    by_length true h = absurd (none_some (position_or_len (is_own pid) receivers) (sym (ap (λ (b : Bool). cond b (Some (position_or_len (is_own pid) receivers)) None) h) ∙ e))
    by_length false h = past_all pid receivers (grind (arith, h))

-- a place passes
any_at : (pid : ℕ) (xs : List ServiceReceiver) (j : ℕ) (d : ServiceReceiver) → j < length xs → ((get_or xs j d).pid == pid) ≡ true → is_service_pid xs pid ≡ true
any_at pid [] j d less own = absurd (omega (arith, less))
any_at pid (x ∷ xs) zero d less own = ap (λ (b : Bool). b || is_service_pid xs pid) own
any_at pid (x ∷ xs) (suc j) d less own = by_test (x.pid == pid) (any_at pid xs j d (omega (arith, less)) own)
  where
    by_test : (b : Bool) → is_service_pid xs pid ≡ true → (b || is_service_pid xs pid) ≡ true
    by_test true later = refl
    by_test false later = later

-- one was found
pub place_known : (receivers : List ServiceReceiver) (pid k : ℕ) → position (λ (receiver : ServiceReceiver). receiver.pid == pid) receivers ≡ Some k → is_service_pid receivers pid ≡ true
place_known [] pid k e = absurd (cc)
place_known (d ∷ receivers) pid k e =
    let found = position-Some (λ (receiver : ServiceReceiver). receiver.pid == pid) (d ∷ receivers) k d e in
    any_at pid (d ∷ receivers) k d found.0 found.1
