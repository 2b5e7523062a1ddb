-- The programs of a plan, PID by PID downwards.
use Rattle.std.proofs.Common.{◌≡◌, ℕ, suc, ◌+◌, ◌<◌, ◌≤◌, true, false, List, [], ◌∷◌, ◌++◌, map, drop, length, refl, ap, sym, ◌∙◌, get_or}
use Rattle.std.specs.Prelude.{zip}
use Rattle.std.proofs.lemmas.List.{drop_more, drop_all, append_assoc, append-nil}
use Rattle.psi_spec.specs.Pat.{ProgramFields, PatFields}
use Rattle.psi_spec.specs.Tables.{is_among, unused_below, program_of, used_pids, programs_of, numbers_of, pat_of_plan}
use Rattle.plan_spec.specs.Plan.{IntFields, PlanFields}

-- what is left of the programs, with these numbers from a place on and the PIDs below one
abbrev pub left_of : List ℕ → List ℕ → ℕ → ℕ → List ProgramFields
left_of numbers used place pid = map program_of (zip (drop place numbers) (unused_below pid used))

past_used : (used : List ℕ) (pid below : ℕ) → pid ≡ suc below → is_among used below ≡ true → unused_below pid used ≡ unused_below below used
past_used used pid below is among = rw is (rw among refl)

past_unused : (used : List ℕ) (pid below : ℕ) → pid ≡ suc below → is_among used below ≡ false → unused_below pid used ≡ (below ∷ unused_below below used)
past_unused used pid below is among = rw is (rw among refl)

-- a PID that is used is passed
pub left_of-used : (numbers used : List ℕ) (place pid below : ℕ) → pid ≡ suc below → is_among used below ≡ true
    → left_of numbers used place pid ≡ left_of numbers used place below
left_of-used numbers used place pid below is among = rw (past_used used pid below is among) refl

-- the next program has one that is not
pub left_of-unused : (front : List ProgramFields) (numbers used : List ℕ) (place pid below number : ℕ) → pid ≡ suc below → place < length numbers
    → number ≡ get_or numbers place number → is_among used below ≡ false
    → (front ++ record { number = number; pid = below } ∷ []) ++ left_of numbers used (place + 1) below ≡ front ++ left_of numbers used place pid
left_of-unused front numbers used place pid below number is within own among =
    rw (past_unused used pid below is among, drop_more numbers place number within, ← own) (append_assoc front (record { number = number; pid = below } ∷ []) _)

-- none are left where there are no PIDs or no numbers
none_zipped : (numbers pids : List ℕ) → pids ≡ [] → zip numbers pids ≡ []
none_zipped [] pids is = refl
none_zipped (n ∷ numbers) pids is = rw is refl

pub left_of-no_pid : (numbers used : List ℕ) (place : ℕ) → left_of numbers used place 0 ≡ []
left_of-no_pid numbers used place = ap (map program_of) (none_zipped (drop place numbers) [] refl)

pub left_of-no_number : (numbers used : List ℕ) (place pid : ℕ) → length numbers ≤ place → left_of numbers used place pid ≡ []
left_of-no_number numbers used place pid past = rw (drop_all place numbers past) refl

-- at the start all are left
pub left_of-all : (plan : PlanFields) (numbers : List ℕ) → numbers ≡ numbers_of plan.services → left_of numbers (used_pids plan) 0 8191 ≡ programs_of plan
left_of-all plan numbers is = ap (λ (ns : List ℕ). map program_of (zip ns (unused_below 8191 (used_pids plan)))) is

pub left_of-start : (plan : PlanFields) (numbers : List ℕ) (front : List ProgramFields) → front ≡ [] → numbers ≡ numbers_of plan.services
    → front ++ left_of numbers (used_pids plan) 0 8191 ≡ programs_of plan
left_of-start plan numbers front none is = ap (λ (f : List ProgramFields). f ++ left_of numbers (used_pids plan) 0 8191) none ∙ left_of-all plan numbers is

-- where none is left, the PAT is whole
pub pat_is : (plan : PlanFields) (int : IntFields) (pat : PatFields) (left : List ProgramFields) → left ≡ [] → pat.programs ++ left ≡ programs_of plan
    → pat.transport_stream_id ≡ int.transport_stream_id → pat ≡ pat_of_plan plan int
pat_is plan int pat left none all own =
    ap (λ (ps : List ProgramFields). record { transport_stream_id = pat.transport_stream_id; programs = ps })
    (sym (append-nil pat.programs) ∙ ap (λ (r : List ProgramFields). pat.programs ++ r) (sym none) ∙ all)
    ∙ ap (λ (t : ℕ). record { transport_stream_id = t; programs = programs_of plan }) own
