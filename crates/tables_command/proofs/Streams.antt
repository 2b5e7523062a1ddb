-- The streams of a program: how many there are, and their PIDs.
use Rattle.std.proofs.Common.{◌≡◌, ℕ, ◌+◌, ◌≤◌, Bool, true, false, cond, ◌&&◌, ◌==◌, List, [], ◌∷◌, length, All, refl, ap, ◌∙◌, arith, Option, None, Some, option_map}
use Rattle.std.specs.List.{filter_map, cons_option, list_all}
use Rattle.std.proofs.lemmas.List.Elements.{All-nil, All-cons}
use Rattle.plan_spec.specs.Plan.{KindFields, ule, mpe, fec, gse, ServiceFields, PlanFields, pid_of}
use Rattle.plan_spec.specs.Checks.{is_between, is_row_count}
use Rattle.plan_spec.specs.Valid.{is_valid_window, is_valid_kind, is_valid_service, is_plan}
use Rattle.plan.proofs.RouteLemmas.{plans_are_small}
use Rattle.stream_law.proofs.Plans.{both, at_most, has_ranges, ranges}
use Rattle.psi_spec.specs.Pmt.{StreamFields, PmtFields}
use Rattle.psi_spec.specs.Tables.{stream_on, stream_in, pmt_of}

-- no more streams than services
length_option : {X : Type 0} (o : Option X) (xs : List X) (n : ℕ) → length xs ≤ n → length (cons_option o xs) ≤ n + 1
length_option None xs n most = omega (arith, most)
length_option (Some x) xs n most = omega (arith, most)

length_streams : (number : ℕ) (services : List ServiceFields) → length (filter_map (stream_in number) services) ≤ length services
length_streams number [] = omega arith
length_streams number (s ∷ services) =
    let more = length_option (stream_in number s) (filter_map (stream_in number) services) (length services) (length_streams number services) in
    omega (arith, more)

pub few_streams : (plan : PlanFields) (number : ℕ) → is_plan plan ≡ true → length (filter_map (stream_in number) plan.services) ≤ 64
few_streams plan number valid = omega (arith, length_streams number plan.services, plans_are_small plan valid)

-- each is on the PID of a service, which is 8190 or less
kind_most : (least : ℕ) (kind : KindFields) (pid : ℕ) → is_valid_kind least kind ≡ true → pid_of kind ≡ Some pid → pid ≤ 8191
kind_most least (ule own address packing) pid valid e = let same : own ≡ pid = cc in omega (arith, at_most least 8190 own valid, same)
kind_most least (mpe own) pid valid e = let same : own ≡ pid = cc in omega (arith, at_most least 8190 own valid, same)
kind_most least (fec own rows parity window) pid valid e =
    let same : own ≡ pid = cc in
    omega (arith, at_most least 8190 own (both (is_between least 8190 own) (is_row_count rows && (is_between 1 64 parity && is_valid_window window)) valid).0, same)
kind_most least (gse isi address) pid valid e = absurd (cc)

by_test : (b : Bool) (o : Option ℕ) (tag : ℕ) (stream : StreamFields) → cond b (stream_on o tag) None ≡ Some stream → o ≡ Some stream.pid
by_test false o tag stream is = absurd (cc)
by_test true None tag stream is = absurd (cc)
by_test true (Some pid) tag stream is = ap (λ (x : Option StreamFields). option_map (λ (s : StreamFields). s.pid) x) is

pid_option : (o : Option StreamFields) (rest : List StreamFields) → ((stream : StreamFields) → o ≡ Some stream → stream.pid ≤ 8191)
    → All (λ (stream : StreamFields). stream.pid ≤ 8191) rest → All (λ (stream : StreamFields). stream.pid ≤ 8191) (cons_option o rest)
pid_option None rest one all = all
pid_option (Some stream) rest one all = All-cons (λ (s : StreamFields). s.pid ≤ 8191) stream rest (one stream refl) all

pids_most : (least number : ℕ) (services : List ServiceFields) → list_all (is_valid_service least) services ≡ true
    → All (λ (stream : StreamFields). stream.pid ≤ 8191) (filter_map (stream_in number) services)
pids_most least number [] valid = All-nil (λ (stream : StreamFields). stream.pid ≤ 8191)
pids_most least number (s ∷ services) valid =
    let parts = both (is_valid_service least s) (list_all (is_valid_service least) services) valid in
    pid_option (stream_in number s) (filter_map (stream_in number) services)
    (λ stream is. kind_most least s.kind stream.pid (has_ranges least s parts.0).kind (by_test (s.service_id == number) (pid_of s.kind) s.component_tag stream is))
    (pids_most least number services parts.1)

pub streams_most : (plan : PlanFields) (number : ℕ) → is_plan plan ≡ true → All (λ (stream : StreamFields). stream.pid ≤ 8191) (filter_map (stream_in number) plan.services)
streams_most plan number valid = let r = ranges plan valid in pids_most r.least number plan.services r.services

-- a PMT of this number and these streams
pub same_pmt : (plan : PlanFields) (number : ℕ) (pmt : PmtFields) → pmt.number ≡ number → pmt.streams ≡ filter_map (stream_in number) plan.services → pmt ≡ pmt_of plan number
same_pmt plan number pmt own streams =
    ap (λ (n : ℕ). record { number = n; streams = pmt.streams }) own ∙ ap (λ (ss : List StreamFields). record { number = number; streams = ss }) streams
