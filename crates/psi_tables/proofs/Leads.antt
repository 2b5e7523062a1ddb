-- Where a component of a program is, by the PAT and the watches for the PMTs after it.
use Rattle.std.proofs.Common.{◌≡◌, ℕ, ◌-◌, ◌/◌, ◌<◌, ◌≤◌, Bool, true, false, cond, ◌+◌, List, length, find, ap, sym, ◌∙◌, subst, refl, arith, eq-eqb, Option, None, Some, is_none}
use Rattle.std.specs.List.{range_with_len}
use Rattle.std.specs.Prelude.{◌&&◌, ◌==◌, nat_lt, slice_get, option_map, option_and_then}
use Rattle.std.proofs.lemmas.Bool.{le-leb}
use Rattle.std.proofs.lemmas.List.{length-map}
use Rattle.std.proofs.lemmas.List.FromFn.{length-range_with_len}
use Rattle.ts_spec.specs.Recording.{Record}
use Rattle.wire_spec.specs.Bytes.{u16_at}
use Rattle.section_spec.specs.Section.{section_fields}
use Rattle.psi_spec.specs.Pat.{ProgramFields, PatFields, is_pat, program_at, programs_in, pat_in_body, pat_fields}
use Rattle.psi_spec.specs.Pmt.{PmtFields, is_pmt, is_pmt_of, pmt_fields}
use Rattle.psi_spec.specs.Named.{sections_on, pat_of, after_pat, has_number, program_in, has_own_pid, pmt_on, pmt_by, pid_by_tag, pid_by_pat, pid_named}
use Rattle.psi_tables.specs.First.{wants}
use Rattle.psi_tables.specs.Refusals.{pat_refusal, pmt_refusal}
use Rattle.psi_tables.specs.Watching.{IsWatching, WatchesPrograms, WatchesPmts}
use Rattle.psi_tables.specs.declared.first.Wanted.{Wanted}
use Rattle.psi_tables.specs.declared.first.Wanted.TheVariants as wanted
use Rattle.psi_tables.specs.declared.pat.PatFault.{PatFault}
use Rattle.psi_tables.specs.declared.pmt.PmtFault.{PmtFault}
use Rattle.psi_tables.specs.declared.watch.Watch.{Watch}
use Rattle.psi_tables.proofs.Programs.{at_place}
use Rattle.psi_tables.proofs.Seen.{finds_right}
use Rattle.psi_tables.proofs.Tests.{pat_tested, pmt_tested}

never : {b : Bool} → b ≡ false → b ≡ true → ⊥
never f t = cc

-- the first PAT is not refused
pub not_refused : (records : List Record) (section : List ℕ) (fault : PatFault) → pat_of records ≡ Some section → pat_refusal section ≡ Some fault → ⊥
not_refused records section fault found refused =
    never (pat_tested section ∙ ap is_none refused) (finds_right is_pat (sections_on 0 records) section found)

-- nor the first PMT
pub pmt_not_refused : (records : List Record) (number pid : ℕ) (section : List ℕ) (fault : PmtFault) → pmt_on number pid records ≡ Some section → pmt_refusal section ≡ Some fault → ⊥
pmt_not_refused records number pid section fault found refused =
    never (pmt_tested section ∙ ap is_none refused) (first_true (is_pmt section) ((pmt_fields section).number == number) (finds_right (is_pmt_of number) (sections_on pid records) section found))
  where
    first_true : (a b : Bool) → (a && b) ≡ true → a ≡ true
    first_true true b e = refl
    first_true false b e = e

-- by the program of the number
by_program : (records : List Record) (pat : PatFields) (stream number tag : ℕ) (program : ProgramFields) → pat.transport_stream_id ≡ stream → 0 < number
    → find (has_number number) pat.programs ≡ Some program → pid_by_pat stream number tag records pat ≡ option_and_then (pid_by_tag tag) (pmt_by program records)
by_program records pat stream number tag program same some found =
    let above : nat_lt 0 number ≡ true = grind (arith, some) in
    ap (λ (b : Bool). cond {A = Option ℕ} b (option_and_then (pid_by_tag tag) (option_and_then (λ p. pmt_by p records) (program_in number pat))) None)
    (eq-eqb pat.transport_stream_id stream same)
    ∙ ap (λ (b : Bool). option_and_then (pid_by_tag tag) (option_and_then (λ p. pmt_by p records) (cond {A = Option ProgramFields} b (find (has_number number) pat.programs) None))) above
    ∙ ap (λ (o : Option ProgramFields). option_and_then (pid_by_tag tag) (option_and_then (λ p. pmt_by p records) o)) found

pub leads : (records : List Record) (section body : List ℕ) (place stream number tag : ℕ) → pat_of records ≡ Some section → body ≡ (section_fields section).body → u16_at body 0 ≡ stream
    → (number ≡ 0 → ⊥) → find (has_number number) (programs_in body) ≡ Some (program_at body place)
    → pid_named records stream number tag ≡ option_and_then (pid_by_tag tag) (pmt_by (program_at body place) records)
leads records section body place stream number tag found body_is same some first =
    ap (λ (o : Option (List ℕ)). option_and_then (λ s. pid_by_pat stream number tag records (pat_fields s)) o) found
    ∙ ap (λ (b : List ℕ). pid_by_pat stream number tag records (pat_in_body b)) (sym body_is)
    ∙ by_program records (pat_in_body body) stream number tag (program_at body place) same (positive number some) first
  where
    positive : (n : ℕ) → (n ≡ 0 → ⊥) → 0 < n
    positive n other = grind (arith, other)

-- the PID of its PMT is none that a PMT has
pub out_of_range : (program : ProgramFields) (records : List Record) (tag : ℕ) → has_own_pid program ≡ false → option_and_then (pid_by_tag tag) (pmt_by program records) ≡ None
out_of_range program records tag out =
    ap (λ (b : Bool). option_and_then (pid_by_tag tag) (cond {A = Option PmtFields} b (option_map pmt_fields (pmt_on program.number program.pid (after_pat records))) None)) out

pub in_range : (program : ProgramFields) (records : List Record) (tag : ℕ) (section : Option (List ℕ)) → has_own_pid program ≡ true → section ≡ pmt_on program.number program.pid (after_pat records)
    → option_and_then (pid_by_tag tag) (pmt_by program records) ≡ option_and_then (pid_by_tag tag) (option_map pmt_fields section)
in_range program records tag section inside is =
    ap (λ (b : Bool). option_and_then (pid_by_tag tag) (cond {A = Option PmtFields} b (option_map pmt_fields (pmt_on program.number program.pid (after_pat records))) None)) inside
    ∙ ap (λ (o : Option (List ℕ)). option_and_then (pid_by_tag tag) (option_map pmt_fields o)) (sym is)

pub too_low : (program : ProgramFields) → program.pid < 32 → has_own_pid program ≡ false
too_low program less = grind (arith, less)

pub too_high : (program : ProgramFields) → 32 ≤ program.pid → 8190 < program.pid → has_own_pid program ≡ false
too_high program least more = grind (arith, least, more)

pub own : (program : ProgramFields) → 32 ≤ program.pid → program.pid ≤ 8190 → has_own_pid program ≡ true
own program least most = rw (le-leb 32 program.pid least, le-leb program.pid 8190 most) refl

-- the watch of a program has its PMT
watches : (records : List Record) (section body : List ℕ) (pmts : List Watch) → pat_of records ≡ Some section → body ≡ (section_fields section).body
    → WatchesPmts (pat_of records) pmts (after_pat records) → WatchesPrograms (programs_in body) pmts (after_pat records)
watches records section body pmts found body_is is =
    subst (λ (b : List ℕ). WatchesPrograms (programs_in b) pmts (after_pat records)) (sym body_is)
    (subst (λ (o : Option (List ℕ)). WatchesPmts o pmts (after_pat records)) found is)

pub watch_found : (records : List Record) (section body : List ℕ) (pmts : List Watch) (place : ℕ) (watch : Watch) → pat_of records ≡ Some section → body ≡ (section_fields section).body
    → WatchesPmts (pat_of records) pmts (after_pat records) → place < (length body - 5) / 4 → slice_get pmts place ≡ Some watch
    → watch.first.found ≡ pmt_on (program_at body place).number (program_at body place).pid (after_pat records)
watch_found records section body pmts place watch found body_is is less here =
    let zero_more : 0 + place ≡ place = omega arith in
    let one : IsWatching (wanted.Pmt (program_at body place).number) (program_at body place).pid watch (after_pat records) =
    (watches records section body pmts found body_is is).each place (program_at body place) watch
    (at_place (program_at body) 0 ((length body - 5) / 4) place less ∙ ap (λ (m : ℕ). Some (program_at body m)) zero_more) here in
    one.watched.found_is
    ∙ ap (λ (w : Wanted). find (wants w) (sections_on watch.pid (after_pat records))) one.wanted_is
    ∙ ap (λ (p : ℕ). find (is_pmt_of (program_at body place).number) (sections_on p (after_pat records))) one.pid_is

pub has_watch : (records : List Record) (section body : List ℕ) (pmts : List Watch) (place : ℕ) → pat_of records ≡ Some section → body ≡ (section_fields section).body
    → WatchesPmts (pat_of records) pmts (after_pat records) → place < (length body - 5) / 4 → place < length pmts
has_watch records section body pmts place found body_is is less =
    omega (arith, (watches records section body pmts found body_is is).size, less, length-map (range_with_len 0 ((length body - 5) / 4)) (program_at body), length-range_with_len 0 ((length body - 5) / 4))
