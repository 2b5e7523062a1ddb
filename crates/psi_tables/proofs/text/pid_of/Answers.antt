use Rattle.std.proofs.Common.{◌≡◌, ◌<◌, ◌≤◌, ℕ, length, true, Some, None, ap, sym, ◌∙◌, subst, refl, arith}
use Rattle.std.specs.Prelude.{option_copied, option_and_then}
use Rattle.std.proofs.lemmas.Option.{slice_get_read}
use Rattle.section_spec.specs.Section.{SectionFields}
use Rattle.psi_spec.specs.Pat.{ProgramFields, program_at}
use Rattle.psi_spec.specs.Pmt.{pmt_in_body}
use Rattle.psi_spec.specs.Named.{after_pat, pid_named, has_own_pid, pid_by_tag, pmt_by, pmt_on}
use Rattle.psi_tables.proofs.Leads.{not_refused, pmt_not_refused, leads, out_of_range, in_range, too_low, too_high, own, watch_found, has_watch}
use Rattle.psi_tables.proofs.text.pid_of.Goals as goal

pub returns-in_default-check_pat : goal.returns-in_default-check_pat
returns-in_default-check_pat c = λ records pat_is watch.
    absurd (not_refused records c.in-Some.section.now c.in_default-check_pat.field-0 (sym pat_is ∙ ap option_copied c.in-Some.is) c.in_default-check_pat.ensures.refused)

pub program_at-pid-requires-clause-place : goal.program_at-pid-requires-clause-place
program_at-pid-requires-clause-place c = c.in-Some-place_of.ensures.found.0

pub returns-then-pid-lt-FIRST_PID : goal.returns-then-pid-lt-FIRST_PID
returns-then-pid-lt-FIRST_PID c = λ records pat_is watch.
    let program : ProgramFields = program_at c.in-Ok.read.body.now c.in-Some-place_of.place in
    let led : pid_named records c.args.stream c.args.service_id c.args.component_tag ≡ option_and_then (pid_by_tag c.args.component_tag) (pmt_by program records) =
    leads records c.in-Some.section.now c.in-Ok.read.body.now c.in-Some-place_of.place c.args.stream c.args.service_id c.args.component_tag
    (sym pat_is ∙ ap option_copied c.in-Some.is) (ap (λ (f : SectionFields). f.body) c.in-Ok.ensures.read.0) (sym c.u16_in.ensures ∙ c.if-u16_in-stream.false) c.if-service_id-eq0.false
    c.in-Some-place_of.ensures.found.1 in
    sym (led ∙ out_of_range program records c.args.component_tag
    (too_low program (subst (λ (n : ℕ). n < 32) (ap (λ (p : ProgramFields). p.pid) c.program_at-pid.ensures) c.if-pid-lt-FIRST_PID.true)))

pub returns-then-pid-gt-LAST_PID : goal.returns-then-pid-gt-LAST_PID
returns-then-pid-gt-LAST_PID c = λ records pat_is watch.
    let program : ProgramFields = program_at c.in-Ok.read.body.now c.in-Some-place_of.place in
    let led : pid_named records c.args.stream c.args.service_id c.args.component_tag ≡ option_and_then (pid_by_tag c.args.component_tag) (pmt_by program records) =
    leads records c.in-Some.section.now c.in-Ok.read.body.now c.in-Some-place_of.place c.args.stream c.args.service_id c.args.component_tag
    (sym pat_is ∙ ap option_copied c.in-Some.is) (ap (λ (f : SectionFields). f.body) c.in-Ok.ensures.read.0) (sym c.u16_in.ensures ∙ c.if-u16_in-stream.false) c.if-service_id-eq0.false
    c.in-Some-place_of.ensures.found.1 in
    let same : c.program_at-pid.result.pid ≡ program.pid = ap (λ (p : ProgramFields). p.pid) c.program_at-pid.ensures in
    sym (led ∙ out_of_range program records c.args.component_tag
    (too_high program (subst (λ (n : ℕ). 32 ≤ n) same (omega (arith, c.if-pid-lt-FIRST_PID.false))) (subst (λ (n : ℕ). 8190 < n) same c.if-pid-gt-LAST_PID.true)))

pub returns-then-pmts-place : goal.returns-then-pmts-place
returns-then-pmts-place c = λ records pat_is watch.
    let there : c.in-Some-place_of.place < length c.args.pmts.now =
    has_watch records c.in-Some.section.now c.in-Ok.read.body.now c.args.pmts.now c.in-Some-place_of.place
    (sym pat_is ∙ ap option_copied c.in-Some.is) (ap (λ (f : SectionFields). f.body) c.in-Ok.ensures.read.0) watch c.in-Some-place_of.ensures.found.0 in
    absurd (omega (arith, there, c.if-pmts-place.true))

pub returns-in_default-found : goal.returns-in_default-found
returns-in_default-found c = λ records pat_is watch.
    let program : ProgramFields = program_at c.in-Ok.read.body.now c.in-Some-place_of.place in
    let led : pid_named records c.args.stream c.args.service_id c.args.component_tag ≡ option_and_then (pid_by_tag c.args.component_tag) (pmt_by program records) =
    leads records c.in-Some.section.now c.in-Ok.read.body.now c.in-Some-place_of.place c.args.stream c.args.service_id c.args.component_tag
    (sym pat_is ∙ ap option_copied c.in-Some.is) (ap (λ (f : SectionFields). f.body) c.in-Ok.ensures.read.0) (sym c.u16_in.ensures ∙ c.if-u16_in-stream.false) c.if-service_id-eq0.false
    c.in-Some-place_of.ensures.found.1 in
    let same : c.program_at-pid.result.pid ≡ program.pid = ap (λ (p : ProgramFields). p.pid) c.program_at-pid.ensures in
    let seen : c.index-pmts-place.result.first.found ≡ pmt_on program.number program.pid (after_pat records) =
    watch_found records c.in-Some.section.now c.in-Ok.read.body.now c.args.pmts.now c.in-Some-place_of.place c.index-pmts-place.result
    (sym pat_is ∙ ap option_copied c.in-Some.is) (ap (λ (f : SectionFields). f.body) c.in-Ok.ensures.read.0) watch c.in-Some-place_of.ensures.found.0
    (slice_get_read c.args.pmts.now (length c.args.pmts.now) c.in-Some-place_of.place c.index-pmts-place.result refl (omega (arith, c.if-pmts-place.false)) c.index-pmts-place.is) in
    let inside : has_own_pid program ≡ true = own program (subst (λ (n : ℕ). 32 ≤ n) same (omega (arith, c.if-pid-lt-FIRST_PID.false))) (subst (λ (n : ℕ). n ≤ 8190) same (omega (arith, c.if-pid-gt-LAST_PID.false))) in
    sym (led ∙ in_range program records c.args.component_tag None inside (sym (ap option_copied c.in_default-found.is) ∙ c.found.ensures ∙ seen))

pub returns-in-Ok-check_pmt : goal.returns-in-Ok-check_pmt
returns-in-Ok-check_pmt c = λ records pat_is watch.
    let program : ProgramFields = program_at c.in-Ok.read.body.now c.in-Some-place_of.place in
    let led : pid_named records c.args.stream c.args.service_id c.args.component_tag ≡ option_and_then (pid_by_tag c.args.component_tag) (pmt_by program records) =
    leads records c.in-Some.section.now c.in-Ok.read.body.now c.in-Some-place_of.place c.args.stream c.args.service_id c.args.component_tag
    (sym pat_is ∙ ap option_copied c.in-Some.is) (ap (λ (f : SectionFields). f.body) c.in-Ok.ensures.read.0) (sym c.u16_in.ensures ∙ c.if-u16_in-stream.false) c.if-service_id-eq0.false
    c.in-Some-place_of.ensures.found.1 in
    let same : c.program_at-pid.result.pid ≡ program.pid = ap (λ (p : ProgramFields). p.pid) c.program_at-pid.ensures in
    let seen : c.index-pmts-place.result.first.found ≡ pmt_on program.number program.pid (after_pat records) =
    watch_found records c.in-Some.section.now c.in-Ok.read.body.now c.args.pmts.now c.in-Some-place_of.place c.index-pmts-place.result
    (sym pat_is ∙ ap option_copied c.in-Some.is) (ap (λ (f : SectionFields). f.body) c.in-Ok.ensures.read.0) watch c.in-Some-place_of.ensures.found.0
    (slice_get_read c.args.pmts.now (length c.args.pmts.now) c.in-Some-place_of.place c.index-pmts-place.result refl (omega (arith, c.if-pmts-place.false)) c.index-pmts-place.is) in
    let inside : has_own_pid program ≡ true = own program (subst (λ (n : ℕ). 32 ≤ n) same (omega (arith, c.if-pid-lt-FIRST_PID.false))) (subst (λ (n : ℕ). n ≤ 8190) same (omega (arith, c.if-pid-gt-LAST_PID.false))) in
    c.pid_in_pmt.ensures
    ∙ ap (λ (f : SectionFields). pid_by_tag c.args.component_tag (pmt_in_body f.body)) c.in-Ok-check_pmt.ensures.read
    ∙ sym (led ∙ in_range program records c.args.component_tag (Some c.in-Some-found.section.now) inside (sym (ap option_copied c.in-Some-found.is) ∙ c.found.ensures ∙ seen))

pub returns-in-Err : goal.returns-in-Err
returns-in-Err c = λ records pat_is watch.
    let program : ProgramFields = program_at c.in-Ok.read.body.now c.in-Some-place_of.place in
    let seen : c.index-pmts-place.result.first.found ≡ pmt_on program.number program.pid (after_pat records) =
    watch_found records c.in-Some.section.now c.in-Ok.read.body.now c.args.pmts.now c.in-Some-place_of.place c.index-pmts-place.result
    (sym pat_is ∙ ap option_copied c.in-Some.is) (ap (λ (f : SectionFields). f.body) c.in-Ok.ensures.read.0) watch c.in-Some-place_of.ensures.found.0
    (slice_get_read c.args.pmts.now (length c.args.pmts.now) c.in-Some-place_of.place c.index-pmts-place.result refl (omega (arith, c.if-pmts-place.false)) c.index-pmts-place.is) in
    absurd (pmt_not_refused (after_pat records) program.number program.pid c.in-Some-found.section.now c.in-Err.field-0
    (sym seen ∙ sym c.found.ensures ∙ ap option_copied c.in-Some-found.is) c.in-Err.ensures.refused)
