use Rattle.std.proofs.Common.{◌≡◌, ℕ, ◌+◌, List, ◌++◌, drop, flat_map, Option, ap, sym, ◌∙◌, refl, arith, append_assoc}
use Rattle.std.proofs.lemmas.Grind.{flat_map-append}
use Rattle.std.proofs.lemmas.List.{append-nil, drop_all}
use Rattle.std.proofs.lemmas.List.Concat.{flat_map-cons}
use Rattle.int_spec.specs.Table.{EntryFields}
use Rattle.int_table.specs.Views.{entry_in}
use Rattle.psi_spec.specs.Named.{NamedRule, pid_named, rules_by, rules_of_entry}
use Rattle.psi_tables.specs.Text.{lines_of, rule_line}
use Rattle.psi_tables.proofs.Programs.{drop_first}
use Rattle.psi_tables.proofs.text.put_entries.Goals as goal

pub loop-at-init : goal.loop-at-init
loop-at-init c = λ records pat_is watch. refl

pub loop-at-preserved : goal.loop-at-preserved
loop-at-preserved c = λ records pat_is watch.
    let entry : EntryFields = entry_in c.entry-entry.result.now in
    let text : List ℕ = c.loop-at.text.items in
    let lines : EntryFields → List NamedRule = rules_of_entry records c.args.table.now.transport_stream_id in
    let behind : List EntryFields = drop (c.loop-at.at + 1) c.args.table.now.entries in
    let pid_is : c.pid_of-pid.result ≡ pid_named records c.args.table.now.transport_stream_id entry.service_id entry.component_tag =
    c.pid_of-pid.ensures records pat_is watch ∙ ap (λ (s : ℕ). pid_named records s entry.service_id entry.component_tag) c.transport_stream_id.ensures.read in
    ap (λ (t : List ℕ). t ++ lines_of (flat_map lines behind)) (c.in_ok-put_entry.ensures ∙ ap (λ (p : Option ℕ). text ++ lines_of (rules_by entry p)) pid_is)
    ∙ append_assoc text (lines_of (lines entry)) (lines_of (flat_map lines behind))
    ∙ ap (λ (l : List ℕ). text ++ l) (sym (flat_map-append rule_line (lines entry) (flat_map lines behind)))
    ∙ ap (λ (l : List NamedRule). text ++ lines_of l) (sym (flat_map-cons lines entry behind))
    ∙ ap (λ (l : List EntryFields). text ++ lines_of (flat_map lines l)) (sym (drop_first c.args.table.now.entries c.loop-at.at entry c.entry-entry.ensures.read))
    ∙ c.loop-at.invariant records pat_is watch

pub returns : goal.returns
returns c = λ records pat_is watch.
    sym (append-nil c.loop-at.text.items)
    ∙ ap (λ (l : List EntryFields). c.loop-at.text.items ++ lines_of (flat_map (rules_of_entry records c.args.table.now.transport_stream_id) l))
    (sym (drop_all c.loop-at.at c.args.table.now.entries (omega (arith, c.loop-at-test.false, c.len-at-end.ensures.read))))
    ∙ c.loop-at.invariant records pat_is watch
