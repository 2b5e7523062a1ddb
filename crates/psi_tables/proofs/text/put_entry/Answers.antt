use Rattle.std.proofs.Common.{ℕ, ◌+◌, ◌∙◌, ap, sym, arith, List, ◌++◌, drop, append_assoc}
use Rattle.std.proofs.lemmas.List.{append-nil, drop_all}
use Rattle.addr_rules.specs.declared.rules.Rule.{Rule}
use Rattle.psi_tables.specs.Text.{lines_of, rule_line}
use Rattle.psi_tables.proofs.Named.{with_pid}
use Rattle.psi_tables.proofs.Programs.{drop_first}
use Rattle.psi_tables.proofs.text.put_entry.Goals as goal

pub loop-at-preserved : goal.loop-at-preserved
loop-at-preserved c =
    let id : ℕ = c.args.entry.now.service_id in
    let tag : ℕ = c.args.entry.now.component_tag in
    let at : ℕ = c.loop-at.at in
    let rest : List ℕ = lines_of (with_pid id tag c.args.pid (drop (at + 1) c.args.entry.now.rules)) in
    ap (λ (t : List ℕ). t ++ rest) c.in_ok-put_rule.ensures
    ∙ append_assoc c.loop-at.text.items (rule_line (record { rule = c.at.result.now; service_id = id; component_tag = tag; pid = c.args.pid })) rest
    ∙ ap (λ (l : List Rule). c.loop-at.text.items ++ lines_of (with_pid id tag c.args.pid l)) (sym (drop_first c.args.entry.now.rules at c.at.result.now c.at.ensures.read))
    ∙ c.loop-at.invariant

pub returns : goal.returns
returns c =
    let id : ℕ = c.args.entry.now.service_id in
    let tag : ℕ = c.args.entry.now.component_tag in
    sym (append-nil c.loop-at.text.items)
    ∙ ap (λ (l : List Rule). c.loop-at.text.items ++ lines_of (with_pid id tag c.args.pid l)) (sym (drop_all c.loop-at.at c.args.entry.now.rules (omega (arith, c.loop-at-test.false, c.len-at-end.ensures.read))))
    ∙ c.loop-at.invariant
