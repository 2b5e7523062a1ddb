use Rattle.std.proofs.Common.{sym, ◌∙◌}
use Rattle.service_plan.specs.Plans.{draft_seen}
use Rattle.service_plan.proofs.OrderLemmas.{fault_carrier, fault_name, fault_pid, fault_change, fault_rules, fault_stamps, fault_window, fault_gap, fault_delta, no_fault}
use Rattle.service_plan.proofs.CheckLemmas.{right_rules}
use Rattle.service_plan.proofs.plan_checks.check_whole.Goals as goal

pub returns-then-has_wrong_carrier : goal.returns-then-has_wrong_carrier
returns-then-has_wrong_carrier c = record { read = fault_carrier c.args.draft.now.spelled (draft_seen c.args.draft.now) c.if-has_wrong_carrier.ensures.read }

pub returns-then-has_same_name : goal.returns-then-has_same_name
returns-then-has_same_name c = record { read = fault_name c.args.draft.now.spelled (draft_seen c.args.draft.now) c.if-has_wrong_carrier.ensures.read c.if-has_same_name.ensures.read }

pub returns-then-has_same_pid : goal.returns-then-has_same_pid
returns-then-has_same_pid c = record { read = fault_pid c.args.draft.now.spelled (draft_seen c.args.draft.now) c.if-has_wrong_carrier.ensures.read c.if-has_same_name.ensures.read c.if-has_same_pid.ensures.read }

pub returns-then-branch : goal.returns-then-branch
returns-then-branch c = record { read = fault_change c.args.draft.now.spelled (draft_seen c.args.draft.now) c.if-has_wrong_carrier.ensures.read c.if-has_same_name.ensures.read c.if-has_same_pid.ensures.read (sym c.if-branch.true ∙ c.in_ok-has_wrong_change.ensures) }

pub returns-then-has_wrong_rules : goal.returns-then-has_wrong_rules
returns-then-has_wrong_rules c = record { read = fault_rules c.args.draft.now.spelled (draft_seen c.args.draft.now) c.if-has_wrong_carrier.ensures.read c.if-has_same_name.ensures.read c.if-has_same_pid.ensures.read (sym c.if-branch.false ∙ c.in_ok-has_wrong_change.ensures) c.if-has_wrong_rules.ensures.read }

pub returns-then-needs_stamps : goal.returns-then-needs_stamps
returns-then-needs_stamps c = record { read = fault_stamps c.args.draft.now.spelled (draft_seen c.args.draft.now) c.if-has_wrong_carrier.ensures.read c.if-has_same_name.ensures.read c.if-has_same_pid.ensures.read (sym c.if-branch.false ∙ c.in_ok-has_wrong_change.ensures) c.if-has_wrong_rules.ensures.read c.if-needs_stamps.ensures.read }

pub returns-then-has_wrong_window : goal.returns-then-has_wrong_window
returns-then-has_wrong_window c = record { read = fault_window c.args.draft.now.spelled (draft_seen c.args.draft.now) _ c.most_table_packets.ensures.read c.if-has_wrong_carrier.ensures.read c.if-has_same_name.ensures.read c.if-has_same_pid.ensures.read (sym c.if-branch.false ∙ c.in_ok-has_wrong_change.ensures) c.if-has_wrong_rules.ensures.read c.if-needs_stamps.ensures.read c.if-has_wrong_window.ensures.read }

pub returns-then-has_short_gap : goal.returns-then-has_short_gap
returns-then-has_short_gap c = record { read = fault_gap c.args.draft.now.spelled (draft_seen c.args.draft.now) _ c.most_table_packets.ensures.read c.if-has_wrong_carrier.ensures.read c.if-has_same_name.ensures.read c.if-has_same_pid.ensures.read (sym c.if-branch.false ∙ c.in_ok-has_wrong_change.ensures) c.if-has_wrong_rules.ensures.read c.if-needs_stamps.ensures.read c.if-has_wrong_window.ensures.read c.if-has_short_gap.ensures.read }

pub returns-then-has_long_cycle : goal.returns-then-has_long_cycle
returns-then-has_long_cycle c = record { read = fault_delta c.args.draft.now.spelled (draft_seen c.args.draft.now) _ c.most_table_packets.ensures.read c.if-has_wrong_carrier.ensures.read c.if-has_same_name.ensures.read c.if-has_same_pid.ensures.read (sym c.if-branch.false ∙ c.in_ok-has_wrong_change.ensures) c.if-has_wrong_rules.ensures.read c.if-needs_stamps.ensures.read c.if-has_wrong_window.ensures.read c.if-has_short_gap.ensures.read c.if-has_long_cycle.ensures.read }

pub returns : goal.returns
returns c = record { read = (no_fault c.args.draft.now.spelled (draft_seen c.args.draft.now) _ c.most_table_packets.ensures.read c.if-has_wrong_carrier.ensures.read c.if-has_same_name.ensures.read c.if-has_same_pid.ensures.read (sym c.if-branch.false ∙ c.in_ok-has_wrong_change.ensures) c.if-has_wrong_rules.ensures.read c.if-needs_stamps.ensures.read c.if-has_wrong_window.ensures.read c.if-has_short_gap.ensures.read c.if-has_long_cycle.ensures.read, tt) }

pub most_table_packets-requires-clause-rules : goal.most_table_packets-requires-clause-rules
most_table_packets-requires-clause-rules c = right_rules _ _ c.if-has_wrong_rules.ensures.read
