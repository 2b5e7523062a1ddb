use Rattle.std.proofs.Common.{◌≡◌, ℕ, ◌+◌, ◌*◌, ◌≤◌, length, drop}
use Rattle.int_spec.specs.Table.{TableFields}
use Rattle.plan.specs.Moves.{services_after}
use Rattle.service_plan.proofs.SizeLemmas.{entries_length, rule_count}
use Rattle.service_plan.proofs.int_packets.entries_size.Given as goal

abbrev pub invariant-loop-service : goal.invariant-loop-service
invariant-loop-service l = record {
  counted : (table : TableFields) (packet_rate : ℕ) → l.total + entries_length table packet_rate (drop l.service (services_after l.services l.changes)) ≡ entries_length table packet_rate (services_after l.services l.changes);
  most : l.total + 19 * rule_count (drop l.service (services_after l.services l.changes)) ≤ 20 * l.service + 2432;
  within : l.service ≤ length l.services;
  rules : rule_count (drop l.service (services_after l.services l.changes)) ≤ 128;
}
