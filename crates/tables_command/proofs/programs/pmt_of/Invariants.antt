use Rattle.std.proofs.Common.{◌≡◌, ◌++◌, drop}
use Rattle.std.specs.List.{filter_map}
use Rattle.plan.specs.Parts.{services_seen}
use Rattle.psi_spec.specs.Tables.{stream_in}
use Rattle.tables_command.proofs.programs.pmt_of.Given as goal

abbrev pub invariant-loop-service : goal.invariant-loop-service
invariant-loop-service l =
    (l.pmt.streams ++ filter_map (stream_in l.number) (services_seen (drop l.service-index l.services)) ≡ filter_map (stream_in l.number) (services_seen l.services))
    × (l.pmt.number ≡ l.number)
