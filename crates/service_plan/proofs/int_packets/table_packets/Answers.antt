use Rattle.std.proofs.Common.{take, ap, option_map}
use Rattle.plan.specs.Parts.{int_seen}
use Rattle.plan_spec.specs.Changes.{plan_in}
use Rattle.plan.specs.Moves.{services_after}
use Rattle.service_plan.specs.Plans.{draft_seen}
use Rattle.plan.proofs.VersionLemmas.{services_of_version}
use Rattle.service_plan.proofs.CheckLemmas.{few_rules}
use Rattle.service_plan.proofs.SizeLemmas.{packets_counted, no_packets}
use Rattle.service_plan.proofs.int_packets.table_packets.Goals as goal

pub entries_size-entries-requires-clause-rules : goal.entries_size-entries-requires-clause-rules
entries_size-entries-requires-clause-rules c =
    let draft = c.args.draft.now in
    let few = rw (services_of_version draft.services draft.changes c.args.version) at c.requires.rules in
    rw (c.items-changes.ensures.read, c.items.ensures.read) (few_rules (services_after draft.services (take c.args.version draft.changes)) few)

pub returns-in-Some : goal.returns-in-Some
returns-in-Some c =
    let draft = c.args.draft.now in
    record {
      read = packets_counted (plan_in (draft_seen draft) c.args.version) _ (services_after draft.services (take c.args.version draft.changes)) _ _ (ap (option_map int_seen) c.in-Some.is)
          (services_of_version draft.services draft.changes c.args.version)
          (rw (c.items-changes.ensures.read, c.items.ensures.read) at c.entries_size-entries.ensures.read) c.section_size-size.ensures.counted;
    }

pub returns-in-None : goal.returns-in-None
returns-in-None c = record { read = no_packets (plan_in (draft_seen c.args.draft.now) c.args.version) (ap (option_map int_seen) c.in-None.is) }
