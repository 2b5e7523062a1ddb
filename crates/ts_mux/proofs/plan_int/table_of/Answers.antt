use Rattle.std.proofs.Common.{◌≡◌, ◌+◌, List, [], ◌∷◌, map, take, sym, ap, subst, arith, ◌∙◌, Some}
use Rattle.std.specs.Prelude.{All, slice_get}
use Rattle.std.proofs.lemmas.List.{map-append, length-map, take_all}
use Rattle.std.proofs.lemmas.List.Elements.{All-push}
use Rattle.addr_rules.specs.declared.rules.Rule.{Rule}
use Rattle.int_spec.specs.Descriptors.{has_right_slash}
use Rattle.std.specs.List.{list_all}
use Rattle.int_spec.specs.Table.{IsRule, TableFields}
use Rattle.plan_spec.specs.Plan.{ServiceFields, PlanFields, sliced_of}
use Rattle.slice_law.proofs.Checks.{rate_above}
use Rattle.ts_mux.proofs.Windowed.{short_burst}
use Rattle.ts_mux.proofs.Scheduled.{kind_there}
use Rattle.plan_spec.specs.Changes.{plan_in, service_in}
use Rattle.plan_spec.specs.Valid.{is_valid_rule}
use Rattle.plan_spec.specs.Signalling.{table_of, entry_of}
use Rattle.plan.specs.Parts.{int_seen, service_seen}
use Rattle.plan.specs.PlanView.{plan_fields}
use Rattle.plan.proofs.VersionLemmas.{length-services_in}
use Rattle.stream_law.proofs.Wholes.{few_changes, version_accepted}
use Rattle.stream_law.proofs.Plans.{few_services}
use Rattle.int_table.specs.Views.{entry_in}
use Rattle.ts_mux.proofs.Items.{take_next}
use Rattle.ts_mux.proofs.Moved.{Stays, stays_in, found_in, version_within, frames_at}
use Rattle.ts_mux.proofs.Signalled.{platform_below, rules_valid, slashes_right, entry_is, with_entry, table_fits}
use Rattle.ts_mux.proofs.plan_int.table_of.Goals as goal

pub new-table-requires-clause-platform_id_below : goal.new-table-requires-clause-platform_id_below
new-table-requires-clause-platform_id_below c = (platform_below (plan_fields c.args.plan.now) (int_seen c.args.int.now) c.args.plan.now.valid c.requires.int).0

pub new-table-requires-clause-version_below : goal.new-table-requires-clause-version_below
new-table-requires-clause-version_below c = omega (arith, few_changes (plan_fields c.args.plan.now) c.args.plan.now.whole, version_within c.args.plan.now c.args.version c.requires.version)

pub entry_of-requires-clause-rules : goal.entry_of-requires-clause-rules
entry_of-requires-clause-rules c =
    ap (list_all is_valid_rule) c.rules_in-rules.ensures
    ∙ rules_valid (plan_in (plan_fields c.args.plan.now) c.args.version) c.loop-place.place (service_in (plan_fields c.args.plan.now) c.args.version c.loop-place.place)
    (version_accepted (plan_fields c.args.plan.now) c.args.plan.now.whole c.args.version (version_within c.args.plan.now c.args.version c.requires.version))
    (found_in c.args.plan.now c.args.version c.loop-place.place c.at.result.now c.at.ensures.read)

-- with frames as there are
pub entry_of-requires-clause-frames : goal.entry_of-requires-clause-frames
entry_of-requires-clause-frames c = frames_at c.args.plan.now c.loop-place.place c.at.result.now c.at.ensures.read

pub entry_of-requires-clause-rate : goal.entry_of-requires-clause-rate
entry_of-requires-clause-rate c = rate_above (plan_fields c.args.plan.now) c.args.plan.now.valid

-- whose bursts are short enough
pub entry_of-requires-clause-short : goal.entry_of-requires-clause-short
entry_of-requires-clause-short c = λ fields is.
    short_burst (plan_fields c.args.plan.now) c.args.plan.now.valid c.loop-place.place fields (ap sliced_of (kind_there c.args.plan.now c.loop-place.place c.at.result.now c.at.ensures.read) ∙ is)

pub push-requires : goal.push-requires
push-requires c = record {
  slashes = ap (list_all has_right_slash) (c.in_ok-entry.ensures.rules ∙ c.rules_in-rules.ensures)
      ∙ slashes_right (service_in (plan_fields c.args.plan.now) c.args.version c.loop-place.place).rules
      (rules_valid (plan_in (plan_fields c.args.plan.now) c.args.version) c.loop-place.place (service_in (plan_fields c.args.plan.now) c.args.version c.loop-place.place)
      (version_accepted (plan_fields c.args.plan.now) c.args.plan.now.whole c.args.version (version_within c.args.plan.now c.args.version c.requires.version))
      (found_in c.args.plan.now c.args.version c.loop-place.place c.at.result.now c.at.ensures.read));
}

pub loop-place-preserved : goal.loop-place-preserved
loop-place-preserved c =
    let plan : PlanFields = plan_in (plan_fields c.args.plan.now) c.args.version in
    let base : ServiceFields = service_seen c.at.result.now in
    let service : ServiceFields = service_in (plan_fields c.args.plan.now) c.args.version c.loop-place.place in
    let stays : Stays base service = stays_in c.args.plan.now c.args.version c.loop-place.place c.at.result.now c.at.ensures.read in
    let found : slice_get plan.services c.loop-place.place ≡ Some service = found_in c.args.plan.now c.args.version c.loop-place.place c.at.result.now c.at.ensures.read in
    record {
      entries = with_entry (table_of plan (int_seen c.args.int.now)) c.loop-place.table c.push.new.self
          (map (entry_of c.args.plan.now.packet_rate) (take c.loop-place.place plan.services)) (map (entry_of c.args.plan.now.packet_rate) (take (c.loop-place.place + 1) plan.services))
          (entry_in c.in_ok-entry.entry) (entry_of c.args.plan.now.packet_rate service) c.loop-place.invariant.entries c.in-Ok.ensures.written
          (entry_is c.args.plan.now.packet_rate service (entry_in c.in_ok-entry.entry) (c.in_ok-entry.ensures.rules ∙ c.rules_in-rules.ensures) (c.in_ok-entry.ensures.service_id ∙ sym stays.service_id)
          (c.in_ok-entry.ensures.component_tag ∙ sym stays.component_tag) (c.in_ok-entry.ensures.slices ∙ sym (stays.slices c.args.plan.now.packet_rate)))
          (ap (map (entry_of c.args.plan.now.packet_rate)) (take_next plan.services c.loop-place.place service found)
          ∙ map-append (entry_of c.args.plan.now.packet_rate) (take c.loop-place.place plan.services) (service ∷ []));
      rules = subst (λ (lists : List (List Rule)). All (All IsRule) lists)
          (sym (ap (map (λ (s : ServiceFields). s.rules)) (take_next plan.services c.loop-place.place service found)
          ∙ map-append (λ (s : ServiceFields). s.rules) (take c.loop-place.place plan.services) (service ∷ [])))
          (All-push (All IsRule) (map (λ (s : ServiceFields). s.rules) (take c.loop-place.place plan.services)) service.rules c.loop-place.invariant.rules
          (subst (λ (rules : List Rule). All IsRule rules) c.rules_in-rules.ensures c.in_ok-entry.ensures.are));
    }

pub returns-clause-fits : goal.returns-clause-fits
returns-clause-fits c =
    table_fits (plan_in (plan_fields c.args.plan.now) c.args.version) (int_seen c.args.int.now) c.loop-place.table c.loop-place.place
    (version_accepted (plan_fields c.args.plan.now) c.args.plan.now.whole c.args.version (version_within c.args.plan.now c.args.version c.requires.version))
    (omega (arith, c.loop-place-test.false, c.len-place-end.ensures.read, length-map c.args.plan.now.services service_seen, length-services_in (plan_fields c.args.plan.now) c.args.version)) c.loop-place.invariant.entries c.loop-place.invariant.rules

pub overflow_cast-place : goal.overflow_cast-place
overflow_cast-place c =
    omega (arith, few_services (plan_fields c.args.plan.now) c.args.plan.now.valid, c.loop-place-test.true, c.len-place-end.ensures.read, length-map c.args.plan.now.services service_seen)

pub returns-clause-written : goal.returns-clause-written
returns-clause-written c =
    let plan : PlanFields = plan_in (plan_fields c.args.plan.now) c.args.version in
    c.loop-place.invariant.entries
    ∙ ap (λ (ss : List ServiceFields). let t : TableFields = record (table_of plan (int_seen c.args.int.now)) { entries = map (entry_of c.args.plan.now.packet_rate) ss } in t)
    (take_all c.loop-place.place plan.services
    (omega (arith, c.loop-place-test.false, c.len-place-end.ensures.read, length-map c.args.plan.now.services service_seen, length-services_in (plan_fields c.args.plan.now) c.args.version)))
