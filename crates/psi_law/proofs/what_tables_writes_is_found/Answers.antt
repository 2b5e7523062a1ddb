use Rattle.std.proofs.Common.{◌≡◌, ℕ, ◌<◌, false, List, ◌∷◌, ◌++◌, Some, subst}
use Rattle.std.specs.List.{list_any}
use Rattle.wire_spec.specs.Lists.{IsCut}
use Rattle.ts_spec.specs.Recording.{plain, records_of}
use Rattle.settings_spec.specs.Refusal.{IsAccepted}
use Rattle.plan_spec.specs.Plan.{ServiceFields, IntFields, PlanFields, pid_of}
use Rattle.plan_spec.specs.Signalling.{entry_of}
use Rattle.psi_tables.specs.Text.{IsFindText}
use Rattle.tables_command.specs.Writing.{bytes_of_tables}
use Rattle.psi_law.specs.Programs.{has_names}
use Rattle.psi_law.specs.Printed.{PrintsEntry}
use Rattle.psi_law.proofs.CutTables.{found_cut}
use Rattle.psi_law.proofs.what_tables_writes_is_found.Goals as goal

pub returns : goal.returns
returns c =
    let by_text : (settings : List ℕ) (plan : PlanFields) (int : IntFields) (service : ServiceFields) (pid : ℕ) (earlier later : List ServiceFields) → IsAccepted settings plan
    → plan.table ≡ Some int → plan.services ≡ earlier ++ service ∷ later → 0 < service.service_id → pid_of service.kind ≡ Some pid
    → list_any (has_names service.service_id service.component_tag) earlier ≡ false
    → (pieces : List (List ℕ)) (tail text : List ℕ) → IsCut 188 (bytes_of_tables plan) pieces tail → IsFindText int.pid (records_of plain pieces) text
    → PrintsEntry (entry_of plan.packet_rate service) pid text =
    λ settings plan int service pid earlier later accepted has parts some is none pieces tail text cut printed.
    c.each_service_is_printed.ensures.printed plan int service pid earlier later text (c.accepted_settings_give_a_plan.ensures.whole settings plan accepted) has
    (c.accepted_settings_give_bytes.ensures.bytes settings plan accepted) parts some is none
    (subst (λ (ps : List (List ℕ)). IsFindText int.pid (records_of plain ps) text) (c.written_tables_are_cut_into_their_packets.ensures.one plan pieces tail cut).0 printed) in
    record {
      pid = λ settings plan int service earlier later accepted has parts.
          c.each_service_is_found.ensures.pid plan int service earlier later (c.accepted_settings_give_a_plan.ensures.whole settings plan accepted) has parts;
      text = by_text;
      found = λ settings plan int service pid earlier later accepted has parts some is none input now text told found.
          by_text settings plan int service pid earlier later accepted has parts some is none found.reads.pieces found.reads.behind text
          (found_cut int.pid input now (bytes_of_tables plan) text told found) found.text_is;
    }
