-- A packet that is none of the INT: it is one of a service, or of no one.
use Rattle.std.proofs.Common.{◌≡◌, ℕ, ◌^◌, ◌<◌, true, false, ◌||◌, Option, None, Some, List, [], ◌∷◌, ◌++◌, length, set, get_or, refl, ap, ap₂, sym, ◌∙◌, subst}
use Rattle.std.specs.Prelude.{◌==◌, slice_get}
use Rattle.std.specs.List.{position}
use Rattle.std.proofs.lemmas.Option.{slice_get_read, get_or_from_slice_get}
use Rattle.ts_spec.specs.Packet.{fields_of, is_packet}
use Rattle.ts_spec.specs.Recording.{Record}
use Rattle.plan_spec.specs.Plan.{ServiceFields, PlanFields}
use Rattle.plan_spec.specs.Changes.{no_service, plan_in, has_wrong_change}
use Rattle.reception_spec.specs.Packets.{is_pid_of}
use Rattle.reception_spec.specs.Spans.{version_at_end, span_of}
use Rattle.reception_spec.specs.Delivered.{service_on, pairs_of_record}
use Rattle.reception_law.specs.Words.{added_by}
use Rattle.service_reception.specs.Reception.{packet_record}
use Rattle.outlet_spec.specs.Pairs.{pairs_of}
use Rattle.service_reception.proofs.Records.{is_of_read}
use Rattle.demux_core.specs.Services.{IsReception, IsReceivingOne, HaveAllReceived, is_table_pid}
use Rattle.demux_core.specs.declared.service.ServiceReceiver.{ServiceReceiver}
use Rattle.demux_core.specs.declared.services.Services.{Services}
use Rattle.demux_core.specs.declared.int_receiver.IntReceiver.{IntReceiver}
use Rattle.demux_core.proofs.Laws.{Laws}
use Rattle.demux_core.proofs.OnPids.{found_at, not_found, place_known}
use Rattle.demux_core.proofs.One.{is_receiving}
use Rattle.demux_core.proofs.Whole.{known, misses_all, still_in_force, none_took, nothing_given, service_took, given_by_one}

-- what left the receivers as they were
pub left_as : (plan : PlanFields) (old new : Services) (table left : Option IntReceiver) (records : List Record) → new ≡ old → left ≡ table
    → HaveAllReceived false plan old.receivers.items table records → HaveAllReceived false plan new.receivers.items left records
left_as plan old new table left records same same_table all =
    subst (λ (t : Option IntReceiver). HaveAllReceived false plan new.receivers.items t records) (sym same_table)
    (subst (λ (s : Services). HaveAllReceived false plan s.receivers.items table records) (sym same) all)

module _ (plan : PlanFields) (laws : Laws plan) (right : has_wrong_change plan ≡ false) (receivers : List ServiceReceiver) (table : Option IntReceiver) (records : List Record)
    (moment : ℕ) (bytes : List ℕ) (pid : ℕ) (readable : is_packet bytes ≡ true) (of_pid : (fields_of bytes).pid ≡ pid)
    (off : is_table_pid table pid ≡ false) (all : HaveAllReceived false plan receivers table records) where
  abbrev r : Record
  r = packet_record moment bytes

  abbrev after : List Record
  after = records ++ r ∷ []

  abbrev found : Option ℕ
  found = position (λ (receiver : ServiceReceiver). receiver.pid == pid) receivers

  -- of no service
  module _ (none : found ≡ None) where
    pub none_received : HaveAllReceived false plan receivers table after
    none_received = none_took plan laws receivers table records r all right pid of_pid off (not_found receivers pid none)

    pub none_known : is_pid_of (plan_in plan (version_at_end plan records)) pid ≡ false
    none_known =
        known plan laws receivers table records r all right pid of_pid
        ∙ ap₂ (λ a b. a || b) off (not_found receivers pid none)

    pub none_pairs : pairs_of_record plan after (length records) ≡ []
    none_pairs =
        nothing_given plan laws receivers table records r all (misses_all plan laws receivers table records r all right pid of_pid (not_found receivers pid none))
        (still_in_force plan laws receivers table records r all right pid of_pid off)

  -- of a service
  module _ (k : ℕ) (old : ServiceReceiver) (is_found : found ≡ Some k) (is_there : old ≡ get_or receivers k old) where
    there : slice_get receivers k ≡ Some old
    there = slice_get_read receivers (length receivers) k old refl (found_at receivers pid k old is_found).0 is_there

    at : old.pid ≡ pid
    at = ap (λ (t : ServiceReceiver). t.pid) is_there ∙ (found_at receivers pid k old is_found).1

    pub one_known : is_pid_of (plan_in plan (version_at_end plan records)) pid ≡ true
    one_known =
        known plan laws receivers table records r all right pid of_pid
        ∙ ap₂ (λ a b. a || b) off (place_known receivers pid k is_found)

    pub to_receive : (service : ServiceFields) → slice_get plan.services k ≡ Some service → length records < 2 ^ 32
        → IsReceivingOne plan.recording service.filter pid (service_on plan k old.pid) old (span_of plan k old.pid records)
    to_receive service is few =
        subst (λ (s : ServiceFields). IsReceivingOne plan.recording s.filter pid (service_on plan k old.pid) old (span_of plan k old.pid records))
        (get_or_from_slice_get plan.services k service no_service is)
        (is_receiving plan laws k old records r (all.services.each k old there) pid at few)

    pub one_received : (new : ServiceReceiver) → new.pid ≡ old.pid → new.before ≡ old.before
        → IsReception false plan.recording (service_on plan k old.pid) new.reception (span_of plan k old.pid records ++ r ∷ []) → HaveAllReceived false plan (set receivers k new) table after
    one_received new pid_same before_same took =
        service_took plan laws receivers table records r all right pid of_pid k old there at new off pid_same before_same took

    pub one_pairs : pairs_of_record plan after (length records) ≡ pairs_of k (added_by plan.recording (service_on plan k old.pid) (span_of plan k old.pid records) r)
    one_pairs = given_by_one plan laws receivers table records r all right pid of_pid k old there at (is_of_read pid bytes readable of_pid)
