-- The loss law of what a relay reads: it follows from what stands.
use Rattle.std.proofs.Common.{◌≡◌, ℕ, ◌<◌, Bool, true, false, ◌||◌, List, length, take, refl, ap, sym, ◌∙◌, subst, Option, Some}
use Rattle.std.specs.Io.KnownBytes.{Appends}
use Rattle.wire_spec.specs.Lists.{joined}
use Rattle.ts_record.proofs.Cuts.{one_cut}
use Rattle.plan_spec.specs.Plan.{PlanFields, is_baseband}
use Rattle.plan_spec.specs.Offered.{offered_in}
use Rattle.plan_spec.specs.Wholes.{is_whole_of_settings, is_whole_of_pid, is_whole_plan}
use Rattle.plan_law.proofs.Plans.{changes_right}
use Rattle.carrier_spec.specs.Stream.{piece_size, IsSentStream}
use Rattle.reception_spec.specs.Delivered.{delivered_of as delivered_of_records}
use Rattle.bb_reception_spec.specs.Delivered.{delivered_of as delivered_of_frames}
use Rattle.recording_spec.specs.Pieces.{by_carrier, records_in, delivered_of}
use Rattle.recording_spec.specs.Relayed.{relayed, as_records}
use Rattle.recording_law.proofs.Merged.{merged}
use Rattle.settings_law.proofs.Wholes.{accepted_is_whole}
use Rattle.settings_load.specs.Settings.{IsAcceptedFile}
use Rattle.ipe_io.specs.Told.{ShelfTold}
use Rattle.ipencap_engine.specs.World.{World}
use Rattle.ipencap_engine.specs.Jobs.{Job, no_job, to_ule, to_check, to_send, to_receive, to_sample, to_tables, to_find, to_bridge, to_unbridge, to_relay, row, a_relayed, IsPlanOf, IsInputOf, IsOuter}
use Rattle.ipencap_engine.specs.Made.{Made, MakesRelayed}
use Rattle.ipencap_engine.specs.Stands.{Stands, StandsWhole, StandsInOutput}
use Rattle.ipencap_engine.specs.Laws.{TellsRelayed, DeliversArrived, DeliversKept, DeliversOnCarrier, RelaysDelivered}
use Rattle.ipencap_engine.specs.declared.status.Status.{Status}
use Rattle.ipencap_engine.specs.declared.status.Status.TheVariants.{Done, SinkFault}
use Rattle.ipencap_engine.proofs.Arriving.{in_packets, in_frames, no_frames, some_frames}

-- what a service delivers on a carrier, by which the loss law holds of it
on_carrier : (plan : PlanFields) (pieces : List (List ℕ)) (k : ℕ) → k < length plan.services → DeliversOnCarrier plan pieces k (delivered_of plan k pieces)
on_carrier plan pieces k known = record {
  in_packets = λ packets.
      subst (λ (carrier : Option ℕ). DeliversArrived plan pieces k (by_carrier carrier (delivered_of_records plan k (records_in plan pieces)) (delivered_of_frames plan k pieces)))
      (sym (no_frames plan.frame_bytes packets)) (in_packets plan pieces k known);
  in_frames = λ baseband.
      subst (λ (carrier : Option ℕ). DeliversKept plan pieces k (by_carrier carrier (delivered_of_records plan k (records_in plan pieces)) (delivered_of_frames plan k pieces)))
      (sym (some_frames plan.frame_bytes baseband).1) (in_frames plan pieces k);
}

or_first : (a b : Bool) → a ≡ true → (a || b) ≡ true
or_first true b e = refl
or_first false b e = absurd (cc)

accepted_whole : (text : List ℕ) (plan : PlanFields) → IsAcceptedFile text plan → is_whole_plan plan ≡ true
accepted_whole text plan accepts = or_first (is_whole_of_settings plan) (is_whole_of_pid plan) (accepted_is_whole text plan accepts.accepted)

module _ (first second : List ℕ) (end : Status) (line : List ℕ) (before after : World)
    (stands : (plan : PlanFields) (bytes : List ℕ) → IsPlanOf (to_relay first second) after.shelf plan → before.input.left ≡ Some bytes
    → Stands (to_relay first second) plan bytes end line before after)
    (plan : PlanFields) (pieces : List (List ℕ)) (tells : TellsRelayed (to_relay first second) before after plan pieces) where
  -- the stream that was made, as that of these pieces
  made_stream : (made : Made) → MakesRelayed second after.shelf plan tells.bytes after.input.left made → (outer : PlanFields) → IsOuter (to_relay first second) after.shelf outer
      → (stream : List (List ℕ)) × IsSentStream outer (offered_in outer (as_records (relayed plan pieces))) stream × (made.output ≡ joined stream)
  made_stream made makes outer is =
      let known : after.shelf.file second ≡ Some is.bytes = ap after.shelf.file (name_is is.told.0 is.told.1) ∙ is.told.2 in
      let of : _ = makes.is is.bytes outer known is.gives in
      let same : makes.pieces ≡ pieces = (one_cut (piece_size plan) tells.bytes makes.pieces pieces makes.tail tells.tail makes.read.cut tells.cut).0 in (
        of.0,
        subst (λ (ps : List (List ℕ)). IsSentStream outer (offered_in outer (as_records (relayed plan ps))) of.0) same of.1,
        ap (λ (m : Made). m.output) of.2,
      )
    where
      name_is : (name : List ℕ) → Some second ≡ Some name → second ≡ name
      name_is name e = cc

  relay_delivers : RelaysDelivered plan pieces (to_relay first second) end before after
  relay_delivers = record {
    delivered = λ k. delivered_of plan k pieces;
    holds = on_carrier plan pieces;
    offered = relayed plan pieces;
    merged = merged plan pieces (changes_right plan (accepted_whole tells.plan_is.bytes plan tells.plan_is.gives));
    whole = λ done outer is.
        let all : StandsWhole (to_relay first second) plan tells.bytes Done line before after =
        subst (λ (s : Status). Stands (to_relay first second) plan tells.bytes s line before after) done (stands plan tells.bytes tells.plan_is tells.told) in
        let of = made_stream all.made all.makes outer is in
        (of.0, of.1, subst (λ (bytes : List ℕ). Appends before.output.held after.output.held bytes) of.2 all.output);
    front = λ fault outer is.
        let all : StandsInOutput (to_relay first second) plan tells.bytes before after =
        subst (λ (s : Status). Stands (to_relay first second) plan tells.bytes s line before after) fault (stands plan tells.bytes tells.plan_is tells.told) in
        let of = made_stream all.made all.makes outer is in
        (of.0, of.1, all.count, subst (λ (bytes : List ℕ). Appends before.output.held after.output.held (take all.count bytes)) of.2 all.output);
  }

-- a run of any job
pub relays : (job : Job) (end : Status) (line : List ℕ) (before after : World)
    → ((plan : PlanFields) (bytes : List ℕ) → IsPlanOf job after.shelf plan → IsInputOf (row job).intake before.input.left bytes → Stands job plan bytes end line before after)
    → (plan : PlanFields) (pieces : List (List ℕ)) → TellsRelayed job before after plan pieces → RelaysDelivered plan pieces job end before after
relays no_job end line before after stands plan pieces tells = absurd (let f = tells.reads in cc)
relays (to_ule pid) end line before after stands plan pieces tells = absurd (let f = tells.reads in cc)
relays (to_check name) end line before after stands plan pieces tells = absurd (let f = tells.reads in cc)
relays (to_send name) end line before after stands plan pieces tells = absurd (let f = tells.reads in cc)
relays (to_receive name) end line before after stands plan pieces tells = absurd (let f = tells.reads in cc)
relays (to_sample number) end line before after stands plan pieces tells = absurd (let f = tells.reads in cc)
relays (to_tables name) end line before after stands plan pieces tells = absurd (let f = tells.reads in cc)
relays (to_find pid) end line before after stands plan pieces tells = absurd (let f = tells.reads in cc)
relays (to_bridge on) end line before after stands plan pieces tells = absurd (let f = tells.reads in cc)
relays (to_unbridge on) end line before after stands plan pieces tells = absurd (let f = tells.reads in cc)
relays (to_relay first second) end line before after stands plan pieces tells = relay_delivers first second end line before after stands plan pieces tells
