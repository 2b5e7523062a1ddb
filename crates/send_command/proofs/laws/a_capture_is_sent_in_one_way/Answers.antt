use Rattle.std.proofs.Common.{◌≡◌, ℕ, true, List, Option, None, Some, refl, sym, subst}
use Rattle.std.proofs.lemmas.Option.{none-some}
use Rattle.pcap_file.specs.Told.{Tells}
use Rattle.pcap_file.specs.declared.faults.CaptureFault.{CaptureFault}
use Rattle.plan_spec.specs.Plan.{PlanFields}
use Rattle.plan_spec.specs.Offered.{offered_in}
use Rattle.carrier_spec.specs.Stream.{IsSentStream}
use Rattle.stream_law.specs.Captures.{given_by}
use Rattle.capture_intake.specs.Ends.{is_done, is_whole}
use Rattle.capture_intake.specs.declared.ends.CaptureEnd.{CaptureEnd}
use Rattle.capture_intake.specs.declared.ends.CaptureEnd.TheVariants as ends
use Rattle.send_command.specs.Sending.{Sends}
use Rattle.send_command.specs.declared.ends.Tally.{Tally}
use Rattle.send_command.proofs.laws.a_capture_is_sent_in_one_way.Goals as goal

ends_done : ((bytes : List ℕ) (records others : List (List ℕ)) (fault other : Option CaptureFault) → Tells bytes records fault → Tells bytes others other → fault ≡ other)
    → (plan : PlanFields) (bytes : List ℕ) (captured : List (List ℕ)) (end : CaptureEnd Tally) (old new : Option (List ℕ))
    → Sends plan bytes end old new → Tells bytes captured None → is_whole end ≡ true → is_done end ≡ true
ends_done one plan bytes captured (ends.Done tally) old new sends told whole = refl
ends_done one plan bytes captured (ends.Capture fault place) old new sends told whole =
    absurd (none-some fault (one bytes captured sends.captured None (Some fault) told sends.is.told))
ends_done one plan bytes captured ends.SinkFault old new sends told whole = whole
ends_done one plan bytes captured ends.SourceFault old new sends told whole = whole
ends_done one plan bytes captured ends.OutOfMemory old new sends told whole = whole

pub returns-clause-one : goal.returns-clause-one
returns-clause-one c = λ plan bytes captured others fault other stream another a b.
    let records = c.a_capture_tells_one_thing.ensures.records bytes captured others fault other a.told b.told in
    let faults = c.a_capture_tells_one_thing.ensures.fault bytes captured others fault other a.told b.told in
    let same = subst (λ (x : List (List ℕ)). IsSentStream plan (offered_in plan (given_by bytes x)) another) (sym records) b.stream_is in
    (records, faults, c.there_is_one_sent_stream.ensures.one plan (offered_in plan (given_by bytes captured)) stream another a.stream_is same)

pub returns-clause-done : goal.returns-clause-done
returns-clause-done c = ends_done c.a_capture_tells_one_thing.ensures.fault
