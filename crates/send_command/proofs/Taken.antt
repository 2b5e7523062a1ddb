-- What was read of a capture and offered: captures of every link type are taken.
use Rattle.std.proofs.Common.{◌≡◌, ℕ, ◌-◌, ◌<◌, ◌≤◌, ◌^◌, true, false, Bool, List, [], ◌∷◌, ◌++◌, length, map, Option, Some, None, Ok, Err, IfSome, option_map, refl, ap, sym, ◌∙◌, subst, inl, inr, arith}
use Rattle.std.specs.Prelude.{not, ◌&&◌, ◌⊎◌, Result, OnOk}
use Rattle.std.proofs.lemmas.List.{map_push, length-map}
use Rattle.std.proofs.lemmas.List.Elements.{All-append, All-cons, All-nil}
use Rattle.wire_spec.specs.Bytes.{AreBytes}
use Rattle.ipe_io.specs.Told.{InputTold}
use Rattle.pcap_file.specs.Reading.{link_at, most_records}
use Rattle.pcap_file.specs.Captured.{captured_datagram}
use Rattle.pcap_file.specs.Told.{Tells, place_of_fault}
use Rattle.pcap_file.specs.declared.captured.LinkType.{LinkType}
use Rattle.pcap_file.specs.declared.faults.CaptureFault.{CaptureFault}
use Rattle.plan_spec.specs.Offered.{Records}
use Rattle.plan.specs.PlanView.{plan_fields}
use Rattle.stream_law.specs.Captures.{datagram_in, given_by}
use Rattle.datagram_routing.specs.Offering.{IsOffered, HasRoom, IsUnderPlan}
use Rattle.capture_intake.specs.Wanted.{TellsWanted, ShowsFault as ShowsWanted, place_in_wanted, every_link, is_refused, is_wanted}
use Rattle.capture_intake.specs.Taken.{HasTaken, IsToldBy, ReadsBytes}
use Rattle.capture_intake.specs.Ends.{OnCapture}
use Rattle.capture_intake.specs.declared.ends.CaptureEnd.{CaptureEnd}
use Rattle.capture_intake.specs.declared.ends.CaptureEnd.TheVariants as ends
use Rattle.capture_intake.specs.declared.faults.PlacedFault.{PlacedFault}
use Rattle.capture_intake.specs.declared.faults.CaptureReadFault.TheVariants as read
use Rattle.send_command.specs.Gathering.{given_in, OffersRecords, IsGathered}
use Rattle.send_command.specs.Sending.{Reads, ShowsFault}
use Rattle.send_command.specs.declared.ends.Tally.{Tally}
use Rattle.send_command.specs.declared.taker.PlanTaker.{PlanTaker}
use Rattle.send_command.proofs.Given.{all_datagrams}

-- What bytes tell where every link type is wanted.

every_wanted : (link : Option LinkType) → is_wanted every_link link ≡ true
every_wanted None = refl
every_wanted (Some link) = refl

and_not : (a b : Bool) → b ≡ true → a && not b ≡ false
and_not true b is = ap not is
and_not false b is = refl

none_is_refused : (bytes : List ℕ) → is_refused every_link bytes ≡ false
none_is_refused bytes = and_not _ (is_wanted every_link (link_at bytes)) (every_wanted (link_at bytes))

told_of_every : (bytes : List ℕ) (captured : List (List ℕ)) (fault : Option CaptureFault) → TellsWanted every_link bytes captured fault → Tells bytes captured fault
told_of_every bytes captured fault told = rw (none_is_refused bytes) at told

every_is_told : (bytes : List ℕ) (captured : List (List ℕ)) (fault : Option CaptureFault) → Tells bytes captured fault → TellsWanted every_link bytes captured fault
every_is_told bytes captured fault told = rw (none_is_refused bytes) told

place_in_every : (bytes : List ℕ) (captured : List (List ℕ)) → place_in_wanted every_link bytes captured ≡ place_of_fault bytes captured
place_in_every bytes captured = rw (none_is_refused bytes) refl

shown_of_every : (bytes : List ℕ) (fault : CaptureFault) (place : ℕ) → ShowsWanted every_link bytes fault place → ShowsFault bytes fault place
shown_of_every bytes fault place shown = record {
  captured = shown.captured;
  told = told_of_every bytes shown.captured (Some fault) shown.told;
  place_is = shown.place_is ∙ place_in_every bytes shown.captured;
}

-- One record more.

few_given : (link : LinkType) (captured : List (List ℕ)) → length captured ≤ most_records → length (given_in link captured) < 2 ^ 32 - 1
few_given link captured few = omega (arith, few, length-map captured (datagram_in (Some link)))

pub has_room : (start now : PlanTaker) (link : LinkType) (captured : List (List ℕ)) → OffersRecords start now link captured → length captured < most_records → HasRoom (plan_fields now.plan.now) now.offered
has_room start now link captured had few = record {
  records = given_in link captured;
  stands = subst (λ plan. IsOffered (plan_fields plan) (given_in link captured) now.offered) (sym had.plan) had.offered;
  few = few_given link captured (omega (arith, few));
}

pub offers_more : {T E : Type 0} (r : Result T E) (start old new : PlanTaker) (link : LinkType) (captured : List (List ℕ)) (lent : List ℕ) (given : Option (List ℕ))
    → AreBytes lent → OffersRecords start old link captured → new.plan.now ≡ old.plan.now → given ≡ captured_datagram link lent
    → ((records : Records) → IsOffered (plan_fields old.plan.now) records old.offered → OnOk r (IsOffered (plan_fields old.plan.now) (records ++ given ∷ []) new.offered))
    → OnOk r (OffersRecords start new link (captured ++ lent ∷ []))
offers_more (Ok done) start old new link captured lent given bytes had same is offers = record {
  of_bytes = All-append AreBytes captured (lent ∷ []) had.of_bytes (All-cons AreBytes lent [] bytes (All-nil AreBytes));
  plan = same ∙ had.plan;
  offered = subst (λ plan. IsOffered (plan_fields plan) (given_in link (captured ++ lent ∷ [])) new.offered) had.plan
      (subst (λ (records : Records). IsOffered (plan_fields old.plan.now) records new.offered)
      (ap (λ g. given_in link captured ++ g ∷ []) is ∙ sym (map_push (datagram_in (Some link)) captured lent))
      (offers (given_in link captured) (subst (λ plan. IsOffered (plan_fields plan) (given_in link captured) old.offered) (sym had.plan) had.offered)));
}
offers_more (Err e) start old new link captured lent given bytes had same is offers = tt

-- All of a capture.

given_is : (bytes : List ℕ) (link : LinkType) (captured : List (List ℕ)) → (captured ≡ []) ⊎ (link_at bytes ≡ Some link) → given_in link captured ≡ given_by bytes captured
given_is bytes link captured (inl none) = rw none refl
given_is bytes link captured (inr is) = ap (λ (l : Option LinkType). map (datagram_in l) captured) (sym is)

placed : (o : Option PlacedFault) (m n : ℕ) → m ≡ n → IfSome o (λ found. found.place ≡ m) → IfSome o (λ found. found.place ≡ n)
placed None m n same at = tt
placed (Some found) m n same at = at ∙ same

-- what holds where the input tells its bytes
of_told : (left : Option (List ℕ)) (bytes : List ℕ) (P : List ℕ → Type 0) → IfSome left P → left ≡ Some bytes → P bytes
of_told left bytes P h is = subst (λ (o : Option (List ℕ)). IfSome o P) is h

pub gathered : (start now : PlanTaker) (found : Option PlacedFault) (left : Option (List ℕ)) (bytes : List ℕ)
    → HasTaken every_link found left (λ link captured. OffersRecords start now link captured) → left ≡ Some bytes → IsGathered (plan_fields start.plan.now) bytes now.offered found
gathered start now found left bytes has is =
    let told = of_told left bytes (λ bytes. IsToldBy every_link bytes has.link has.captured found) has.told is in
    record {
      captured = has.captured;
      of_bytes = has.took.of_bytes;
      told = told_of_every bytes has.captured (option_map (λ found. found.fault) found) told.told;
      offered = subst (λ (records : Records). IsOffered (plan_fields start.plan.now) records now.offered) (given_is bytes has.link has.captured told.link_is) has.took.offered;
      places = placed found (place_in_wanted every_link bytes has.captured) (place_of_fault bytes has.captured) (place_in_every bytes has.captured) told.place_is;
    }

pub under_plan : (start now : PlanTaker) (found : Option PlacedFault) (left : Option (List ℕ)) → HasTaken every_link found left (λ link captured. OffersRecords start now link captured)
    → IsUnderPlan (plan_fields start.plan.now) now.offered
under_plan start now found left has = record {
  records = given_in has.link has.captured;
  stands = has.took.offered;
  datagrams = all_datagrams (Some has.link) has.captured;
  few = omega (arith, few_given has.link has.captured has.few);
}

-- What was read, by the end: what was taken was written, or the input failed.
pub reads_written : (end : CaptureEnd Tally) (found : Option PlacedFault) (a b : InputTold) → ReadsBytes every_link (Ok found) a b
    → OnCapture end (λ fault place. found ≡ Some (record { fault = fault; place = place })) → (end ≡ ends.SourceFault → ⊥) → Reads end a b
reads_written end found a b all at_fault no_source = record {
  bytes = all.bytes;
  takes = all.takes;
  ahead = all.ahead;
  fault = by_end end at_fault;
  source = λ e. absurd (no_source e);
}
  where
    shown : (o : Option PlacedFault) (fault : CaptureFault) (place : ℕ) → o ≡ Some (record { fault = fault; place = place })
        → IfSome o (λ found. ShowsWanted every_link all.bytes found.fault found.place) → ShowsFault all.bytes fault place
    shown o fault place e shows =
        shown_of_every all.bytes fault place (subst (λ (o : Option PlacedFault). IfSome o (λ found. ShowsWanted every_link all.bytes found.fault found.place)) e shows)

    by_end : (end : CaptureEnd Tally) → OnCapture end (λ fault place. found ≡ Some (record { fault = fault; place = place })) → OnCapture end (λ fault place. ShowsFault all.bytes fault place)
    by_end (ends.Done tally) h = tt
    by_end (ends.Capture fault place) h = shown found fault place h all.shows
    by_end ends.SinkFault h = tt
    by_end ends.SourceFault h = tt
    by_end ends.OutOfMemory h = tt

pub reads_failed : (a b : InputTold) → ReadsBytes every_link (Err read.Source) a b → Reads ends.SourceFault a b
reads_failed a b all = record {
  bytes = all.bytes;
  takes = all.takes;
  ahead = all.ahead;
  fault = tt;
  source = λ _ captured fault told. all.shows captured fault (every_is_told all.bytes captured (Some fault) told);
}
