-- What was read of a capture and offered.
use Rattle.std.specs.Prelude.{◌≡◌, ℕ, List, map, option_map, Option, Some, IfSome, All}
use Rattle.wire_spec.specs.Bytes.{AreBytes}
use Rattle.pcap_file.specs.Told.{Tells, place_of_fault}
use Rattle.pcap_file.specs.declared.captured.LinkType.{LinkType}
use Rattle.plan_spec.specs.Plan.{PlanFields}
use Rattle.plan_spec.specs.Offered.{Records}
use Rattle.plan.specs.PlanView.{plan_fields}
use Rattle.stream_law.specs.Captures.{datagram_in, given_by}
use Rattle.datagram_routing.specs.Offering.{IsOffered}
use Rattle.datagram_routing.specs.declared.offered.Offered.{Offered}
use Rattle.capture_intake.specs.declared.faults.PlacedFault.{PlacedFault}
use Rattle.send_command.specs.declared.taker.PlanTaker.{PlanTaker}

-- what the records of a capture of this link type give
abbrev pub given_in : LinkType → List (List ℕ) → Records
given_in link captured = map (datagram_in (Some link)) captured

-- under the plan that it began with, what these records give was offered
pub record OffersRecords (start now : PlanTaker) (link : LinkType) (captured : List (List ℕ)) : Type 0 where
  pub plan : now.plan.now ≡ start.plan.now
  pub of_bytes : All AreBytes captured
  pub offered : IsOffered (plan_fields start.plan.now) (given_in link captured) now.offered

-- of all the bytes: their records were offered, and this fault was found, or none
pub record IsGathered (plan : PlanFields) (bytes : List ℕ) (offer : Offered) (found : Option PlacedFault) : Type 0 where
  pub captured : List (List ℕ)
  pub of_bytes : All AreBytes captured
  pub told : Tells bytes captured (option_map (λ found. found.fault) found)
  pub offered : IsOffered plan (given_by bytes captured) offer
  pub places : IfSome found (λ found. found.place ≡ place_of_fault bytes captured)
