-- What stands after the ends of a send.
use Rattle.std.proofs.Common.{ℕ, List, Option, Some, None, option_map}
use Rattle.plan_spec.specs.Plan.{PlanFields}
use Rattle.plan_spec.specs.Offered.{Records}
use Rattle.stream_law.specs.Captures.{given_by}
use Rattle.datagram_routing.specs.Offering.{IsOffered}
use Rattle.datagram_routing.specs.declared.offered.Offered.{Offered}
use Rattle.capture_intake.specs.declared.faults.PlacedFault.{PlacedFault}
use Rattle.send_command.specs.Gathering.{IsGathered}
use Rattle.send_command.specs.Sending.{SendsAll, SendsToFault, SendsFront}
use Rattle.send_command.specs.Writing.{WritesAll, WritesFront}
use Rattle.send_command.specs.declared.ends.Tally.{Tally}

-- all of a capture without fault was written
pub sends_all : (plan : PlanFields) (bytes : List ℕ) (offer : Offered) (tally : Tally) (a b : Option (List ℕ)) → IsGathered plan bytes offer None
    → ((gives : Records) → IsOffered plan gives offer → WritesAll plan gives tally a b) → SendsAll plan bytes tally a b
sends_all plan bytes offer tally a b gathered writes =
    let wrote = writes (given_by bytes gathered.captured) gathered.offered in
    record {
      captured = gathered.captured;
      stream = wrote.stream;
      is = record { told = gathered.told; of_bytes = gathered.of_bytes; stream_is = wrote.stream_is };
      written = wrote.written;
      numbers = wrote.numbers;
    }

-- all of the records before a fault was
pub sends_to_fault : (plan : PlanFields) (bytes : List ℕ) (offer : Offered) (tally : Tally) (found : PlacedFault) (a b : Option (List ℕ)) → IsGathered plan bytes offer (Some found)
    → ((gives : Records) → IsOffered plan gives offer → WritesAll plan gives tally a b) → SendsToFault plan bytes found.fault found.place a b
sends_to_fault plan bytes offer tally found a b gathered writes =
    let wrote = writes (given_by bytes gathered.captured) gathered.offered in
    record {
      captured = gathered.captured;
      stream = wrote.stream;
      is = record { told = gathered.told; of_bytes = gathered.of_bytes; stream_is = wrote.stream_is };
      written = wrote.written;
      place_is = gathered.places;
    }

-- a front was
pub sends_front : (plan : PlanFields) (bytes : List ℕ) (offer : Offered) (found : Option PlacedFault) (a b : Option (List ℕ)) → IsGathered plan bytes offer found
    → ((gives : Records) → IsOffered plan gives offer → WritesFront plan gives a b) → SendsFront plan bytes a b
sends_front plan bytes offer found a b gathered writes =
    let wrote = writes (given_by bytes gathered.captured) gathered.offered in
    record {
      captured = gathered.captured;
      fault = option_map (λ (found : PlacedFault). found.fault) found;
      stream = wrote.stream;
      is = record { told = gathered.told; of_bytes = gathered.of_bytes; stream_is = wrote.stream_is };
      count = wrote.count;
      written = wrote.written;
    }
