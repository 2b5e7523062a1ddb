-- Datagrams as records, as a sender takes them.
use Rattle.std.proofs.Common.{◌≡◌, ℕ, List, subst, sym, arith, Option, Some}
use Rattle.std.specs.Prelude.{All, IfSome}
use Rattle.std.proofs.lemmas.List.{length-map}
use Rattle.std.proofs.lemmas.List.Elements.{All-map}
use Rattle.wire_spec.specs.Datagram.{IsDatagram}
use Rattle.ipe_io.specs.Told.{InputTold}
use Rattle.plan_spec.specs.Plan.{PlanFields}
use Rattle.plan_spec.specs.Offered.{Records}
use Rattle.datagram_routing.specs.Offering.{IsOffered, HoldDatagrams, IsUnderPlan}
use Rattle.recording_spec.specs.Relayed.{as_records, relayed}
use Rattle.relay_core.specs.Gathering.{GatherState, delivered_records}
use Rattle.relay_command.specs.Gathered.{GathersAll}
use Rattle.relay_command.specs.Relaying.{GathersInto}

are_held : (list : List (List ℕ)) → All IsDatagram list → HoldDatagrams (as_records list)
are_held list are = All-map (λ (o : Option (List ℕ)). IfSome o IsDatagram) (λ (d : List ℕ). Some d) list are

-- what a recording delivers are datagrams, and these are offered as they are
module _ (plan outer : PlanFields) (input now : InputTold) (gather : GatherState) (all : GathersAll plan outer input now gather)
    (delivered : (inner : PlanFields) (pieces : List (List ℕ)) → All IsDatagram (relayed inner pieces))
    (are : (datagrams : List (List ℕ)) → All IsDatagram datagrams → delivered_records datagrams ≡ as_records datagrams) where
  are_datagrams : All IsDatagram all.datagrams
  are_datagrams = subst (λ (datagrams : List (List ℕ)). All IsDatagram datagrams) (sym all.gathers.datagrams_are) (delivered plan all.gathers.pieces)

  offers : IsOffered outer (as_records all.datagrams) gather.offered
  offers = subst (λ (records : Records). IsOffered outer records gather.offered) (are all.datagrams are_datagrams) all.gathered.offers

  pub received_into : GathersInto plan outer input now gather.offered
  received_into = record {
    datagrams = all.datagrams;
    receives = record { gathers = all.gathers; fits = all.gathered.fits; of_bytes = all.gathered.of_bytes };
    offers = offers;
  }

  pub under_plan : IsUnderPlan outer gather.offered
  under_plan = record {
    records = as_records all.datagrams;
    stands = offers;
    datagrams = are_held all.datagrams are_datagrams;
    few = omega (arith, all.gathered.fits.count, length-map all.datagrams (λ (d : List ℕ). Some d));
  }
