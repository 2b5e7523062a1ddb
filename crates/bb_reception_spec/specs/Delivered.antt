-- The datagrams that a recording of baseband frames delivers: of each service of a plan, and of all services in the order of the frames
-- that give them. Each service has the frames of its own ISI.
use Rattle.std.specs.Prelude.{ℕ, ◌+◌, List, [], ◌∷◌, ◌++◌, take, drop, length, flat_map, slice_index_or, Option, Some, None}
use Rattle.std.specs.List.{range_with_len}
use Rattle.plan_spec.specs.Plan.{ServiceFields, PlanFields, isi_of}
use Rattle.outlet_spec.specs.Pairs.{pairs_of_all}
use Rattle.plan_spec.specs.Changes.{no_service}
use Rattle.gse_spec.specs.Received.{carried_by_pdu, delivered_by_gse}

-- what a service with this filter delivers on an input stream: the datagrams of its PDUs that the filter wants. A service that has none, as
-- each one in transport packets, delivers nothing
abbrev pub delivered_on : Option ℕ → List (List ℕ) → List (List ℕ) → List (List ℕ)
delivered_on None filter frames = []
delivered_on (Some isi) filter frames = delivered_by_gse carried_by_pdu filter isi frames

abbrev pub delivered_by_service : ServiceFields → List (List ℕ) → List (List ℕ)
delivered_by_service service frames = delivered_on (isi_of service.kind) service.filter frames

-- service k of a plan
abbrev pub service_at : PlanFields → ℕ → ServiceFields
service_at plan k = slice_index_or plan.services k no_service

-- what service k delivers
abbrev pub delivered_of : PlanFields → ℕ → List (List ℕ) → List (List ℕ)
delivered_of plan k frames = delivered_by_service (service_at plan k) frames

-- the datagrams that one frame more gives: those that are delivered with it, after those that are delivered without it
abbrev pub added_by : ServiceFields → List (List ℕ) → List ℕ → List (List ℕ)
added_by service frames b = drop (length (delivered_by_service service frames)) (delivered_by_service service (frames ++ b ∷ []))

-- the datagrams that the frame at a place gives: those of the frames up to it, after those of the frames before it
abbrev pub given_by_frame : PlanFields → ℕ → List (List ℕ) → ℕ → List (List ℕ)
given_by_frame plan k frames place =
    drop (length (delivered_of plan k (take place frames))) (delivered_of plan k (take (place + 1) frames))

-- the pairs of service and datagram that it gives
abbrev pub pairs_of_frame : PlanFields → List (List ℕ) → ℕ → List (ℕ × List ℕ)
pairs_of_frame plan frames place = pairs_of_all (length plan.services) (λ k. given_by_frame plan k frames place)

-- the pairs of a recording, one frame after another
abbrev pub delivered_pairs : PlanFields → List (List ℕ) → List (ℕ × List ℕ)
delivered_pairs plan frames = flat_map (pairs_of_frame plan frames) (range_with_len 0 (length frames))
