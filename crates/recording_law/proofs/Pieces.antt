-- What pieces tell and deliver, on a carrier.
use Rattle.std.proofs.Common.{ℕ, List, [], ◌++◌, Option}
use Rattle.plan_spec.specs.Plan.{PlanFields}
use Rattle.reception_spec.specs.Delivered.{told_pairs as told_pairs_of_records, pairs_of_end as pairs_behind_records, delivered_of as delivered_of_records}
use Rattle.bb_reception_spec.specs.Delivered.{delivered_pairs as pairs_of_frames, delivered_of as delivered_of_frames}
use Rattle.recording_spec.specs.Pieces.{by_carrier, records_in}

abbrev pub told_pairs_on : Option ℕ → PlanFields → List (List ℕ) → List (ℕ × List ℕ)
told_pairs_on carrier plan pieces = by_carrier carrier (told_pairs_of_records plan (records_in plan pieces)) (pairs_of_frames plan pieces)

abbrev pub pairs_of_end_on : Option ℕ → PlanFields → List (List ℕ) → List (ℕ × List ℕ)
pairs_of_end_on carrier plan pieces = by_carrier carrier (pairs_behind_records plan (records_in plan pieces)) []

abbrev pub delivered_pairs_on : Option ℕ → PlanFields → List (List ℕ) → List (ℕ × List ℕ)
delivered_pairs_on carrier plan pieces = told_pairs_on carrier plan pieces ++ pairs_of_end_on carrier plan pieces

abbrev pub delivered_on : Option ℕ → PlanFields → ℕ → List (List ℕ) → List (List ℕ)
delivered_on carrier plan k pieces = by_carrier carrier (delivered_of_records plan k (records_in plan pieces)) (delivered_of_frames plan k pieces)
