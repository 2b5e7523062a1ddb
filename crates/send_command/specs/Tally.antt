-- What becomes of the records of a capture, in numbers.
use Rattle.std.specs.Prelude.{◌≡◌, ℕ, Bool, false, List, count_by, sum_by, Option, Some, None}
use Rattle.plan_spec.specs.Plan.{PlanFields}
use Rattle.plan_spec.specs.Changes.{plan_in, versions, records_of_version}
use Rattle.plan_spec.specs.Offered.{Records, datagrams, service_of_datagram, fits, not_ip_count, unrouted_in_all, too_long_in_all}
use Rattle.send_command.specs.declared.ends.Tally.{Tally}

-- a service takes the datagram: the first with a rule that matches, where it is not too long for that
abbrev pub is_taken_by : PlanFields → Option ℕ → List ℕ → Bool
is_taken_by plan None datagram = false
is_taken_by plan (Some service) datagram = fits plan service datagram

abbrev pub is_taken : PlanFields → List ℕ → Bool
is_taken plan datagram = is_taken_by plan (service_of_datagram plan datagram) datagram

-- the datagrams that are offered to any service: in one version, and in all
abbrev pub taken_count : PlanFields → Records → ℕ
taken_count plan records = count_by (is_taken plan) (datagrams records)

abbrev pub offered_count : PlanFields → Records → ℕ
offered_count plan records = sum_by (λ version. taken_count (plan_in plan version) (records_of_version plan version records)) (versions plan)

-- the numbers of these records, each by the plan of its version
pub record IsTally (plan : PlanFields) (records : Records) (tally : Tally) : Type 0 where
  pub offered : tally.offered ≡ offered_count plan records
  pub not_ip : tally.not_ip ≡ not_ip_count records
  pub unrouted : tally.unrouted ≡ unrouted_in_all plan records
  pub too_long : tally.too_long ≡ too_long_in_all plan records
