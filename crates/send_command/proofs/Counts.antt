-- The number of datagrams that are offered.
use Rattle.std.proofs.Common.{◌≡◌, ℕ, ◌+◌, Bool, true, false, cond, not, List, [], ◌∷◌, length, count_by, is_none, Option, Some, None, refl, ◌∙◌, arith}
use Rattle.std.proofs.lemmas.List.Sums.{sum_by-cons}
use Rattle.plan_spec.specs.Plan.{PlanFields}
use Rattle.plan_spec.specs.Changes.{plan_in, records_of_version}
use Rattle.plan_spec.specs.Offered.{Records, datagrams, service_of_datagram, fits, is_too_long_for, not_ip_count, unrouted_count, too_long_count}
use Rattle.datagram_routing.specs.Offering.{IsOffered}
use Rattle.datagram_routing.specs.declared.offered.Offered.{Offered}
use Rattle.datagram_routing.proofs.Ranges.{sum_from, sum_by-range, sum_from-same}
use Rattle.datagram_routing.proofs.Sums.{given, in_version, in_all, all_counted}
use Rattle.datagram_routing.specs.Offering.{datagram_count}
use Rattle.send_command.specs.Tally.{is_taken_by, is_taken, taken_count, offered_count, IsTally}
use Rattle.send_command.specs.declared.ends.Tally.{Tally}

one_of_both : (b : Bool) → cond b 1 0 + cond (not b) 1 0 ≡ 1
one_of_both true = refl
one_of_both false = refl

one_datagram : (plan : PlanFields) (service : Option ℕ) (d : List ℕ) → cond (is_taken_by plan service d) 1 0 + cond (is_none service) 1 0 + cond (is_too_long_for plan service d) 1 0 ≡ 1
one_datagram plan None d = refl
one_datagram plan (Some service) d = omega (arith, one_of_both (fits plan service d))

each_datagram : (plan : PlanFields) (ds : List (List ℕ))
    → count_by (is_taken plan) ds + count_by (λ datagram. is_none (service_of_datagram plan datagram)) ds
    + count_by (λ datagram. is_too_long_for plan (service_of_datagram plan datagram) datagram) ds ≡ length ds
each_datagram plan [] = refl
each_datagram plan (d ∷ ds) =
    omega (
      arith,
      one_datagram plan (service_of_datagram plan d) d,
      each_datagram plan ds,
      sum_by-cons (λ (x : List ℕ). cond (is_taken plan x) 1 0) d ds,
      sum_by-cons (λ (x : List ℕ). cond (is_none (service_of_datagram plan x)) 1 0) d ds,
      sum_by-cons (λ (x : List ℕ). cond (is_too_long_for plan (service_of_datagram plan x) x) 1 0) d ds,
    )

each_record : (records : Records) → length (datagrams records) + not_ip_count records ≡ length records
each_record [] = refl
each_record (None ∷ records) = omega (arith, each_record records, sum_by-cons (λ (x : Option (List ℕ)). cond (is_none x) 1 0) None records)
each_record (Some d ∷ records) = omega (arith, each_record records, sum_by-cons (λ (x : Option (List ℕ)). cond (is_none x) 1 0) (Some d) records)

-- what the lists hold is what is offered
pub tally_is : (plan : PlanFields) (records : Records) (o : Offered) (tally : Tally) → IsOffered plan records o
    → tally.offered ≡ datagram_count o.lists → tally.not_ip ≡ o.not_ip → tally.unrouted ≡ o.unrouted → tally.too_long ≡ o.too_long
    → IsTally plan records tally
tally_is plan records o tally stands offered not_ip unrouted too_long = record {
  offered =
      let n : ℕ = length plan.changes + 1 in
      let taken : ℕ → ℕ = λ v. taken_count (plan_in plan v) (records_of_version plan v records) in
      let here : offered_count plan records ≡ sum_from (given plan records) 0 n = sum_by-range taken 0 n ∙ sum_from-same taken (given plan records) 0 n same in
      omega (
        arith,
        here,
        offered,
        all_counted plan records o stands,
        in_all plan records,
        each_record records,
        stands.not_ip,
        stands.unrouted ∙ sum_by-range (λ v. unrouted_count (plan_in plan v) (records_of_version plan v records)) 0 n,
        stands.too_long ∙ sum_by-range (λ v. too_long_count (plan_in plan v) (records_of_version plan v records)) 0 n,
      );
  not_ip = not_ip ∙ stands.not_ip;
  unrouted = unrouted ∙ stands.unrouted;
  too_long = too_long ∙ stands.too_long;
}
  where
    same : (v : ℕ) → taken_count (plan_in plan v) (records_of_version plan v records) ≡ given plan records v
    same v = omega (arith, in_version plan records v, each_datagram (plan_in plan v) (datagrams (records_of_version plan v records)))
