-- What is offered in a version is of the datagrams of all records, and what the service takes.
use Rattle.std.proofs.Common.{ℕ, suc, ◌+◌, ◌≤◌, Bool, true, false, cond, eqb, List, [], ◌∷◌, ◌++◌, length, arith, Option, Some, None}
use Rattle.std.specs.Prelude.{All}
use Rattle.std.proofs.lemmas.List.Elements.{All-nil, All-cons}
use Rattle.unit_stream.specs.Packing.{byte_count}
use Rattle.plan_spec.specs.Plan.{PlanFields}
use Rattle.plan_spec.specs.Changes.{plan_in, version_at, records_from, records_of_version}
use Rattle.plan_spec.specs.Offered.{datagrams as datagrams_of, offered_in}
use Rattle.stream_spec.specs.Services.{kind_at}
use Rattle.stream_law.specs.Words.{IsByteDatagram, IsWithinLimits}
use Rattle.stream_law.proofs.Units.{AreTaken, offered_taken}

module _ (plan : PlanFields) (version : ℕ) where
  abbrev of_version : ℕ → List (Option (List ℕ)) → List (List ℕ)
  of_version number records = datagrams_of (records_from plan version number records)

  all_from : (number : ℕ) (records : List (Option (List ℕ))) → All IsByteDatagram (datagrams_of records) → All IsByteDatagram (of_version number records)
  all_from number [] all = All-nil IsByteDatagram
  all_from number (None ∷ records) all = by_test (eqb (version_at plan number) version) (all_from (number + 1) records all)
    where
      by_test : (is : Bool) → All IsByteDatagram (of_version (number + 1) records)
          → All IsByteDatagram (datagrams_of (cond is (None ∷ []) [] ++ records_from plan version (number + 1) records))
      by_test true later = later
      by_test false later = later
  all_from number (Some datagram ∷ records) all =
      by_test (eqb (version_at plan number) version) (all_from (number + 1) records (λ n d less. all (suc n) d (omega (arith, less))))
    where
      by_test : (is : Bool) → All IsByteDatagram (of_version (number + 1) records)
          → All IsByteDatagram (datagrams_of (cond is (Some datagram ∷ []) [] ++ records_from plan version (number + 1) records))
      by_test true later = All-cons IsByteDatagram datagram (of_version (number + 1) records) (all 0 [] (omega arith)) later
      by_test false later = later

  most_from : (number : ℕ) (records : List (Option (List ℕ)))
      → (length (of_version number records) ≤ length (datagrams_of records)) × (byte_count (of_version number records) ≤ byte_count (datagrams_of records))
  most_from number [] = (omega arith, omega arith)
  most_from number (None ∷ records) = by_test (eqb (version_at plan number) version) (most_from (number + 1) records)
    where
      by_test : (is : Bool)
          → (length (of_version (number + 1) records) ≤ length (datagrams_of records)) × (byte_count (of_version (number + 1) records) ≤ byte_count (datagrams_of records))
          → (length (datagrams_of (cond is (None ∷ []) [] ++ records_from plan version (number + 1) records)) ≤ length (datagrams_of records))
          × (byte_count (datagrams_of (cond is (None ∷ []) [] ++ records_from plan version (number + 1) records)) ≤ byte_count (datagrams_of records))
      by_test true later = later
      by_test false later = later
  most_from number (Some datagram ∷ records) = by_test (eqb (version_at plan number) version) (most_from (number + 1) records)
    where
      by_test : (is : Bool)
          → (length (of_version (number + 1) records) ≤ length (datagrams_of records)) × (byte_count (of_version (number + 1) records) ≤ byte_count (datagrams_of records))
          → (length (datagrams_of (cond is (Some datagram ∷ []) [] ++ records_from plan version (number + 1) records)) ≤ length (datagram ∷ datagrams_of records))
          × (byte_count (datagrams_of (cond is (Some datagram ∷ []) [] ++ records_from plan version (number + 1) records)) ≤ byte_count (datagram ∷ datagrams_of records))
      by_test true later = (omega (arith, later.0), omega (arith, later.1))
      by_test false later = (omega (arith, later.0), omega (arith, later.1))

  pub all_of_version : (records : List (Option (List ℕ))) → All IsByteDatagram (datagrams_of records) → All IsByteDatagram (datagrams_of (records_of_version plan version records))
  all_of_version records all = all_from 1 records all

  pub limits_of_version : (records : List (Option (List ℕ))) → IsWithinLimits (datagrams_of records) → IsWithinLimits (datagrams_of (records_of_version plan version records))
  limits_of_version records limits = record { count = omega (arith, limits.count, (most_from 1 records).0); size = omega (arith, limits.size, (most_from 1 records).1) }

  pub taken_in_version : (records : List (Option (List ℕ))) (k : ℕ) → All IsByteDatagram (datagrams_of records)
      → AreTaken (kind_at (plan_in plan version) k) (offered_in plan records version k)
  taken_in_version records k all = offered_taken (plan_in plan version) (records_of_version plan version records) k (all_of_version records all)
