-- What is gathered would pass the limits with one datagram more: so do all datagrams of which these are a front. Where it would not, these
-- and that one are within them; and so is what a list within the limits begins with.
use Rattle.std.proofs.Common.{◌≡◌, ◌≢◌, inl, inr, ℕ, ◌+◌, ◌<◌, ◌≤◌, List, [], ◌∷◌, ◌++◌, length, ap, ◌∙◌, arith}
use Rattle.std.proofs.lemmas.List.{map-append, length-append}
use Rattle.std.proofs.lemmas.List.Sums.{sum_by-append}
use Rattle.pcap_file.specs.Reading.{most_records, most_bytes}
use Rattle.pcap_file.specs.Told.{bytes_in}
use Rattle.plan_spec.specs.Plan.{PlanFields}
use Rattle.recording_spec.specs.Relayed.{datagrams_in}
use Rattle.relay_core.specs.Gathering.{GatherState, IsGathered, FitsCapture, IsPast, IsCauseOf}
use Rattle.relay_core.specs.declared.gather.GatherFault.{GatherFault}
use Rattle.relay_core.specs.declared.gather.GatherFault.TheVariants as gather_fault
use Rattle.relay_command.specs.Gathered.{PassesCapture}

bytes_of : (xs ys : List (List ℕ)) → bytes_in (xs ++ ys) ≡ bytes_in xs + bytes_in ys
bytes_of xs ys = sum_by-append (λ (bytes : List ℕ). length bytes) xs ys

datagrams_of_both : (front more : List (ℕ × List ℕ)) → datagrams_in (front ++ more) ≡ datagrams_in front ++ datagrams_in more
datagrams_of_both front more = map-append (λ (pair : ℕ × List ℕ). pair.1) front more

module _ (plan : PlanFields) (gather : GatherState) (front : List (ℕ × List ℕ)) (told : IsGathered plan gather front) where
  pub pairs_pass : (pairs behind : List (ℕ × List ℕ)) (service : ℕ) (datagram : List ℕ) → pairs ≡ front ++ (service, datagram) ∷ behind
      → IsPast gather datagram → PassesCapture (datagrams_in pairs)
  pairs_pass pairs behind service datagram are past =
      let parts : datagrams_in pairs ≡ datagrams_in front ++ datagram ∷ datagrams_in behind = ap datagrams_in are ∙ datagrams_of_both front ((service, datagram) ∷ behind) in
      elim past [
        | inl many ↦ inl (omega (arith, many, told.count_is, ap (λ (xs : List (List ℕ)). length xs) parts, length-append (datagrams_in front) (datagram ∷ datagrams_in behind)))
        | inr large ↦
            inr (omega (arith, large, told.size_is, ap bytes_in parts, bytes_of (datagrams_in front) (datagram ∷ datagrams_in behind), bytes_of (datagram ∷ []) (datagrams_in behind)))
      ]

  pub one_more_fits : (service : ℕ) (datagram : List ℕ) → ¬ IsPast gather datagram → FitsCapture (datagrams_in (front ++ (service, datagram) ∷ []))
  one_more_fits service datagram fits =
      let parts : datagrams_in (front ++ (service, datagram) ∷ []) ≡ datagrams_in front ++ datagram ∷ [] = datagrams_of_both front ((service, datagram) ∷ []) in
      record {
        count = omega (arith, fits_count, told.count_is, ap (λ (xs : List (List ℕ)). length xs) parts, length-append (datagrams_in front) (datagram ∷ []));
        size = omega (arith, fits_size, told.size_is, ap bytes_in parts, bytes_of (datagrams_in front) (datagram ∷ []));
      }
    where
      fits_count : ¬ (most_records ≤ gather.count)
      fits_count many = fits (inl many)

      fits_size : ¬ (most_bytes < gather.size + length datagram)
      fits_size large = fits (inr large)

pub front_fits : (plan : PlanFields) (gather : GatherState) (front more : List (ℕ × List ℕ)) → IsGathered plan gather (front ++ more) → FitsCapture (datagrams_in front)
front_fits plan gather front more told =
    let parts : datagrams_in (front ++ more) ≡ datagrams_in front ++ datagrams_in more = datagrams_of_both front more in
    record {
      count = omega (arith, told.fits.count, ap (λ (xs : List (List ℕ)). length xs) parts, length-append (datagrams_in front) (datagrams_in more));
      size = omega (arith, told.fits.size, ap bytes_in parts, bytes_of (datagrams_in front) (datagrams_in more));
    }

-- why a datagram was refused
pub full : (gather : GatherState) (datagram : List ℕ) (cause : GatherFault) → cause ≡ gather_fault.Full → IsCauseOf gather datagram cause → IsPast gather datagram
full gather datagram gather_fault.None is refused = absurd refused
full gather datagram gather_fault.OutOfMemory is refused = absurd (cc)
full gather datagram gather_fault.Full is refused = refused

pub no_memory : (gather : GatherState) (datagram : List ℕ) (cause : GatherFault) → cause ≡ gather_fault.OutOfMemory → IsCauseOf gather datagram cause → ¬ IsPast gather datagram
no_memory gather datagram gather_fault.None is refused = absurd refused
no_memory gather datagram gather_fault.OutOfMemory is refused = refused
no_memory gather datagram gather_fault.Full is refused = absurd (cc)

pub some_cause : (gather : GatherState) (datagram : List ℕ) (cause : GatherFault) → IsCauseOf gather datagram cause → cause ≢ gather_fault.None
some_cause gather datagram gather_fault.None refused is = refused
some_cause gather datagram gather_fault.OutOfMemory refused is = absurd (cc)
some_cause gather datagram gather_fault.Full refused is = absurd (cc)
