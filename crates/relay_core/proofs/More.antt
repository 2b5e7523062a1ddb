-- One datagram more.
use Rattle.std.proofs.Common.{◌≡◌, ℕ, ◌+◌, ◌≤◌, List, [], ◌∷◌, ◌++◌, length, map, ap, sym, ◌∙◌, subst, arith, Option}
use Rattle.std.proofs.lemmas.List.{map-append, length_push}
use Rattle.std.proofs.lemmas.List.Elements.{All-append, All-cons, All-nil}
use Rattle.std.proofs.lemmas.List.Sums.{sum_by-append}
use Rattle.wire_spec.specs.Bytes.{AreBytes}
use Rattle.pcap_file.specs.Reading.{most_records, most_bytes}
use Rattle.pcap_file.specs.Told.{bytes_in}
use Rattle.plan_spec.specs.Plan.{PlanFields}
use Rattle.plan_spec.specs.Offered.{Records}
use Rattle.datagram_routing.specs.Offering.{IsOffered}
use Rattle.datagram_routing.specs.declared.offered.Offered.{Offered}
use Rattle.relay_core.specs.Gathering.{record_of, delivered_records, HasOffered}

-- it is offered as its record, within the limits
pub one_more : (plan : PlanFields) (old new : Offered) (count size : ℕ) (datagram bytes : List ℕ) (offered : Option (List ℕ))
    → bytes ≡ datagram → AreBytes bytes → offered ≡ record_of bytes → count + 1 ≤ most_records → size + length datagram ≤ most_bytes
    → ((records : Records) → IsOffered plan records old → IsOffered plan (records ++ offered ∷ []) new)
    → (datagrams : List (List ℕ)) → HasOffered plan old count size datagrams → HasOffered plan new (count + 1) (size + length datagram) (datagrams ++ datagram ∷ [])
one_more plan old new count size datagram bytes offered same are read few small offers datagrams from =
    let longer : length (datagrams ++ datagram ∷ []) ≡ length datagrams + 1 = length_push datagrams datagram in
    let larger : bytes_in (datagrams ++ datagram ∷ []) ≡ bytes_in datagrams + bytes_in (datagram ∷ []) = sum_by-append (λ (b : List ℕ). length b) datagrams (datagram ∷ []) in
    record {
      offers = subst (λ (records : Records). IsOffered plan records new)
          (ap (λ (r : Option (List ℕ)). delivered_records datagrams ++ r ∷ []) (read ∙ ap record_of same) ∙ sym (map-append record_of datagrams (datagram ∷ [])))
          (offers (delivered_records datagrams) from.offers);
      count_is = omega (arith, from.count_is, longer);
      size_is = omega (arith, from.size_is, larger);
      fits = record {
        count = omega (arith, from.count_is, longer, few);
        size = omega (arith, from.size_is, larger, small);
      };
      of_bytes = All-append AreBytes datagrams (datagram ∷ []) from.of_bytes (All-cons AreBytes datagram [] (subst AreBytes same are) (All-nil AreBytes));
    }

-- the datagrams of pairs, one more
pub datagrams_then : (pairs : List (ℕ × List ℕ)) (service : ℕ) (datagram : List ℕ)
    → map (λ (pair : ℕ × List ℕ). pair.1) pairs ++ datagram ∷ [] ≡ map (λ (pair : ℕ × List ℕ). pair.1) (pairs ++ (service, datagram) ∷ [])
datagrams_then pairs service datagram = sym (map-append (λ (pair : ℕ × List ℕ). pair.1) pairs ((service, datagram) ∷ []))
