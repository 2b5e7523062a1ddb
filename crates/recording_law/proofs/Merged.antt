-- The datagrams that a recording delivers, in one order, are those of its services merged.
use Rattle.std.proofs.Common.{◌≡◌, ℕ, zero, suc, ◌+◌, ◌<◌, ◌≤◌, Bool, true, false, cond, eqb, List, [], ◌∷◌, ◌++◌, length, map, flat_map, refl, ap, sym, ◌∙◌, subst, arith, Option, Some, None, inl, inr}
use Rattle.std.specs.Prelude.{All}
use Rattle.std.specs.List.{range_with_len}
use Rattle.std.proofs.lemmas.List.{length-map, append-nil}
use Rattle.std.proofs.lemmas.List.Elements.{All-nil, All-cons, All-head, All-tail, All-append, All-map}
use Rattle.wire_spec.specs.Lists.{IsSubsequence}
use Rattle.ts_spec.specs.Recording.{Record}
use Rattle.plan_spec.specs.Plan.{PlanFields}
use Rattle.plan_spec.specs.Changes.{has_wrong_change}
use Rattle.reception_spec.specs.Delivered.{pairs_of_record, given_by_record, given_by_end}
use Rattle.outlet_spec.specs.Pairs.{datagrams_of}
use Rattle.reception_law.proofs.DeliveredPairs.{part_is}
use Rattle.bb_reception_spec.specs.Delivered.{delivered_pairs as pairs_of_frames, pairs_of_frame, given_by_frame}
use Rattle.bb_reception_law.proofs.FrameByFrame.{part_is as part_is_in_frames}
use Rattle.recording_spec.specs.Interleaving.{part_of, IsInterleaving}
use Rattle.recording_spec.specs.Pieces.{records_in, delivered_pairs, delivered_of}
use Rattle.recording_law.proofs.Pieces.{told_pairs_on, pairs_of_end_on, delivered_pairs_on, delivered_on}
use Rattle.recording_spec.specs.Relayed.{datagrams_in, relayed}

-- the services of pairs
abbrev pub services_in : List (ℕ × List ℕ) → List ℕ
services_in pairs = map (λ (pair : ℕ × List ℕ). pair.0) pairs

-- the part of a service among the datagrams of pairs
part_is_own : (k : ℕ) (pairs : List (ℕ × List ℕ)) → part_of k (services_in pairs) (datagrams_in pairs) ≡ datagrams_of k pairs
part_is_own k [] = refl
part_is_own k (pair ∷ pairs) = by_test (eqb pair.0 k) (part_is_own k pairs)
  where
    by_test : (b : Bool) → part_of k (services_in pairs) (datagrams_in pairs) ≡ datagrams_of k pairs
        → cond b (pair.1 ∷ part_of k (services_in pairs) (datagrams_in pairs)) (part_of k (services_in pairs) (datagrams_in pairs)) ≡ cond b (pair.1 ∷ []) [] ++ datagrams_of k pairs
    by_test true rest = ap (λ (t : List (List ℕ)). pair.1 ∷ t) rest
    by_test false rest = rest

-- Pairs are of services that there are.

abbrev pub AreBelow : ℕ → List (ℕ × List ℕ) → Type 0
AreBelow count pairs = All (λ (pair : ℕ × List ℕ). pair.0 < count) pairs

own_below : (count k : ℕ) → k < count → (datagrams : List (List ℕ)) → AreBelow count (map (λ datagram. (k, datagram)) datagrams)
own_below count k less [] = All-nil (λ (pair : ℕ × List ℕ). pair.0 < count)
own_below count k less (datagram ∷ datagrams) =
    All-cons (λ (pair : ℕ × List ℕ). pair.0 < count) (k, datagram) (map (λ d. (k, d)) datagrams) less (own_below count k less datagrams)

range_below : (count : ℕ) (datagrams : ℕ → List (List ℕ)) (from size : ℕ) → from + size ≤ count
    → AreBelow count (flat_map (λ k. map (λ datagram. (k, datagram)) (datagrams k)) (range_with_len from size))
range_below count datagrams from zero fits = All-nil (λ (pair : ℕ × List ℕ). pair.0 < count)
range_below count datagrams from (suc size) fits =
    All-append (λ (pair : ℕ × List ℕ). pair.0 < count) (map (λ datagram. (from, datagram)) (datagrams from))
    (flat_map (λ k. map (λ datagram. (k, datagram)) (datagrams k)) (range_with_len (from + 1) size))
    (own_below count from (omega (arith, fits)) (datagrams from)) (range_below count datagrams (from + 1) size (omega (arith, fits)))

-- what holds of all that each item of a list gives
pub all_flat : {A B : Type 0} (P : B → Type 0) (f : A → List B) (xs : List A) → ((x : A) → All P (f x)) → All P (flat_map f xs)
all_flat P f [] each = All-nil P
all_flat P f (x ∷ xs) each = All-append P (f x) (flat_map f xs) (each x) (all_flat P f xs each)

record_below : (plan : PlanFields) (records : List Record) (place : ℕ) → AreBelow (length plan.services) (pairs_of_record plan records place)
record_below plan records place = range_below (length plan.services) (λ k. given_by_record plan k records place) 0 (length plan.services) (omega arith)

frame_below : (plan : PlanFields) (frames : List (List ℕ)) (place : ℕ) → AreBelow (length plan.services) (pairs_of_frame plan frames place)
frame_below plan frames place = range_below (length plan.services) (λ k. given_by_frame plan k frames place) 0 (length plan.services) (omega arith)

told_below : (carrier : Option ℕ) (plan : PlanFields) (pieces : List (List ℕ)) → AreBelow (length plan.services) (told_pairs_on carrier plan pieces)
told_below None plan pieces =
    all_flat (λ (pair : ℕ × List ℕ). pair.0 < length plan.services) (pairs_of_record plan (records_in plan pieces)) (range_with_len 0 (length (records_in plan pieces)))
    (record_below plan (records_in plan pieces))
told_below (Some size) plan frames =
    all_flat (λ (pair : ℕ × List ℕ). pair.0 < length plan.services) (pairs_of_frame plan frames) (range_with_len 0 (length frames)) (frame_below plan frames)

end_below : (carrier : Option ℕ) (plan : PlanFields) (pieces : List (List ℕ)) → AreBelow (length plan.services) (pairs_of_end_on carrier plan pieces)
end_below None plan pieces = range_below (length plan.services) (λ k. given_by_end plan k (records_in plan pieces)) 0 (length plan.services) (omega arith)
end_below (Some size) plan frames = All-nil (λ (pair : ℕ × List ℕ). pair.0 < length plan.services)

all_below : (carrier : Option ℕ) (plan : PlanFields) (pieces : List (List ℕ)) → AreBelow (length plan.services) (delivered_pairs_on carrier plan pieces)
all_below carrier plan pieces =
    All-append (λ (pair : ℕ × List ℕ). pair.0 < length plan.services) (told_pairs_on carrier plan pieces) (pairs_of_end_on carrier plan pieces)
    (told_below carrier plan pieces) (end_below carrier plan pieces)

-- The part of each service is what it delivers.

part_on : (carrier : Option ℕ) (plan : PlanFields) (pieces : List (List ℕ)) (k : ℕ) → has_wrong_change plan ≡ false → k < length plan.services
    → datagrams_of k (delivered_pairs_on carrier plan pieces) ≡ delivered_on carrier plan k pieces
part_on None plan pieces k right known = part_is plan (records_in plan pieces) k right known
part_on (Some size) plan frames k right known = ap (datagrams_of k) (append-nil (pairs_of_frames plan frames)) ∙ part_is_in_frames plan frames k known

pub merged : (plan : PlanFields) (pieces : List (List ℕ)) → has_wrong_change plan ≡ false
    → IsInterleaving (length plan.services) (λ k. delivered_of plan k pieces) (relayed plan pieces)
merged plan pieces right =
    let pairs : List (ℕ × List ℕ) = delivered_pairs plan pieces in
    record {
      owners = services_in pairs;
      each = length-map pairs (λ (pair : ℕ × List ℕ). pair.0) ∙ sym (length-map pairs (λ (pair : ℕ × List ℕ). pair.1));
      owned = All-map (λ (k : ℕ). k < length plan.services) (λ (pair : ℕ × List ℕ). pair.0) pairs (all_below plan.frame_bytes plan pieces);
      parts = λ k known. part_is_own k pairs ∙ part_on plan.frame_bytes plan pieces k right known;
    }

-- Of any lists merged.

part_within : {X : Type 0} (k : ℕ) (owners : List ℕ) (xs : List X) → IsSubsequence (part_of k owners xs) xs
part_within k [] xs = tt
part_within k (owner ∷ owners) [] = tt
part_within {X} k (owner ∷ owners) (x ∷ xs) = by_test (eqb owner k) (part_within k owners xs)
  where
    left_out : (ys : List X) → IsSubsequence ys xs → IsSubsequence ys (x ∷ xs)
    left_out [] within = tt
    left_out (y ∷ ys) within = inr within

    by_test : (b : Bool) → IsSubsequence (part_of k owners xs) xs → IsSubsequence (cond b (x ∷ part_of k owners xs) (part_of k owners xs)) (x ∷ xs)
    by_test true within = inl (refl, within)
    by_test false within = left_out (part_of k owners xs) within

pub list_within : {X : Type 0} (count : ℕ) (lists : ℕ → List X) (xs : List X) → IsInterleaving count lists xs → (k : ℕ) → k < count → IsSubsequence (lists k) xs
list_within count lists xs merging k known = subst (λ ys. IsSubsequence ys xs) (merging.parts k known) (part_within k merging.owners xs)

-- one list is merged alone
all_of_one : {X : Type 0} (owners : List ℕ) (xs : List X) → length owners ≡ length xs → All (λ owner. owner < 1) owners → part_of 0 owners xs ≡ xs
all_of_one [] [] each owned = refl
all_of_one [] (x ∷ xs) each owned = absurd (omega (arith, each))
all_of_one (owner ∷ owners) [] each owned = absurd (omega (arith, each))
all_of_one {X} (owner ∷ owners) (x ∷ xs) each owned =
    by_owner owner (All-head (λ o. o < 1) owner owners owned) (all_of_one owners xs (omega (arith, each)) (All-tail (λ o. o < 1) owner owners owned))
  where
    by_owner : (o : ℕ) → o < 1 → part_of 0 owners xs ≡ xs → cond (eqb o 0) (x ∷ part_of 0 owners xs) (part_of 0 owners xs) ≡ x ∷ xs
    by_owner zero less rest = ap (λ (t : List X). x ∷ t) rest
    by_owner (suc o) less rest = absurd (omega (arith, less))

pub only_list : {X : Type 0} (lists : ℕ → List X) (xs : List X) → IsInterleaving 1 lists xs → lists 0 ≡ xs
only_list lists xs merging = sym (merging.parts 0 (omega arith)) ∙ all_of_one merging.owners xs merging.each merging.owned
