-- The counter with which a service begins a part: how many packets stand before it on the PID that it has there.
use Rattle.std.proofs.Common.{◌≡◌, ◌⊎◌, inl, inr, ℕ, zero, suc, ◌+◌, ◌-◌, ◌*◌, ◌%◌, ◌<◌, ◌≤◌, Bool, true, false, cond, eqb, List, [], ◌∷◌, ◌++◌, length, map, fold, get_or, refl, sym, ap, ◌∙◌, arith, Option, Some, None}
use Rattle.std.specs.Prelude.{sum_by, slice_index, slice_index_or}
use Rattle.std.specs.List.{range_with_len}
use Rattle.std.proofs.lemmas.Bool.{or_parts, or_left, eqb-true, eq-eqb, cases_lt}
use Rattle.std.proofs.lemmas.List.{length-append, map-append}
use Rattle.std.proofs.lemmas.List.Sums.{fold-append}
use Rattle.std.proofs.Math.Seq.{get_or-append_seam}
use Rattle.ts_spec.specs.Packet.{PacketFields}
use Rattle.plan_spec.specs.Plan.{PlanFields}
use Rattle.plan_spec.specs.Changes.{services_in, service_in, pid_in, pids_in, with_last, with_pid_behind}
use Rattle.plan_spec.specs.Wholes.{is_whole_plan}
use Rattle.plan_law.proofs.Pids.{is_in, twice}
use Rattle.plan_law.proofs.Kept.{length-services_in}
use Rattle.stream_spec.specs.Parts.{PartFields, service_packets}
use Rattle.stream_spec.specs.Stream.{schedule_of, shares_pid, packet_count, packet_count_on, earlier, part_of}
use Rattle.stream_law.proofs.Ranges.{range_append, sum_same, sum_next, sum_most}
use Rattle.stream_law.proofs.Lists.{in_both, twice_parts, twice_first}
use Rattle.stream_law.proofs.PidsIn.{with_last_is}
use Rattle.stream_law.proofs.KindPackets.{length-packets_of_kind}
use Rattle.stream_law.proofs.Wholes.{pids_not_twice}
use Rattle.ts_mux.specs.Services.{counter_at}
use Rattle.ts_mux.proofs.Made.{packets_in_part}

-- PIDs by number, each a PID, of which none comes again.
module _ (pid_at : ℕ → Option ℕ) (all : (v : ℕ) → (pid : ℕ) × (pid_at v ≡ Some pid)) where
  abbrev pids : ℕ → List ℕ
  pids n = fold with_pid_behind [] (map pid_at (range_with_len 0 n))

  abbrev own : ℕ → ℕ
  own v = (all v).0

  pids_next : (n : ℕ) → pids (suc n) ≡ with_last (pids n) (own n)
  pids_next n =
      let one : suc n ≡ n + 1 = omega arith in
      ap (λ (m : ℕ). fold with_pid_behind [] (map pid_at (range_with_len 0 m))) one
      ∙ ap (λ (l : List ℕ). fold with_pid_behind [] (map pid_at l)) (range_append 0 n 1 n (omega arith))
      ∙ ap (λ (l : List (Option ℕ)). fold with_pid_behind [] l) (map-append pid_at (range_with_len 0 n) (n ∷ []))
      ∙ fold-append with_pid_behind [] (map pid_at (range_with_len 0 n)) (pid_at n ∷ [])
      ∙ ap (λ (o : Option ℕ). with_pid_behind (pids n) o) (all n).1

  -- the last of them is that of the last number
  last_is : (n : ℕ) → (front : List ℕ) × (pids (suc n) ≡ front ++ own n ∷ [])
  last_is n = by_last (with_last_is (pids n) (own n))
    where
      by_last : ((front : List ℕ) × (pids n ≡ front ++ own n ∷ []) × (with_last (pids n) (own n) ≡ pids n)) ⊎ (with_last (pids n) (own n) ≡ pids n ++ own n ∷ [])
          → (front : List ℕ) × (pids (suc n) ≡ front ++ own n ∷ [])
      by_last (inl (front, whole, same)) = (front, pids_next n ∙ same ∙ whole)
      by_last (inr more) = (pids n, pids_next n ∙ more)

  one_less : (n : ℕ) → twice (pids (suc n)) ≡ false → twice (pids n) ≡ false
  one_less n none = by_last (with_last_is (pids n) (own n))
    where
      by_last : ((front : List ℕ) × (pids n ≡ front ++ own n ∷ []) × (with_last (pids n) (own n) ≡ pids n)) ⊎ (with_last (pids n) (own n) ≡ pids n ++ own n ∷ []) → twice (pids n) ≡ false
      by_last (inl (front, whole, same)) = sym (ap twice (pids_next n ∙ same)) ∙ none
      by_last (inr more) = twice_first (pids n) (own n ∷ []) (sym (ap twice (pids_next n ∙ more)) ∙ none)

  fewer : (d n : ℕ) → twice (pids (d + n)) ≡ false → twice (pids n) ≡ false
  fewer zero n none = let same : zero + n ≡ n = omega arith in sym (ap (λ (m : ℕ). twice (pids m)) same) ∙ none
  fewer (suc d) n none = let same : suc d + n ≡ suc (d + n) = omega arith in fewer d n (one_less (d + n) (sym (ap (λ (m : ℕ). twice (pids m)) same) ∙ none))

  -- each PID of the numbers before is there
  there : (n v : ℕ) → v < n → is_in (own v) (pids n) ≡ true
  there zero v less = absurd (omega (arith, less))
  there (suc n) v less = ap (is_in (own v)) (pids_next n) ∙ by_last (with_last_is (pids n) (own n)) (cases_lt v n) (λ before. there n v before)
    where
      last : n ≤ v → v ≡ n
      last le = omega (arith, less, le)

      in_last : (x : ℕ) (first : List ℕ) → is_in x (first ++ x ∷ []) ≡ true
      in_last x first = in_both x first (x ∷ []) (inr (or_left (eqb x x) false (eq-eqb x x refl)))

      by_last : ((front : List ℕ) × (pids n ≡ front ++ own n ∷ []) × (with_last (pids n) (own n) ≡ pids n)) ⊎ (with_last (pids n) (own n) ≡ pids n ++ own n ∷ [])
          → (v < n) ⊎ (n ≤ v) → (v < n → is_in (own v) (pids n) ≡ true) → is_in (own v) (with_last (pids n) (own n)) ≡ true
      by_last (inl (front, whole, same)) (inl before) earlier = ap (is_in (own v)) same ∙ earlier before
      by_last (inl (front, whole, same)) (inr le) earlier =
          ap (is_in (own v)) (same ∙ whole ∙ ap (λ (i : ℕ). front ++ own i ∷ []) (sym (last le))) ∙ in_last (own v) front
      by_last (inr more) (inl before) earlier = ap (is_in (own v)) more ∙ in_both (own v) (pids n) (own n ∷ []) (inl (earlier before))
      by_last (inr more) (inr le) earlier =
          ap (is_in (own v)) (more ∙ ap (λ (i : ℕ). pids n ++ own i ∷ []) (sym (last le))) ∙ in_last (own v) (pids n)

  -- a number with another PID than the one before it has none of those before
  pub not_again : (count v : ℕ) → twice (pids count) ≡ false → suc v < count → eqb (own v) (own (suc v)) ≡ false
      → (u : ℕ) → u ≤ v → eqb (own u) (own (suc v)) ≡ false
  not_again count v none within moves u le =
      by_last (with_last_is (pids (suc v)) (own (suc v)))
    where
      next : ℕ
      next = own (suc v)

      once : twice (pids (suc (suc v))) ≡ false
      once =
          let same : count ≡ count - suc (suc v) + suc (suc v) = omega (arith, within) in
          fewer (count - suc (suc v)) (suc (suc v)) (sym (ap (λ (m : ℕ). twice (pids m)) same) ∙ none)

      lasts : (xs ys : List ℕ) (x y : ℕ) → xs ++ x ∷ [] ≡ ys ++ y ∷ [] → x ≡ y
      lasts xs ys x y same =
          let size : length xs ≡ length ys = omega (arith, length-append xs (x ∷ []), length-append ys (y ∷ []), ap (λ (l : List ℕ). length l) same, one x, one y) in
          sym (get_or-append_seam xs x [] 0) ∙ ap (λ (l : List ℕ). get_or l (length xs) 0) same ∙ ap (λ (n : ℕ). get_or (ys ++ y ∷ []) n 0) size ∙ get_or-append_seam ys y [] 0
        where
          one : (z : ℕ) → length (z ∷ []) ≡ 1
          one z = refl

      by_last : ((front : List ℕ) × (pids (suc v) ≡ front ++ next ∷ []) × (with_last (pids (suc v)) next ≡ pids (suc v))) ⊎ (with_last (pids (suc v)) next ≡ pids (suc v) ++ next ∷ [])
          → eqb (own u) next ≡ false
      by_last (inl (front, whole, same)) =
          let last = last_is v in
          absurd (cc (moves, eq-eqb (own v) next (lasts last.0 front (own v) next (sym last.1 ∙ whole))))
      by_last (inr more) =
          (or_parts (eqb (own u) next) false
          ((twice_parts (pids (suc v)) (next ∷ []) (sym (ap twice (pids_next (suc v) ∙ more)) ∙ once)).1 (own u) (there (suc v) u (omega (arith, le))))).0

-- Counters.

shared_same : (a b : Option ℕ) → shares_pid a b ≡ true → a ≡ b
shared_same None b is = absurd (cc)
shared_same (Some pid) None is = absurd (cc)
shared_same (Some pid) (Some own) is = ap (λ (n : ℕ). Some n) (sym (eqb-true own pid is))

shared_so : (a b : Option ℕ) (p q : ℕ) → a ≡ Some p → b ≡ Some q → shares_pid a b ≡ eqb q p
shared_so a b p q is is2 = ap (λ (o : Option ℕ). shares_pid o b) is ∙ ap (λ (o : Option ℕ). shares_pid (Some p) o) is2

module _ (plan : PlanFields) (whole : is_whole_plan plan ≡ true) (datagrams : ℕ → ℕ → List (List ℕ)) (slots : ℕ → ℕ) (k : ℕ) (known : k < length plan.services)
    (all : (v : ℕ) → (pid : ℕ) × (pid_in plan v k ≡ Some pid)) (version : ℕ) (within : version + 1 ≤ length plan.changes) where
  abbrev part : ℕ → PartFields
  part v = part_of plan datagrams slots v

  abbrev on : ℕ → ℕ → ℕ
  on other v = packet_count_on plan datagrams k other v

  -- the PID stays: the packets of the part before are on it too
  stays : shares_pid (pid_in plan (version + 1) k) (pid_in plan version k) ≡ true → (part (version + 1)).packets_before k ≡ (part version).packets_before k + packet_count plan datagrams k version
  stays shares =
      let same : pid_in plan (version + 1) k ≡ pid_in plan version k = shared_same (pid_in plan (version + 1) k) (pid_in plan version k) shares in
      let before : sum_by (on (version + 1)) (range_with_len 0 version) ≡ sum_by (on version) (range_with_len 0 version)
      = sum_same (on (version + 1)) (on version) 0 version (λ u less. ap (λ (o : Option ℕ). cond (shares_pid o (pid_in plan u k)) (packet_count plan datagrams k u) 0) same) in
      let last : on (version + 1) version ≡ packet_count plan datagrams k version = ap (λ (b : Bool). cond b (packet_count plan datagrams k version) 0) shares in
      omega (arith, sum_next (on (version + 1)) version, before, last)

  -- it is another: no packets are on it yet
  moves : shares_pid (pid_in plan (version + 1) k) (pid_in plan version k) ≡ false → (part (version + 1)).packets_before k ≡ 0
  unfolding pids_in
  moves shares =
      let none : sum_by (on (version + 1)) (range_with_len 0 (version + 1)) ≤ (version + 1) * 0 = sum_most (on (version + 1)) 0 0 (version + 1) (λ u less. none_on u (omega (arith, less))) in
      omega (arith, none)
    where
      next : suc version ≡ version + 1
      next = omega arith

      later : ℕ
      later = (all (suc version)).0

      later_is : pid_in plan (version + 1) k ≡ Some later
      later_is = ap (λ (v : ℕ). pid_in plan v k) (sym next) ∙ (all (suc version)).1

      others : (u : ℕ) → u ≤ version → eqb (all u).0 later ≡ false
      others u le =
          not_again (λ v. pid_in plan v k) all (length plan.changes + 1) version (pids_not_twice plan whole k known) (omega (arith, within))
          (sym (shared_so (pid_in plan (version + 1) k) (pid_in plan version k) later (all version).0 later_is (all version).1) ∙ shares) u le

      none_on : (u : ℕ) → u < version + 1 → on (version + 1) u ≤ 0
      none_on u less =
          let not_shared : shares_pid (pid_in plan (version + 1) k) (pid_in plan u k) ≡ false
          = shared_so (pid_in plan (version + 1) k) (pid_in plan u k) later (all u).0 later_is (all u).1 ∙ others u (omega (arith, less)) in
          omega (arith, ap (λ (b : Bool). cond b (packet_count plan datagrams k u) 0) not_shared)

  -- so the counter after the part before, or 0, is right
  pub counter_is : (behind : List ℕ) → slice_index behind k ≡ ((part version).packets_before k + length (slice_index_or (service_packets (part version)) k [])) % 16
      → counter_at plan (version + 1) behind k ≡ (part (version + 1)).packets_before k % 16
  counter_is behind is = by_pid (shares_pid (pid_in plan (version + 1) k) (pid_in plan (version + 1 - 1) k)) refl
    where
      before : version + 1 - 1 ≡ version
      before = omega arith

      count : length (slice_index_or (service_packets (part version)) k []) ≡ packet_count plan datagrams k version
      count =
          ap (λ (ps : List PacketFields). length ps) (packets_in_part (part version).packets_before (part version).schedules (datagrams version) (services_in plan version) 0 k k (omega arith) (omega (arith, known, length-services_in plan version)))
          ∙ length-packets_of_kind (service_in plan version k).kind (service_in plan version k).unicast ((part version).packets_before k % 16) 0 ((part version).schedules k)
          (schedule_of plan datagrams 0 k version) (datagrams version k) refl

      by_pid : (shared : Bool) → shares_pid (pid_in plan (version + 1) k) (pid_in plan (version + 1 - 1) k) ≡ shared
          → cond shared (slice_index behind k) 0 ≡ (part (version + 1)).packets_before k % 16
      by_pid true e = is ∙ ap (λ (n : ℕ). ((part version).packets_before k + n) % 16) count
          ∙ ap (λ (n : ℕ). n % 16) (sym (stays (ap (λ (v : ℕ). shares_pid (pid_in plan (version + 1) k) (pid_in plan v k)) (sym before) ∙ e)))
      by_pid false e = ap (λ (n : ℕ). n % 16) (sym (moves (ap (λ (v : ℕ). shares_pid (pid_in plan (version + 1) k) (pid_in plan v k)) (sym before) ∙ e)))
