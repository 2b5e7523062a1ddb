-- A channel, and one that inserts a record more.
use Rattle.std.proofs.Common.{◌≡◌, ◌⊎◌, inl, inr, ℕ, zero, suc, ◌<◌, ◌≤◌, Option, None, Some, List, [], ◌∷◌, ◌++◌, length, refl, ap, sym, ◌∙◌, subst, arith}
use Rattle.std.specs.Prelude.{Contains, option_map}
use Rattle.std.proofs.lemmas.Bool.{cases_lt, cases_order}
use Rattle.ts_spec.specs.Recording.{Record}
use Rattle.ts_spec.specs.Received.{record_at, Arrival, arrivals}
use Rattle.channel_spec.specs.Channel.{IsForeign, Channel}
use Rattle.channel_law.proofs.Member.{Member, contains_member, member_contains}
use Rattle.channel_law.proofs.Arrivals.{ArrivesFrom, arrival_record, record_arrives}

-- Places with a record more after some.

-- the place that a record has then
abbrev moved : List Record → ℕ → ℕ
moved [] k = suc k
moved (x ∷ front) zero = zero
moved (x ∷ front) (suc k) = suc (moved front k)

-- the place that it had before; none of the record that is new
abbrev before : List Record → ℕ → Option ℕ
before [] zero = None
before [] (suc j) = Some j
before (x ∷ front) zero = Some zero
before (x ∷ front) (suc j) = option_map suc (before front j)

before-moved : (front : List Record) (k : ℕ) → before front (moved front k) ≡ Some k
before-moved [] k = refl
before-moved (x ∷ front) zero = refl
before-moved (x ∷ front) (suc k) = ap (option_map suc) (before-moved front k)

before-new : (front : List Record) → before front (length front) ≡ None
before-new [] = refl
before-new (x ∷ front) = ap (option_map suc) (before-new front)

-- the order stays
moved_rises : (front : List Record) (k l : ℕ) → k < l → moved front k < moved front l
moved_rises [] k l less = omega (arith, less)
moved_rises (x ∷ front) zero zero less = absurd (omega (arith, less))
moved_rises (x ∷ front) zero (suc l) less = omega arith
moved_rises (x ∷ front) (suc k) zero less = absurd (omega (arith, less))
moved_rises (x ∷ front) (suc k) (suc l) less = omega (arith, moved_rises front k l (omega (arith, less)))

rises_back : (front : List Record) (k l : ℕ) → moved front k < moved front l → k < l
rises_back front k l less = by_order (cases_order k l)
  where
    by_order : (k ≡ l) ⊎ ((k < l) ⊎ (l < k)) → k < l
    by_order (inl same) = absurd (omega (arith, less, ap (moved front) same))
    by_order (inr (inl rises)) = rises
    by_order (inr (inr falls)) = absurd (omega (arith, less, moved_rises front l k falls))

no_lower : (front : List Record) (k l : ℕ) → k ≤ l → moved front k ≤ moved front l
no_lower front k l order = by_order (cases_lt k l)
  where
    by_order : (k < l) ⊎ (l ≤ k) → moved front k ≤ moved front l
    by_order (inl less) = omega (arith, moved_rises front k l less)
    by_order (inr back) = let same : k ≡ l = omega (arith, order, back) in omega (arith, ap (moved front) same)

moved_same : (front : List Record) (k l : ℕ) → moved front k ≡ moved front l → k ≡ l
moved_same front k l same = by_order (cases_order k l)
  where
    by_order : (k ≡ l) ⊎ ((k < l) ⊎ (l < k)) → k ≡ l
    by_order (inl equal) = equal
    by_order (inr (inl less)) = absurd (omega (arith, same, moved_rises front k l less))
    by_order (inr (inr more)) = absurd (omega (arith, same, moved_rises front l k more))

-- the records
record-moved : (front behind : List Record) (r : Record) (k : ℕ) → record_at (front ++ r ∷ behind) (moved front k) ≡ record_at (front ++ behind) k
record-moved [] behind r k = refl
record-moved (x ∷ front) behind r zero = refl
record-moved (x ∷ front) behind r (suc k) = record-moved front behind r k

record-new : (front behind : List Record) (r : Record) → record_at (front ++ r ∷ behind) (length front) ≡ r
record-new [] behind r = refl
record-new (x ∷ front) behind r = record-new front behind r

-- each place is that of the new record, or that of one that was there
each : (front behind : List Record) (r : Record) (P : ℕ → Type 0) → P (length front) → ((k : ℕ) → k < length (front ++ behind) → P (moved front k))
    → (j : ℕ) → j < length (front ++ r ∷ behind) → P j
each [] behind r P new old zero known = new
each [] behind r P new old (suc j) known = old j (omega (arith, known))
each (x ∷ front) behind r P new old zero known = old zero (omega arith)
each (x ∷ front) behind r P new old (suc j) known =
    each front behind r (λ i. P (suc i)) new (λ k less. old (suc k) (omega (arith, less))) j (omega (arith, known))

-- what a function says of a place that there was
abbrev through : {T : Type 0} → (ℕ → T) → T → Option ℕ → T
through f other None = other
through f other (Some k) = f k

module _ (pids : List ℕ) (sent front behind : List Record) (r : Record) (channel : Channel pids sent (front ++ behind)) (foreign : IsForeign pids r) where
  -- the recording with the record more
  abbrev more : List Record
  more = front ++ r ∷ behind

  abbrev place : ℕ → Option ℕ
  place j = through channel.place None (before front j)

  abbrev first : ℕ → ℕ
  first j = through (λ k. moved front (channel.first k)) (length front) (before front j)

  place_new : place (length front) ≡ None
  place_new = ap (through channel.place None) (before-new front)

  place_moved : (k : ℕ) → place (moved front k) ≡ channel.place k
  place_moved k = ap (through channel.place None) (before-moved front k)

  first_new : first (length front) ≡ length front
  first_new = ap (through (λ k. moved front (channel.first k)) (length front)) (before-new front)

  first_moved : (k : ℕ) → first (moved front k) ≡ moved front (channel.first k)
  first_moved k = ap (through (λ k. moved front (channel.first k)) (length front)) (before-moved front k)

  bytes_moved : (k : ℕ) → (record_at more (moved front k)).bytes ≡ (record_at (front ++ behind) k).bytes
  bytes_moved k = ap (λ (x : Record). x.bytes) (record-moved front behind r k)

  -- the new record comes from nowhere
  none_new : {T : Type 0} (n : ℕ) → place (length front) ≡ Some n → T
  none_new n some = absurd (no_number n (sym place_new ∙ some))
    where
      no_number : (m : ℕ) → None ≡ Some m → ⊥
      no_number m same = cc

  within : (j n : ℕ) → j < length more → place j ≡ Some n → n < length sent
  within j n known is =
      each front behind r (λ i. place i ≡ Some n → n < length sent) (none_new n) (λ k less some. channel.within k n less (sym (place_moved k) ∙ some)) j known is

  in_order : (j k m n : ℕ) → j < k → k < length more → first j ≡ j → first k ≡ k → place j ≡ Some m → place k ≡ Some n → m < n
  in_order j k m n less known first_j first_k place_j place_k =
      each front behind r (λ i. i < k → first i ≡ i → place i ≡ Some m → m < n) (λ below own some. none_new m some)
      (λ a known_a below own some.
      each front behind r (λ i. moved front a < i → first i ≡ i → place i ≡ Some n → m < n) (λ above own_too some_too. none_new n some_too)
      (λ b known_b above own_too some_too.
      channel.in_order a b m n (rises_back front a b above) known_b (moved_same front (channel.first a) a (sym (first_moved a) ∙ own))
      (moved_same front (channel.first b) b (sym (first_moved b) ∙ own_too)) (sym (place_moved a) ∙ some) (sym (place_moved b) ∙ some_too))
      k known below first_k place_k)
      j (omega (arith, less, known)) less first_j place_j

  not_behind : (j : ℕ) → j < length more → first j ≤ j
  not_behind =
      each front behind r (λ i. first i ≤ i) (omega (arith, first_new))
      (λ k known. omega (arith, first_moved k, no_lower front (channel.first k) k (channel.behind k known)))

  no_copy : (j : ℕ) → j < length more → first (first j) ≡ first j
  no_copy =
      each front behind r (λ i. first (first i) ≡ first i) (ap first first_new)
      (λ k known. ap first (first_moved k) ∙ first_moved (channel.first k) ∙ ap (moved front) (channel.no_copy k known) ∙ sym (first_moved k))

  same_place : (j : ℕ) → j < length more → place j ≡ place (first j)
  same_place =
      each front behind r (λ i. place i ≡ place (first i)) (sym (ap place first_new))
      (λ k known. place_moved k ∙ channel.same_place k known ∙ sym (place_moved (channel.first k)) ∙ sym (ap place (first_moved k)))

  -- the bytes of the record that one is a copy of
  bytes_first : (k : ℕ) → (record_at more (first (moved front k))).bytes ≡ (record_at (front ++ behind) (channel.first k)).bytes
  bytes_first k = ap (λ (t : ℕ). (record_at more t).bytes) (first_moved k) ∙ bytes_moved (channel.first k)

  kept : (j n : ℕ) → j < length more → first j < j → place j ≡ Some n → (record_at more (first j)).bytes ≡ (record_at sent n).bytes
  kept j n known less is =
      each front behind r (λ i. first i < i → place i ≡ Some n → (record_at more (first i)).bytes ≡ (record_at sent n).bytes) (λ below some. none_new n some)
      (λ k known_k below some.
      bytes_first k ∙ channel.kept k n known_k (rises_back front (channel.first k) k (omega (arith, below, first_moved k))) (sym (place_moved k) ∙ some))
      j known less is

  same : (j : ℕ) → j < length more → (record_at more j).bytes ≡ (record_at more (first j)).bytes
  same =
      each front behind r (λ i. (record_at more i).bytes ≡ (record_at more (first i)).bytes) (sym (ap (λ (t : ℕ). (record_at more t).bytes) first_new))
      (λ k known. bytes_moved k ∙ channel.same k known ∙ sym (bytes_first k))

  -- Arrivals.

  -- at the new record nothing arrives
  nothing_new : (pid : ℕ) → Contains pids pid → (a : Arrival) → ArrivesFrom pid more a → a.place ≡ length front → ⊥
  nothing_new pid read a is at =
      let here : record_at more a.place ≡ r = ap (record_at more) at ∙ record-new front behind r in
      subst (λ (t : List Arrival). Member t (record { place = 0; moment = a.moment; bytes = a.bytes })) (foreign pid read)
      (record_arrives pid 0 (r ∷ []) a.moment a.bytes (omega arith) (sym (ap (λ (x : Record). x.moment) here) ∙ is.moment)
      (sym (ap (λ (x : Record). x.bytes) here) ∙ is.bytes) is.of_pid)

  -- what arrives at another arrived there before
  arrived_there : (pid : ℕ) (a : Arrival) → ArrivesFrom pid more a → (k : ℕ) → k < length (front ++ behind) → a.place ≡ moved front k
      → Contains (arrivals pid (front ++ behind)) (record { place = k; moment = a.moment; bytes = a.bytes })
  arrived_there pid a is k known at =
      let here : record_at more a.place ≡ record_at (front ++ behind) k = ap (record_at more) at ∙ record-moved front behind r k in
      contains_member (arrivals pid (front ++ behind)) (record { place = k; moment = a.moment; bytes = a.bytes })
      (record_arrives pid k (front ++ behind) a.moment a.bytes known (sym (ap (λ (x : Record). x.moment) here) ∙ is.moment)
      (sym (ap (λ (x : Record). x.bytes) here) ∙ is.bytes) is.of_pid)

  alone : (pid : ℕ) (copy other : Arrival) → Contains pids pid → Contains (arrivals pid more) copy → Contains (arrivals pid more) other
      → first copy.place < other.place → other.place < copy.place → other.bytes ≡ copy.bytes
  alone pid copy other read there_copy there less below =
      each front behind r (λ i. copy.place ≡ i → other.bytes ≡ copy.bytes) (λ at. absurd (nothing_new pid read copy copy_is at))
      (λ a known_a at_a.
      each front behind r (λ i. other.place ≡ i → other.bytes ≡ copy.bytes) (λ at. absurd (nothing_new pid read other other_is at))
      (λ b known_b at_b.
      channel.alone pid (record { place = a; moment = copy.moment; bytes = copy.bytes }) (record { place = b; moment = other.moment; bytes = other.bytes }) read
      (arrived_there pid copy copy_is a known_a at_a) (arrived_there pid other other_is b known_b at_b)
      (rises_back front (channel.first a) b (omega (arith, less, at_b, ap first at_a, first_moved a))) (rises_back front b a (omega (arith, below, at_a, at_b))))
      other.place other_is.within refl)
      copy.place copy_is.within refl
    where
      copy_is : ArrivesFrom pid more copy
      copy_is = arrival_record pid more copy (member_contains (arrivals pid more) copy there_copy)

      other_is : ArrivesFrom pid more other
      other_is = arrival_record pid more other (member_contains (arrivals pid more) other there)

  is_foreign : (j : ℕ) → j < length more → place j ≡ None → IsForeign pids (record_at more j)
  is_foreign j known none =
      each front behind r (λ i. place i ≡ None → IsForeign pids (record_at more i))
      (λ no. subst (IsForeign pids) (sym (record-new front behind r)) foreign)
      (λ k known_k no. subst (IsForeign pids) (sym (record-moved front behind r k)) (channel.foreign k known_k (sym (place_moved k) ∙ no))) j known none

  -- all together
  pub inserted : Channel pids sent (front ++ r ∷ behind)
  inserted = record {
    place = place;
    first = first;
    within = within;
    in_order = in_order;
    behind = not_behind;
    no_copy = no_copy;
    same_place = same_place;
    kept = kept;
    same = same;
    alone = alone;
    foreign = is_foreign;
  }
