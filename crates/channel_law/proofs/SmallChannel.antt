-- A channel through which a small recording came.
use Rattle.std.proofs.Common.{◌≡◌, ◌⊎◌, inl, inr, ℕ, zero, suc, ◌+◌, ◌%◌, ◌^◌, ◌<◌, ◌≤◌, true, Option, None, Some, [], ◌∷◌, refl, ap, sym, ◌∙◌, subst, arith}
use Rattle.std.specs.Prelude.{slice_index, slice_index_or}
use Rattle.std.proofs.lemmas.Bool.{eqb-true}
use Rattle.ts_spec.specs.Packet.{fields_of, is_packet}
use Rattle.ts_spec.specs.Recording.{m2ts}
use Rattle.ts_spec.specs.Received.{record_at, Arrival, is_of, arrivals}
use Rattle.channel_spec.specs.Channel.{IsForeign, Channel}
use Rattle.channel_spec.specs.Stamps.{stamp_of, KeepsStamps}
use Rattle.channel_law.specs.Examples.{small_sent, small_recorded}
use Rattle.channel_law.proofs.Member.{Member, member_contains}
use Rattle.channel_law.proofs.Arrivals.{ArrivesFrom, arrival_record}
use Rattle.channel_law.proofs.SmallStream.{four}

-- each of six cases
six : (P : ℕ → Type 0) → P 0 → P 1 → P 2 → P 3 → P 4 → P 5 → (j : ℕ) → j < 6 → P j
six P a b c d e f zero known = a
six P a b c d e f (suc zero) known = b
six P a b c d e f (suc (suc j)) known = four (λ i. P (suc (suc i))) c d e f j (omega arith)

-- the places of the recorded records among those sent; the fourth was inserted
abbrev pub small_place : ℕ → Option ℕ
small_place j = slice_index_or (Some 1 ∷ Some 2 ∷ Some 1 ∷ None ∷ Some 3 ∷ Some 4 ∷ []) j None

-- the third is a copy of the first
abbrev small_first : ℕ → ℕ
small_first j = slice_index (0 ∷ 1 ∷ 0 ∷ 3 ∷ 4 ∷ 5 ∷ []) j

-- times go on where stamps come to their end
abbrev small_time : ℕ → ℕ
small_time j = 2 ^ 30 + slice_index (4 ∷ 8 ∷ 10 ∷ 11 ∷ 12 ∷ 16 ∷ []) j

-- Facts on each record, by computation.

-- the others are no copies
firsts : (j : ℕ) → j < 6 → (small_first j ≡ j) ⊎ (j ≡ 2)
firsts = six (λ j. (small_first j ≡ j) ⊎ (j ≡ 2)) (inl refl) (inl refl) (inr refl) (inl refl) (inl refl) (inl refl)

-- a place is told once
one_place : (m n : ℕ) → Some m ≡ Some n → m ≡ n
one_place m n same = cc

-- they have these times as moments in what was sent
sent_moments : (j : ℕ) → j < 6 → (n : ℕ) → small_first j ≡ j → small_place j ≡ Some n → (record_at small_sent n).moment ≡ Some (small_time j)
sent_moments =
    six (λ j. (n : ℕ) → small_first j ≡ j → small_place j ≡ Some n → (record_at small_sent n).moment ≡ Some (small_time j))
    (λ n same place. at 1 n refl place) (λ n same place. at 2 n refl place) (λ n same place. absurd (omega (arith, same))) (λ n same place. absurd (cc))
    (λ n same place. at 3 n refl place) (λ n same place. at 4 n refl place)
  where
    at : {time : Option ℕ} (m n : ℕ) → (record_at small_sent m).moment ≡ time → Some m ≡ Some n → (record_at small_sent n).moment ≡ time
    at {time} m n is same = subst (λ (t : ℕ). (record_at small_sent t).moment ≡ time) (one_place m n same) is

-- each record has its time as stamp
stamps_are : (j : ℕ) → j < 6 → stamp_of (record_at small_recorded j) ≡ Some (small_time j % 2 ^ 30)
stamps_are = six (λ j. stamp_of (record_at small_recorded j) ≡ Some (small_time j % 2 ^ 30)) refl refl refl refl refl refl

-- times rise, by little
times_near : (j : ℕ) → j < 5 → (small_time j ≤ small_time (suc j)) × (small_time (suc j) < small_time j + 2 ^ 30)
times_near zero known = (omega arith, omega arith)
times_near (suc j) known =
    four (λ i. (small_time (suc i) ≤ small_time (suc (suc i))) × (small_time (suc (suc i)) < small_time (suc i) + 2 ^ 30)) (omega arith, omega arith) (omega arith, omega arith)
    (omega arith, omega arith) (omega arith, omega arith) j (omega arith)

-- each place is one of five
pub places_below : (j : ℕ) → j < 6 → (n : ℕ) → small_place j ≡ Some n → n < 5
places_below =
    six (λ j. (n : ℕ) → small_place j ≡ Some n → n < 5) (λ n place. omega (arith, one_place 1 n place)) (λ n place. omega (arith, one_place 2 n place))
    (λ n place. omega (arith, one_place 1 n place)) (λ n place. absurd (cc)) (λ n place. omega (arith, one_place 3 n place)) (λ n place. omega (arith, one_place 4 n place))

-- a place by the number of its record, where this is no copy: one less from the fourth record on
places_by_number : (j : ℕ) → j < 6 → (n : ℕ) → small_first j ≡ j → small_place j ≡ Some n → ((j < 2) × (n ≡ j + 1)) ⊎ ((3 < j) × (n + 1 ≡ j))
places_by_number =
    six (λ j. (n : ℕ) → small_first j ≡ j → small_place j ≡ Some n → ((j < 2) × (n ≡ j + 1)) ⊎ ((3 < j) × (n + 1 ≡ j)))
    (λ n same place. inl (omega arith, sym (one_place 1 n place))) (λ n same place. inl (omega arith, sym (one_place 2 n place))) (λ n same place. absurd (omega (arith, same)))
    (λ n same place. absurd (cc)) (λ n same place. inr (omega arith, omega (arith, one_place 3 n place))) (λ n same place. inr (omega arith, omega (arith, one_place 4 n place)))

-- the places of records that are no copies
pub places_rise : (j k m n : ℕ) → j < k → k < 6 → small_first j ≡ j → small_first k ≡ k → small_place j ≡ Some m → small_place k ≡ Some n → m < n
places_rise j k m n less known first_j first_k place_j place_k = by_numbers (places_by_number j (omega (arith, less, known)) m first_j place_j) (places_by_number k known n first_k place_k)
  where
    by_numbers : ((j < 2) × (m ≡ j + 1)) ⊎ ((3 < j) × (m + 1 ≡ j)) → ((k < 2) × (n ≡ k + 1)) ⊎ ((3 < k) × (n + 1 ≡ k)) → m < n
    by_numbers (inl before) (inl behind) = omega (arith, less, before.1, behind.1)
    by_numbers (inl before) (inr behind) = omega (arith, before.0, before.1, behind.0, behind.1)
    by_numbers (inr before) (inl behind) = absurd (omega (arith, less, before.0, behind.0))
    by_numbers (inr before) (inr behind) = omega (arith, less, before.1, behind.1)

-- a copy and what it is a copy of
pub copies : (j : ℕ) → j < 6 → (small_first j ≤ j) × (small_first (small_first j) ≡ small_first j) × (small_place j ≡ small_place (small_first j))
copies =
    six (λ j. (small_first j ≤ j) × (small_first (small_first j) ≡ small_first j) × (small_place j ≡ small_place (small_first j))) (omega arith, refl, refl)
    (omega arith, refl, refl) (omega arith, refl, refl) (omega arith, refl, refl) (omega arith, refl, refl) (omega arith, refl, refl)

-- a copy has the bytes of its first
pub bytes_same : (j : ℕ) → j < 6 → (record_at small_recorded j).bytes ≡ (record_at small_recorded (small_first j)).bytes
bytes_same = six (λ j. (record_at small_recorded j).bytes ≡ (record_at small_recorded (small_first j)).bytes) refl refl refl refl refl refl

-- which was kept
pub bytes_kept : (j n : ℕ) → j < 6 → small_first j < j → small_place j ≡ Some n → (record_at small_recorded (small_first j)).bytes ≡ (record_at small_sent n).bytes
bytes_kept j n known less place = by_first (firsts j known)
  where
    by_first : (small_first j ≡ j) ⊎ (j ≡ 2) → (record_at small_recorded (small_first j)).bytes ≡ (record_at small_sent n).bytes
    by_first (inl same) = absurd (omega (arith, less, same))
    by_first (inr second) =
        let first : small_first j ≡ 0 = ap small_first second in
        let from : 1 ≡ n = one_place 1 n (sym (ap small_place second) ∙ place) in
        ap (λ (t : ℕ). (record_at small_recorded t).bytes) first ∙ ap (λ (t : ℕ). (record_at small_sent t).bytes) from

-- the record between the record and its copy is of another PID
pid_of_copy : (pid : ℕ) → is_of pid (record_at small_recorded 2).bytes ≡ true → pid ≡ 256
unfolding is_packet fields_of
pid_of_copy pid read = sym (eqb-true 256 pid read)

-- which is that of null packets
pid_between : (pid : ℕ) → is_of pid (record_at small_recorded 1).bytes ≡ true → pid ≡ 0x1FFF
unfolding is_packet fields_of
pid_between pid read = sym (eqb-true 0x1FFF pid read)

-- the inserted record gives no packet of the PID that is read
nothing_inserted : arrivals 256 (record_at small_recorded 3 ∷ []) ≡ []
unfolding is_packet fields_of
nothing_inserted = refl

-- so it is foreign
pub inserted : (j : ℕ) → j < 6 → small_place j ≡ None → IsForeign (256 ∷ []) (record_at small_recorded j)
inserted =
    six (λ j. small_place j ≡ None → IsForeign (256 ∷ []) (record_at small_recorded j)) (λ none. absurd (cc)) (λ none. absurd (cc)) (λ none. absurd (cc))
    (λ none pid read. by_pid pid (member_contains (256 ∷ []) pid read)) (λ none. absurd (cc)) (λ none. absurd (cc))
  where
    by_pid : (pid : ℕ) → Member (256 ∷ []) pid → arrivals pid (record_at small_recorded 3 ∷ []) ≡ []
    by_pid pid (inl same) = subst (λ (t : ℕ). arrivals t (record_at small_recorded 3 ∷ []) ≡ []) same nothing_inserted
    by_pid pid (inr never) = absurd never

-- what arrives is read
read_at : (pid j : ℕ) (a : Arrival) → ArrivesFrom pid small_recorded a → a.place ≡ j → is_of pid (record_at small_recorded j).bytes ≡ true
read_at pid j a is same = ap (λ (t : ℕ). is_of pid (record_at small_recorded t).bytes) (sym same) ∙ ap (is_of pid) is.bytes ∙ is.of_pid

-- so no packet of its PID stands between
pub nothing_between : (pid : ℕ) (copy other : Arrival) → ArrivesFrom pid small_recorded copy → ArrivesFrom pid small_recorded other
    → small_first copy.place < other.place → other.place < copy.place → ⊥
nothing_between pid copy other copy_is other_is less below = by_first (firsts copy.place copy_is.within)
  where
    by_first : (small_first copy.place ≡ copy.place) ⊎ (copy.place ≡ 2) → ⊥
    by_first (inl same) = omega (arith, less, below, same)
    by_first (inr second) =
        let first : small_first copy.place ≡ 0 = ap small_first second in
        let between : other.place ≡ 1 = omega (arith, less, below, first, second) in
        omega (arith, pid_of_copy pid (read_at pid 2 copy copy_is second), pid_between pid (read_at pid 1 other other_is between))

-- The channel.

-- the records came through a channel
abbrev pub channel : Channel (256 ∷ []) small_sent small_recorded
channel = record {
  place = small_place;
  first = small_first;
  within = λ j n within place. places_below j within n place;
  in_order = λ j k m n less within same also place_j place_k. places_rise j k m n less within same also place_j place_k;
  behind = λ j within. (copies j within).0;
  no_copy = λ j within. (copies j within).1;
  same_place = λ j within. (copies j within).2;
  kept = λ j n within less place. bytes_kept j n within less place;
  same = bytes_same;
  alone = λ pid copy other read there_copy there less below.
      absurd (nothing_between pid copy other (arrival_record pid small_recorded copy (member_contains (arrivals pid small_recorded) copy there_copy))
      (arrival_record pid small_recorded other (member_contains (arrivals pid small_recorded) other there)) less below);
  foreign = inserted;
}

-- which kept the stamps
pub stamps : KeepsStamps m2ts channel
stamps = record {
  time = small_time;
  no_copy = λ j n within same place. sent_moments j within n same place;
  stamp = stamps_are;
  rises = λ j within. let next : suc j ≡ j + 1 = omega arith in subst (λ (t : ℕ). small_time j ≤ small_time t) next (times_near j (omega arith)).0;
  near = λ j within. let next : suc j ≡ j + 1 = omega arith in subst (λ (t : ℕ). small_time t < small_time j + 2 ^ 30) next (times_near j (omega arith)).1;
}
