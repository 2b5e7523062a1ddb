-- The received packets of some arrivals, and their places in what was sent.
use Rattle.std.proofs.Common.{◌≡◌, ◌⊎◌, inl, inr, ℕ, ◌+◌, ◌<◌, ◌≤◌, Bool, true, false, cond, Option, Some, List, [], ◌∷◌, ◌++◌, refl, ap, sym, subst, arith}
use Rattle.std.proofs.lemmas.Bool.{cases_lt}
use Rattle.std.proofs.lemmas.Slice.Eq.{bytes_eq-Decides}
use Rattle.ts_spec.specs.Received.{Arrival, repeats, unless_repeated, received_after}
use Rattle.channel_law.proofs.Member.{Member, member_parted}
use Rattle.channel_law.proofs.Arrivals.{Above, above_member}

-- a duplicate has the bytes of the packet before
pub repeated_same : (before bytes : List ℕ) → repeats (Some before) bytes ≡ true → before ≡ bytes
repeated_same before bytes test = (bytes_eq-Decides before bytes).0 test

-- what is received of one arrival is that arrival, which is no duplicate
pub received_one : (before : Option (List ℕ)) (a x : Arrival) → Member (unless_repeated before a) x → (a ≡ x) × (repeats before a.bytes ≡ false)
received_one before a x there = by_test (repeats before a.bytes) refl there
  where
    by_test : (b : Bool) → repeats before a.bytes ≡ b → Member (cond b [] (a ∷ [])) x → (a ≡ x) × (repeats before a.bytes ≡ false)
    by_test true test given = absurd given
    by_test false test (inl same) = (same, test)
    by_test false test (inr never) = absurd never

-- a received packet arrived
pub received_arrived : (before : Option (List ℕ)) (xs : List Arrival) (x : Arrival) → Member (received_after before xs) x → Member xs x
received_arrived before [] x there = absurd there
received_arrived before (a ∷ xs) x there =
    by_part (received_arrived (Some a.bytes) xs x) (member_parted (unless_repeated before a) (received_after (Some a.bytes) xs) x there)
  where
    by_part : (Member (received_after (Some a.bytes) xs) x → Member xs x) → Member (unless_repeated before a) x ⊎ Member (received_after (Some a.bytes) xs) x → Member (a ∷ xs) x
    by_part later (inl here) = inl (received_one before a x here).0
    by_part later (inr behind) = inr (later behind)

-- Copies.

-- between a record and its copy only such copies arrive
abbrev pub AreAlone : (ℕ → ℕ) → List Arrival → Type 0
AreAlone first xs = (copy other : Arrival) → Member xs copy → Member xs other → first copy.place ≤ other.place → other.place < copy.place → other.bytes ≡ copy.bytes

-- so it is without the first arrival
alone_later : (first : ℕ → ℕ) (x : Arrival) (xs : List Arrival) → AreAlone first (x ∷ xs) → AreAlone first xs
alone_later first x xs alone copy other there_copy there = alone copy other (inr there_copy) (inr there)

-- a packet received after an arrival is no copy of a record up to it
copies_behind : (first : ℕ → ℕ) (b : Arrival) (xs : List Arrival) → AreAlone first (b ∷ xs) → Above (b.place + 1) xs
    → (x : Arrival) → Member (received_after (Some b.bytes) xs) x → b.place < first x.place
copies_behind first b [] alone above x there = absurd there
copies_behind first b (a ∷ xs) alone above x there =
    by_part (copies_behind first a xs (alone_later first b (a ∷ xs) alone) above.1 x) (member_parted (unless_repeated (Some b.bytes) a) (received_after (Some a.bytes) xs) x there)
  where
    -- a copy would equal the arrival, and be a duplicate
    no_copy : (first x.place ≤ b.place) → (a ≡ x) × (repeats (Some b.bytes) a.bytes ≡ false) → ⊥
    no_copy up_to one =
        let same : b.bytes ≡ a.bytes = alone a b (inr (inl refl)) (inl refl) (subst (λ (t : Arrival). first t.place ≤ b.place) (sym one.0) up_to) (omega (arith, above.0)) in
        let equal : repeats (Some b.bytes) a.bytes ≡ true = (bytes_eq-Decides b.bytes a.bytes).1 same in
        cc (one.1)

    by_part : (Member (received_after (Some a.bytes) xs) x → a.place < first x.place) → Member (unless_repeated (Some b.bytes) a) x ⊎ Member (received_after (Some a.bytes) xs) x
        → b.place < first x.place
    by_part later (inr behind) = omega (arith, later behind, above.0)
    by_part later (inl here) = by_order (cases_lt b.place (first x.place))
      where
        by_order : (b.place < first x.place) ⊎ (first x.place ≤ b.place) → b.place < first x.place
        by_order (inl less) = less
        by_order (inr up_to) = absurd (no_copy up_to (received_one (Some b.bytes) a x here))

-- a received packet is no copy of a record that stands up to an arrival before it
pub no_copy_of_arrival : (first : ℕ → ℕ) (before : Option (List ℕ)) (j : ℕ) (xs : List Arrival) → AreAlone first xs → Above j xs
    → (b x : Arrival) → Member xs b → Member (received_after before xs) x → b.place < x.place → b.place < first x.place
no_copy_of_arrival first before j [] alone above b x there received less = absurd there
no_copy_of_arrival first before j (a ∷ xs) alone above b x there received less =
    by_part (no_copy_of_arrival first (Some a.bytes) (a.place + 1) xs (alone_later first a xs alone) above.1 b x) there
    (member_parted (unless_repeated before a) (received_after (Some a.bytes) xs) x received)
  where
    later_than : a.place ≤ b.place → Member (unless_repeated before a) x ⊎ Member (received_after (Some a.bytes) xs) x → Member (received_after (Some a.bytes) xs) x
    later_than up_to (inl here) = absurd (omega (arith, less, up_to, ap (λ (t : Arrival). t.place) (received_one before a x here).0))
    later_than up_to (inr behind) = behind

    by_part : (Member xs b → Member (received_after (Some a.bytes) xs) x → b.place < x.place → b.place < first x.place)
        → Member (a ∷ xs) b → Member (unless_repeated before a) x ⊎ Member (received_after (Some a.bytes) xs) x → b.place < first x.place
    by_part later (inl same) parted =
        let place : a.place ≡ b.place = ap (λ (t : Arrival). t.place) same in
        omega (arith, place, copies_behind first a xs alone above.1 x (later_than (omega (arith, place)) parted))
    by_part later (inr behind) parted = later behind (later_than (omega (arith, above_member (a.place + 1) xs b above.1 behind)) parted) less

-- Places in what was sent.

-- a later one has a later place there, where it is no copy of a record up to the earlier one
abbrev pub Orders : (ℕ → ℕ) → (ℕ → ℕ) → List Arrival → Type 0
Orders first place xs = (x y : Arrival) → Member xs x → Member xs y → x.place < y.place → x.place < first y.place → place x.place < place y.place

-- so it is without the first arrival
orders_later : (first place : ℕ → ℕ) (x : Arrival) (xs : List Arrival) → Orders first place (x ∷ xs) → Orders first place xs
orders_later first place x xs orders a b there_a there_b = orders a b (inr there_a) (inr there_b)

-- later ones have later places there
abbrev pub InOrder : (ℕ → ℕ) → List Arrival → Type 0
InOrder place [] = Unit {0}
InOrder place (x ∷ xs) = ((y : Arrival) → Member xs y → place x.place < place y.place) × InOrder place xs

-- received packets are in the order in which they were sent, each once
pub received_in_order : (first place : ℕ → ℕ) (before : Option (List ℕ)) (j : ℕ) (xs : List Arrival) → AreAlone first xs → Orders first place xs → Above j xs
    → InOrder place (received_after before xs)
received_in_order first place before j [] alone orders above = tt
received_in_order first place before j (a ∷ xs) alone orders above =
    by_test (repeats before a.bytes)
    (received_in_order first place (Some a.bytes) (a.place + 1) xs (alone_later first a xs alone) (orders_later first place a xs orders) above.1)
  where
    by_test : (b : Bool) → InOrder place (received_after (Some a.bytes) xs) → InOrder place (cond b [] (a ∷ []) ++ received_after (Some a.bytes) xs)
    by_test true rest = rest
    by_test false rest = (
      λ y there.
          let arrived : Member xs y = received_arrived (Some a.bytes) xs y there in
          orders a y (inl refl) (inr arrived) (omega (arith, above_member (a.place + 1) xs y above.1 arrived)) (copies_behind first a xs alone above.1 y there),
      rest,
    )
