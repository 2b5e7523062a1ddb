-- Packets that are received one after another: the first of them is received, and then the others alone.
use Rattle.std.proofs.Common.{◌≡◌, ◌⊎◌, inl, inr, ℕ, zero, suc, ◌+◌, ◌<◌, ◌≤◌, Bool, true, false, cond, Option, None, Some, List, [], ◌∷◌, ◌++◌, length, refl, ap, sym, ◌∙◌, subst, arith, append_assoc}
use Rattle.std.proofs.lemmas.Bool.{cases_lt}
use Rattle.ts_spec.specs.Packet.{PacketFields}
use Rattle.ts_spec.specs.Received.{Arrival, packet_of, repeats, unless_repeated, received_after}
use Rattle.ts_spec.specs.Packetized.{packet_at}
use Rattle.channel_law.proofs.Member.{Member, member_behind}
use Rattle.channel_law.proofs.Candidates.{Agrees}
use Rattle.channel_law.proofs.Arrivals.{Above, above_less, above_member}
use Rattle.channel_law.proofs.Received.{repeated_same, received_arrived}

-- an item of another place stands after the first
not_first : (b a : Arrival) (xs : List Arrival) → b.place < a.place → Member (b ∷ xs) a → Member xs a
not_first b a xs less (inl same) = absurd (omega (arith, ap (λ (t : Arrival). t.place) same))
not_first b a xs less (inr behind) = behind

-- Arrivals of the packets from one to a last one, none equal to the next.
module _ (packets : List PacketFields) (arrived : ℕ → Arrival) (first last : ℕ)
    (rise : (i k : ℕ) → first ≤ i → i < k → k ≤ last → (arrived i).place < (arrived k).place)
    (packet : (i : ℕ) → first ≤ i → i ≤ last → packet_of (arrived i) ≡ packet_at packets i)
    (within : last < length packets)
    (differs_next : (i : ℕ) → first ≤ i → i + 1 ≤ last → (arrived i).bytes ≡ (arrived (i + 1)).bytes → ⊥) where
  -- a later one has no lower place
  no_lower : (i k : ℕ) → first ≤ i → i ≤ k → k ≤ last → (arrived i).place ≤ (arrived k).place
  no_lower i k from order to = by_order (cases_lt i k)
    where
      by_order : (i < k) ⊎ (k ≤ i) → (arrived i).place ≤ (arrived k).place
      by_order (inl less) = omega (arith, rise i k from less to)
      by_order (inr back) =
          let same : i ≡ k = omega arith in
          omega (arith, ap (λ (t : ℕ). (arrived t).place) same)

  -- none has a place between those of two neighbours
  none_between : (m i : ℕ) → first ≤ m → m + 1 ≤ last → first ≤ i → i ≤ last → (arrived m).place < (arrived i).place → (arrived i).place < (arrived (m + 1)).place → ⊥
  none_between m i from_m to_m from to above below = by_order (cases_lt m i)
    where
      by_order : (m < i) ⊎ (i ≤ m) → ⊥
      by_order (inr up_to) = omega (arith, above, no_lower i m from up_to (omega arith))
      by_order (inl later) = omega (arith, below, no_lower (m + 1) i (omega arith) (omega arith) to)

  -- what is received before the last of them is one of them
  abbrev pub OnlyThese : List Arrival → Type 0
  OnlyThese received = (x : Arrival) → Member received x → x.place < (arrived last).place → (i : ℕ) × (first ≤ i) × (i ≤ last) × (x.place ≡ (arrived i).place)

  -- those after packet m stand in a list
  abbrev pub AreIn : ℕ → List Arrival → Type 0
  AreIn m xs = (i : ℕ) → m < i → i ≤ last → Member xs (arrived i)

  -- the packets after packet m are received one after another
  pub row : (xs : List Arrival) (d m : ℕ) → first ≤ m → m + d ≡ last → Above ((arrived m).place + 1) xs → AreIn m xs
      → OnlyThese (received_after (Some (arrived m).bytes) xs) → Agrees packets d m (received_after (Some (arrived m).bytes) xs)
  row xs zero m from end above here only = tt
  row [] (suc d) m from end above here only = absurd (here (m + 1) (omega arith) (omega arith))
  row (b ∷ xs) (suc d) m from end above here only =
      by_test (repeats (Some (arrived m).bytes) b.bytes) refl (here (m + 1) (omega arith) (omega arith)) only (row xs (suc d) m) (row xs d (m + 1))
    where
      -- the arrival stands before the next packet, and is a duplicate
      skipped : Member xs (arrived (m + 1)) → (arrived m).bytes ≡ b.bytes → OnlyThese (received_after (Some b.bytes) xs)
          → (first ≤ m → m + suc d ≡ last → Above ((arrived m).place + 1) xs → AreIn m xs → OnlyThese (received_after (Some (arrived m).bytes) xs)
          → Agrees packets (suc d) m (received_after (Some (arrived m).bytes) xs))
          → Agrees packets (suc d) m (received_after (Some b.bytes) xs)
      skipped behind equal received later =
          subst (λ (t : List ℕ). Agrees packets (suc d) m (received_after (Some t) xs)) equal
          (later from end (above_less ((arrived m).place + 1) (b.place + 1) xs (omega (arith, above.0)) above.1)
          (λ i more to. not_first b (arrived i) xs
          (omega (arith, above_member (b.place + 1) xs (arrived (m + 1)) above.1 behind, no_lower (m + 1) i (omega arith) (omega arith) to)) (here i more to))
          (subst (λ (t : List ℕ). OnlyThese (received_after (Some t) xs)) (sym equal) received))

      -- the arrival is the next packet
      taken : b ≡ arrived (m + 1) → OnlyThese (b ∷ received_after (Some b.bytes) xs)
          → (first ≤ m + 1 → m + 1 + d ≡ last → Above ((arrived (m + 1)).place + 1) xs → AreIn (m + 1) xs → OnlyThese (received_after (Some (arrived (m + 1)).bytes) xs)
          → Agrees packets d (m + 1) (received_after (Some (arrived (m + 1)).bytes) xs))
          → Agrees packets (suc d) m (b ∷ received_after (Some b.bytes) xs)
      taken same received next =
          let bytes : b.bytes ≡ (arrived (m + 1)).bytes = ap (λ (t : Arrival). t.bytes) same in
          let place : b.place ≡ (arrived (m + 1)).place = ap (λ (t : Arrival). t.place) same in (
            ap packet_of same ∙ packet (m + 1) (omega arith) (omega arith),
            omega (arith, within),
            subst (λ (t : List ℕ). Agrees packets d (m + 1) (received_after (Some t) xs)) (sym bytes)
                (next (omega arith) (omega arith) (subst (λ (t : ℕ). Above (t + 1) xs) place above.1)
                (λ i more to. not_first b (arrived i) xs (omega (arith, place, rise (m + 1) i (omega arith) more to)) (here i (omega arith) to))
                (subst (λ (t : List ℕ). OnlyThese (received_after (Some t) xs)) bytes (λ x there below. received x (inr there) below))),
          )

      -- no other arrival is received before the next packet
      no_other : Member xs (arrived (m + 1)) → OnlyThese (b ∷ received_after (Some b.bytes) xs) → ⊥
      no_other behind received = by_found (received b (inl refl) (omega (arith, less, no_lower (m + 1) last (omega arith) (omega arith) (omega arith))))
        where
          less : b.place < (arrived (m + 1)).place
          less = omega (arith, above_member (b.place + 1) xs (arrived (m + 1)) above.1 behind)

          by_found : ((i : ℕ) × (first ≤ i) × (i ≤ last) × (b.place ≡ (arrived i).place)) → ⊥
          by_found found = none_between m found.0 from (omega arith) found.1 found.2 (omega (arith, found.3, above.0)) (omega (arith, found.3, less))

      by_test : (t : Bool) → repeats (Some (arrived m).bytes) b.bytes ≡ t → Member (b ∷ xs) (arrived (m + 1))
          → OnlyThese (cond t [] (b ∷ []) ++ received_after (Some b.bytes) xs)
          → (first ≤ m → m + suc d ≡ last → Above ((arrived m).place + 1) xs → AreIn m xs → OnlyThese (received_after (Some (arrived m).bytes) xs)
          → Agrees packets (suc d) m (received_after (Some (arrived m).bytes) xs))
          → (first ≤ m + 1 → m + 1 + d ≡ last → Above ((arrived (m + 1)).place + 1) xs → AreIn (m + 1) xs → OnlyThese (received_after (Some (arrived (m + 1)).bytes) xs)
          → Agrees packets d (m + 1) (received_after (Some (arrived (m + 1)).bytes) xs))
          → Agrees packets (suc d) m (cond t [] (b ∷ []) ++ received_after (Some b.bytes) xs)
      by_test true test (inl same) received later next =
          absurd (differs_next m from (omega arith) (repeated_same (arrived m).bytes b.bytes test ∙ ap (λ (t : Arrival). t.bytes) same))
      by_test true test (inr behind) received later next = skipped behind (repeated_same (arrived m).bytes b.bytes test) received later
      by_test false test (inr behind) received later next = absurd (no_other behind received)
      by_test false test (inl same) received later next = taken same received next

  -- The first of them.

  -- the bytes are those of the packet received last before some arrivals, of all that are received
  abbrev pub LastReceived : List Arrival → Option (List ℕ) → List Arrival → Type 0
  LastReceived all None xs = (x : Arrival) → Member all x → Member (received_after None xs) x
  LastReceived all (Some bytes) xs =
      (x : Arrival) × (bytes ≡ x.bytes) × Member all x × Above (x.place + 1) xs
      × ((other : Arrival) → Member all other → (other.place ≤ x.place) ⊎ Member (received_after (Some bytes) xs) other)

  -- the first of them is received, and the others arrive after it
  pub record Found (before : Option (List ℕ)) (xs : List Arrival) : Type 0 where
    pub front : List Arrival
    pub rest : List Arrival
    pub split : received_after before xs ≡ front ++ arrived first ∷ received_after (Some (arrived first).bytes) rest
    pub above : Above ((arrived first).place + 1) rest
    pub here : AreIn first rest

  -- with one arrival more in front
  found_later : (before : Option (List ℕ)) (a : Arrival) (xs : List Arrival) → Found (Some a.bytes) xs → Found before (a ∷ xs)
  found_later before a xs found = record {
    front = unless_repeated before a ++ found.front;
    rest = found.rest;
    split =
        ap (λ (t : List Arrival). unless_repeated before a ++ t) found.split
        ∙ sym (append_assoc (unless_repeated before a) found.front (arrived first ∷ received_after (Some (arrived first).bytes) found.rest));
    above = found.above;
    here = found.here;
  }

  -- the packet received last, one arrival later
  last_later : (all : List Arrival) (before : Option (List ℕ)) (a : Arrival) (xs : List Arrival) (j : ℕ) → Above j (a ∷ xs) → LastReceived all before (a ∷ xs)
      → ((x : Arrival) → Member (received_after before (a ∷ xs)) x → Member all x) → LastReceived all (Some a.bytes) xs
  last_later all None a xs j above last_one all_of_them = (a, refl, all_of_them a (inl refl), above.1, λ x there. by_part x (last_one x there))
    where
      by_part : (x : Arrival) → Member (a ∷ received_after (Some a.bytes) xs) x → (x.place ≤ a.place) ⊎ Member (received_after (Some a.bytes) xs) x
      by_part x (inl same) = inl (omega (arith, ap (λ (t : Arrival). t.place) same))
      by_part x (inr behind) = inr behind
  last_later all (Some bytes) a xs j above last_one all_of_them = by_test (repeats (Some bytes) a.bytes) refl last_one.4 all_of_them
    where
      by_test : (b : Bool) → repeats (Some bytes) a.bytes ≡ b
          → ((x : Arrival) → Member all x → (x.place ≤ last_one.0.place) ⊎ Member (cond b [] (a ∷ []) ++ received_after (Some a.bytes) xs) x)
          → ((x : Arrival) → Member (cond b [] (a ∷ []) ++ received_after (Some a.bytes) xs) x → Member all x)
          → LastReceived all (Some a.bytes) xs
      by_test true test others received =
          let same : bytes ≡ a.bytes = repeated_same bytes a.bytes test in
          (last_one.0, sym same ∙ last_one.1, last_one.2, above_less (last_one.0.place + 1) (a.place + 1) xs (omega (arith, last_one.3.0)) above.1, others)
      by_test false test others received = (a, refl, received a (inl refl), above.1, λ x there. by_part x (others x there))
        where
          by_part : (x : Arrival) → (x.place ≤ last_one.0.place) ⊎ Member (a ∷ received_after (Some a.bytes) xs) x → (x.place ≤ a.place) ⊎ Member (received_after (Some a.bytes) xs) x
          by_part x (inl up_to) = inl (omega (arith, up_to, last_one.3.0))
          by_part x (inr (inl same)) = inl (omega (arith, ap (λ (t : Arrival). t.place) same))
          by_part x (inr (inr behind)) = inr behind

  -- it differs from the packet received last before it, of all that are received
  abbrev pub Differs : List Arrival → Type 0
  Differs all =
      (x : Arrival) → Member all x → x.place < (arrived first).place
      → ((other : Arrival) → Member all other → other.place < (arrived first).place → other.place ≤ x.place) → x.bytes ≡ (arrived first).bytes → ⊥

  -- so it is received
  pub find : (all : List Arrival) → Differs all → (before : Option (List ℕ)) (xs : List Arrival) (j : ℕ) → Above j xs → first ≤ last
      → ((i : ℕ) → first ≤ i → i ≤ last → Member xs (arrived i)) → LastReceived all before xs
      → ((x : Arrival) → Member (received_after before xs) x → Member all x) → Found before xs
  find all differs before [] j above order here last_one all_of_them = absurd (here first (omega arith) order)
  find all differs before (a ∷ xs) j above order here last_one all_of_them =
      by_first (here first (omega arith) order) (find all differs (Some a.bytes) xs (a.place + 1) above.1 order)
    where
      no_duplicate : (b : Option (List ℕ)) → LastReceived all b (a ∷ xs) → a ≡ arrived first → repeats b a.bytes ≡ true → ⊥
      no_duplicate None last_before same test = cc
      no_duplicate (Some bytes) last_before same test =
          let place : a.place ≡ (arrived first).place = ap (λ (t : Arrival). t.place) same in
          differs last_before.0 last_before.2 (omega (arith, last_before.3.0, place))
          (λ x there less. by_part x (omega (arith, less, place)) (last_before.4 x there))
          (sym last_before.1 ∙ repeated_same bytes a.bytes test ∙ ap (λ (t : Arrival). t.bytes) same)
        where
          by_part : (x : Arrival) → x.place < a.place → (x.place ≤ last_before.0.place) ⊎ Member (received_after (Some bytes) (a ∷ xs)) x → x.place ≤ last_before.0.place
          by_part x less (inl up_to) = up_to
          by_part x less (inr there) =
              absurd (omega (arith, less, above_member a.place (a ∷ xs) x (omega arith, above.1) (received_arrived (Some bytes) (a ∷ xs) x there)))

      at_first : (b : Bool) → repeats before a.bytes ≡ b → a ≡ arrived first → Found before (a ∷ xs)
      at_first true test same = absurd (no_duplicate before last_one same test)
      at_first false test same = record {
        front = [];
        rest = xs;
        split =
            ap (λ (b : Bool). cond b [] (a ∷ []) ++ received_after (Some a.bytes) xs) test
            ∙ ap (λ (t : Arrival). t ∷ received_after (Some t.bytes) xs) same;
        above = subst (λ (t : Arrival). Above (t.place + 1) xs) same above.1;
        here = λ i more to. not_first a (arrived i) xs (omega (arith, ap (λ (t : Arrival). t.place) same, rise first i (omega arith) more to)) (here i (omega arith) to);
      }

      by_first : Member (a ∷ xs) (arrived first)
          → (((i : ℕ) → first ≤ i → i ≤ last → Member xs (arrived i)) → LastReceived all (Some a.bytes) xs
          → ((x : Arrival) → Member (received_after (Some a.bytes) xs) x → Member all x) → Found (Some a.bytes) xs)
          → Found before (a ∷ xs)
      by_first (inl same) later = at_first (repeats before a.bytes) refl same
      by_first (inr behind) later =
          found_later before a xs
          (later (λ i from to. not_first a (arrived i) xs (omega (arith, above_member (a.place + 1) xs (arrived first) above.1 behind, no_lower first i (omega arith) from to)) (here i from to))
          (last_later all before a xs j above last_one all_of_them)
          (λ x there. all_of_them x (member_behind (unless_repeated before a) (received_after (Some a.bytes) xs) x there)))
