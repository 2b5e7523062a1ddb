-- The packets of a sliced service go out in its windows, in order and each once.
use Rattle.std.proofs.Common.{◌≡◌, ◌⊎◌, inl, inr, ℕ, zero, suc, ◌+◌, ◌-◌, ◌*◌, ◌/◌, ◌%◌, ◌<◌, ◌≤◌, min, Bool, true, false, cond, eqb, ltb, leb, List, [], ◌∷◌, ◌++◌, length, map, take, filter_map, find, sum, refl, sym, ap, ap₂, ◌∙◌, arith, append-nil, Option, Some, None}
use Rattle.std.specs.Prelude.{slice_index}
use Rattle.std.specs.List.{range_with_len}
use Rattle.std.specs.Option.{unwrap_or, option_or}
use Rattle.std.proofs.lemmas.List.{take_all}
use Rattle.std.proofs.lemmas.List.Sums.{sum_by-cons}
use Rattle.std.proofs.lemmas.List.FromFn.{map-range_with_len_more}
use Rattle.std.proofs.lemmas.List.Elements.{filter_map-append}
use Rattle.std.proofs.lemmas.Nat.{div-mul-add, mod-mul-add, div-add-mod'}
use Rattle.std.proofs.Math.Nat.{add-mul, mod-lt}
use Rattle.stream_spec.specs.Slots.{Slot, of_table, of_service, Turns, has_left, next_service, asked, turns_at, slot_of_service, slot_at}
use Rattle.slice_spec.specs.Windows.{OwnedWindow, owner_of}
use Rattle.stream_spec.specs.Windows.{out_before, of_owner, sliced_at, kept_for_bursts}
use Rattle.slice_law.specs.Kept.{number_of}

found : (p : ℕ → Bool) (xs : List ℕ) (k : ℕ) → find p xs ≡ Some k → p k ≡ true
found p [] k e = absurd (cc)
found p (x ∷ xs) k e = by_first (p x) refl e (found p xs k)
  where
    by_first : (first : Bool) → p x ≡ first → cond first (Some x) (find p xs) ≡ Some k → (find p xs ≡ Some k → p k ≡ true) → p k ≡ true
    by_first true is e2 later = let same : x ≡ k = cc in ap p (sym same) ∙ is
    by_first false is e2 later = later e2

pub out_more : (sizes : List ℕ) (c : ℕ) → out_before sizes (suc c) ≡ out_before sizes c + slice_index sizes c
out_more [] zero = refl
out_more [] (suc c) = refl
out_more (x ∷ xs) zero = refl
out_more (x ∷ xs) (suc c) =
    omega (arith, sum_by-cons (λ (n : ℕ). n) x (take (suc c) xs), sum_by-cons (λ (n : ℕ). n) x (take c xs), out_more xs c)

-- one number more
range_snoc : (a n j : ℕ) → j ≡ a + n → range_with_len a n ++ j ∷ [] ≡ range_with_len a (suc n)
range_snoc a zero j e = let same : j ≡ a = omega (arith, e) in ap (λ (i : ℕ). i ∷ []) same
range_snoc a (suc n) j e = ap (λ (l : List ℕ). a ∷ l) (range_snoc (a + 1) n j (omega (arith, e)))

-- A sliced service k has this window, no burst is longer than it, and none of its packets go out in rotation.
pub record IsWindowed (cycle table : ℕ) (windows : List OwnedWindow) (sizes : ℕ → List ℕ) (packets : List ℕ) (k start size : ℕ) : Type 0 where
  pub after_table : table ≤ start
  pub inside : start + size ≤ cycle
  pub some : 0 < cycle
  pub owned : (o n : ℕ) → start + n ≡ o → n < size → owner_of windows o ≡ Some (k, n)
  pub owner : (o n : ℕ) → owner_of windows o ≡ Some (k, n) → (start + n ≡ o) × (n < size)
  pub fits : (c : ℕ) → slice_index (sizes k) c ≤ size
  pub no_turns : slice_index packets k ≡ 0

module _ (cycle table : ℕ) (windows : List OwnedWindow) (sizes : ℕ → List ℕ) (packets : List ℕ) (k start size : ℕ) (is : IsWindowed cycle table windows sizes packets k start size) where
  abbrev pub kept : ℕ → Option Slot
  kept s = kept_for_bursts cycle table windows sizes s

  abbrev held : ℕ → ℕ
  held c = slice_index (sizes k) c

  ltb_false : (a b : ℕ) → b ≤ a → ltb a b ≡ false
  ltb_false a b le = grind (arith, le)

  ltb_true : (a b : ℕ) → a < b → ltb a b ≡ true
  ltb_true a b less = grind (arith, less)

  true_ltb : (a b : ℕ) → ltb a b ≡ true → a < b
  true_ltb a b e = grind (arith, e)

  -- packet n of the burst stands at place n of the window
  pub kept_there : (s n : ℕ) → start + n ≡ s % cycle → n < held (s / cycle) → kept s ≡ Some (of_service k (out_before (sizes k) (s / cycle) + n))
  kept_there s n place below =
      ap (λ (b : Bool). option_or (cond b (Some (of_table (s % cycle))) None) (sliced_at cycle windows sizes s)) (ltb_false (s % cycle) table (omega (arith, is.after_table, place)))
      ∙ ap (λ (o : Option (ℕ × ℕ)). of_owner sizes (s / cycle) o) (is.owned (s % cycle) n place (omega (arith, is.fits (s / cycle), below)))
      ∙ ap (λ (b : Bool). cond b (Some (of_service k (out_before (sizes k) (s / cycle) + n))) None) (ltb_true n (held (s / cycle)) below)

  -- a service that has its turn is another one
  no_turn : (t : Turns) → number_of k (slot_of_service t (next_service packets t)) ≡ None
  no_turn t = by_turn (next_service packets t) refl
    where
      by_same : (j : ℕ) → next_service packets t ≡ Some j → (same : Bool) → eqb j k ≡ same → cond same (Some (slice_index t.sent j)) None ≡ None
      by_same j e false e2 = refl
      by_same j e true e2 =
          let one : j ≡ k = grind (arith, e2) in
          let left : slice_index t.sent j < slice_index packets j = true_ltb (slice_index t.sent j) (slice_index packets j) (found (has_left packets t.sent) (asked (length packets) t.first) j e) in
          let none : slice_index packets j ≡ 0 = ap (λ (i : ℕ). slice_index packets i) one ∙ is.no_turns in
          absurd (omega (arith, left, none))

      by_turn : (next : Option ℕ) → next_service packets t ≡ next → number_of k (slot_of_service t next) ≡ None
      by_turn None e = refl
      by_turn (Some j) e = by_same j e (eqb j k) refl

  abbrev pub slot : ℕ → Slot
  slot s = slot_at kept packets s

  -- a slot before or after the burst carries none of its packets
  no_number : (s : ℕ) → ((n : ℕ) → start + n ≡ s % cycle → n < size → held (s / cycle) ≤ n) → number_of k (slot s) ≡ None
  no_number s apart = by_table (ltb (s % cycle) table) (owner_of windows (s % cycle)) refl
    where
      turns : Turns
      turns = turns_at kept packets s

      by_same : (j n : ℕ) → owner_of windows (s % cycle) ≡ Some (j, n) → (more : Bool) → ltb n (slice_index (sizes j) (s / cycle)) ≡ more → (same : Bool) → eqb j k ≡ same
          → number_of k (unwrap_or (cond more (Some (of_service j (out_before (sizes j) (s / cycle) + n))) None) (slot_of_service turns (next_service packets turns))) ≡ None
      by_same j n e false e2 same e3 = no_turn turns
      by_same j n e true e2 false e3 = ap (λ (b : Bool). cond b (Some (out_before (sizes j) (s / cycle) + n)) None) e3
      by_same j n e true e2 true e3 =
          let one : j ≡ k = grind (arith, e3) in
          let mine : (start + n ≡ s % cycle) × (n < size) = is.owner (s % cycle) n (e ∙ ap (λ (i : ℕ). Some (i, n)) one) in
          let below : n < slice_index (sizes j) (s / cycle) = true_ltb n (slice_index (sizes j) (s / cycle)) e2 in
          let of_k : slice_index (sizes j) (s / cycle) ≡ held (s / cycle) = ap (λ (i : ℕ). slice_index (sizes i) (s / cycle)) one in
          absurd (omega (arith, below, of_k, apart n mine.0 mine.1))

      by_table : (in_table : Bool) (owner : Option (ℕ × ℕ)) → owner_of windows (s % cycle) ≡ owner
          → number_of k (unwrap_or (option_or (cond in_table (Some (of_table (s % cycle))) None) (of_owner sizes (s / cycle) owner)) (slot_of_service turns (next_service packets turns))) ≡ None
      by_table true owner e = refl
      by_table false None e = no_turn turns
      by_table false (Some owner) e = by_same owner.0 owner.1 e (ltb owner.1 (slice_index (sizes owner.0) (s / cycle))) refl (eqb owner.0 k) refl

  yes_number : (s n : ℕ) → start + n ≡ s % cycle → n < held (s / cycle) → number_of k (slot s) ≡ Some (out_before (sizes k) (s / cycle) + n)
  yes_number s n place below =
      let turns : Turns = turns_at kept packets s in
      ap (λ (o : Option Slot). number_of k (unwrap_or o (slot_of_service turns (next_service packets turns)))) (kept_there s n place below)
      ∙ self (eqb k k) (grind arith)
    where
      self : (same : Bool) → same ≡ true → cond same (Some (out_before (sizes k) (s / cycle) + n)) None ≡ Some (out_before (sizes k) (s / cycle) + n)
      self same e = ap (λ (b : Bool). cond b (Some (out_before (sizes k) (s / cycle) + n)) None) e

  -- how many packets are out before slot s
  abbrev pub out_by : ℕ → ℕ
  out_by s = out_before (sizes k) (s / cycle) + min (held (s / cycle)) (s % cycle - start)

  next_slot : (s : ℕ) → ((suc s / cycle ≡ s / cycle) × (suc s % cycle ≡ suc (s % cycle))) ⊎ ((suc s / cycle ≡ suc (s / cycle)) × (suc s % cycle ≡ 0) × (suc (s % cycle) ≡ cycle))
  next_slot s = by_end (ltb (suc (s % cycle)) cycle) refl
    where
      whole : s ≡ s / cycle * cycle + s % cycle
      whole = sym (div-add-mod' s cycle)

      below : s % cycle < cycle
      below = mod-lt s {m = cycle} is.some

      by_end : (within : Bool) → ltb (suc (s % cycle)) cycle ≡ within
          → ((suc s / cycle ≡ s / cycle) × (suc s % cycle ≡ suc (s % cycle))) ⊎ ((suc s / cycle ≡ suc (s / cycle)) × (suc s % cycle ≡ 0) × (suc (s % cycle) ≡ cycle))
      by_end true e =
          let less : suc (s % cycle) < cycle = true_ltb (suc (s % cycle)) cycle e in
          let at : suc s ≡ s / cycle * cycle + suc (s % cycle) = omega (arith, whole) in
          inl (ap (λ (n : ℕ). n / cycle) at ∙ div-mul-add (s / cycle) cycle (suc (s % cycle)) less, ap (λ (n : ℕ). n % cycle) at ∙ mod-mul-add (s / cycle) cycle (suc (s % cycle)) less)
      by_end false e =
          let last : suc (s % cycle) ≡ cycle = omega (arith, below, not_below (suc (s % cycle)) cycle e) in
          let one : 1 * cycle ≡ cycle = omega arith in
          let two : suc (s / cycle) ≡ s / cycle + 1 = omega arith in
          let rows : suc (s / cycle) * cycle ≡ s / cycle * cycle + cycle = ap (λ (n : ℕ). n * cycle) two ∙ add-mul (s / cycle) 1 cycle ∙ ap (λ (n : ℕ). s / cycle * cycle + n) one in
          let at : suc s ≡ suc (s / cycle) * cycle + 0 = omega (arith, whole, last, rows) in
          inr (ap (λ (n : ℕ). n / cycle) at ∙ div-mul-add (suc (s / cycle)) cycle 0 is.some, ap (λ (n : ℕ). n % cycle) at ∙ mod-mul-add (suc (s / cycle)) cycle 0 is.some, last)
        where
          not_below : (a b : ℕ) → ltb a b ≡ false → b ≤ a
          not_below a b e2 = grind (arith, e2)

  -- from slot to slot one more, where the slot is of the burst
  out_next : (s : ℕ) → out_by (suc s) ≡ out_before (sizes k) (s / cycle) + min (held (s / cycle)) (suc (s % cycle) - start)
  out_next s = by_next (next_slot s)
    where
      by_next : ((suc s / cycle ≡ s / cycle) × (suc s % cycle ≡ suc (s % cycle))) ⊎ ((suc s / cycle ≡ suc (s / cycle)) × (suc s % cycle ≡ 0) × (suc (s % cycle) ≡ cycle))
          → out_by (suc s) ≡ out_before (sizes k) (s / cycle) + min (held (s / cycle)) (suc (s % cycle) - start)
      by_next (inl same) = ap₂ (λ (c o : ℕ). out_before (sizes k) c + min (held c) (o - start)) same.0 same.1
      by_next (inr next) =
          ap₂ (λ (c o : ℕ). out_before (sizes k) c + min (held c) (o - start)) next.0 next.1
          ∙ last (out_before (sizes k) (suc (s / cycle))) (out_before (sizes k) (s / cycle)) (held (s / cycle)) (held (suc (s / cycle))) (suc (s % cycle)) (out_more (sizes k) (s / cycle)) (is.fits (s / cycle)) next.2
        where
          last : (a b h g o : ℕ) → a ≡ b + h → h ≤ size → o ≡ cycle → a + min g (0 - start) ≡ b + min h (o - start)
          last a b h g o e fits e2 = omega (arith, e, fits, e2, is.inside)

  abbrev pub out : ℕ → List ℕ
  out s = filter_map (number_of k) (map slot (range_with_len 0 s))

  pub more : (s : ℕ) → out (suc s) ≡ out s ++ filter_map (number_of k) (slot s ∷ [])
  more s =
      let next : suc s ≡ s + 1 = omega arith in
      ap out next ∙ ap (filter_map (number_of k)) (map-range_with_len_more slot 0 s s (omega arith))
      ∙ filter_map-append (number_of k) (map slot (range_with_len 0 s)) (slot s ∷ [])

  pub out_is : (s : ℕ) → out s ≡ range_with_len 0 (out_by s)
  out_is zero = sym (ap (range_with_len 0) none)
    where
      none : out_by 0 ≡ 0
      none =
          let first : 0 ≡ 0 * cycle + 0 = omega arith in
          let c : 0 / cycle ≡ 0 = ap (λ (n : ℕ). n / cycle) first ∙ div-mul-add 0 cycle 0 is.some in
          let o : 0 % cycle ≡ 0 = ap (λ (n : ℕ). n % cycle) first ∙ mod-mul-add 0 cycle 0 is.some in
          ap₂ (λ (c2 o2 : ℕ). out_before (sizes k) c2 + min (held c2) (o2 - start)) c o ∙ nothing (held 0)
        where
          nothing : (h : ℕ) → 0 + min h (0 - start) ≡ 0
          nothing h = omega arith
  out_is (suc s) = more s ∙ by_place (leb start (s % cycle)) refl (ltb (s % cycle - start) (held (s / cycle))) refl (out_is s)
    where
      b : ℕ
      b = out_before (sizes k) (s / cycle)

      numbered : (n : Option ℕ) → number_of k (slot s) ≡ n → out s ++ filter_map (number_of k) (slot s ∷ []) ≡ out s ++ filter_map (λ (o : Option ℕ). o) (n ∷ [])
      numbered n e = ap (λ (o : Option ℕ). out s ++ filter_map (λ (p : Option ℕ). p) (o ∷ [])) e

      stays : number_of k (slot s) ≡ None → out_by (suc s) ≡ out_by s → out s ≡ range_with_len 0 (out_by s) → out s ++ filter_map (number_of k) (slot s ∷ []) ≡ range_with_len 0 (out_by (suc s))
      stays none same so_far = numbered None none ∙ append-nil (out s) ∙ so_far ∙ ap (range_with_len 0) (sym same)

      by_place : (behind : Bool) → leb start (s % cycle) ≡ behind → (held_is : Bool) → ltb (s % cycle - start) (held (s / cycle)) ≡ held_is → out s ≡ range_with_len 0 (out_by s)
          → out s ++ filter_map (number_of k) (slot s ∷ []) ≡ range_with_len 0 (out_by (suc s))
      by_place true e true e2 so_far =
          let from : start ≤ s % cycle = leb_le start (s % cycle) e in
          let below : s % cycle - start < held (s / cycle) = true_ltb (s % cycle - start) (held (s / cycle)) e2 in
          let now : out_by s ≡ b + (s % cycle - start) = here (held (s / cycle)) (s % cycle - start) below in
          let then : out_by (suc s) ≡ suc (out_by s) = out_next s ∙ there (held (s / cycle)) (s % cycle) from below in
          numbered (Some (b + (s % cycle - start))) (yes_number s (s % cycle - start) (omega (arith, from)) below)
          ∙ ap (λ (l : List ℕ). l ++ (b + (s % cycle - start)) ∷ []) so_far
          ∙ range_snoc 0 (out_by s) (b + (s % cycle - start)) (omega (arith, now))
          ∙ ap (range_with_len 0) (sym then)
        where
          leb_le : (m n : ℕ) → leb m n ≡ true → m ≤ n
          leb_le m n e3 = grind (arith, e3)

          here : (h d : ℕ) → d < h → b + min h d ≡ b + d
          here h d less = omega (arith, less)

          there : (h o : ℕ) → start ≤ o → o - start < h → b + min h (suc o - start) ≡ suc (b + min h (o - start))
          there h o from2 less = omega (arith, from2, less)
      by_place true e false e2 so_far =
          let over : held (s / cycle) ≤ s % cycle - start = not_below (s % cycle - start) (held (s / cycle)) e2 in
          stays (no_number s (λ n place less. omega (arith, place, over))) (out_next s ∙ full (held (s / cycle)) (s % cycle) over) so_far
        where
          not_below : (m n : ℕ) → ltb m n ≡ false → n ≤ m
          not_below m n e3 = grind (arith, e3)

          full : (h o : ℕ) → h ≤ o - start → b + min h (suc o - start) ≡ b + min h (o - start)
          full h o over = omega (arith, over)
      by_place false e held_is e2 so_far =
          let before : s % cycle < start = not_le start (s % cycle) e in
          stays (no_number s (λ n place less. absurd (omega (arith, place, before)))) (out_next s ∙ early (held (s / cycle)) (s % cycle) before) so_far
        where
          not_le : (m n : ℕ) → leb m n ≡ false → n < m
          not_le m n e3 = grind (arith, e3)

          early : (h o : ℕ) → o < start → b + min h (suc o - start) ≡ b + min h (o - start)
          early h o less = omega (arith, less)

  -- at the end of a cycle after all bursts
  pub all_out : (c : ℕ) → length (sizes k) ≤ c → out (c * cycle) ≡ range_with_len 0 (sum (sizes k))
  all_out c over = out_is (c * cycle) ∙ ap (range_with_len 0) whole
    where
      whole : out_by (c * cycle) ≡ sum (sizes k)
      whole =
          let first : c * cycle ≡ c * cycle + 0 = omega arith in
          let q : c * cycle / cycle ≡ c = ap (λ (n : ℕ). n / cycle) first ∙ div-mul-add c cycle 0 is.some in
          let r : c * cycle % cycle ≡ 0 = ap (λ (n : ℕ). n % cycle) first ∙ mod-mul-add c cycle 0 is.some in
          ap₂ (λ (c2 o2 : ℕ). out_before (sizes k) c2 + min (held c2) (o2 - start)) q r ∙ nothing (held c) (out_before (sizes k) c) ∙ ap sum (take_all c (sizes k) over)
        where
          nothing : (h b : ℕ) → b + min h (0 - start) ≡ b
          nothing h b = omega arith
