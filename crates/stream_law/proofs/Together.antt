-- Two packetizations, the second after the first: together they are one.
use Rattle.std.proofs.Common.{◌≡◌, ◌⊎◌, inl, inr, ℕ, ◌+◌, ◌-◌, ◌<◌, ◌≤◌, Bool, true, false, cond, ltb, List, [], ◌++◌, length, take, drop, refl, sym, ap, ap₂, subst, ◌∙◌, arith, length-take, length-drop}
use Rattle.std.proofs.lemmas.Bool.{cases_lt}
use Rattle.std.proofs.lemmas.List.{length-append, take-append-le, drop-append-le, get_or_append_left, get_or-append-add}
use Rattle.std.proofs.Math.Seq.{drop-append-add}
use Rattle.unit_stream.proofs.Numbers.{ltb_true, ltb_false}
use Rattle.ts_spec.specs.Form.{UnitForm, IsLawful, IsUnit}
use Rattle.ts_spec.specs.Packet.{PacketFields, continues, pointer}
use Rattle.ts_spec.specs.Packetized.{packet_at, unit_at, joined_payloads, edge, IsIn, IsStuffed, IsFirstIn, Packetizes}
use Rattle.channel_spec.specs.Carried.{HoldsPart}
use Rattle.stream_law.proofs.Places.{size, joined_both, edge_low, edge_most, edge_high, edge_high_next, length-both, packet_low, packet_high, in_both, in_first, behind_in, in_behind, not_behind, not_first, stuffed_low, stuffed_high}

module _ (form : UnitForm) (lawful : IsLawful form) (us vs : List (List ℕ)) (ps qs : List PacketFields) (b c : ℕ → ℕ) (first : Packetizes form us ps b) (second : Packetizes form vs qs c)
    (goes_on : 1 ≤ length ps → 1 ≤ length qs → continues (packet_at ps (length ps - 1)) (packet_at qs 0) ≡ true) where
  abbrev known : ℕ
  known = length us

  abbrev begin : ℕ → ℕ
  begin n = cond (ltb n known) (b n) (size ps qs + c (n - known))

  begin_low : (n : ℕ) → n < known → begin n ≡ b n
  begin_low n less = let is : ltb n known ≡ true = ltb_true n known less in ap (λ (t : Bool). cond t (b n) (size ps qs + c (n - known))) is

  begin_high : (n j : ℕ) → n ≡ known + j → begin n ≡ size ps qs + c j
  begin_high n j e =
      let is : ltb n known ≡ false = ltb_false n known (omega (arith, e)) in
      let behind : n - known ≡ j = omega (arith, e) in
      ap (λ (t : Bool). cond t (b n) (size ps qs + c (n - known))) is ∙ ap (λ (k : ℕ). size ps qs + c k) behind

  begin_edge : (n : ℕ) → n ≤ known → begin n ≡ b n
  begin_edge n le = by_place (cases_lt n known)
    where
      by_place : (n < known) ⊎ (known ≤ n) → begin n ≡ b n
      by_place (inl less) = begin_low n less
      by_place (inr more) =
          let at_end : n ≡ known = omega (arith, le, more) in
          begin_high n 0 (omega (arith, at_end)) ∙ omega (arith, second.from_zero, first.to_end, ap b at_end)

  unit_low : (n : ℕ) → n < known → unit_at (us ++ vs) n ≡ unit_at us n
  unit_low n less = get_or_append_left us vs [] n less

  unit_high : (n j : ℕ) → n ≡ known + j → unit_at (us ++ vs) n ≡ unit_at vs j
  unit_high n j e = ap (unit_at (us ++ vs)) e ∙ get_or-append-add us vs j []

  -- the units of the first end within them
  unit_within : (n : ℕ) → n < known → b n + length (unit_at us n) ≤ size ps qs
  unit_within n less =
      let some : 1 ≤ length (unit_at us n) = omega (arith, lawful.start_least, lawful.whole_least (unit_at us n) (length (unit_at us n)) (first.each n less).size) in
      let taken : length (take (length (unit_at us n)) (drop (b n) (joined_payloads ps))) ≡ length (unit_at us n) = ap length (first.bytes n less) in
      omega (arith, some, taken, length-take (length (unit_at us n)) (drop (b n) (joined_payloads ps)), length-drop (b n) (joined_payloads ps))

  begin_within : (n : ℕ) → n < known → b n < size ps qs
  begin_within n less =
      omega (arith, unit_within n less, lawful.start_least, lawful.whole_least (unit_at us n) (length (unit_at us n)) (first.each n less).size)

  length-units : length (us ++ vs) ≡ known + length vs
  length-units = length-append us vs

  each : (n : ℕ) → n < length (us ++ vs) → IsUnit form (unit_at (us ++ vs) n)
  each n less = by_place (cases_lt n known)
    where
      by_place : (n < known) ⊎ (known ≤ n) → IsUnit form (unit_at (us ++ vs) n)
      by_place (inl low) = subst (IsUnit form) (sym (unit_low n low)) (first.each n low)
      by_place (inr high) = subst (IsUnit form) (sym (unit_high n (n - known) (omega (arith, high)))) (second.each (n - known) (omega (arith, less, high, length-units)))

  continuous : (m : ℕ) → m + 1 < length (ps ++ qs) → continues (packet_at (ps ++ qs) m) (packet_at (ps ++ qs) (m + 1)) ≡ true
  continuous m less = by_place (cases_lt (m + 1) (length ps)) (cases_lt m (length ps))
    where
      by_place : (m + 1 < length ps) ⊎ (length ps ≤ m + 1) → (m < length ps) ⊎ (length ps ≤ m) → continues (packet_at (ps ++ qs) m) (packet_at (ps ++ qs) (m + 1)) ≡ true
      by_place (inl low) at = ap₂ continues (packet_low ps qs m (omega (arith, low))) (packet_low ps qs (m + 1) low) ∙ first.continuous m low
      by_place (inr high) (inl low) =
          let last : m ≡ length ps - 1 = omega (arith, high, low) in
          let next : m + 1 ≡ length ps + 0 = omega (arith, high, low) in
          ap₂ continues (packet_low ps qs m low ∙ ap (packet_at ps) last) (ap (packet_at (ps ++ qs)) next ∙ packet_high ps qs 0)
          ∙ goes_on (omega (arith, low)) (omega (arith, less, length-both ps qs, high, low))
      by_place (inr high) (inr behind) =
          let here : m ≡ length ps + (m - length ps) = omega (arith, behind) in
          let next : m + 1 ≡ length ps + (m - length ps + 1) = omega (arith, behind) in
          ap₂ continues (ap (packet_at (ps ++ qs)) here ∙ packet_high ps qs (m - length ps)) (ap (packet_at (ps ++ qs)) next ∙ packet_high ps qs (m - length ps + 1))
          ∙ second.continuous (m - length ps) (omega (arith, less, length-both ps qs, behind))

  bytes : (n : ℕ) → n < length (us ++ vs) → take (length (unit_at (us ++ vs) n)) (drop (begin n) (joined_payloads (ps ++ qs))) ≡ unit_at (us ++ vs) n
  bytes n less = by_place (cases_lt n known)
    where
      by_place : (n < known) ⊎ (known ≤ n) → take (length (unit_at (us ++ vs) n)) (drop (begin n) (joined_payloads (ps ++ qs))) ≡ unit_at (us ++ vs) n
      by_place (inl low) =
          ap₂ (λ (u : List ℕ) (at : ℕ). take (length u) (drop at (joined_payloads (ps ++ qs)))) (unit_low n low) (begin_low n low)
          ∙ ap (λ (t : List ℕ). take (length (unit_at us n)) (drop (b n) t)) (joined_both ps qs)
          ∙ ap (take (length (unit_at us n))) (drop-append-le (b n) (joined_payloads ps) (joined_payloads qs) (omega (arith, begin_within n low)))
          ∙ take-append-le (length (unit_at us n)) (drop (b n) (joined_payloads ps)) (joined_payloads qs) (omega (arith, unit_within n low, length-drop (b n) (joined_payloads ps)))
          ∙ first.bytes n low ∙ sym (unit_low n low)
      by_place (inr high) =
          ap₂ (λ (u : List ℕ) (at : ℕ). take (length u) (drop at (joined_payloads (ps ++ qs)))) (unit_high n (n - known) (omega (arith, high))) (begin_high n (n - known) (omega (arith, high)))
          ∙ ap (λ (t : List ℕ). take (length (unit_at vs (n - known))) (drop (size ps qs + c (n - known)) t)) (joined_both ps qs)
          ∙ ap (take (length (unit_at vs (n - known)))) (drop-append-add (joined_payloads ps) (joined_payloads qs) (c (n - known)))
          ∙ second.bytes (n - known) (omega (arith, less, high, length-units)) ∙ sym (unit_high n (n - known) (omega (arith, high)))

  next : (n : ℕ) → n < length (us ++ vs)
      → (begin (n + 1) ≡ begin n + length (unit_at (us ++ vs) n)) ⊎ IsStuffed (ps ++ qs) (begin n + length (unit_at (us ++ vs) n)) (begin (n + 1))
  next n less = by_place (cases_lt n known)
    where
      Follows : ℕ → ℕ → Type 0
      Follows end after = (after ≡ end) ⊎ IsStuffed (ps ++ qs) end after

      low_follows : (end after : ℕ) → (after ≡ end) ⊎ IsStuffed ps end after → (after ≡ end) ⊎ IsStuffed (ps ++ qs) end after
      low_follows end after (inl e) = inl e
      low_follows end after (inr it) = inr (stuffed_low ps qs end after it)

      high_follows : (at length_of after : ℕ) → (after ≡ at + length_of) ⊎ IsStuffed qs (at + length_of) after
          → (size ps qs + after ≡ size ps qs + at + length_of) ⊎ IsStuffed (ps ++ qs) (size ps qs + at + length_of) (size ps qs + after)
      high_follows at length_of after (inl e) = inl (omega (arith, e))
      high_follows at length_of after (inr it) =
          let same : size ps qs + (at + length_of) ≡ size ps qs + at + length_of = omega arith in
          inr (subst (λ (end : ℕ). IsStuffed (ps ++ qs) end (size ps qs + after)) same (stuffed_high ps qs (at + length_of) after it))

      as_begun : (n2 after place : ℕ) (unit : List ℕ) → begin (n + 1) ≡ after → begin n ≡ place → unit_at (us ++ vs) n ≡ unit
          → (after ≡ place + length unit) ⊎ IsStuffed (ps ++ qs) (place + length unit) after
          → (begin (n + 1) ≡ begin n + length (unit_at (us ++ vs) n)) ⊎ IsStuffed (ps ++ qs) (begin n + length (unit_at (us ++ vs) n)) (begin (n + 1))
      as_begun n2 after place unit e1 e2 e3 it = rw (e1, e2, e3) it

      by_place : (n < known) ⊎ (known ≤ n)
          → (begin (n + 1) ≡ begin n + length (unit_at (us ++ vs) n)) ⊎ IsStuffed (ps ++ qs) (begin n + length (unit_at (us ++ vs) n)) (begin (n + 1))
      by_place (inl low) =
          as_begun n (b (n + 1)) (b n) (unit_at us n) (begin_edge (n + 1) (omega (arith, low))) (begin_low n low) (unit_low n low)
          (low_follows (b n + length (unit_at us n)) (b (n + 1)) (first.next n low))
      by_place (inr high) =
          as_begun n (size ps qs + c (n - known + 1)) (size ps qs + c (n - known)) (unit_at vs (n - known))
          (begin_high (n + 1) (n - known + 1) (omega (arith, high))) (begin_high n (n - known) (omega (arith, high))) (unit_high n (n - known) (omega (arith, high)))
          (high_follows (c (n - known)) (length (unit_at vs (n - known))) (c (n - known + 1)) (second.next (n - known) (omega (arith, less, high, length-units))))

  to_end : begin (length (us ++ vs)) ≡ length (joined_payloads (ps ++ qs))
  to_end =
      begin_high (length (us ++ vs)) (length vs) length-units
      ∙ omega (arith, second.to_end, ap length (joined_both ps qs), length-append (joined_payloads ps) (joined_payloads qs))

  -- each place of a unit, by which of the two it belongs to
  starts : (m n : ℕ) → n < length (us ++ vs) → IsIn (ps ++ qs) m (begin n) → (packet_at (ps ++ qs) m).starts ≡ true
  starts m n less here = by_place (cases_lt n known) (cases_lt m (length ps))
    where
      by_place : (n < known) ⊎ (known ≤ n) → (m < length ps) ⊎ (length ps ≤ m) → (packet_at (ps ++ qs) m).starts ≡ true
      by_place (inl low) (inl front) =
          ap (λ (p : PacketFields). p.starts) (packet_low ps qs m front)
          ∙ first.starts m n low (in_first ps qs m (b n) front (subst (λ (at : ℕ). IsIn (ps ++ qs) m at) (begin_low n low) here))
      by_place (inl low) (inr behind) =
          let at : m ≡ length ps + (m - length ps) = omega (arith, behind) in
          absurd (not_behind ps qs (m - length ps) (b n) (begin_within n low) (subst (λ (i : ℕ). IsIn (ps ++ qs) i (b n)) at (subst (λ (place : ℕ). IsIn (ps ++ qs) m place) (begin_low n low) here)))
      by_place (inr high) (inl front) =
          absurd (not_first ps qs m (begin n) front (omega (arith, begin_high n (n - known) (omega (arith, high)))) here)
      by_place (inr high) (inr behind) =
          let at : m ≡ length ps + (m - length ps) = omega (arith, behind) in
          ap (λ (i : ℕ). (packet_at (ps ++ qs) i).starts) at ∙ ap (λ (p : PacketFields). p.starts) (packet_high ps qs (m - length ps))
          ∙ second.starts (m - length ps) (n - known) (omega (arith, less, high, length-units))
          (in_behind ps qs (m - length ps) (c (n - known)) (begin n) (begin_high n (n - known) (omega (arith, high))) (subst (λ (i : ℕ). IsIn (ps ++ qs) i (begin n)) at here))

  enough : (m n : ℕ) → n < length (us ++ vs) → IsIn (ps ++ qs) m (begin n) → begin n + form.start ≤ edge (ps ++ qs) (m + 1)
  enough m n less here = by_place (cases_lt n known) (cases_lt m (length ps))
    where
      by_place : (n < known) ⊎ (known ≤ n) → (m < length ps) ⊎ (length ps ≤ m) → begin n + form.start ≤ edge (ps ++ qs) (m + 1)
      by_place (inl low) (inl front) =
          omega (
            arith,
            begin_low n low,
            edge_low ps qs (m + 1) (omega (arith, front)),
            first.enough m n low (in_first ps qs m (b n) front (subst (λ (at : ℕ). IsIn (ps ++ qs) m at) (begin_low n low) here)),
          )
      by_place (inl low) (inr behind) =
          let at : m ≡ length ps + (m - length ps) = omega (arith, behind) in
          absurd (not_behind ps qs (m - length ps) (b n) (begin_within n low) (subst (λ (i : ℕ). IsIn (ps ++ qs) i (b n)) at (subst (λ (place : ℕ). IsIn (ps ++ qs) m place) (begin_low n low) here)))
      by_place (inr high) (inl front) =
          absurd (not_first ps qs m (begin n) front (omega (arith, begin_high n (n - known) (omega (arith, high)))) here)
      by_place (inr high) (inr behind) =
          let at : m ≡ length ps + (m - length ps) = omega (arith, behind) in
          let after : m + 1 ≡ length ps + (m - length ps) + 1 = omega (arith, behind) in
          omega (
            arith,
            begin_high n (n - known) (omega (arith, high)),
            ap (edge (ps ++ qs)) after,
            edge_high_next ps qs (m - length ps),
            second.enough (m - length ps) (n - known) (omega (arith, less, high, length-units))
                (in_behind ps qs (m - length ps) (c (n - known)) (begin n) (begin_high n (n - known) (omega (arith, high))) (subst (λ (i : ℕ). IsIn (ps ++ qs) i (begin n)) at here)),
          )

  pointed : (m : ℕ) → m < length (ps ++ qs) → (packet_at (ps ++ qs) m).starts ≡ true
      → (n : ℕ) × IsFirstIn (us ++ vs) (ps ++ qs) begin m n × (edge (ps ++ qs) m + pointer (packet_at (ps ++ qs) m) ≡ begin n)
  pointed m less set = by_place (cases_lt m (length ps))
    where
      of_first : (front : m < length ps) → (n : ℕ) → IsFirstIn us ps b m n → edge ps m + pointer (packet_at ps m) ≡ b n
          → (k : ℕ) → k < length (us ++ vs) → IsIn (ps ++ qs) m (begin k) → (k < known) ⊎ (known ≤ k) → begin n ≤ begin k
      of_first front n it e k less2 here (inl low) =
          omega (
            arith,
            begin_low n it.unit,
            begin_low k low,
            it.first k low (in_first ps qs m (b k) front (subst (λ (at : ℕ). IsIn (ps ++ qs) m at) (begin_low k low) here)),
          )
      of_first front n it e k less2 here (inr high) =
          absurd (not_first ps qs m (begin k) front (omega (arith, begin_high k (k - known) (omega (arith, high)))) here)

      of_second : (i n : ℕ) → m ≡ length ps + i → IsFirstIn vs qs c i n
          → (k : ℕ) → k < length (us ++ vs) → IsIn (ps ++ qs) m (begin k) → (k < known) ⊎ (known ≤ k) → begin (known + n) ≤ begin k
      of_second i n at it k less2 here (inl low) =
          absurd (not_behind ps qs i (b k) (begin_within k low) (subst (λ (j : ℕ). IsIn (ps ++ qs) j (b k)) at (subst (λ (place : ℕ). IsIn (ps ++ qs) m place) (begin_low k low) here)))
      of_second i n at it k less2 here (inr high) =
          omega (
            arith,
            begin_high (known + n) n refl,
            begin_high k (k - known) (omega (arith, high)),
            it.first (k - known) (omega (arith, less2, high, length-units))
                (in_behind ps qs i (c (k - known)) (begin k) (begin_high k (k - known) (omega (arith, high))) (subst (λ (j : ℕ). IsIn (ps ++ qs) j (begin k)) at here)),
          )

      by_place : (m < length ps) ⊎ (length ps ≤ m) → (n : ℕ) × IsFirstIn (us ++ vs) (ps ++ qs) begin m n × (edge (ps ++ qs) m + pointer (packet_at (ps ++ qs) m) ≡ begin n)
      by_place (inl front) = found (first.pointed m front (ap (λ (p : PacketFields). p.starts) (sym (packet_low ps qs m front)) ∙ set))
        where
          found : (n : ℕ) × IsFirstIn us ps b m n × (edge ps m + pointer (packet_at ps m) ≡ b n)
              → (n : ℕ) × IsFirstIn (us ++ vs) (ps ++ qs) begin m n × (edge (ps ++ qs) m + pointer (packet_at (ps ++ qs) m) ≡ begin n)
          found (n, it, e) = (
            n,
            record {
              unit = omega (arith, it.unit, length-units);
              starts = subst (λ (at : ℕ). IsIn (ps ++ qs) m at) (sym (begin_low n it.unit)) (in_both ps qs m (b n) it.starts);
              first = λ k less2 here. of_first front n it e k less2 here (cases_lt k known);
            },
            omega (arith, begin_low n it.unit, e, edge_low ps qs m (omega (arith, front)), ap (λ (p : PacketFields). pointer p) (packet_low ps qs m front)),
          )
      by_place (inr behind) =
          let at : m ≡ length ps + (m - length ps) = omega (arith, behind) in
          found (m - length ps) at
          (second.pointed (m - length ps) (omega (arith, less, behind, length-both ps qs))
          (ap (λ (p : PacketFields). p.starts) (sym (packet_high ps qs (m - length ps))) ∙ ap (λ (i : ℕ). (packet_at (ps ++ qs) i).starts) (sym at) ∙ set))
        where
          found : (i : ℕ) → m ≡ length ps + i → (n : ℕ) × IsFirstIn vs qs c i n × (edge qs i + pointer (packet_at qs i) ≡ c n)
              → (n : ℕ) × IsFirstIn (us ++ vs) (ps ++ qs) begin m n × (edge (ps ++ qs) m + pointer (packet_at (ps ++ qs) m) ≡ begin n)
          found i at (n, it, e) = (
            known + n,
            record {
              unit = omega (arith, it.unit, length-units);
              starts = subst (λ (j : ℕ). IsIn (ps ++ qs) j (begin (known + n))) (sym at) (behind_in ps qs i (c n) (begin (known + n)) (begin_high (known + n) n refl) it.starts);
              first = λ k less2 here. of_second i n at it k less2 here (cases_lt k known);
            },
            omega (
              arith,
              begin_high (known + n) n refl,
              e,
              ap (edge (ps ++ qs)) at,
              edge_high ps qs i,
              ap (λ (j : ℕ). pointer (packet_at (ps ++ qs) j)) at,
              ap (λ (p : PacketFields). pointer p) (packet_high ps qs i),
            ),
          )

  pub appended : (begins : ℕ → ℕ) × Packetizes form (us ++ vs) (ps ++ qs) begins
  appended = (
    begin,
    record {
      each = each;
      continuous = continuous;
      from_zero = begin_edge 0 (omega arith) ∙ first.from_zero;
      bytes = bytes;
      next = next;
      to_end = to_end;
      starts = starts;
      pointed = pointed;
      enough = enough;
    },
  )

  -- a unit begins in the packet in which it begins in its own list
  pub begun_first : (n m : ℕ) → n < length us → IsIn ps m (b n) → IsIn (ps ++ qs) m (appended.0 n)
  unfolding appended
  begun_first n m less here = subst (IsIn (ps ++ qs) m) (sym (begin_low n less)) (in_both ps qs m (b n) here)

  pub begun_behind : (n j m : ℕ) → n ≡ length us + j → IsIn qs m (c j) → IsIn (ps ++ qs) (length ps + m) (appended.0 n)
  unfolding appended
  begun_behind n j m e here = behind_in ps qs m (c j) (begin n) (begin_high n j e) here

  -- a packet that holds a part of a unit of the first is one of theirs, and one that holds a part of another unit is behind them
  pub held : (n m : ℕ) → n < length (us ++ vs) → HoldsPart (us ++ vs) (ps ++ qs) appended.0 n m
      → ((n < length us) × (m < length ps)) ⊎ ((length us ≤ n) × (length ps ≤ m) × HoldsPart vs qs c (n - length us) (m - length ps))
  unfolding appended
  held n m less part = by_place (cases_lt n (length us)) (cases_lt m (length ps))
    where
      by_place : (n < length us) ⊎ (length us ≤ n) → (m < length ps) ⊎ (length ps ≤ m)
          → ((n < length us) × (m < length ps)) ⊎ ((length us ≤ n) × (length ps ≤ m) × HoldsPart vs qs c (n - length us) (m - length ps))
      by_place (inl low) (inl front) = inl (low, front)
      by_place (inl low) (inr behind) =
          let at : m ≡ length ps + (m - length ps) = omega (arith, behind) in
          absurd (omega (
            arith,
            part.not_over,
            begin_low n low,
            ap (λ (u : List ℕ). length u) (unit_low n low),
            unit_within n low,
            ap (edge (ps ++ qs)) at,
            edge_high ps qs (m - length ps),
          ))
      by_place (inr high) (inl front) =
          absurd (omega (arith, part.begun, begin_high n (n - known) (omega (arith, high)), edge_low ps qs (m + 1) (omega (arith, front)), edge_most ps qs (m + 1)))
      by_place (inr high) (inr behind) =
          let at : m ≡ length ps + (m - length ps) = omega (arith, behind) in
          let after : m + 1 ≡ length ps + (m - length ps) + 1 = omega (arith, behind) in
          inr (
            high,
            behind,
            record {
              within = omega (arith, part.within, length-both ps qs, behind);
              begun = omega (arith, part.begun, begin_high n (n - known) (omega (arith, high)), ap (edge (ps ++ qs)) after, edge_high_next ps qs (m - length ps));
              not_over = omega (
                arith,
                part.not_over,
                begin_high n (n - known) (omega (arith, high)),
                ap (λ (u : List ℕ). length u) (unit_high n (n - known) (omega (arith, high))),
                ap (edge (ps ++ qs)) at,
                edge_high ps qs (m - length ps),
              );
            },
          )
