-- A channel is a fate for each recorded record.
use Rattle.std.proofs.Common.{◌≡◌, ℕ, ◌<◌, ◌≤◌, Bool, true, false, cond, ltb, Option, None, Some, List, length, refl, ap, sym, ◌∙◌, subst, arith, le-ltb}
use Rattle.std.specs.Prelude.{Contains, bytes_eq}
use Rattle.std.proofs.lemmas.Bool.{ltb-true, ltb-false}
use Rattle.std.proofs.lemmas.Slice.Eq.{bytes_eq-Decides}
use Rattle.ts_spec.specs.Recording.{Record}
use Rattle.ts_spec.specs.Received.{record_at, Arrival, arrivals}
use Rattle.channel_spec.specs.Channel.{IsForeign, Channel}
use Rattle.channel_law.specs.Fates.{Fate, kept, damaged, copy, inserted, source, IsSo, HasFates, HasFate, AreFatesOf}

some_one : (a b : ℕ) → ◌≡◌ {A = Option ℕ} (Some a) (Some b) → a ≡ b
some_one a b same = cc (same)

none_some : {X : Type 0} (n : ℕ) → ◌≡◌ {A = Option ℕ} None (Some n) → X
none_some n same = absurd (cc (same))

some_none : {X : Type 0} (n : ℕ) → ◌≡◌ {A = Option ℕ} (Some n) None → X
some_none n same = absurd (cc (same))

-- By fates there is a channel.

module _ (pids : List ℕ) (sent recorded : List Record) (has : HasFates pids sent recorded) where
  abbrev place_kept : Fate → Option ℕ
  place_kept (kept n) = Some n
  place_kept (damaged n) = None
  place_kept (copy i) = None
  place_kept inserted = None

  abbrev place_by : Fate → Option ℕ
  place_by (kept n) = Some n
  place_by (damaged n) = Some n
  place_by (copy i) = place_kept (has.fate i)
  place_by inserted = None

  abbrev first_by : ℕ → Fate → ℕ
  first_by j (kept n) = j
  first_by j (damaged n) = j
  first_by j (copy i) = i
  first_by j inserted = j

  abbrev So : ℕ → Fate → Type 0
  So j f = IsSo pids sent recorded has.fate j f

  -- the kept record that a copy is one of
  original : (i n : ℕ) → i < length recorded → has.fate i ≡ kept n → So i (kept n)
  original i n low is = subst (So i) is (has.is i low)

  within_by : (f : Fate) (j n : ℕ) → j < length recorded → So j f → place_by f ≡ Some n → n < length sent
  within_by (kept m) j n low so is = omega (arith, so.0, some_one m n is)
  within_by (damaged m) j n low so is = omega (arith, so, some_one m n is)
  within_by (copy i) j n low so is =
      let m : ℕ = so.1.0 in
      let there : m ≡ n = some_one m n (sym (ap place_kept so.1.1) ∙ is) in
      omega (arith, (original i m (omega (arith, so.0, low)) so.1.1).0, there)
  within_by inserted j n low so is = none_some n is

  source_by : (f : Fate) (j n : ℕ) → So j f → first_by j f ≡ j → place_by f ≡ Some n → source f ≡ Some n
  source_by (kept m) j n so same is = is
  source_by (damaged m) j n so same is = is
  source_by (copy i) j n so same is = absurd (omega (arith, so.0, same))
  source_by inserted j n so same is = none_some n is

  behind_by : (f : Fate) (j : ℕ) → So j f → first_by j f ≤ j
  behind_by (kept m) j so = omega arith
  behind_by (damaged m) j so = omega arith
  behind_by (copy i) j so = omega (arith, so.0)
  behind_by inserted j so = omega arith

  no_copy_by : (f : Fate) (j : ℕ) → has.fate j ≡ f → So j f → first_by (first_by j f) (has.fate (first_by j f)) ≡ first_by j f
  no_copy_by (kept m) j is so = ap (first_by j) is
  no_copy_by (damaged m) j is so = ap (first_by j) is
  no_copy_by (copy i) j is so = ap (first_by i) so.1.1
  no_copy_by inserted j is so = ap (first_by j) is

  same_place_by : (f : Fate) (j : ℕ) → has.fate j ≡ f → So j f → place_by f ≡ place_by (has.fate (first_by j f))
  same_place_by (kept m) j is so = ap place_by (sym is)
  same_place_by (damaged m) j is so = ap place_by (sym is)
  same_place_by (copy i) j is so = ap place_kept so.1.1 ∙ sym (ap place_by so.1.1)
  same_place_by inserted j is so = ap place_by (sym is)

  kept_by : (f : Fate) (j n : ℕ) → j < length recorded → So j f → first_by j f < j → place_by f ≡ Some n → (record_at recorded (first_by j f)).bytes ≡ (record_at sent n).bytes
  kept_by (kept m) j n low so less is = absurd (omega (arith, less))
  kept_by (damaged m) j n low so less is = absurd (omega (arith, less))
  kept_by (copy i) j n low so less is =
      let m : ℕ = so.1.0 in
      let there : m ≡ n = some_one m n (sym (ap place_kept so.1.1) ∙ is) in
      (original i m (omega (arith, so.0, low)) so.1.1).1 ∙ ap (λ (t : ℕ). (record_at sent t).bytes) there
  kept_by inserted j n low so less is = absurd (omega (arith, less))

  same_by : (f : Fate) (j : ℕ) → So j f → (record_at recorded j).bytes ≡ (record_at recorded (first_by j f)).bytes
  same_by (kept m) j so = refl
  same_by (damaged m) j so = refl
  same_by (copy i) j so = so.2
  same_by inserted j so = refl

  foreign_by : (f : Fate) (j : ℕ) → So j f → place_by f ≡ None → IsForeign pids (record_at recorded j)
  foreign_by (kept m) j so none = some_none m none
  foreign_by (damaged m) j so none = some_none m none
  foreign_by (copy i) j so none = some_none so.1.0 (sym (ap place_kept so.1.1) ∙ none)
  foreign_by inserted j so none = so

  alone_by : (f : Fate) (pid : ℕ) (copied other : Arrival) → has.fate copied.place ≡ f → Contains pids pid → Contains (arrivals pid recorded) copied
      → Contains (arrivals pid recorded) other → first_by copied.place f < other.place → other.place < copied.place → other.bytes ≡ copied.bytes
  alone_by (kept m) pid copied other is read there here above below = absurd (omega (arith, above, below))
  alone_by (damaged m) pid copied other is read there here above below = absurd (omega (arith, above, below))
  alone_by (copy i) pid copied other is read there here above below = has.alone pid i copied other read there here is above below
  alone_by inserted pid copied other is read there here above below = absurd (omega (arith, above, below))

  pub channel_of : Channel pids sent recorded
  channel_of = record {
    place = λ j. place_by (has.fate j);
    first = λ j. first_by j (has.fate j);
    within = λ j n low is. within_by (has.fate j) j n low (has.is j low) is;
    in_order = λ j k m n less low one other is_m is_n.
        has.in_order j k m n less low (source_by (has.fate j) j m (has.is j (omega (arith, less, low))) one is_m) (source_by (has.fate k) k n (has.is k low) other is_n);
    behind = λ j low. behind_by (has.fate j) j (has.is j low);
    no_copy = λ j low. no_copy_by (has.fate j) j refl (has.is j low);
    same_place = λ j low. same_place_by (has.fate j) j refl (has.is j low);
    kept = λ j n low less is. kept_by (has.fate j) j n low (has.is j low) less is;
    same = λ j low. same_by (has.fate j) j (has.is j low);
    alone = λ pid copied other read there here above below. alone_by (has.fate copied.place) pid copied other refl read there here above below;
    foreign = λ j low none. foreign_by (has.fate j) j (has.is j low) none;
  }

  told_by : (f : Fate) (j : ℕ) → has.fate j ≡ f → So j f → HasFate channel_of j f
  unfolding channel_of
  told_by (kept n) j is so = (ap place_by is, ap (first_by j) is)
  told_by (damaged n) j is so = (ap place_by is, ap (first_by j) is)
  told_by (copy i) j is so = (ap (first_by j) is, ap place_by is ∙ ap place_kept so.1.1 ∙ sym (ap place_by so.1.1))
  told_by inserted j is so = ap place_by is

  pub channel_told : AreFatesOf has channel_of
  channel_told j low = told_by (has.fate j) j refl (has.is j low)

-- And in a channel each recorded record has a fate.

module _ (pids : List ℕ) (sent recorded : List Record) (channel : Channel pids sent recorded) where
  abbrev own_fate : ℕ → ℕ → Fate
  own_fate j n = cond {A = Fate} (bytes_eq (record_at recorded j).bytes (record_at sent n).bytes) (kept n) (damaged n)

  abbrev fate_at : ℕ → Option ℕ → Fate
  fate_at j None = inserted
  fate_at j (Some n) = cond {A = Fate} (ltb (channel.first j) j) (copy (channel.first j)) (own_fate j n)

  abbrev fate : ℕ → Fate
  fate j = fate_at j (channel.place j)

  -- a record that is no copy
  own_at : (j n : ℕ) → channel.place j ≡ Some n → j ≤ channel.first j → fate j ≡ own_fate j n
  own_at j n is most =
      ap (fate_at j) is ∙ ap (λ (b : Bool). cond {A = Fate} b (copy (channel.first j)) (own_fate j n)) (le-ltb (channel.first j) j most)

  own_so : (j n : ℕ) → n < length sent → IsSo pids sent recorded fate j (own_fate j n)
  own_so j n low = by_bytes (bytes_eq (record_at recorded j).bytes (record_at sent n).bytes) refl
    where
      by_bytes : (b : Bool) → bytes_eq (record_at recorded j).bytes (record_at sent n).bytes ≡ b → IsSo pids sent recorded fate j (cond {A = Fate} b (kept n) (damaged n))
      by_bytes true is = (low, (bytes_eq-Decides (record_at recorded j).bytes (record_at sent n).bytes).0 is)
      by_bytes false is = low

  is_so : (j : ℕ) → j < length recorded → IsSo pids sent recorded fate j (fate j)
  is_so j low = by_place (channel.place j) refl
    where
      by_place : (o : Option ℕ) → channel.place j ≡ o → IsSo pids sent recorded fate j (fate_at j o)
      by_place None none = channel.foreign j low none
      by_place (Some n) is = by_copy (ltb (channel.first j) j) refl
        where
          by_copy : (b : Bool) → ltb (channel.first j) j ≡ b → IsSo pids sent recorded fate j (cond {A = Fate} b (copy (channel.first j)) (own_fate j n))
          by_copy false test = own_so j n (channel.within j n low is)
          by_copy true test =
              let less : channel.first j < j = ltb-true (channel.first j) j test in
              let there : channel.place (channel.first j) ≡ Some n = sym (channel.same_place j low) ∙ is in
              let still : channel.first (channel.first j) ≡ channel.first j = channel.no_copy j low in
              let same : bytes_eq (record_at recorded (channel.first j)).bytes (record_at sent n).bytes ≡ true
              = (bytes_eq-Decides (record_at recorded (channel.first j)).bytes (record_at sent n).bytes).1 (channel.kept j n low less is) in
              let fate_is : fate (channel.first j) ≡ kept n
              = own_at (channel.first j) n there (omega (arith, still)) ∙ ap (λ (b : Bool). cond {A = Fate} b (kept n) (damaged n)) same in
              (less, (n, fate_is), channel.same j low)

  -- what has a source is no copy
  source_own : (j n : ℕ) → source (own_fate j n) ≡ Some n
  source_own j n = by_bytes (bytes_eq (record_at recorded j).bytes (record_at sent n).bytes)
    where
      by_bytes : (b : Bool) → source (cond {A = Fate} b (kept n) (damaged n)) ≡ Some n
      by_bytes true = refl
      by_bytes false = refl

  sourced : (j m : ℕ) → j < length recorded → source (fate j) ≡ Some m → (channel.first j ≡ j) × (channel.place j ≡ Some m)
  sourced j m low is = by_place (channel.place j) refl is
    where
      by_place : (o : Option ℕ) → channel.place j ≡ o → source (fate_at j o) ≡ Some m → (channel.first j ≡ j) × (channel.place j ≡ Some m)
      by_place None none from = none_some m from
      by_place (Some n) there from = by_copy (ltb (channel.first j) j) refl from
        where
          by_copy : (b : Bool) → ltb (channel.first j) j ≡ b → source (cond {A = Fate} b (copy (channel.first j)) (own_fate j n)) ≡ Some m
              → (channel.first j ≡ j) × (channel.place j ≡ Some m)
          by_copy true test told = none_some m told
          by_copy false test told =
              (omega (arith, channel.behind j low, ltb-false (channel.first j) j test), there ∙ sym (source_own j n) ∙ told)

  copied_from : (j i : ℕ) → fate j ≡ copy i → channel.first j ≡ i
  copied_from j i is = by_place (channel.place j) is
    where
      never : (n : ℕ) (b : Bool) → ◌≡◌ {A = Fate} (cond {A = Fate} b (kept n) (damaged n)) (copy i) → channel.first j ≡ i
      never n true same = absurd (cc (same))
      never n false same = absurd (cc (same))

      by_place : (o : Option ℕ) → fate_at j o ≡ copy i → channel.first j ≡ i
      by_place None same = absurd (cc (same))
      by_place (Some n) same = by_copy (ltb (channel.first j) j) same
        where
          by_copy : (b : Bool) → cond {A = Fate} b (copy (channel.first j)) (own_fate j n) ≡ copy i → channel.first j ≡ i
          by_copy true told = cc (told)
          by_copy false told = never n (bytes_eq (record_at recorded j).bytes (record_at sent n).bytes) told

  pub fates_of : HasFates pids sent recorded
  fates_of = record {
    fate = fate;
    is = is_so;
    in_order = λ j k m n less low one other.
        let first = sourced j m (omega (arith, less, low)) one in
        let second = sourced k n low other in
        channel.in_order j k m n less low first.0 second.0 first.1 second.1;
    alone = λ pid i copied other read there here is above below.
        channel.alone pid copied other read there here (omega (arith, copied_from copied.place i is, above)) below;
  }

  own_told : (j n : ℕ) → channel.place j ≡ Some n → channel.first j ≡ j → HasFate channel j (own_fate j n)
  own_told j n is own = by_bytes (bytes_eq (record_at recorded j).bytes (record_at sent n).bytes)
    where
      by_bytes : (b : Bool) → HasFate channel j (cond {A = Fate} b (kept n) (damaged n))
      by_bytes true = (is, own)
      by_bytes false = (is, own)

  pub fates_told : AreFatesOf fates_of channel
  unfolding fates_of
  fates_told j low = by_place (channel.place j) refl
    where
      by_place : (o : Option ℕ) → channel.place j ≡ o → HasFate channel j (fate_at j o)
      by_place None none = none
      by_place (Some n) is = by_copy (ltb (channel.first j) j) refl
        where
          by_copy : (b : Bool) → ltb (channel.first j) j ≡ b → HasFate channel j (cond {A = Fate} b (copy (channel.first j)) (own_fate j n))
          by_copy true test = (refl, channel.same_place j low)
          by_copy false test = own_told j n is (omega (arith, channel.behind j low, ltb-false (channel.first j) j test))
