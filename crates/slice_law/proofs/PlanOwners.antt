-- Windows of a plan: no slot is in two, and each slot of one is its service's.
use Rattle.std.proofs.Common.{◌≡◌, ℕ, zero, suc, ◌+◌, ◌<◌, ◌≤◌, Bool, true, false, ◌&&◌, ◌||◌, ltb, get_or, List, [], ◌∷◌, length, filter_map, refl, sym, ap, ap₂, ◌∙◌, arith, Option, Some, None}
use Rattle.std.specs.List.{slice_get, cons_option, list_any}
use Rattle.plan_spec.specs.Plan.{KindFields, mpe, PlanFields, kinds, SlicedFields, sliced_of}
use Rattle.plan_spec.specs.Checks.{has_pair, overlaps}
use Rattle.plan_spec.specs.Valid.{is_plan}
use Rattle.stream_spec.specs.Services.{kind_at}
use Rattle.slice_spec.specs.Windows.{OwnedWindow, has_slot, owner_of, AreApart}
use Rattle.slice_law.proofs.Owners.{slot_is, owner_has, has_owner}
use Rattle.stream_spec.specs.Windows.{owned, windows_from, windows_of}
use Rattle.slice_law.proofs.Checks.{neither, none_overlap}

abbrev meets : OwnedWindow → OwnedWindow → Bool
meets a b = ltb a.start (b.start + b.length) && ltb b.start (a.start + a.length)

meet_where : (a b : OwnedWindow) (o : ℕ) → has_slot a o ≡ true → has_slot b o ≡ true → meets a b ≡ true
meet_where a b o e e2 =
    by_tests (ltb a.start (b.start + b.length)) refl (ltb b.start (a.start + a.length)) refl (slot_is a o e) (slot_is b o e2)
  where
    by_tests : (x : Bool) → ltb a.start (b.start + b.length) ≡ x → (y : Bool) → ltb b.start (a.start + a.length) ≡ y
        → (a.start ≤ o) × (o < a.start + a.length) → (b.start ≤ o) × (o < b.start + b.length) → (x && y) ≡ true
    by_tests true is true is2 of_a of_b = refl
    by_tests true is false is2 of_a of_b = absurd (grind (arith, is2, of_a.1, of_b.0))
    by_tests false is y is2 of_a of_b = absurd (grind (arith, is, of_a.0, of_b.1))

none_at : (w : OwnedWindow) (ws : List OwnedWindow) (j : ℕ) (b : OwnedWindow) → list_any (meets w) ws ≡ false → slice_get ws j ≡ Some b → meets w b ≡ false
none_at w [] j b none is = absurd (cc)
none_at w (x ∷ ws) zero b none is = let same : x ≡ b = by_some is in ap (meets w) (sym same) ∙ (neither (meets w x) (list_any (meets w) ws) none).0
  where
    by_some : Some x ≡ Some b → x ≡ b
    by_some e = cc
none_at w (x ∷ ws) (suc j) b none is = none_at w ws j b (neither (meets w x) (list_any (meets w) ws) none).1 is

same_window : (a b : OwnedWindow) → Some a ≡ Some b → a ≡ b
same_window a b e = cc

pub apart : (ws : List OwnedWindow) → has_pair meets ws ≡ false → AreApart ws
apart [] none i j o a b is is2 of_a of_b = absurd (cc)
apart (w ∷ ws) none zero zero o a b is is2 of_a of_b = refl
apart (w ∷ ws) none zero (suc j) o a b is is2 of_a of_b =
    let same : w ≡ a = same_window w a is in
    let no : meets w b ≡ false = none_at w ws j b (neither (list_any (meets w) ws) (has_pair meets ws) none).0 is2 in
    let yes : meets w b ≡ true = meet_where w b o (ap (λ (v : OwnedWindow). has_slot v o) same ∙ of_a) of_b in
    absurd (cc)
apart (w ∷ ws) none (suc i) zero o a b is is2 of_a of_b =
    let same : w ≡ b = same_window w b is2 in
    let no : meets w a ≡ false = none_at w ws i a (neither (list_any (meets w) ws) (has_pair meets ws) none).0 is in
    let yes : meets w a ≡ true = meet_where w a o (ap (λ (v : OwnedWindow). has_slot v o) same ∙ of_b) of_a in
    absurd (cc)
apart (w ∷ ws) none (suc i) (suc j) o a b is is2 of_a of_b =
    ap suc (apart ws (neither (list_any (meets w) ws) (has_pair meets ws) none).1 i j o a b is is2 of_a of_b)

-- Of a plan.

-- the windows meet as the services do
any_meet : (start length service : ℕ) (fields : SlicedFields) → start ≡ fields.start → length ≡ fields.length → (all : List KindFields) (k : ℕ)
    → list_any (meets (record { service = service; start = start; length = length })) (windows_from k all) ≡ list_any (overlaps fields) (filter_map sliced_of all)
any_meet start length service fields e e2 [] k = refl
any_meet start length service fields e e2 (kind ∷ others) k = by_kind (sliced_of kind) (any_meet start length service fields e e2 others (k + 1))
  where
    by_kind : (of : Option SlicedFields)
        → list_any (meets (record { service = service; start = start; length = length })) (windows_from (k + 1) others) ≡ list_any (overlaps fields) (filter_map sliced_of others)
        → list_any (meets (record { service = service; start = start; length = length })) (cons_option (owned k of) (windows_from (k + 1) others)) ≡ list_any (overlaps fields) (cons_option of (filter_map sliced_of others))
    by_kind None later = later
    by_kind (Some a) later =
        ap₂ (λ (x y : ℕ). (ltb x (a.start + a.length) && ltb a.start (x + y)) || list_any (meets (record { service = service; start = start; length = length })) (windows_from (k + 1) others)) e e2
        ∙ ap (λ (rest : Bool). overlaps fields a || rest) later

pairs_meet : (all : List KindFields) (k : ℕ) → has_pair meets (windows_from k all) ≡ has_pair overlaps (filter_map sliced_of all)
pairs_meet [] k = refl
pairs_meet (kind ∷ others) k = by_kind (sliced_of kind) (pairs_meet others (k + 1))
  where
    by_kind : (of : Option SlicedFields) → has_pair meets (windows_from (k + 1) others) ≡ has_pair overlaps (filter_map sliced_of others)
        → has_pair meets (cons_option (owned k of) (windows_from (k + 1) others)) ≡ has_pair overlaps (cons_option of (filter_map sliced_of others))
    by_kind None later = later
    by_kind (Some a) later = ap₂ (λ (x y : Bool). x || y) (any_meet a.start a.length k a refl refl others (k + 1)) later

-- each sliced service has its window in the list, and each in the list is a service's
pub listed : (all : List KindFields) (first k service : ℕ) (fields : SlicedFields) → service ≡ first + k → sliced_of (get_or all k (mpe 0)) ≡ Some fields
    → (i : ℕ) × (slice_get (windows_from first all) i ≡ Some (record { service = service; start = fields.start; length = fields.length }))
listed [] first k service fields place is = absurd (cc)
listed (kind ∷ others) first zero service fields place is = by_kind (sliced_of kind) is
  where
    by_kind : (of : Option SlicedFields) → of ≡ Some fields
        → (i : ℕ) × (slice_get (cons_option (owned first of) (windows_from (first + 1) others)) i ≡ Some (record { service = service; start = fields.start; length = fields.length }))
    by_kind None e = absurd (cc)
    by_kind (Some a) e =
        let same : a ≡ fields = by_some e in
        let here : first ≡ service = omega (arith, place) in
        (zero, ap₂ (λ (f : SlicedFields) (s : ℕ). Some (window s f)) same here)
      where
        by_some : Some a ≡ Some fields → a ≡ fields
        by_some e2 = cc

        window : ℕ → SlicedFields → OwnedWindow
        window s f = record { service = s; start = f.start; length = f.length }
listed (kind ∷ others) first (suc k) service fields place is = by_kind (sliced_of kind) (listed others (first + 1) k service fields (omega (arith, place)) is)
  where
    by_kind : (of : Option SlicedFields) → (i : ℕ) × (slice_get (windows_from (first + 1) others) i ≡ Some (record { service = service; start = fields.start; length = fields.length }))
        → (i : ℕ) × (slice_get (cons_option (owned first of) (windows_from (first + 1) others)) i ≡ Some (record { service = service; start = fields.start; length = fields.length }))
    by_kind None later = later
    by_kind (Some a) later = (suc later.0, later.1)

pub of_service : (all : List KindFields) (first i : ℕ) (w : OwnedWindow) → slice_get (windows_from first all) i ≡ Some w
    → (k : ℕ) × (fields : SlicedFields) × (w.service ≡ first + k) × (sliced_of (get_or all k (mpe 0)) ≡ Some fields) × (w.start ≡ fields.start) × (w.length ≡ fields.length)
of_service [] first i w is = absurd (cc)
of_service (kind ∷ others) first i w is = by_kind (sliced_of kind) refl i is (of_service others (first + 1))
  where
    by_kind : (of : Option SlicedFields) → sliced_of kind ≡ of → (at : ℕ) → slice_get (cons_option (owned first of) (windows_from (first + 1) others)) at ≡ Some w
        → ((j : ℕ) (v : OwnedWindow) → slice_get (windows_from (first + 1) others) j ≡ Some v
        → (k : ℕ) × (fields : SlicedFields) × (v.service ≡ first + 1 + k) × (sliced_of (get_or others k (mpe 0)) ≡ Some fields) × (v.start ≡ fields.start) × (v.length ≡ fields.length))
        → (k : ℕ) × (fields : SlicedFields) × (w.service ≡ first + k) × (sliced_of (get_or (kind ∷ others) k (mpe 0)) ≡ Some fields) × (w.start ≡ fields.start) × (w.length ≡ fields.length)
    by_kind None e at is2 later =
        let found : (k : ℕ) × (fields : SlicedFields) × (w.service ≡ first + 1 + k) × (sliced_of (get_or others k (mpe 0)) ≡ Some fields) × (w.start ≡ fields.start) × (w.length ≡ fields.length) = later at w is2 in
        (suc found.0, found.1, omega (arith, found.2), found.3, found.4, found.5)
    by_kind (Some a) e zero is2 later =
        (zero, a, omega (arith, ap service_of is2), e, sym (ap start_of is2), sym (ap length_of is2))
      where
        service_of : Option OwnedWindow → ℕ
        service_of None = 0
        service_of (Some v) = v.service

        start_of : Option OwnedWindow → ℕ
        start_of None = 0
        start_of (Some v) = v.start

        length_of : Option OwnedWindow → ℕ
        length_of None = 0
        length_of (Some v) = v.length
    by_kind (Some a) e (suc j) is2 later =
        let found : (k : ℕ) × (fields : SlicedFields) × (w.service ≡ first + 1 + k) × (sliced_of (get_or others k (mpe 0)) ≡ Some fields) × (w.start ≡ fields.start) × (w.length ≡ fields.length) = later j w is2 in
        (suc found.0, found.1, omega (arith, found.2), found.3, found.4, found.5)

module _ (plan : PlanFields) (accepted : is_plan plan ≡ true) where
  pub plan_apart : AreApart (windows_of plan)
  plan_apart = apart (windows_of plan) (pairs_meet (kinds plan) 0 ∙ none_overlap plan accepted)

  pub owner_is : (o k n : ℕ) → owner_of (windows_of plan) o ≡ Some (k, n) → (fields : SlicedFields) × (sliced_of (kind_at plan k) ≡ Some fields) × (fields.start + n ≡ o) × (n < fields.length)
  owner_is o k n e =
      let found : (i : ℕ) × (w : OwnedWindow) × (slice_get (windows_of plan) i ≡ Some w) × (w.service ≡ k) × (w.start + n ≡ o) × (n < w.length) = owner_has (windows_of plan) plan_apart o k n e in
      let of : (j : ℕ) × (fields : SlicedFields) × (found.1.service ≡ 0 + j) × (sliced_of (get_or (kinds plan) j (mpe 0)) ≡ Some fields) × (found.1.start ≡ fields.start) × (found.1.length ≡ fields.length)
      = of_service (kinds plan) 0 found.0 found.1 found.2 in
      let same : k ≡ of.0 = omega (arith, found.3, of.2) in
      (of.1, ap (λ (j : ℕ). sliced_of (get_or (kinds plan) j (mpe 0))) same ∙ of.3, omega (arith, of.4, found.4), omega (arith, of.5, found.5))

  pub is_owned : (o k n : ℕ) (fields : SlicedFields) → sliced_of (kind_at plan k) ≡ Some fields → fields.start + n ≡ o → n < fields.length → owner_of (windows_of plan) o ≡ Some (k, n)
  is_owned o k n fields is place below =
      let at : (i : ℕ) × (slice_get (windows_of plan) i ≡ Some (record { service = k; start = fields.start; length = fields.length })) = listed (kinds plan) 0 k k fields (omega arith) is in
      has_owner (windows_of plan) plan_apart o k n at.0 (record { service = k; start = fields.start; length = fields.length }) at.1 refl place below
