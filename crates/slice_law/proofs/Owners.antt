-- Windows of which no two have a slot in common: the owner of a slot.
use Rattle.std.proofs.Common.{◌≡◌, ℕ, zero, suc, ◌+◌, ◌-◌, ◌<◌, ◌≤◌, Bool, true, false, cond, ◌&&◌, ltb, leb, List, [], ◌∷◌, refl, ap, ap₂, ◌∙◌, arith, Option, Some, None}
use Rattle.std.specs.List.{slice_get}
use Rattle.slice_spec.specs.Windows.{OwnedWindow, has_slot, owner_of, AreApart}

both : (a b : Bool) → (a && b) ≡ true → (a ≡ true) × (b ≡ true)
both true b e = (refl, e)
both false b e = absurd (cc)

pub slot_is : (w : OwnedWindow) (o : ℕ) → has_slot w o ≡ true → (w.start ≤ o) × (o < w.start + w.length)
slot_is w o e =
    let parts : (leb w.start o ≡ true) × (ltb o (w.start + w.length) ≡ true) = both (leb w.start o) (ltb o (w.start + w.length)) e in
    (of_leb w.start o parts.0, of_ltb o (w.start + w.length) parts.1)
  where
    of_leb : (a b : ℕ) → leb a b ≡ true → a ≤ b
    of_leb a b e2 = grind (arith, e2)

    of_ltb : (a b : ℕ) → ltb a b ≡ true → a < b
    of_ltb a b e2 = grind (arith, e2)

pub slot_where : (w : OwnedWindow) (o : ℕ) → w.start ≤ o → o < w.start + w.length → has_slot w o ≡ true
slot_where w o le less = and_true (leb w.start o) (ltb o (w.start + w.length)) (leb_true w.start o le) (ltb_true o (w.start + w.length) less)
  where
    and_true : (a b : Bool) → a ≡ true → b ≡ true → (a && b) ≡ true
    and_true a b e e2 = cc

    leb_true : (a b : ℕ) → a ≤ b → leb a b ≡ true
    leb_true a b le2 = grind (arith, le2)

    ltb_true : (a b : ℕ) → a < b → ltb a b ≡ true
    ltb_true a b less2 = grind (arith, less2)

same_window : (a b : OwnedWindow) → Some a ≡ Some b → a ≡ b
same_window a b e = cc

apart_rest : (w : OwnedWindow) (ws : List OwnedWindow) → AreApart (w ∷ ws) → AreApart ws
apart_rest w ws are i j o a b is is2 of_a of_b = let one : suc i ≡ suc j = are (suc i) (suc j) o a b is is2 of_a of_b in omega (arith, one)

-- the owner of a slot is the service whose window holds it
pub owns : (ws : List OwnedWindow) → AreApart ws → (i o : ℕ) (w : OwnedWindow) → slice_get ws i ≡ Some w → has_slot w o ≡ true → owner_of ws o ≡ Some (w.service, o - w.start)
owns [] are i o w is of_w = absurd (cc)
owns (x ∷ ws) are zero o w is of_w =
    let same : x ≡ w = same_window x w is in
    ap (λ (v : OwnedWindow). cond (has_slot v o) (Some (v.service, o - v.start)) (owner_of ws o)) same
    ∙ ap (λ (b : Bool). cond b (Some (w.service, o - w.start)) (owner_of ws o)) of_w
owns (x ∷ ws) are (suc i) o w is of_w = by_first (has_slot x o) refl (owns ws (apart_rest x ws are) i o w is of_w)
  where
    by_first : (first : Bool) → has_slot x o ≡ first → owner_of ws o ≡ Some (w.service, o - w.start) → cond first (Some (x.service, o - x.start)) (owner_of ws o) ≡ Some (w.service, o - w.start)
    by_first true e later = absurd (omega (arith, are zero (suc i) o x w refl is e of_w))
    by_first false e later = later

pub is_owner : (ws : List OwnedWindow) (o : ℕ) (k n : ℕ) → owner_of ws o ≡ Some (k, n) → (i : ℕ) × (w : OwnedWindow) × (slice_get ws i ≡ Some w) × (has_slot w o ≡ true) × (w.service ≡ k) × (w.start + n ≡ o)
is_owner [] o k n e = absurd (cc)
is_owner (x ∷ ws) o k n e = by_first (has_slot x o) refl e (is_owner ws o k n)
  where
    service_in : Option (ℕ × ℕ) → ℕ
    service_in None = 0
    service_in (Some p) = p.0

    place_in : Option (ℕ × ℕ) → ℕ
    place_in None = 0
    place_in (Some p) = p.1

    by_first : (first : Bool) → has_slot x o ≡ first → cond first (Some (x.service, o - x.start)) (owner_of ws o) ≡ Some (k, n)
        → (owner_of ws o ≡ Some (k, n) → (i : ℕ) × (w : OwnedWindow) × (slice_get ws i ≡ Some w) × (has_slot w o ≡ true) × (w.service ≡ k) × (w.start + n ≡ o))
        → (i : ℕ) × (w : OwnedWindow) × (slice_get (x ∷ ws) i ≡ Some w) × (has_slot w o ≡ true) × (w.service ≡ k) × (w.start + n ≡ o)
    by_first true is e2 later =
        let place : o - x.start ≡ n = ap place_in e2 in
        (zero, x, refl, is, ap service_in e2, omega (arith, place, (slot_is x o is).0))
    by_first false is e2 later =
        let found : (i : ℕ) × (w : OwnedWindow) × (slice_get ws i ≡ Some w) × (has_slot w o ≡ true) × (w.service ≡ k) × (w.start + n ≡ o) = later e2 in
        (suc found.0, found.1, found.2, found.3, found.4, found.5)

module _ (ws : List OwnedWindow) (are : AreApart ws) (o k n : ℕ) where
  pub owner_has : owner_of ws o ≡ Some (k, n) → (i : ℕ) × (w : OwnedWindow) × (slice_get ws i ≡ Some w) × (w.service ≡ k) × (w.start + n ≡ o) × (n < w.length)
  owner_has e =
      let found : (i : ℕ) × (w : OwnedWindow) × (slice_get ws i ≡ Some w) × (has_slot w o ≡ true) × (w.service ≡ k) × (w.start + n ≡ o) = is_owner ws o k n e in
      (found.0, found.1, found.2, found.4, found.5, omega (arith, found.5, (slot_is found.1 o found.3).1))

  pub has_owner : (i : ℕ) (w : OwnedWindow) → slice_get ws i ≡ Some w → w.service ≡ k → w.start + n ≡ o → n < w.length → owner_of ws o ≡ Some (k, n)
  has_owner i w is service place below =
      let number : o - w.start ≡ n = omega (arith, place) in
      owns ws are i o w is (slot_where w o (omega (arith, place)) (omega (arith, place, below)))
      ∙ ap₂ (λ (s m : ℕ). Some (s, m)) service number
