-- Sending: the bursts of a service are timed.
use Rattle.std.proofs.Common.{◌≡◌, ◌⊎◌, inl, inr, ℕ, zero, suc, ◌+◌, ◌-◌, ◌*◌, ◌<◌, ◌≤◌, Bool, true, false, eqb, get_or, List, [], ◌∷◌, length, map, refl, sym, ap, ◌∙◌, arith, Option, Some, None, option_map}
use Rattle.std.specs.List.{slice_get}
use Rattle.std.proofs.lemmas.Option.{slice_get-map, slice_get_read, slice_get_within, get_or_from_slice_get}
use Rattle.std.proofs.Math.Nat.{add-mul, mul-le-mul_right}
use Rattle.ts_spec.specs.Recording.{RecordingForm, plain, stamped, m2ts}
use Rattle.slice_spec.specs.Moments.{units_per_second, ten, moment_of}
use Rattle.slice_spec.specs.Sections.{SectionTime}
use Rattle.slice_spec.specs.Frames.{IsOf, IsTimed}
use Rattle.slice_spec.specs.Bursts.{Slicing, Burst, slot_of, moment_in, delta_to_next, time_in, times_of, AreInWindows, IsSliceable}
use Rattle.slice_law.proofs.Floors.{later_by, within_time, factor_above, tens_most, tens_lack, tens_above, tens_below}

pub ten_above : (form : RecordingForm) → 0 < ten form
ten_above plain = omega arith
ten_above stamped = omega arith
ten_above m2ts = omega arith

-- One window and the next.

module _ (s : Slicing) (fits : IsSliceable s) where
  shorter : 0 < s.cycle - s.length
  shorter = factor_above (ten s.form) s.rate (s.cycle - s.length) (units_per_second s.form) (ten_above s.form) fits.rate_above fits.gap

  -- ten milliseconds at least from a packet of a burst to the window in the next cycle
  pub gap_after : (c n : ℕ) → n < s.length → moment_in s c n + ten s.form ≤ moment_in s (c + 1) 0
  gap_after c n below =
      let one : 1 * s.cycle ≡ s.cycle = omega arith in
      later_by (units_per_second s.form) s.rate (ten s.form) (slot_of s c n) (s.cycle - s.length) (slot_of s (c + 1) 0) fits.rate_above fits.gap
      (omega (arith, add-mul c 1 s.cycle, one, below, shorter))

  -- less than 4,096 tens of them
  pub cycle_after : (c n : ℕ) → moment_in s (c + 1) 0 ≤ moment_in s c n + (4096 * ten s.form - 1)
  cycle_after c n =
      let one : 1 * s.cycle ≡ s.cycle = omega arith in
      within_time (units_per_second s.form) s.rate (4096 * ten s.form - 1) (slot_of s c n) s.cycle (slot_of s (c + 1) 0) fits.rate_above fits.cycle_below
      (omega (arith, add-mul c 1 s.cycle, one))

  -- from the end of the window
  pub gap_from_end : (c : ℕ) → moment_of s.form s.rate (slot_of s c s.length) + ten s.form ≤ moment_in s (c + 1) 0
  gap_from_end c =
      let one : 1 * s.cycle ≡ s.cycle = omega arith in
      later_by (units_per_second s.form) s.rate (ten s.form) (slot_of s c s.length) (s.cycle - s.length) (slot_of s (c + 1) 0) fits.rate_above fits.gap
      (omega (arith, add-mul c 1 s.cycle, one, shorter))

  -- later cycles
  pub no_earlier : (c d n : ℕ) → c < d → moment_in s (c + 1) 0 ≤ moment_in s d n
  no_earlier c d n less =
      let none : 0 * s.rate ≡ 0 = omega arith in
      let none2 : 0 * units_per_second s.form ≡ 0 = omega arith in
      let later : moment_in s (c + 1) 0 + 0 ≤ moment_in s d n
      = later_by (units_per_second s.form) s.rate 0 (slot_of s (c + 1) 0) 0 (slot_of s d n) fits.rate_above (omega (arith, none, none2))
      (omega (arith, mul-le-mul_right s.cycle (suc_le less))) in
      omega (arith, later)
    where
      suc_le : c < d → c + 1 ≤ d
      suc_le less = omega (arith, less)

  -- What delta_t announces.

  pub announced_within : (c n m : ℕ) → n < s.length → m < s.length → moment_in s c m < moment_in s c n + ten s.form * delta_to_next s c n
  announced_within c n m below below2 =
      omega (arith, gap_after c m below2, gap_after c n below, tens_lack (moment_in s (c + 1) 0 - moment_in s c n) (ten s.form) (ten_above s.form))

  pub announced_after : (c d n m : ℕ) → n < s.length → c < d → moment_in s c n + ten s.form * delta_to_next s c n ≤ moment_in s d m
  announced_after c d n m below less =
      omega (arith, gap_after c n below, no_earlier c d m less, tens_most (moment_in s (c + 1) 0 - moment_in s c n) (ten s.form))

  pub announced_above : (c n : ℕ) → n < s.length → 0 < delta_to_next s c n
  announced_above c n below = tens_above (moment_in s (c + 1) 0 - moment_in s c n) (ten s.form) (ten_above s.form) (omega (arith, gap_after c n below))

  pub announced_below : (c n : ℕ) → delta_to_next s c n < 4096
  announced_below c n =
      tens_below (moment_in s (c + 1) 0 - moment_in s c n) (ten s.form) (ten_above s.form) (omega (arith, cycle_after c n, ten_above s.form))

-- What stands in a list of bursts.

-- the section of a frame by its number
pub numbered : (frames : List (List SectionTime)) (i : ℕ) (x : SectionTime) → IsOf frames i x → (n : ℕ) × (slice_get (get_or frames i []) n ≡ Some x)
numbered frames i x is = (is.0, slice_get_read (get_or frames i []) (length (get_or frames i [])) is.0 x refl is.1 (sym is.2))

pub record IsSent (s : Slicing) (bursts : List Burst) (i : ℕ) (x : SectionTime) : Type 0 where
  pub burst : Burst
  pub n : ℕ
  pub place : ℕ
  pub stands : slice_get bursts i ≡ Some burst
  pub begins : slice_get burst.places n ≡ Some place
  pub moment : x.moment ≡ moment_in s burst.cycle place
  pub delta : ((x.delta ≡ 0) × (length bursts ≡ i + 1)) ⊎ ((x.delta ≡ delta_to_next s burst.cycle place) × (i + 1 < length bursts))

pub sent : (s : Slicing) (bursts : List Burst) (i : ℕ) (x : SectionTime) → IsOf (times_of s false bursts) i x → IsSent s bursts i x
sent s [] i x is = absurd (none (numbered [] i x is))
  where
    none : (n : ℕ) × (None ≡ Some x) → ⊥
    none found = absurd (cc)
sent s (burst ∷ bursts) zero x is =
    by_place (slice_get burst.places (here is).0) refl (sym (slice_get-map (time_in s (eqb (length bursts) 0) burst.cycle) burst.places (here is).0) ∙ (here is).1)
  where
    here : IsOf (times_of s false (burst ∷ bursts)) zero x → (n : ℕ) × (slice_get (map (time_in s (eqb (length bursts) 0) burst.cycle) burst.places) n ≡ Some x)
    here of = numbered (times_of s false (burst ∷ bursts)) zero x of

    by_last : (place : ℕ) → slice_get burst.places (here is).0 ≡ Some place → (last : Bool) → eqb (length bursts) 0 ≡ last → time_in s last burst.cycle place ≡ x → IsSent s (burst ∷ bursts) zero x
    by_last place begins true is_last e = record {
      burst = burst;
      n = (here is).0;
      place = place;
      stands = refl;
      begins = begins;
      moment = sym (ap (λ (t : SectionTime). t.moment) e);
      delta = inl (sym (ap (λ (t : SectionTime). t.delta) e), grind (arith, is_last));
    }
    by_last place begins false is_last e = record {
      burst = burst;
      n = (here is).0;
      place = place;
      stands = refl;
      begins = begins;
      moment = sym (ap (λ (t : SectionTime). t.moment) e);
      delta = inr (sym (ap (λ (t : SectionTime). t.delta) e), grind (arith, is_last));
    }

    by_place : (place : Option ℕ) → slice_get burst.places (here is).0 ≡ place → option_map (time_in s (eqb (length bursts) 0) burst.cycle) place ≡ Some x → IsSent s (burst ∷ bursts) zero x
    by_place None begins e = absurd (cc)
    by_place (Some place) begins e = by_last place begins (eqb (length bursts) 0) refl (by_some e)
      where
        by_some : Some (time_in s (eqb (length bursts) 0) burst.cycle place) ≡ Some x → time_in s (eqb (length bursts) 0) burst.cycle place ≡ x
        by_some e2 = cc
sent s (burst ∷ bursts) (suc i) x is = behind (sent s bursts i x is)
  where
    later : (n m d e : ℕ) → ((d ≡ 0) × (n ≡ i + 1)) ⊎ ((d ≡ e) × (i + 1 < n)) → ((d ≡ 0) × (suc n ≡ suc i + 1)) ⊎ ((d ≡ e) × (suc i + 1 < suc n))
    later n m d e (inl last) = inl (last.0, omega (arith, last.1))
    later n m d e (inr more) = inr (more.0, omega (arith, more.1))

    behind : IsSent s bursts i x → IsSent s (burst ∷ bursts) (suc i) x
    behind t = record {
      burst = t.burst;
      n = t.n;
      place = t.place;
      stands = t.stands;
      begins = t.begins;
      moment = t.moment;
      delta = later (length bursts) 0 x.delta (delta_to_next s t.burst.cycle t.place) t.delta;
    }

module _ (s : Slicing) (fits : IsSliceable s) (bursts : List Burst) (are : AreInWindows s bursts) where
  place_below : (i : ℕ) (x : SectionTime) → (t : IsSent s bursts i x) → t.place < s.length
  place_below i x t =
      are.within i t.place t.burst t.stands
      (t.n, slice_get_within t.burst.places t.n t.place t.begins, get_or_from_slice_get t.burst.places t.n t.place t.place t.begins)

  -- a section that announces a next burst announces the time to it
  announced_time : (i : ℕ) (x : SectionTime) → (t : IsSent s bursts i x) → 0 < x.delta → x.delta ≡ delta_to_next s t.burst.cycle t.place
  announced_time i x t above = by_delta t.delta
    where
      by_delta : ((x.delta ≡ 0) × (length bursts ≡ i + 1)) ⊎ ((x.delta ≡ delta_to_next s t.burst.cycle t.place) × (i + 1 < length bursts)) → x.delta ≡ delta_to_next s t.burst.cycle t.place
      by_delta (inl last) = absurd (omega (arith, last.0, above))
      by_delta (inr more) = more.0

  same_burst : (a b : Burst) → Some a ≡ Some b → a ≡ b
  same_burst a b e = cc

  within : (i : ℕ) (x y : SectionTime) → IsOf (times_of s false bursts) i x → IsOf (times_of s false bursts) i y → 0 < x.delta → y.moment < x.moment + ten s.form * x.delta
  within i x y is is2 above = by_sent (sent s bursts i x is) (sent s bursts i y is2)
    where
      by_sent : IsSent s bursts i x → IsSent s bursts i y → y.moment < x.moment + ten s.form * x.delta
      by_sent t u =
          let one : u.burst ≡ t.burst = same_burst u.burst t.burst (sym u.stands ∙ t.stands) in
          let moment : y.moment ≡ moment_in s t.burst.cycle u.place = u.moment ∙ ap (λ (b : Burst). moment_in s b.cycle u.place) one in
          let product : ten s.form * x.delta ≡ ten s.form * delta_to_next s t.burst.cycle t.place = ap (λ (d : ℕ). ten s.form * d) (announced_time i x t above) in
          omega (arith, moment, t.moment, product, announced_within s fits t.burst.cycle t.place u.place (place_below i x t) (place_below i y u))

  after : (i j : ℕ) (x y : SectionTime) → i < j → IsOf (times_of s false bursts) i x → IsOf (times_of s false bursts) j y → 0 < x.delta → x.moment + ten s.form * x.delta ≤ y.moment
  after i j x y less is is2 above = by_sent (sent s bursts i x is) (sent s bursts j y is2)
    where
      by_sent : IsSent s bursts i x → IsSent s bursts j y → x.moment + ten s.form * x.delta ≤ y.moment
      by_sent t u =
          let later : t.burst.cycle < u.burst.cycle = are.later i j t.burst u.burst less t.stands u.stands in
          let product : ten s.form * x.delta ≡ ten s.form * delta_to_next s t.burst.cycle t.place = ap (λ (d : ℕ). ten s.form * d) (announced_time i x t above) in
          omega (arith, t.moment, u.moment, product, announced_after s fits t.burst.cycle u.burst.cycle t.place u.place (place_below i x t) later)

  pub last_alone : (i : ℕ) (x : SectionTime) → IsOf (times_of s false bursts) i x → x.delta ≡ 0 → length bursts ≡ i + 1
  last_alone i x is none = by_sent (sent s bursts i x is)
    where
      by_sent : IsSent s bursts i x → length bursts ≡ i + 1
      by_sent t = by_delta t.delta
        where
          by_delta : ((x.delta ≡ 0) × (length bursts ≡ i + 1)) ⊎ ((x.delta ≡ delta_to_next s t.burst.cycle t.place) × (i + 1 < length bursts)) → length bursts ≡ i + 1
          by_delta (inl last) = last.1
          by_delta (inr more) = absurd (omega (arith, more.0, none, announced_above s fits t.burst.cycle t.place (place_below i x t)))

  pub last_none : (i : ℕ) (x : SectionTime) → IsOf (times_of s false bursts) i x → length bursts ≡ i + 1 → x.delta ≡ 0
  last_none i x is last_is = by_sent (sent s bursts i x is)
    where
      by_sent : IsSent s bursts i x → x.delta ≡ 0
      by_sent t = by_delta t.delta
        where
          by_delta : ((x.delta ≡ 0) × (length bursts ≡ i + 1)) ⊎ ((x.delta ≡ delta_to_next s t.burst.cycle t.place) × (i + 1 < length bursts)) → x.delta ≡ 0
          by_delta (inl last) = last.0
          by_delta (inr more) = absurd (omega (arith, more.1, last_is))

  pub delta_below : (i : ℕ) (x : SectionTime) → IsOf (times_of s false bursts) i x → x.delta < 4096
  delta_below i x is = by_sent (sent s bursts i x is)
    where
      by_sent : IsSent s bursts i x → x.delta < 4096
      by_sent t = by_delta t.delta
        where
          by_delta : ((x.delta ≡ 0) × (length bursts ≡ i + 1)) ⊎ ((x.delta ≡ delta_to_next s t.burst.cycle t.place) × (i + 1 < length bursts)) → x.delta < 4096
          by_delta (inl last) = omega (arith, last.0)
          by_delta (inr more) = omega (arith, more.0, announced_below s fits t.burst.cycle t.place)

  length-times_of : (s : Slicing) (bursts : List Burst) → length (times_of s false bursts) ≡ length bursts
  length-times_of s [] = refl
  length-times_of s (burst ∷ bursts) = ap suc (length-times_of s bursts)

  pub timed : IsTimed (ten s.form) (times_of s false bursts)
  timed = record { within = within; after = after; last = λ i x is none. length-times_of s bursts ∙ last_alone i x is none }
