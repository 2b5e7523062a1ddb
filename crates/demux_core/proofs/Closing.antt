-- Services whose frames under way are closed one after another, and what is delivered of them.
use Rattle.std.proofs.Common.{◌≡◌, ℕ, zero, suc, ◌+◌, ◌^◌, ◌<◌, ◌≤◌, Bool, true, false, cond, Option, None, Some, List, [], ◌∷◌, ◌++◌, length, map, flat_map, set, refl, ap, ap₂, sym, ◌∙◌, subst, arith, append-nil, append_assoc, eq-eqb, Result, Ok, Err, OnOk, OnErr}
use Rattle.std.specs.Prelude.{◌==◌, nat_lt, slice_get}
use Rattle.std.specs.List.{range_with_len}
use Rattle.std.proofs.lemmas.Bool.{eqb-true}
use Rattle.std.proofs.lemmas.Bool.Decides.{nat_tests}
use Rattle.std.proofs.lemmas.List.{map-append, length-set}
use Rattle.std.proofs.lemmas.List.Folds.{position_or_len-set}
use Rattle.std.proofs.lemmas.Option.{slice_get_within, get_or_from_slice_get}
use Rattle.std.proofs.lemmas.List.Concat.{flat_map-append}
use Rattle.wire_spec.specs.Causes.{HasCause}
use Rattle.ts_spec.specs.Recording.{RecordingForm, Record}
use Rattle.plan_spec.specs.Plan.{ServiceFields, PlanFields}
use Rattle.plan_spec.specs.Changes.{pid_in}
use Rattle.reception_spec.specs.Spans.{span_from, span_of}
use Rattle.reception_spec.specs.Delivered.{service_on}
use Rattle.reception_law.specs.Words.{closed_by}
use Rattle.outlet_spec.specs.Pairs.{pairs_of, Delivers, DeliversFront}
use Rattle.outlet_spec.proofs.Pairs.{delivers_then, front_then, front_before}
use Rattle.outlet_spec.specs.Going.{Going, DeliversAfter, GoesOn}
use Rattle.demux_core.specs.Counts.{counts_before}
use Rattle.demux_core.specs.Services.{IsReception, IsEndingOne, HasReceivedOne, HaveReceived}
use Rattle.demux_core.specs.Moving.{Closes, where_left, closed_from, closed_by_switch, closed_on_pid, closed_at}
use Rattle.demux_core.specs.Places.{ArePlacesOf}
use Rattle.demux_core.specs.declared.service.ServiceReceiver.{ServiceReceiver}
use Rattle.demux_core.proofs.OnPids.{some_at, set_same, set_other}

true_false : true ≡ false → ⊥
true_false e = cc

-- Lists of which one after another is set.

-- those from a place on are as they were
abbrev pub AreLeft : {X : Type 0} → ℕ → List X → List X → Type 0
AreLeft at olds nows = (k : ℕ) → at ≤ k → slice_get nows k ≡ slice_get olds k

set_behind : {X : Type 0} (xs : List X) (i k : ℕ) (x : X) → i < k → slice_get (set xs i x) k ≡ slice_get xs k
set_behind [] i k x less = refl
set_behind (y ∷ ys) zero zero x less = absurd (omega (arith, less))
set_behind (y ∷ ys) zero (suc k) x less = refl
set_behind (y ∷ ys) (suc i) zero x less = absurd (omega (arith, less))
set_behind (y ∷ ys) (suc i) (suc k) x less = set_behind ys i k x (omega (arith, less))

pub left_next : {X : Type 0} (olds nows : List X) (at : ℕ) (new : X) → AreLeft at olds nows → AreLeft (at + 1) olds (set nows at new)
left_next olds nows at new left = λ k least. set_behind nows at k new (omega (arith, least)) ∙ left k (omega (arith, least))

same_some : {X : Type 0} (o : Option X) (a b : X) → o ≡ Some a → o ≡ Some b → a ≡ b
same_some o a b is_a is_b = cc

-- those before a place are so related to what they were
abbrev pub AreSet : {X : Type 0} → (ℕ → X → X → Type 0) → ℕ → List X → List X → Type 0
AreSet {X} R at olds nows = (k : ℕ) (old new : X) → k < at → slice_get olds k ≡ Some old → slice_get nows k ≡ Some new → R k old new

module _ {X : Type 0} (R : ℕ → X → X → Type 0) where
  pub set_next : (olds nows : List X) (at : ℕ) (was new : X) → AreSet R at olds nows → AreLeft at olds nows → slice_get nows at ≡ Some was → R at was new
      → AreSet R (at + 1) olds (set nows at new)
  set_next olds nows at was new done left there is = λ k old now below found found_now. by_place k old now below found found_now (k == at) refl
    where
      by_place : (k : ℕ) (old now : X) → k < at + 1 → slice_get olds k ≡ Some old → slice_get (set nows at new) k ≡ Some now → (b : Bool) → (k == at) ≡ b → R k old now
      by_place k old now below found found_now true e =
          let place : k ≡ at = eqb-true k at e in
          let is_new : new ≡ now = set_same nows at new now (ap (λ (n : ℕ). slice_get (set nows at new) n) (sym place) ∙ found_now) in
          let is_old : was ≡ old = same_some (slice_get nows at) was old there (left at (omega arith) ∙ ap (slice_get olds) (sym place) ∙ found) in
          subst (λ (n : ℕ). R n old now) (sym place) (subst (λ (x : X). R at old x) is_new (subst (λ (x : X). R at x new) is_old is))
      by_place k old now below found found_now false e =
          done k old now (grind (arith, nat_tests, below, e)) found (set_other nows at k new now (λ same. true_false (sym (eq-eqb k at same) ∙ e)) found_now)

-- Deliveries to an outlet, service by service.

module _ {T A E : Type 0} (StandsFor : T → List (ℕ × List ℕ) → Type 0) (Refused : T → ℕ → List ℕ → Type 0) where
  -- these pairs were delivered, or the first of them and the next was refused
  pub record HasGone (pairs : List (ℕ × List ℕ)) (first : T) (now : Going T A E) : Type 0 where
    pub told : OnOk now.went (Delivers (StandsFor first) (StandsFor now.outlet) pairs)
    pub failed : OnErr now.went (DeliversFront (StandsFor first) (StandsFor now.outlet) (Refused now.outlet) pairs)

  pub gone_same : (xs ys : List (ℕ × List ℕ)) (first : T) (now : Going T A E) → xs ≡ ys → HasGone xs first now → HasGone ys first now
  gone_same xs ys first now same gone = subst (λ (l : List (ℕ × List ℕ)). HasGone l first now) same gone

  module _ (pairs : List (ℕ × List ℕ)) (service : ℕ) (datagrams : List (List ℕ)) where
    told_both : (a b c : T) (mid now : Result A E) → OnOk mid (Delivers (StandsFor a) (StandsFor b) pairs)
        → OnOk mid (OnOk now (Delivers (StandsFor b) (StandsFor c) (pairs_of service datagrams))) → OnErr mid ((now ≡ mid) × (c ≡ b))
        → OnOk now (Delivers (StandsFor a) (StandsFor c) (pairs ++ pairs_of service datagrams))
    told_both a b c mid (Err n) one two stays = tt
    told_both a b c (Err m) (Ok n) one two stays = absurd (cc)
    told_both a b c (Ok m) (Ok n) one two stays = delivers_then (StandsFor a) (StandsFor b) (StandsFor c) pairs (pairs_of service datagrams) one two

    failed_either : (a b c : T) (mid now : Result A E) → OnOk mid (Delivers (StandsFor a) (StandsFor b) pairs)
        → OnErr mid (DeliversFront (StandsFor a) (StandsFor b) (Refused b) pairs)
        → OnOk mid (OnErr now (DeliversFront (StandsFor b) (StandsFor c) (Refused c) (pairs_of service datagrams))) → OnErr mid ((now ≡ mid) × (c ≡ b))
        → OnErr now (DeliversFront (StandsFor a) (StandsFor c) (Refused c) (pairs ++ pairs_of service datagrams))
    failed_either a b c mid (Ok n) told one two stays = tt
    failed_either a b c (Ok m) (Err n) told one two stays = front_then (StandsFor a) (StandsFor b) (StandsFor c) (Refused c) pairs (pairs_of service datagrams) (pairs ++ pairs_of service datagrams) refl told two
    failed_either a b c (Err m) (Err n) told one two stays =
        subst (λ (t : T). DeliversFront (StandsFor a) (StandsFor t) (Refused t) (pairs ++ pairs_of service datagrams)) (sym stays.1)
        (front_before (StandsFor a) (StandsFor b) (Refused b) pairs (pairs_of service datagrams) (pairs ++ pairs_of service datagrams) refl one)

    pub gone_then : (services faults : T → ℕ) (first : T) (mid now : Going T A E) → HasGone pairs first mid → DeliversAfter StandsFor Refused service datagrams mid now
        → GoesOn services faults mid now → HasGone (pairs ++ pairs_of service datagrams) first now
    gone_then services faults first mid now one two goes = record {
      told = told_both first mid.outlet now.outlet mid.went now.went one.told two.told goes.stays;
      failed = failed_either first mid.outlet now.outlet mid.went now.went one.told one.failed two.failed goes.stays;
    }

-- The outlet has its services, and a refusal its cause.
module _ {T A E : Type 0} (services faults : T → ℕ) where
  pub record HasGoneOn (first : T) (now : Going T A E) : Type 0 where
    pub services_are : services now.outlet ≡ services first
    pub cause : HasCause (faults first) (faults now.outlet) now.went

  caused_both : (a b c : T) (mid now : Result A E) → HasCause (faults a) (faults b) mid → OnOk mid (HasCause (faults b) (faults c) now)
      → OnErr mid ((now ≡ mid) × (c ≡ b)) → HasCause (faults a) (faults c) now
  caused_both a b c (Ok m) now one two stays = subst (λ (n : ℕ). HasCause n (faults c) now) one.kept two
  caused_both a b c (Err m) now one two stays =
      subst (λ (t : T). HasCause (faults a) (faults t) now) (sym stays.1)
      (subst (λ (r : Result A E). HasCause (faults a) (faults b) r) (sym stays.0) one)

  pub on_then : (first : T) (mid now : Going T A E) → HasGoneOn first mid → GoesOn services faults mid now → HasGoneOn first now
  on_then first mid now one goes = record {
    services_are = goes.services_are ∙ one.services_are;
    cause = caused_both first mid.outlet now.outlet mid.went now.went one.cause goes.cause goes.stays;
  }

-- The pairs of the services before a number.

abbrev pub pairs_below : (ℕ → List (List ℕ)) → ℕ → List (ℕ × List ℕ)
pairs_below given count = flat_map (λ k. pairs_of k (given k)) (range_with_len 0 count)

range_next : (least count : ℕ) → range_with_len least (suc count) ≡ range_with_len least count ++ (least + count) ∷ []
range_next least zero = let e : least ≡ least + 0 = omega arith in ap (λ (t : ℕ). t ∷ []) e
range_next least (suc count) =
    let e : least + 1 + count ≡ least + suc count = omega arith in
    ap (λ (t : List ℕ). least ∷ t) (range_next (least + 1) count ∙ ap (λ (t : ℕ). range_with_len (least + 1) count ++ t ∷ []) e)

pub pairs_next : (given : ℕ → List (List ℕ)) (k : ℕ) → pairs_below given k ++ pairs_of k (given k) ≡ pairs_below given (k + 1)
pairs_next given k =
    let number : suc k ≡ k + 1 = omega arith in
    let last : 0 + k ≡ k = omega arith in
    let with : ℕ → List (ℕ × List ℕ) = λ n. pairs_of n (given n) in
    ap (λ (t : List (ℕ × List ℕ)). pairs_below given k ++ t) (sym (append-nil (with k)))
    ∙ sym (flat_map-append with (range_with_len 0 k) (k ∷ []))
    ∙ ap (flat_map with) (sym (range_next 0 k ∙ ap (λ (n : ℕ). range_with_len 0 k ++ n ∷ []) last))
    ∙ ap (λ (n : ℕ). pairs_below given n) number

-- One service among all.

length-span : (plan : PlanFields) (all : List Record) (k pid place : ℕ) (records : List Record) → length (span_from plan all k pid place records) ≡ length records
length-span plan all k pid place [] = refl
length-span plan all k pid place (r ∷ records) = ap suc (length-span plan all k pid (place + 1) records)

module _ (plan : PlanFields) (version k : ℕ) (old : ServiceReceiver) (records : List Record) (few : length records ≤ 2 ^ 32) (has : HasReceivedOne false plan version k old records) where
  pub is_ending : IsEndingOne plan.recording (service_on plan k old.pid) old.reception (span_of plan k old.pid records)
  is_ending = record { has = has.reception; few = omega (arith, length-span plan records k old.pid 0 records, few) }

  pub switch_gives : (next : ℕ) → where_left (pid_in plan next k) old.pid (closed_by plan.recording (service_on plan k old.pid) (span_of plan k old.pid records))
      ≡ closed_by_switch plan version next records k
  switch_gives next = ap (λ (o : Option ℕ). closed_from o plan next k records) (sym has.pid_is)

  pub end_gives : closed_by plan.recording (service_on plan k old.pid) (span_of plan k old.pid records) ≡ closed_at plan version records k
  end_gives = ap (λ (o : Option ℕ). closed_on_pid o plan k records) (sym has.pid_is)

  -- its frame under way was closed
  pub one_ended : (new : ServiceReceiver) → new.pid ≡ old.pid → new.before ≡ old.before → Closes old.reception new.reception
      → HasReceivedOne true plan version k new records
  one_ended new pid_same before_same closes = record {
    pid_is = has.pid_is ∙ ap (λ (p : ℕ). Some p) (sym pid_same);
    reception = subst (λ (p : ℕ). IsReception true plan.recording (service_on plan k p) new.reception (span_of plan k p records)) (sym pid_same)
        (closes.ended plan.recording (service_on plan k old.pid) (span_of plan k old.pid records) is_ending);
    before_is = before_same ∙ has.before_is ∙ ap (λ (p : ℕ). counts_before plan k p records) (sym pid_same);
  }

-- All services.

-- the frame under way of a service is closed, and all else stays
pub record HasClosed (k : ℕ) (old new : ServiceReceiver) : Type 0 where
  pub pid_same : new.pid ≡ old.pid
  pub before_same : new.before ≡ old.before
  pub closes : Closes old.reception new.reception

module _ (plan : PlanFields) (version : ℕ) (receivers : List ServiceReceiver) (records : List Record) (few : length records ≤ 2 ^ 32) (has : HaveReceived false plan version receivers records) where
  pub all_ended : (news : List ServiceReceiver) (at : ℕ) → length news ≡ length receivers → length receivers ≤ at → AreSet HasClosed at receivers news
      → HaveReceived true plan version news records
  all_ended news at count all done = record {
    count_is = count ∙ has.count_is;
    each = λ k new found.
        let below : k < length receivers = omega (arith, slice_get_within news k new found, count) in
        let old = some_at receivers k below in
        let closed : HasClosed k old.0 new = done k old.0 new (omega (arith, below, all)) old.1 found in
        one_ended plan version k old.0 records few (has.each k old.0 old.1) new closed.pid_same closed.before_same closed.closes;
  }

  -- what is delivered of one service more
  module _ {T A E : Type 0} (StandsFor : T → List (ℕ × List ℕ) → Type 0) (Refused : T → ℕ → List ℕ → Type 0) (services faults : T → ℕ)
      (first : T) (mid now : Going T A E) (goes : GoesOn services faults mid now) (k : ℕ) (old : ServiceReceiver) (found : slice_get receivers k ≡ Some old) where
    one_more : (given : ℕ → List (List ℕ)) → HasGone StandsFor Refused (pairs_below given k) first mid → DeliversAfter StandsFor Refused k (given k) mid now
        → HasGone StandsFor Refused (pairs_below given (k + 1)) first now
    one_more given gone delivered =
        gone_same StandsFor Refused (pairs_below given k ++ pairs_of k (given k)) (pairs_below given (k + 1)) first now (pairs_next given k)
        (gone_then StandsFor Refused (pairs_below given k) k (given k) services faults first mid now gone delivered goes)

    pub one_switched : (next : ℕ) → HasGone StandsFor Refused (pairs_below (closed_by_switch plan version next records) k) first mid
        → ((form : RecordingForm) (it : ServiceFields) (some : List Record) → IsEndingOne form it old.reception some
        → DeliversAfter StandsFor Refused k (where_left (pid_in plan next k) old.pid (closed_by form it some)) mid now)
        → HasGone StandsFor Refused (pairs_below (closed_by_switch plan version next records) (k + 1)) first now
    one_switched next gone delivered =
        one_more (closed_by_switch plan version next records) gone
        (subst (λ (l : List (List ℕ)). DeliversAfter StandsFor Refused k l mid now) (switch_gives plan version k old records few (has.each k old found) next)
        (delivered plan.recording (service_on plan k old.pid) (span_of plan k old.pid records) (is_ending plan version k old records few (has.each k old found))))

    pub one_closed : HasGone StandsFor Refused (pairs_below (closed_at plan version records) k) first mid
        → ((form : RecordingForm) (it : ServiceFields) (some : List Record) → IsEndingOne form it old.reception some
        → DeliversAfter StandsFor Refused k (closed_by form it some) mid now)
        → HasGone StandsFor Refused (pairs_below (closed_at plan version records) (k + 1)) first now
    one_closed gone delivered =
        one_more (closed_at plan version records) gone
        (subst (λ (l : List (List ℕ)). DeliversAfter StandsFor Refused k l mid now) (end_gives plan version k old records few (has.each k old found))
        (delivered plan.recording (service_on plan k old.pid) (span_of plan k old.pid records) (is_ending plan version k old records few (has.each k old found))))

-- The places of receivers whose PIDs stay.
pub places_stay : (places : List ℕ) (receivers : List ServiceReceiver) (k : ℕ) (old new : ServiceReceiver) → slice_get receivers k ≡ Some old → new.pid ≡ old.pid
    → ArePlacesOf places receivers → ArePlacesOf places (set receivers k new)
places_stay places receivers k old new found same are = λ pid below. are pid below ∙ ap₂ (λ (n m : ℕ). cond (nat_lt n m) (Some n) None)
    (sym (position_or_len-set (λ (receiver : ServiceReceiver). receiver.pid == pid) receivers k new old
    (ap (λ (p : ℕ). p == pid) (same ∙ ap (λ (r : ServiceReceiver). r.pid) (sym (get_or_from_slice_get receivers k old old found))))))
    (sym (length-set receivers k new))
