-- The numbers of a service by its PIDs.
use Rattle.std.proofs.Common.{◌≡◌, inl, ℕ, ◌+◌, ◌≤◌, Bool, true, false, not, ◌||◌, cond, eqb, Some, List, [], ◌∷◌, ◌++◌, length, map, flat_map, fold, refl, ap, ap₂, sym, ◌∙◌, arith, length-append}
use Rattle.std.specs.Prelude.{count_by, ◌≢◌}
use Rattle.std.proofs.lemmas.Bool.{eqb-true, or_parts}
use Rattle.std.proofs.lemmas.List.Sums.{sum_by-append}
use Rattle.std.proofs.lemmas.List.Concat.{flat_map-append}
use Rattle.ts_spec.specs.Recording.{Record}
use Rattle.plan_spec.specs.Plan.{ServiceFields, PlanFields}
use Rattle.plan_spec.specs.Changes.{no_service, pid_in, pids_in, has_wrong_change}
use Rattle.plan_law.proofs.Pids.{is_in, twice, pid_is_in}
use Rattle.reception_spec.specs.Units.{delivered_by_unit, is_unread, is_filtered}
use Rattle.reception_spec.specs.Numbers.{PidNumbers, no_numbers, UnitNumbers, units_of, unit_numbers}
use Rattle.reception_spec.specs.Spans.{version_at_end, span_of}
use Rattle.fec_frame_spec.specs.Delivered.{datagrams_of_frames}
use Rattle.reception_spec.specs.Frames.{told_frames, rows_of, FrameNumbers, no_frames, sum_of_frames}
use Rattle.reception_spec.specs.Delivered.{delivered_datagrams, service_on, takes_no_more, told_on, told_of, delivered_on, delivered_of}
use Rattle.reception_spec.specs.Sums.{sum_of_numbers, numbers_on, numbers_of, unit_numbers_of, frame_numbers_on, frame_numbers_of, told_frame_numbers}
use Rattle.std.specs.Prelude.{slice_index_or}
use Rattle.reception_law.specs.InForce.{pid_in_force}
use Rattle.reception_law.specs.Sums.{no_units, sum_of_units, unit_numbers_on, other_pids, numbers_before, unit_numbers_before, frame_numbers_before}
use Rattle.reception_law.proofs.OtherPid.{same_unit_numbers}
use Rattle.reception_law.proofs.VersionInForce.{most}
use Rattle.reception_law.proofs.Lists.{other_way, but, map_but, but_none}
use Rattle.reception_law.proofs.Pids.{once}
use Rattle.reception_law.proofs.ServiceSpans.{not_heard, tells, numbers_same, unit_numbers_same, frame_numbers_same}
use Rattle.reception_law.proofs.WhatIsTold.{moved_blank, first_blank, not_ended, ended_elsewhere}

-- Sums of any kind, whatever the order.

pub record IsSum {N : Type 0} (sum : N → N → N) (none : N) : Type 0 where
  pub assoc : (a b c : N) → sum (sum a b) c ≡ sum a (sum b c)
  pub comm : (a b : N) → sum a b ≡ sum b a
  pub left : (a : N) → sum none a ≡ a

module _ {N : Type 0} (sum : N → N → N) (none : N) (is : IsSum sum none) where
  right : (a : N) → sum a none ≡ a
  right a = is.comm a none ∙ is.left a

  fold_from : (a : N) (xs : List N) → fold sum a xs ≡ sum a (fold sum none xs)
  fold_from a [] = sym (right a)
  fold_from a (x ∷ xs) =
      fold_from (sum a x) xs
      ∙ is.assoc a x (fold sum none xs)
      ∙ ap (sum a) (sym (ap (λ (t : N). fold sum t xs) (is.left x) ∙ fold_from x xs))

  pub first_and_rest : (x : N) (xs : List N) → fold sum none (x ∷ xs) ≡ sum x (fold sum none xs)
  first_and_rest x xs = ap (λ (t : N). fold sum t xs) (is.left x) ∙ fold_from x xs

  -- one of them and all others
  one_and_others : (f : ℕ → N) (pid : ℕ) (pids : List ℕ) → is_in pid pids ≡ true → twice pids ≡ false
      → fold sum none (map f pids) ≡ sum (fold sum none (map f (but pid pids))) (f pid)
  one_and_others f pid [] there apart = absurd (cc (there))
  one_and_others f pid (x ∷ pids) there apart = by_test (λ behind later. one_and_others f pid pids behind later) (eqb x pid) refl
    where
      Later : Type 0
      Later = is_in pid pids ≡ true → twice pids ≡ false → fold sum none (map f pids) ≡ sum (fold sum none (map f (but pid pids))) (f pid)

      parts : (is_in x pids ≡ false) × (twice pids ≡ false)
      parts = or_parts (is_in x pids) (twice pids) apart

      by_test : Later → (b : Bool) → eqb x pid ≡ b → fold sum none (map f (x ∷ pids)) ≡ sum (fold sum none (map f (cond (not b) (x ∷ but pid pids) (but pid pids)))) (f pid)
      by_test later true e =
          let same : x ≡ pid = eqb-true x pid e in
          first_and_rest (f x) (map f pids)
          ∙ is.comm (f x) (fold sum none (map f pids))
          ∙ ap₂ (λ (xs : List ℕ) (y : ℕ). sum (fold sum none (map f xs)) (f y))
          (sym (but_none pid pids (ap (λ (y : ℕ). is_in y pids) (sym same) ∙ parts.0))) same
      by_test later false e =
          let behind : is_in pid pids ≡ true = sym (ap (λ (b : Bool). b || is_in pid pids) (other_way x pid e)) ∙ there in
          first_and_rest (f x) (map f pids)
          ∙ ap (sum (f x)) (later behind parts.1)
          ∙ sym (is.assoc (f x) (fold sum none (map f (but pid pids))) (f pid))
          ∙ ap (λ (t : N). sum t (f pid)) (sym (first_and_rest (f x) (map f (but pid pids))))

  -- no number of nothing
  all_none : (f : ℕ → N) → ((pid : ℕ) → f pid ≡ none) → (pids : List ℕ) → fold sum none (map f pids) ≡ none
  all_none f each [] = refl
  all_none f each (pid ∷ pids) = first_and_rest (f pid) (map f pids) ∙ ap (λ (t : N). sum t (fold sum none (map f pids))) (each pid) ∙ is.left (fold sum none (map f pids)) ∙ all_none f each pids

-- Sums of the numbers of PIDs, and of units.

abbrev numbers_from : ℕ → ℕ → ℕ → ℕ → ℕ → ℕ → ℕ → PidNumbers
numbers_from h r g u b d l = record { heard = h; repeats = r; gaps = g; units = u; bad_check = b; delimited = d; bad_length = l }

same_numbers : (a b : PidNumbers) → a.heard ≡ b.heard → a.repeats ≡ b.repeats → a.gaps ≡ b.gaps → a.units ≡ b.units → a.bad_check ≡ b.bad_check → a.delimited ≡ b.delimited
    → a.bad_length ≡ b.bad_length → a ≡ b
same_numbers a b one two three four five six seven =
    ap (λ (x : ℕ). numbers_from x a.repeats a.gaps a.units a.bad_check a.delimited a.bad_length) one
    ∙ ap (λ (x : ℕ). numbers_from b.heard x a.gaps a.units a.bad_check a.delimited a.bad_length) two
    ∙ ap (λ (x : ℕ). numbers_from b.heard b.repeats x a.units a.bad_check a.delimited a.bad_length) three
    ∙ ap (λ (x : ℕ). numbers_from b.heard b.repeats b.gaps x a.bad_check a.delimited a.bad_length) four
    ∙ ap (λ (x : ℕ). numbers_from b.heard b.repeats b.gaps b.units x a.delimited a.bad_length) five
    ∙ ap (λ (x : ℕ). numbers_from b.heard b.repeats b.gaps b.units b.bad_check x a.bad_length) six
    ∙ ap (λ (x : ℕ). numbers_from b.heard b.repeats b.gaps b.units b.bad_check b.delimited x) seven

add_assoc : (a b c : ℕ) → (a + b) + c ≡ a + (b + c)
add_assoc a b c = omega arith

add_comm : (a b : ℕ) → a + b ≡ b + a
add_comm a b = omega arith

add_zero : (a : ℕ) → 0 + a ≡ a
add_zero a = omega arith

pub numbers_sum : IsSum sum_of_numbers no_numbers
numbers_sum = record {
  assoc = λ a b c.
      same_numbers (sum_of_numbers (sum_of_numbers a b) c) (sum_of_numbers a (sum_of_numbers b c))
      (add_assoc a.heard b.heard c.heard) (add_assoc a.repeats b.repeats c.repeats) (add_assoc a.gaps b.gaps c.gaps) (add_assoc a.units b.units c.units)
      (add_assoc a.bad_check b.bad_check c.bad_check) (add_assoc a.delimited b.delimited c.delimited) (add_assoc a.bad_length b.bad_length c.bad_length);
  comm = λ a b.
      same_numbers (sum_of_numbers a b) (sum_of_numbers b a)
      (add_comm a.heard b.heard) (add_comm a.repeats b.repeats) (add_comm a.gaps b.gaps) (add_comm a.units b.units)
      (add_comm a.bad_check b.bad_check) (add_comm a.delimited b.delimited) (add_comm a.bad_length b.bad_length);
  left = λ a.
      same_numbers (sum_of_numbers no_numbers a) a
      (add_zero a.heard) (add_zero a.repeats) (add_zero a.gaps) (add_zero a.units) (add_zero a.bad_check) (add_zero a.delimited) (add_zero a.bad_length);
}

abbrev units_from : ℕ → ℕ → ℕ → UnitNumbers
units_from u f d = record { unread = u; filtered = f; datagrams = d }

same_units : (a b : UnitNumbers) → a.unread ≡ b.unread → a.filtered ≡ b.filtered → a.datagrams ≡ b.datagrams → a ≡ b
same_units a b one two three =
    ap (λ (x : ℕ). units_from x a.filtered a.datagrams) one
    ∙ ap (λ (x : ℕ). units_from b.unread x a.datagrams) two
    ∙ ap (λ (x : ℕ). units_from b.unread b.filtered x) three

pub units_sum : IsSum sum_of_units no_units
units_sum = record {
  assoc = λ a b c.
      same_units (sum_of_units (sum_of_units a b) c) (sum_of_units a (sum_of_units b c))
      (add_assoc a.unread b.unread c.unread) (add_assoc a.filtered b.filtered c.filtered) (add_assoc a.datagrams b.datagrams c.datagrams);
  comm = λ a b. same_units (sum_of_units a b) (sum_of_units b a) (add_comm a.unread b.unread) (add_comm a.filtered b.filtered) (add_comm a.datagrams b.datagrams);
  left = λ a. same_units (sum_of_units no_units a) a (add_zero a.unread) (add_zero a.filtered) (add_zero a.datagrams);
}

abbrev frames_with : ℕ → ℕ → ℕ → ℕ → FrameNumbers
frames_with f m l d = record { frames = f; rows_mended = m; rows_left = l; datagrams = d }

same_frames : (a b : FrameNumbers) → a.frames ≡ b.frames → a.rows_mended ≡ b.rows_mended → a.rows_left ≡ b.rows_left → a.datagrams ≡ b.datagrams → a ≡ b
same_frames a b one two three four =
    ap (λ (x : ℕ). frames_with x a.rows_mended a.rows_left a.datagrams) one
    ∙ ap (λ (x : ℕ). frames_with b.frames x a.rows_left a.datagrams) two
    ∙ ap (λ (x : ℕ). frames_with b.frames b.rows_mended x a.datagrams) three
    ∙ ap (λ (x : ℕ). frames_with b.frames b.rows_mended b.rows_left x) four

pub frames_sum : IsSum sum_of_frames no_frames
frames_sum = record {
  assoc = λ a b c.
      same_frames (sum_of_frames (sum_of_frames a b) c) (sum_of_frames a (sum_of_frames b c))
      (add_assoc a.frames b.frames c.frames) (add_assoc a.rows_mended b.rows_mended c.rows_mended) (add_assoc a.rows_left b.rows_left c.rows_left)
      (add_assoc a.datagrams b.datagrams c.datagrams);
  comm = λ a b.
      same_frames (sum_of_frames a b) (sum_of_frames b a)
      (add_comm a.frames b.frames) (add_comm a.rows_mended b.rows_mended) (add_comm a.rows_left b.rows_left) (add_comm a.datagrams b.datagrams);
  left = λ a.
      same_frames (sum_of_frames no_frames a) a (add_zero a.frames) (add_zero a.rows_mended) (add_zero a.rows_left) (add_zero a.datagrams);
}

-- The units of all spans give the sums over the spans.

count_more : {X : Type 0} (p : X → Bool) (xs ys : List X) → count_by p (xs ++ ys) ≡ count_by p xs + count_by p ys
count_more p xs ys = sum_by-append (λ y. cond (p y) 1 0) xs ys

units_more : (it : ServiceFields) (xs ys : List (List ℕ)) → unit_numbers it (xs ++ ys) ≡ sum_of_units (unit_numbers it xs) (unit_numbers it ys)
units_more it xs ys =
    same_units (unit_numbers it (xs ++ ys)) (sum_of_units (unit_numbers it xs) (unit_numbers it ys))
    (count_more (is_unread it) xs ys) (count_more (is_filtered it) xs ys)
    (ap (λ (t : List (List ℕ)). length t) (flat_map-append (delivered_by_unit it) xs ys) ∙ length-append (flat_map (delivered_by_unit it) xs) (flat_map (delivered_by_unit it) ys))

units_in_all : (it : ServiceFields) (units : ℕ → List (List ℕ)) (pids : List ℕ)
    → unit_numbers it (flat_map units pids) ≡ fold sum_of_units no_units (map (λ pid. unit_numbers it (units pid)) pids)
units_in_all it units [] = refl
units_in_all it units (pid ∷ pids) =
    units_more it (units pid) (flat_map units pids)
    ∙ ap (sum_of_units (unit_numbers it (units pid))) (units_in_all it units pids)
    ∙ sym (first_and_rest sum_of_units no_units units_sum (unit_numbers it (units pid)) (map (λ pid2. unit_numbers it (units pid2)) pids))

map_same : {X : Type 0} (f g : ℕ → X) → ((x : ℕ) → f x ≡ g x) → (xs : List ℕ) → map f xs ≡ map g xs
map_same f g each [] = refl
map_same {X} f g each (x ∷ xs) = ap₂ (λ (a : X) (t : List X). a ∷ t) (each x) (map_same f g each xs)

pub units_by_pids : (plan : PlanFields) (k : ℕ) (records : List Record) → unit_numbers_of plan k records ≡ fold sum_of_units no_units (map (unit_numbers_on plan k records) (pids_in plan k))
units_by_pids plan k records =
    units_in_all (slice_index_or plan.services k no_service) (λ pid. units_of (service_on plan k pid) (span_of plan k pid records)) (pids_in plan k)
    ∙ ap (fold sum_of_units no_units)
    (map_same (λ pid. unit_numbers (slice_index_or plan.services k no_service) (units_of (service_on plan k pid) (span_of plan k pid records))) (unit_numbers_on plan k records)
    (λ pid. sym (same_unit_numbers (slice_index_or plan.services k no_service) pid (units_of (service_on plan k pid) (span_of plan k pid records)))) (pids_in plan k))

-- One PID and all others.

module _ (plan : PlanFields) (k pid version : ℕ) (records : List Record) (right_changes : has_wrong_change plan ≡ false) (within : version ≤ length plan.changes)
    (on : pid_in plan version k ≡ Some pid) where
  there : is_in pid (pids_in plan k) ≡ true
  there = pid_is_in plan version k pid (omega (arith, within)) on

  apart : twice (pids_in plan k) ≡ false
  apart = once plan k right_changes

  numbers_parted : numbers_of plan k records ≡ sum_of_numbers (numbers_before plan k pid records) (numbers_on plan k records pid)
  numbers_parted = one_and_others sum_of_numbers no_numbers numbers_sum (numbers_on plan k records) pid (pids_in plan k) there apart

  units_parted : unit_numbers_of plan k records ≡ sum_of_units (unit_numbers_before plan k pid records) (unit_numbers_on plan k records pid)
  units_parted = units_by_pids plan k records ∙ one_and_others sum_of_units no_units units_sum (unit_numbers_on plan k records) pid (pids_in plan k) there apart

  frames_parted : frame_numbers_of plan k records ≡ sum_of_frames (frame_numbers_before plan k pid records) (frame_numbers_on true plan k records pid)
  frames_parted = one_and_others sum_of_frames no_frames frames_sum (frame_numbers_on true plan k records) pid (pids_in plan k) there apart

  -- told so far: by whether each span has ended
  told_parted : (ended : ℕ → Bool)
      → fold sum_of_frames no_frames (map (λ x. frame_numbers_on (ended x) plan k records x) (pids_in plan k))
      ≡ sum_of_frames (fold sum_of_frames no_frames (map (λ x. frame_numbers_on (ended x) plan k records x) (other_pids plan k pid))) (frame_numbers_on (ended pid) plan k records pid)
  told_parted ended = one_and_others sum_of_frames no_frames frames_sum (λ x. frame_numbers_on (ended x) plan k records x) pid (pids_in plan k) there apart

pub frames_are : (plan : PlanFields) (k pid version : ℕ) (records : List Record) → has_wrong_change plan ≡ false → version ≤ length plan.changes → pid_in plan version k ≡ Some pid
    → frame_numbers_of plan k records ≡ sum_of_frames (frame_numbers_before plan k pid records) (frame_numbers_on true plan k records pid)
frames_are = frames_parted

pub told_frames_are : (plan : PlanFields) (k pid : ℕ) (records : List Record) → has_wrong_change plan ≡ false → pid_in_force plan k records ≡ Some pid
    → told_frame_numbers plan k records ≡ sum_of_frames (frame_numbers_before plan k pid records) (frame_numbers_on false plan k records pid)
told_frames_are plan k pid records right_changes on =
    told_parted plan k pid (version_at_end plan records) records right_changes (most plan records (length records)) on (λ x. takes_no_more plan records k x)
    ∙ ap₂ sum_of_frames
    (ap (fold sum_of_frames no_frames)
    (map_but (λ x. frame_numbers_on (takes_no_more plan records k x) plan k records x) (frame_numbers_on true plan k records) pid
    (λ x differs. ap (λ (b : Bool). frame_numbers_on b plan k records x) (ended_elsewhere plan k x pid records on (other_way x pid differs))) (pids_in plan k)))
    (ap (λ (b : Bool). frame_numbers_on b plan k records pid) (not_ended plan k pid records on))

-- All datagrams are counted.

module _ (f : ℕ → List (List ℕ)) (u : ℕ → UnitNumbers) (g : ℕ → FrameNumbers) (each : (pid : ℕ) → length (f pid) ≡ (u pid).datagrams + (g pid).datagrams) where
  counted : (pids : List ℕ) → length (flat_map f pids) ≡ (fold sum_of_units no_units (map u pids)).datagrams + (fold sum_of_frames no_frames (map g pids)).datagrams
  counted [] = refl
  counted (pid ∷ pids) =
      let units : (fold sum_of_units no_units (u pid ∷ map u pids)).datagrams ≡ (u pid).datagrams + (fold sum_of_units no_units (map u pids)).datagrams
      = ap (λ (n : UnitNumbers). n.datagrams) (first_and_rest sum_of_units no_units units_sum (u pid) (map u pids)) in
      let frames : (fold sum_of_frames no_frames (g pid ∷ map g pids)).datagrams ≡ (g pid).datagrams + (fold sum_of_frames no_frames (map g pids)).datagrams
      = ap (λ (n : FrameNumbers). n.datagrams) (first_and_rest sum_of_frames no_frames frames_sum (g pid) (map g pids)) in
      omega (arith, length-append (f pid) (flat_map f pids), each pid, counted pids, units, frames)

tells_counted : (ended : Bool) (plan : PlanFields) (k pid : ℕ) (records : List Record)
    → length (tells ended plan k records pid) ≡ (unit_numbers_on plan k records pid).datagrams + (frame_numbers_on ended plan k records pid).datagrams
tells_counted ended plan k pid records =
    length-append (delivered_datagrams (service_on plan k pid) (span_of plan k pid records))
    (datagrams_of_frames (rows_of (service_on plan k pid).kind) (told_frames ended plan.recording (service_on plan k pid).kind (span_of plan k pid records)))

pub delivered_counted : (plan : PlanFields) (k : ℕ) (records : List Record)
    → length (delivered_of plan k records) ≡ (unit_numbers_of plan k records).datagrams + (frame_numbers_of plan k records).datagrams
delivered_counted plan k records =
    counted (delivered_on plan k records) (unit_numbers_on plan k records) (frame_numbers_on true plan k records) (λ pid. tells_counted true plan k pid records) (pids_in plan k)
    ∙ ap (λ (n : UnitNumbers). n.datagrams + (frame_numbers_of plan k records).datagrams) (sym (units_by_pids plan k records))

pub told_counted : (plan : PlanFields) (k : ℕ) (records : List Record)
    → length (told_of plan k records) ≡ (unit_numbers_of plan k records).datagrams + (told_frame_numbers plan k records).datagrams
told_counted plan k records =
    counted (told_on plan k records) (unit_numbers_on plan k records) (λ pid. frame_numbers_on (takes_no_more plan records k pid) plan k records pid)
    (λ pid. tells_counted (takes_no_more plan records k pid) plan k pid records) (pids_in plan k)
    ∙ ap (λ (n : UnitNumbers). n.datagrams + (told_frame_numbers plan k records).datagrams) (sym (units_by_pids plan k records))

pub numbers_are : (plan : PlanFields) (k pid version : ℕ) (records : List Record) → has_wrong_change plan ≡ false → version ≤ length plan.changes → pid_in plan version k ≡ Some pid
    → numbers_of plan k records ≡ sum_of_numbers (numbers_before plan k pid records) (numbers_on plan k records pid)
numbers_are = numbers_parted

pub units_are : (plan : PlanFields) (k pid version : ℕ) (records : List Record) → has_wrong_change plan ≡ false → version ≤ length plan.changes → pid_in plan version k ≡ Some pid
    → unit_numbers_of plan k records ≡ sum_of_units (unit_numbers_before plan k pid records) (unit_numbers_on plan k records pid)
units_are = units_parted

-- One record more.

pub before_stays : (plan : PlanFields) (k pid : ℕ) (records : List Record) (r : Record) → pid_in_force plan k records ≡ Some pid
    → numbers_before plan k pid (records ++ r ∷ []) ≡ numbers_before plan k pid records
before_stays plan k pid records r on =
    ap (fold sum_of_numbers no_numbers)
    (map_but (numbers_on plan k (records ++ r ∷ [])) (numbers_on plan k records) pid
    (λ x differs. numbers_same plan k x records r (inl (not_heard plan k x pid records on (other_way x pid differs)))) (pids_in plan k))

pub units_before_stay : (plan : PlanFields) (k pid : ℕ) (records : List Record) (r : Record) → pid_in_force plan k records ≡ Some pid
    → unit_numbers_before plan k pid (records ++ r ∷ []) ≡ unit_numbers_before plan k pid records
units_before_stay plan k pid records r on =
    ap (fold sum_of_units no_units)
    (map_but (unit_numbers_on plan k (records ++ r ∷ [])) (unit_numbers_on plan k records) pid
    (λ x differs. unit_numbers_same plan k x records r (inl (not_heard plan k x pid records on (other_way x pid differs)))) (pids_in plan k))

pub frames_before_stay : (plan : PlanFields) (k pid : ℕ) (records : List Record) (r : Record) → pid_in_force plan k records ≡ Some pid
    → frame_numbers_before plan k pid (records ++ r ∷ []) ≡ frame_numbers_before plan k pid records
frames_before_stay plan k pid records r on =
    ap (fold sum_of_frames no_frames)
    (map_but (frame_numbers_on true plan k (records ++ r ∷ [])) (frame_numbers_on true plan k records) pid
    (λ x differs. frame_numbers_same true plan k x records r (inl (not_heard plan k x pid records on (other_way x pid differs)))) (pids_in plan k))

-- A record that moves the service.

module _ (plan : PlanFields) (k old new : ℕ) (records : List Record) (r : Record) (right_changes : has_wrong_change plan ≡ false)
    (on : pid_in_force plan k records ≡ Some old) (on_then : pid_in_force plan k (records ++ r ∷ []) ≡ Some new) (differs : new ≢ old) where
  abbrev next : List Record
  next = records ++ r ∷ []

  numbers_moved : numbers_before plan k new next ≡ sum_of_numbers (numbers_before plan k old records) (numbers_on plan k next old)
  numbers_moved =
      sym (right sum_of_numbers no_numbers numbers_sum (numbers_before plan k new next))
      ∙ ap (sum_of_numbers (numbers_before plan k new next)) (sym (moved_blank plan k old new records r right_changes on on_then differs).numbers)
      ∙ sym (numbers_are plan k new (version_at_end plan next) next right_changes (most plan next (length next)) on_then)
      ∙ numbers_are plan k old (version_at_end plan records) next right_changes (most plan records (length records)) on
      ∙ ap (λ (t : PidNumbers). sum_of_numbers t (numbers_on plan k next old)) (before_stays plan k old records r on)

  units_moved : unit_numbers_before plan k new next ≡ sum_of_units (unit_numbers_before plan k old records) (unit_numbers_on plan k next old)
  units_moved =
      sym (right sum_of_units no_units units_sum (unit_numbers_before plan k new next))
      ∙ ap (sum_of_units (unit_numbers_before plan k new next)) (sym (moved_blank plan k old new records r right_changes on on_then differs).unit_numbers)
      ∙ sym (units_are plan k new (version_at_end plan next) next right_changes (most plan next (length next)) on_then)
      ∙ units_are plan k old (version_at_end plan records) next right_changes (most plan records (length records)) on
      ∙ ap (λ (t : UnitNumbers). sum_of_units t (unit_numbers_on plan k next old)) (units_before_stay plan k old records r on)

  frames_moved : frame_numbers_before plan k new next ≡ sum_of_frames (frame_numbers_before plan k old records) (frame_numbers_on true plan k next old)
  frames_moved =
      sym (right sum_of_frames no_frames frames_sum (frame_numbers_before plan k new next))
      ∙ ap (sum_of_frames (frame_numbers_before plan k new next)) (sym ((moved_blank plan k old new records r right_changes on on_then differs).frame_numbers true))
      ∙ sym (frames_are plan k new (version_at_end plan next) next right_changes (most plan next (length next)) on_then)
      ∙ frames_are plan k old (version_at_end plan records) next right_changes (most plan records (length records)) on
      ∙ ap (λ (t : FrameNumbers). sum_of_frames t (frame_numbers_on true plan k next old)) (frames_before_stay plan k old records r on)

pub frames_move : (plan : PlanFields) (k old new : ℕ) (records : List Record) (r : Record) → has_wrong_change plan ≡ false
    → pid_in_force plan k records ≡ Some old → pid_in_force plan k (records ++ r ∷ []) ≡ Some new → new ≢ old
    → frame_numbers_before plan k new (records ++ r ∷ []) ≡ sum_of_frames (frame_numbers_before plan k old records) (frame_numbers_on true plan k (records ++ r ∷ []) old)
frames_move = frames_moved

pub numbers_move : (plan : PlanFields) (k old new : ℕ) (records : List Record) (r : Record) → has_wrong_change plan ≡ false
    → pid_in_force plan k records ≡ Some old → pid_in_force plan k (records ++ r ∷ []) ≡ Some new → new ≢ old
    → numbers_before plan k new (records ++ r ∷ []) ≡ sum_of_numbers (numbers_before plan k old records) (numbers_on plan k (records ++ r ∷ []) old)
numbers_move = numbers_moved

pub units_move : (plan : PlanFields) (k old new : ℕ) (records : List Record) (r : Record) → has_wrong_change plan ≡ false
    → pid_in_force plan k records ≡ Some old → pid_in_force plan k (records ++ r ∷ []) ≡ Some new → new ≢ old
    → unit_numbers_before plan k new (records ++ r ∷ []) ≡ sum_of_units (unit_numbers_before plan k old records) (unit_numbers_on plan k (records ++ r ∷ []) old)
units_move = units_moved

-- Of nothing.

pub before_none : (plan : PlanFields) (k pid : ℕ) → numbers_before plan k pid [] ≡ no_numbers
before_none plan k pid = all_none sum_of_numbers no_numbers numbers_sum (numbers_on plan k []) (λ x. (first_blank plan k x).numbers) (other_pids plan k pid)

pub units_before_none : (plan : PlanFields) (k pid : ℕ) → unit_numbers_before plan k pid [] ≡ no_units
units_before_none plan k pid = all_none sum_of_units no_units units_sum (unit_numbers_on plan k []) (λ x. (first_blank plan k x).unit_numbers) (other_pids plan k pid)

pub frames_before_none : (plan : PlanFields) (k pid : ℕ) → frame_numbers_before plan k pid [] ≡ no_frames
frames_before_none plan k pid =
    all_none sum_of_frames no_frames frames_sum (frame_numbers_on true plan k []) (λ x. (first_blank plan k x).frame_numbers true) (other_pids plan k pid)

pub told_frames_none : (plan : PlanFields) (k : ℕ) → told_frame_numbers plan k [] ≡ no_frames
told_frames_none plan k =
    all_none sum_of_frames no_frames frames_sum (λ pid. frame_numbers_on (takes_no_more plan [] k pid) plan k [] pid)
    (λ x. (first_blank plan k x).frame_numbers (takes_no_more plan [] k x)) (pids_in plan k)
