-- Filling, place by place.
use Rattle.std.proofs.Common.{◌≡◌, ◌⊎◌, inl, inr, ℕ, ◌+◌, ◌-◌, ◌<◌, ◌≤◌, Bool, true, false, ◌&&◌, ◌||◌, cond, leb, ltb, List, ◌++◌, length, get_or, set, take, drop, bit_or, Option, Some, None, refl, ap, ap₂, sym, ◌∙◌, arith, length-set, length-append, length-drop}
use borrow.Rule.Slice.PartMut.{put_mid}
use Rattle.std.proofs.lemmas.Bool.{cases_eq, cases_lt, agree_below_at, and_from, and_left, and_right, lt-ltb, le-ltb, le-leb, lt-leb, cond-true, cond-false}
use Rattle.std.proofs.lemmas.List.{get_or-set_same, get_or-set_other, get_or_append_left, get_or-append_right, get_or-take, get_or-drop, length-take-le}
use Rattle.fec_frame_spec.specs.Known.{is_in}
use Rattle.fec_frame.specs.Marks.{is_known_mark, is_start_mark, marked_byte}
use Rattle.fec_frame.specs.Filled.{AreMarkedKnown, ArePut, IsFilled}

pub known_bit : (m : ℕ) → m < 256 → is_known_mark (bit_or m 1) ≡ true
known_bit m low = agree_below_at (λ (b : ℕ). is_known_mark (bit_or b 1)) (λ (b : ℕ). true) 256 m refl low

pub start_stays : (m : ℕ) → m < 256 → is_start_mark (bit_or m 1) ≡ is_start_mark m
start_stays m low = agree_below_at (λ (b : ℕ). is_start_mark (bit_or b 1)) is_start_mark 256 m refl low

pub start_bit : (m : ℕ) → m < 256 → is_start_mark (bit_or m 2) ≡ true
start_bit m low = agree_below_at (λ (b : ℕ). is_start_mark (bit_or b 2)) (λ (b : ℕ). true) 256 m refl low

pub known_stays : (m : ℕ) → m < 256 → is_known_mark (bit_or m 2) ≡ is_known_mark m
known_stays m low = agree_below_at (λ (b : ℕ). is_known_mark (bit_or b 2)) is_known_mark 256 m refl low

-- places between two

pub is_in-none : (from place : ℕ) → is_in from from place ≡ false
is_in-none from place = by_order (cases_lt place from)
  where
    by_order : (place < from) ⊎ (from ≤ place) → is_in from from place ≡ false
    by_order (inl less) = and_left (leb from place) (ltb place from) (lt-leb from place less)
    by_order (inr order) = and_right (leb from place) (ltb place from) (le-ltb place from order)

is_in-last : (from to : ℕ) → from ≤ to → is_in from (to + 1) to ≡ true
is_in-last from to order = and_from (leb from to) (ltb to (to + 1)) (le-leb from to order) (lt-ltb to (to + 1) (omega arith))

is_in-other : (from to place : ℕ) → (place ≡ to → ⊥) → is_in from (to + 1) place ≡ is_in from to place
is_in-other from to place other = ap (λ (b : Bool). leb from place && b) (by_order (cases_lt place to))
  where
    by_order : (place < to) ⊎ (to ≤ place) → ltb place (to + 1) ≡ ltb place to
    by_order (inl less) = lt-ltb place (to + 1) (omega (arith, less)) ∙ sym (lt-ltb place to less)
    by_order (inr order) = le-ltb place (to + 1) (omega (arith, order, other)) ∙ sym (le-ltb place to order)

pub is_in-before : (from to place : ℕ) → place < from → is_in from to place ≡ false
is_in-before from to place low = and_left (leb from place) (ltb place to) (lt-leb from place low)

pub is_in-after : (from to place : ℕ) → to ≤ place → is_in from to place ≡ false
is_in-after from to place over = and_right (leb from place) (ltb place to) (le-ltb place to over)

pub is_in-inside : (from to place : ℕ) → from ≤ place → place < to → is_in from to place ≡ true
is_in-inside from to place order low = and_from (leb from place) (ltb place to) (le-leb from place order) (lt-ltb place to low)

-- Bytes put and marks set are a part filled.

byte_is : (bytes marks : List ℕ) (place : ℕ) → marked_byte bytes marks place ≡ cond (is_known_mark (get_or marks place 0)) (Some (get_or bytes place 0)) None
unfolding marked_byte
byte_is bytes marks place = refl

inside_or_before : (inside known : Bool) (told before : ℕ) → cond (inside || known) (Some (cond inside told before)) None ≡ cond inside (Some told) (cond known (Some before) None)
inside_or_before true known told before = refl
inside_or_before false known told before = refl

pub filled_by : (old old_marks new new_marks : List ℕ) (from to : ℕ) (told : ℕ → ℕ) → ArePut old new from to told → AreMarkedKnown old_marks new_marks from to
    → IsFilled old old_marks new new_marks from to told
filled_by old old_marks new new_marks from to told put marked = record {
  long = put.long;
  marks_long = marked.long;
  byte = λ place.
      byte_is new new_marks place
      ∙ ap₂ (λ (b : Bool) (x : ℕ). cond b (Some x) None) (marked.known place) (put.byte place)
      ∙ inside_or_before (is_in from to place) (is_known_mark (get_or old_marks place 0)) (told place) (get_or old place 0)
      ∙ ap (λ (o : Option ℕ). cond (is_in from to place) (Some (told place)) o) (sym (byte_is old old_marks place));
  start = marked.start;
}

-- A part of a list, written anew.

put_below : (from k : ℕ) (old part : List ℕ) (place : ℕ) → from ≤ length old → place < from → get_or (put_mid from k old part) place 0 ≡ get_or old place 0
put_below from k old part place long low =
    let l : length (take from old) ≡ from = length-take-le from old long in
    get_or_append_left (take from old) (part ++ drop k (drop from old)) 0 place (omega (arith, l, low)) ∙ get_or-take from old place 0 low

put_inside : (from k : ℕ) (old part : List ℕ) (place : ℕ) → from ≤ length old → from ≤ place → place - from < length part → get_or (put_mid from k old part) place 0 ≡ get_or part (place - from) 0
put_inside from k old part place long order low =
    let l : length (take from old) ≡ from = length-take-le from old long in
    get_or-append_right (take from old) (part ++ drop k (drop from old)) from place 0 l order
    ∙ get_or_append_left part (drop k (drop from old)) 0 (place - from) low

put_after : (from k : ℕ) (old part : List ℕ) (place : ℕ) → from ≤ length old → length part ≡ k → from + k ≤ place → get_or (put_mid from k old part) place 0 ≡ get_or old place 0
put_after from k old part place long size order =
    let l : length (take from old) ≡ from = length-take-le from old long in
    let e : from + (k + (place - from - k)) ≡ place = omega (arith, order) in
    get_or-append_right (take from old) (part ++ drop k (drop from old)) from place 0 l (omega (arith, order))
    ∙ get_or-append_right part (drop k (drop from old)) k (place - from) 0 size (omega (arith, order))
    ∙ get_or-drop k (drop from old) (place - from - k) 0
    ∙ get_or-drop from old (k + (place - from - k)) 0
    ∙ ap (λ (n : ℕ). get_or old n 0) e

put_long : (from k : ℕ) (old part : List ℕ) → from + k ≤ length old → length part ≡ k → length (put_mid from k old part) ≡ length old
put_long from k old part long size =
    let l : length (take from old) ≡ from = length-take-le from old (omega (arith, long)) in
    let d : length (drop k (drop from old)) ≡ length old - from - k = length-drop k (drop from old) ∙ ap (λ (n : ℕ). n - k) (length-drop from old) in
    length-append (take from old) (part ++ drop k (drop from old))
    ∙ ap (λ (n : ℕ). length (take from old) + n) (length-append part (drop k (drop from old)))
    ∙ (omega (arith, l, d, size, long))

pub part_put : (from to k : ℕ) (told : ℕ → ℕ) (old part : List ℕ) → from + k ≡ to → to ≤ length old → length part ≡ k
    → ((place : ℕ) → from ≤ place → place < to → get_or part (place - from) 0 ≡ told place) → ArePut old (put_mid from k old part) from to told
part_put from to k told old part end long size is = record {
  long = put_long from k old part (omega (arith, end, long)) size;
  byte = λ place. by_order place (cases_lt place from) (cases_lt place to);
}
  where
    outside : (place : ℕ) → is_in from to place ≡ false → get_or (put_mid from k old part) place 0 ≡ get_or old place 0
        → get_or (put_mid from k old part) place 0 ≡ cond (is_in from to place) (told place) (get_or old place 0)
    outside place out same = same ∙ sym (cond-false (is_in from to place) (told place) (get_or old place 0) out)

    by_order : (place : ℕ) → (place < from) ⊎ (from ≤ place) → (place < to) ⊎ (to ≤ place)
        → get_or (put_mid from k old part) place 0 ≡ cond (is_in from to place) (told place) (get_or old place 0)
    by_order place (inl low) side =
        outside place (is_in-before from to place low) (put_below from k old part place (omega (arith, end, long)) low)
    by_order place (inr order) (inl low) =
        put_inside from k old part place (omega (arith, end, long)) order (omega (arith, order, low, end, size)) ∙ is place order low
        ∙ sym (cond-true (is_in from to place) (told place) (get_or old place 0) (is_in-inside from to place order low))
    by_order place (inr order) (inr over) =
        outside place (is_in-after from to place over) (put_after from k old part place (omega (arith, end, long)) size (omega (arith, end, over)))

-- Marks set, place by place.

pub marked_none : (old : List ℕ) (from : ℕ) → AreMarkedKnown old old from from
marked_none old from = record {
  long = refl;
  known = λ place. ap (λ (b : Bool). b || is_known_mark (get_or old place 0)) (sym (is_in-none from place));
  start = λ place. refl;
}

pub marked_more : (old marks : List ℕ) (from to mark : ℕ) → from ≤ to → to < length marks → is_known_mark mark ≡ true → is_start_mark mark ≡ is_start_mark (get_or marks to 0)
    → AreMarkedKnown old marks from to → AreMarkedKnown old (set marks to mark) from (to + 1)
marked_more old marks from to mark order below known start marked = record {
  long = length-set marks to mark ∙ marked.long;
  known = λ place. by_known place (cases_eq place to);
  start = λ place. by_start place (cases_eq place to);
}
  where
    by_known : (place : ℕ) → (place ≡ to) ⊎ (place ≡ to → ⊥) → is_known_mark (get_or (set marks to mark) place 0) ≡ (is_in from (to + 1) place || is_known_mark (get_or old place 0))
    by_known place (inl same) =
        ap (λ (p : ℕ). is_known_mark (get_or (set marks to mark) p 0)) same ∙ ap is_known_mark (get_or-set_same marks to mark 0 below) ∙ known
        ∙ sym (ap (λ (b : Bool). b || is_known_mark (get_or old place 0)) (ap (λ (p : ℕ). is_in from (to + 1) p) same ∙ is_in-last from to order))
    by_known place (inr other) =
        ap is_known_mark (get_or-set_other marks to place mark 0 other) ∙ marked.known place
        ∙ ap (λ (b : Bool). b || is_known_mark (get_or old place 0)) (sym (is_in-other from to place other))

    by_start : (place : ℕ) → (place ≡ to) ⊎ (place ≡ to → ⊥) → is_start_mark (get_or (set marks to mark) place 0) ≡ is_start_mark (get_or old place 0)
    by_start place (inl same) =
        ap (λ (p : ℕ). is_start_mark (get_or (set marks to mark) p 0)) same ∙ ap is_start_mark (get_or-set_same marks to mark 0 below) ∙ start
        ∙ marked.start to ∙ ap (λ (p : ℕ). is_start_mark (get_or old p 0)) (sym same)
    by_start place (inr other) = ap is_start_mark (get_or-set_other marks to place mark 0 other) ∙ marked.start place

-- Zeros that stand already need not be filled in.

pub filled_rest : (old marks new new_marks : List ℕ) (from zeros_from limit : ℕ) → zeros_from ≤ limit
    → ((place : ℕ) → zeros_from ≤ place → place < limit → marked_byte old marks place ≡ Some 0)
    → IsFilled old marks new new_marks from zeros_from (λ (place : ℕ). 0) → IsFilled old marks new new_marks from limit (λ (place : ℕ). 0)
filled_rest old marks new new_marks from zeros_from limit order zeros filled = record {
  long = filled.long;
  marks_long = filled.marks_long;
  byte = λ place. filled.byte place ∙ by_order place (cases_lt place zeros_from) (cases_lt place limit);
  start = filled.start;
}
  where
    either : (b : Bool) → ◌≡◌ {A = Option ℕ} (Some 0) (cond b (Some 0) (Some 0))
    either true = refl
    either false = refl

    by_order : (place : ℕ) → (place < zeros_from) ⊎ (zeros_from ≤ place) → (place < limit) ⊎ (limit ≤ place)
        → cond (is_in from zeros_from place) (Some 0) (marked_byte old marks place) ≡ cond (is_in from limit place) (Some 0) (marked_byte old marks place)
    by_order place (inl low) side =
        ap (λ (b : Bool). cond (leb from place && b) (Some 0) (marked_byte old marks place)) (lt-ltb place zeros_from low ∙ sym (lt-ltb place limit (omega (arith, low, order))))
    by_order place (inr over) (inl low) =
        cond-false (is_in from zeros_from place) (Some 0) (marked_byte old marks place) (is_in-after from zeros_from place over)
        ∙ zeros place over low ∙ either (is_in from limit place)
        ∙ ap (λ (o : Option ℕ). cond (is_in from limit place) (Some 0) o) (sym (zeros place over low))
    by_order place (inr over) (inr out) =
        ap (λ (b : Bool). cond (leb from place && b) (Some 0) (marked_byte old marks place)) (le-ltb place zeros_from over ∙ sym (le-ltb place limit out))

-- where nothing is left to fill in
pub filled_whole : (old marks : List ℕ) (from zeros_from limit : ℕ) → zeros_from ≤ from
    → ((place : ℕ) → zeros_from ≤ place → place < limit → marked_byte old marks place ≡ Some 0)
    → IsFilled old marks old marks from limit (λ (place : ℕ). 0)
filled_whole old marks from zeros_from limit order zeros = record {
  long = refl;
  marks_long = refl;
  byte = λ place. by_order place (cases_lt place from) (cases_lt place limit);
  start = λ place. refl;
}
  where
    by_order : (place : ℕ) → (place < from) ⊎ (from ≤ place) → (place < limit) ⊎ (limit ≤ place) → marked_byte old marks place ≡ cond (is_in from limit place) (Some 0) (marked_byte old marks place)
    by_order place (inl low) side = sym (cond-false (is_in from limit place) (Some 0) (marked_byte old marks place) (is_in-before from limit place low))
    by_order place (inr over) (inl low) =
        zeros place (omega (arith, order, over)) low ∙ sym (cond-true (is_in from limit place) (Some 0) (marked_byte old marks place) (is_in-inside from limit place over low))
    by_order place (inr over) (inr out) = sym (cond-false (is_in from limit place) (Some 0) (marked_byte old marks place) (is_in-after from limit place out))
