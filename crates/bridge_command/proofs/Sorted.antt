-- Captured frames and their numbers, with one frame more.
use Rattle.std.proofs.Common.{◌≡◌, ℕ, zero, suc, ◌+◌, ◌<◌, ◌≤◌, Bool, true, false, List, [], ◌∷◌, ◌++◌, length, refl, ap, sym, ◌∙◌, arith, append-nil, cond, leb}
use Rattle.std.specs.Prelude.{◌&&◌, nat_lt, filter, count_by, All, Result, Ok, Err, OnOk}
use Rattle.std.proofs.lemmas.List.{length-append}
use Rattle.std.proofs.lemmas.List.Elements.{filter-append}
use Rattle.std.proofs.lemmas.List.Sums.{length-filter, count_by-le-length}
use Rattle.pcap_file.specs.Reading.{most_records}
use Rattle.std.proofs.lemmas.Bool.{lt-ltb, le-ltb, leb-true}
use Rattle.bridge_spec.specs.Frames.{BridgeCarrier, on_isi}
use Rattle.bridge_spec.specs.Sending.{has_room, is_too_short, is_too_long, longest_frame, frames_to_carry}
use Rattle.bridge_command.specs.Tally.{IsBridgeTally}
use Rattle.bridge_command.specs.declared.ends.BridgeTally.{BridgeTally}

count_push : {X : Type 0} (p : X → Bool) (xs : List X) (x : X) → count_by p (xs ++ x ∷ []) ≡ count_by p xs + count_by p (x ∷ [])
count_push p xs x =
    sym (length-filter p (xs ++ x ∷ [])) ∙ (ap length (filter-append p xs (x ∷ [])) ∙ (length-append (filter p xs) (filter p (x ∷ []))
    ∙ (ap (λ n. n + length (filter p (x ∷ []))) (length-filter p xs) ∙ ap (λ n. count_by p xs + n) (length-filter p (x ∷ [])))))

one_counted : {X : Type 0} (p : X → Bool) (x : X) → p x ≡ true → count_by p (x ∷ []) ≡ 1
one_counted p x is = rw is refl

none_counted : {X : Type 0} (p : X → Bool) (x : X) → p x ≡ false → count_by p (x ∷ []) ≡ 0
none_counted p x is = rw is refl

one_kept : {X : Type 0} (p : X → Bool) (x : X) → p x ≡ true → filter p (x ∷ []) ≡ x ∷ []
one_kept p x is = rw is refl

none_kept : {X : Type 0} (p : X → Bool) (x : X) → p x ≡ false → filter p (x ∷ []) ≡ []
none_kept p x is = rw is refl

-- the frames that are carried
pub carried_more : (carrier : BridgeCarrier) (captured : List (List ℕ)) (frame : List ℕ) → has_room carrier frame ≡ true
    → frames_to_carry carrier (captured ++ frame ∷ []) ≡ frames_to_carry carrier captured ++ frame ∷ []
carried_more carrier captured frame room =
    filter-append (has_room carrier) captured (frame ∷ []) ∙ ap (λ l. frames_to_carry carrier captured ++ l) (one_kept (has_room carrier) frame room)

pub carried_same : (carrier : BridgeCarrier) (captured : List (List ℕ)) (frame : List ℕ) → has_room carrier frame ≡ false
    → frames_to_carry carrier (captured ++ frame ∷ []) ≡ frames_to_carry carrier captured
carried_same carrier captured frame room =
    filter-append (has_room carrier) captured (frame ∷ []) ∙ (ap (λ l. frames_to_carry carrier captured ++ l) (none_kept (has_room carrier) frame room)
    ∙ append-nil (frames_to_carry carrier captured))

-- the numbers
tally_more : (carrier : BridgeCarrier) (captured : List (List ℕ)) (frame : List ℕ) (old new : BridgeTally) (a b c : ℕ) → IsBridgeTally carrier captured old
    → count_by (has_room carrier) (frame ∷ []) ≡ a → count_by is_too_short (frame ∷ []) ≡ b → count_by (is_too_long carrier) (frame ∷ []) ≡ c
    → new.offered ≡ old.offered + a → new.too_short ≡ old.too_short + b → new.too_long ≡ old.too_long + c → IsBridgeTally carrier (captured ++ frame ∷ []) new
tally_more carrier captured frame old new a b c is ra rb rc na nb nc = record {
  offered = omega (arith, na, is.offered, length-filter (has_room carrier) captured, length-filter (has_room carrier) (captured ++ frame ∷ []), count_push (has_room carrier) captured frame, ra);
  too_short = omega (arith, nb, is.too_short, count_push is_too_short captured frame, rb);
  too_long = omega (arith, nc, is.too_long, count_push (is_too_long carrier) captured frame, rc);
}

-- a number below another, or not
not_below : (m n : ℕ) → n ≤ m → nat_lt m n ≡ false
not_below m n most = le-ltb m n most

pub room_is : (carrier : BridgeCarrier) (frame : List ℕ) → 14 ≤ length frame → length frame ≤ longest_frame carrier → has_room carrier frame ≡ true
room_is carrier frame least most = grind (arith, least, most)

pub room_short : (carrier : BridgeCarrier) (frame : List ℕ) → length frame < 14 → has_room carrier frame ≡ false
room_short carrier frame short = grind (arith, short)

pub room_long : (carrier : BridgeCarrier) (frame : List ℕ) → longest_frame carrier < length frame → has_room carrier frame ≡ false
room_long carrier frame long = grind (arith, long)

pub tally_short : (carrier : BridgeCarrier) (captured : List (List ℕ)) (frame : List ℕ) (old : BridgeTally) → IsBridgeTally carrier captured old → length frame < 14
    → 14 ≤ longest_frame carrier → IsBridgeTally carrier (captured ++ frame ∷ []) (record { offered = old.offered; too_short = old.too_short + 1; too_long = old.too_long })
tally_short carrier captured frame old is short wide =
    tally_more carrier captured frame old (record { offered = old.offered; too_short = old.too_short + 1; too_long = old.too_long }) 0 1 0 is
    (none_counted (has_room carrier) frame (room_short carrier frame short)) (one_counted is_too_short frame (lt-ltb (length frame) 14 short))
    (none_counted (is_too_long carrier) frame (not_below (longest_frame carrier) (length frame) (omega (arith, short, wide)))) (omega arith) refl (omega arith)

pub tally_long : (carrier : BridgeCarrier) (captured : List (List ℕ)) (frame : List ℕ) (old : BridgeTally) → IsBridgeTally carrier captured old → 14 ≤ length frame
    → longest_frame carrier < length frame → IsBridgeTally carrier (captured ++ frame ∷ []) (record { offered = old.offered; too_short = old.too_short; too_long = old.too_long + 1 })
tally_long carrier captured frame old is least long =
    tally_more carrier captured frame old (record { offered = old.offered; too_short = old.too_short; too_long = old.too_long + 1 }) 0 0 1 is
    (none_counted (has_room carrier) frame (room_long carrier frame long)) (none_counted is_too_short frame (not_below (length frame) 14 least))
    (one_counted (is_too_long carrier) frame (lt-ltb (longest_frame carrier) (length frame) long)) (omega arith) (omega arith) refl

pub tally_kept : (carrier : BridgeCarrier) (captured : List (List ℕ)) (frame : List ℕ) (old : BridgeTally) → IsBridgeTally carrier captured old → 14 ≤ length frame
    → length frame ≤ longest_frame carrier → IsBridgeTally carrier (captured ++ frame ∷ []) (record { offered = old.offered + 1; too_short = old.too_short; too_long = old.too_long })
tally_kept carrier captured frame old is least most =
    tally_more carrier captured frame old (record { offered = old.offered + 1; too_short = old.too_short; too_long = old.too_long }) 1 0 0 is
    (one_counted (has_room carrier) frame (room_is carrier frame least most)) (none_counted is_too_short frame (not_below (length frame) 14 least))
    (none_counted (is_too_long carrier) frame (not_below (longest_frame carrier) (length frame) most)) refl (omega arith) (omega arith)

-- the numbers are small
pub kept_few : (carrier : BridgeCarrier) (captured : List (List ℕ)) (tally : BridgeTally) → IsBridgeTally carrier captured tally → length captured < most_records
    → tally.offered < 4194304
kept_few carrier captured tally is few =
    omega (arith, is.offered, length-filter (has_room carrier) captured, count_by-le-length (has_room carrier) captured, few)

-- the two bounds of a length
bounds : (least most n : ℕ) → (leb least n && leb n most) ≡ true → (least ≤ n) × (n ≤ most)
bounds least most n room = (by_first (leb least n) refl room, by_second (leb least n) (leb n most) refl room)
  where
    by_first : (b : Bool) → leb least n ≡ b → (b && leb n most) ≡ true → least ≤ n
    by_first true e is = leb-true least n e
    by_first false e is = absurd (cc)

    by_second : (a b : Bool) → leb n most ≡ b → (a && b) ≡ true → n ≤ most
    by_second true true e is = leb-true n most e
    by_second true false e is = absurd (cc)
    by_second false b e is = absurd (cc)

pub room_bounds : (carrier : BridgeCarrier) (frame : List ℕ) → has_room carrier frame ≡ true → (14 ≤ length frame) × (length frame ≤ longest_frame carrier)
room_bounds carrier frame room = bounds 14 (longest_frame carrier) (length frame) room

all_cons : (x : List ℕ) (xs : List (List ℕ)) → length x ≤ 65527 → All (λ (item : List ℕ). length item ≤ 65527) xs → All (λ (item : List ℕ). length item ≤ 65527) (x ∷ xs)
all_cons x xs here rest zero d below = here
all_cons x xs here rest (suc k) d below = rest k d (omega (arith, below))

-- PDUs are short
pub carried_short : (captured : List (List ℕ)) → All (λ (item : List ℕ). length item ≤ 65527) (frames_to_carry (on_isi 0) captured)
carried_short [] = λ k d below. absurd (omega (arith, below))
carried_short (frame ∷ captured) = by_test (has_room (on_isi 0) frame) refl (carried_short captured)
  where
    by_test : (b : Bool) → has_room (on_isi 0) frame ≡ b → All (λ (item : List ℕ). length item ≤ 65527) (frames_to_carry (on_isi 0) captured)
        → All (λ (item : List ℕ). length item ≤ 65527) (cond b (frame ∷ filter (has_room (on_isi 0)) captured) (filter (has_room (on_isi 0)) captured))
    by_test true e rest = all_cons frame (filter (has_room (on_isi 0)) captured) (room_bounds (on_isi 0) frame e).1 rest
    by_test false e rest = rest

-- what follows of an Ok
pub on_ok : {T E : Type 0} (r : Result T E) (P Q : Type 0) → (P → Q) → OnOk r P → OnOk r Q
on_ok (Ok x) P Q f h = f h
on_ok (Err e) P Q f h = tt

pub on_ok_of_three : {T E : Type 0} (r : Result T E) (A B C Q : Type 0) → (A → B → C → Q) → OnOk r A → OnOk r B → OnOk r C → OnOk r Q
on_ok_of_three (Ok x) A B C Q f a b c = f a b c
on_ok_of_three (Err e) A B C Q f a b c = tt
