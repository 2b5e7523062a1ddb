-- Numbers with one event, one refusal, some PDUs more.
use Rattle.std.proofs.Common.{◌≡◌, ℕ, zero, suc, ◌+◌, ◌^◌, ◌<◌, ◌≤◌, Bool, true, false, cond, List, [], ◌∷◌, ◌++◌, length, option_to_list, refl, ap, sym, ◌∙◌, arith, length-append, append_assoc, Option, None, Some}
use Rattle.std.specs.List.{flat_map, count_by}
use Rattle.std.proofs.lemmas.List.{append-nil}
use Rattle.std.proofs.lemmas.List.Sums.{sum_by-append, count_by-le-length}
use Rattle.std.proofs.lemmas.Grind.{flat_map-append}
use Rattle.wire_spec.specs.Causes.{raised}
use Rattle.addr_rules.specs.Filter.{is_wanted}
use Rattle.gse_spec.specs.Reassembly.{Pdu}
use Rattle.gse_spec.specs.Received.{carried_by_pdu, delivered_by_pdu}
use Rattle.gse_spec.specs.Events.{GseEvent, pdu_event, bad_check_event, delimit_event, bad_length_event, is_pdu_event, is_bad_check, is_delimit, is_bad_length}
use Rattle.gse_spec.specs.Numbers.{IsiNumbers, PduNumbers, is_unread, is_filtered, pdu_numbers}
use Rattle.gse_reception.specs.Counting.{counted_event, counted_events, raised_by, counted_pdus}
use Rattle.gse_reception.specs.Steps.{numbers_with}

-- a counter that does not reach its last value
raised_below : (n k : ℕ) → n + k < 2 ^ 64 → raised n k ≡ n + k
raised_below n k few = omega (arith, few)

raised_by_below : (n k : ℕ) → n + k < 2 ^ 64 → raised_by n k ≡ n + k
raised_by_below n zero few = omega arith
raised_by_below n (suc k) few = raised_below n (suc k) few

count_one : {X : Type 0} (p : X → Bool) (xs : List X) (x : X) → count_by p (xs ++ x ∷ []) ≡ count_by p xs + cond (p x) 1 0
count_one p xs x = omega (arith, sum_by-append (λ y. cond (p y) 1 0) xs (x ∷ []))

count_more : {X : Type 0} (p : X → Bool) (xs ys : List X) → count_by p (xs ++ ys) ≡ count_by p xs + count_by p ys
count_more p xs ys = sum_by-append (λ y. cond (p y) 1 0) xs ys

-- one event more, of a kind that is counted beside so many refusals, and of another kind
counted_yes : (p : GseEvent → Bool) (given : List GseEvent) (event : GseEvent) (refused : ℕ) → p event ≡ true → length given + refused + 1 < 2 ^ 64
    → raised (count_by p given + refused) 1 ≡ count_by p (given ++ event ∷ []) + refused
counted_yes p given event refused is few =
    let one : count_by p (given ++ event ∷ []) ≡ count_by p given + 1 = count_one p given event ∙ ap (λ (b : Bool). count_by p given + cond b 1 0) is in
    raised_below (count_by p given + refused) 1 (omega (arith, count_by-le-length p given, few)) ∙ omega (arith, one)

counted_no : (p : GseEvent → Bool) (given : List GseEvent) (event : GseEvent) → p event ≡ false → count_by p given ≡ count_by p (given ++ event ∷ [])
counted_no p given event is_not =
    sym (count_one p given event ∙ ap (λ (b : Bool). count_by p given + cond b 1 0) is_not ∙ omega arith)

-- one that is counted by itself
counted_alone : (p : GseEvent → Bool) (given : List GseEvent) (event : GseEvent) → p event ≡ true → length given + 1 < 2 ^ 64
    → raised (count_by p given) 1 ≡ count_by p (given ++ event ∷ [])
counted_alone p given event is few =
    raised_below (count_by p given) 1 (omega (arith, count_by-le-length p given, few))
    ∙ sym (count_one p given event ∙ ap (λ (b : Bool). count_by p given + cond b 1 0) is)

abbrev numbers_from : ℕ → ℕ → ℕ → ℕ → ℕ → IsiNumbers
numbers_from h u b d l = record { heard = h; units = u; bad_check = b; delimited = d; bad_length = l }

same_numbers : (h : ℕ) {u v b c d e l m : ℕ} → u ≡ v → b ≡ c → d ≡ e → l ≡ m → numbers_from h u b d l ≡ numbers_from h v c e m
same_numbers h {u} {v} {b} {c} {d} {e} {l} {m} one two three four =
    ap (λ (x : ℕ). numbers_from h x b d l) one ∙ ap (λ (x : ℕ). numbers_from h v x d l) two
    ∙ ap (λ (x : ℕ). numbers_from h v c x l) three ∙ ap (λ (x : ℕ). numbers_from h v c e x) four

event_counted : (h : ℕ) (given : List GseEvent) (refused : ℕ) (event : GseEvent) → length given + refused + 1 < 2 ^ 64
    → counted_event (numbers_with h given refused) event ≡ numbers_with h (given ++ event ∷ []) refused
event_counted h given refused event few = by_kind event
  where
    alone : length given + 1 < 2 ^ 64
    alone = omega (arith, few)

    no : (p : GseEvent → Bool) (e : GseEvent) → p e ≡ false → count_by p given ≡ count_by p (given ++ e ∷ [])
    no p e is_not = counted_no p given e is_not

    no_more : (e : GseEvent) → is_bad_length e ≡ false → count_by is_bad_length given + refused ≡ count_by is_bad_length (given ++ e ∷ []) + refused
    no_more e is_not = ap (λ (n : ℕ). n + refused) (counted_no is_bad_length given e is_not)

    by_kind : (e : GseEvent) → counted_event (numbers_with h given refused) e ≡ numbers_with h (given ++ e ∷ []) refused
    by_kind pdu_event =
        same_numbers h (counted_alone is_pdu_event given pdu_event refl alone) (no is_bad_check pdu_event refl) (no is_delimit pdu_event refl) (no_more pdu_event refl)
    by_kind bad_check_event =
        same_numbers h (no is_pdu_event bad_check_event refl) (counted_alone is_bad_check given bad_check_event refl alone) (no is_delimit bad_check_event refl) (no_more bad_check_event refl)
    by_kind delimit_event =
        same_numbers h (no is_pdu_event delimit_event refl) (no is_bad_check delimit_event refl) (counted_alone is_delimit given delimit_event refl alone) (no_more delimit_event refl)
    by_kind bad_length_event =
        same_numbers h (no is_pdu_event bad_length_event refl) (no is_bad_check bad_length_event refl) (no is_delimit bad_length_event refl)
        (counted_yes is_bad_length given bad_length_event refused refl few)

pub events_counted : (h : ℕ) (given : List GseEvent) (refused : ℕ) (events : List GseEvent) → length given + refused + length events < 2 ^ 64
    → counted_events (numbers_with h given refused) events ≡ numbers_with h (given ++ events) refused
events_counted h given refused [] few = sym (ap (λ (t : List GseEvent). numbers_with h t refused) (append-nil given))
events_counted h given refused (event ∷ events) few =
    ap (λ (n : IsiNumbers). counted_events n events) (event_counted h given refused event (omega (arith, few)))
    ∙ events_counted h (given ++ event ∷ []) refused events (omega (arith, length-append given (event ∷ []), few))
    ∙ ap (λ (t : List GseEvent). numbers_with h t refused) (append_assoc given (event ∷ []) events)

pub refusal_counted : (h : ℕ) (events : List GseEvent) (refused : ℕ) → length events + refused + 1 < 2 ^ 64
    → counted_event (numbers_with h events refused) bad_length_event ≡ numbers_with h events (refused + 1)
refusal_counted h events refused few =
    ap (λ (x : ℕ). numbers_from h (count_by is_pdu_event events) (count_by is_bad_check events) (count_by is_delimit events) x)
    (raised_below (count_by is_bad_length events + refused) 1 (omega (arith, count_by-le-length is_bad_length events, few)) ∙ omega arith)

-- PDUs: each delivers one datagram at most
at_most_one : {X : Type 0} (found : Option X) → length (option_to_list found) ≤ 1
at_most_one None = omega arith
at_most_one (Some x) = omega arith

few_delivered_by : (filter : List (List ℕ)) (pdu : Pdu) → length (delivered_by_pdu carried_by_pdu filter pdu) ≤ 1
few_delivered_by filter pdu = by_test (is_wanted filter pdu.label)
  where
    by_test : (b : Bool) → length {A = List ℕ} (cond b (carried_by_pdu pdu) []) ≤ 1
    by_test true = at_most_one _
    by_test false = omega arith

few_delivered : (filter : List (List ℕ)) (pdus : List Pdu) → length (flat_map (delivered_by_pdu carried_by_pdu filter) pdus) ≤ length pdus
few_delivered filter [] = omega arith
few_delivered filter (pdu ∷ pdus) =
    omega (
      arith,
      few_delivered_by filter pdu,
      few_delivered filter pdus,
      length-append (delivered_by_pdu carried_by_pdu filter pdu) (flat_map (delivered_by_pdu carried_by_pdu filter) pdus),
    )

abbrev pdus_from : ℕ → ℕ → ℕ → PduNumbers
pdus_from u f d = record { unread = u; filtered = f; datagrams = d }

same_pdus : {u v f g d e : ℕ} → u ≡ v → f ≡ g → d ≡ e → pdus_from u f d ≡ pdus_from v g e
same_pdus {u} {v} {f} {g} {d} {e} one two three =
    ap (λ (x : ℕ). pdus_from x f d) one ∙ ap (λ (x : ℕ). pdus_from v x d) two ∙ ap (λ (x : ℕ). pdus_from v g x) three

-- the numbers of PDUs, with some more
pub pdus_counted : (filter : List (List ℕ)) (xs ys : List Pdu) → length xs + length ys < 2 ^ 64
    → counted_pdus (pdu_numbers carried_by_pdu filter xs) (pdu_numbers carried_by_pdu filter ys) ≡ pdu_numbers carried_by_pdu filter (xs ++ ys)
pdus_counted filter xs ys few = same_pdus (counted (is_unread carried_by_pdu)) (counted (is_filtered carried_by_pdu filter)) delivered
  where
    counted : (p : Pdu → Bool) → raised_by (count_by p xs) (count_by p ys) ≡ count_by p (xs ++ ys)
    counted p =
        raised_by_below (count_by p xs) (count_by p ys) (omega (arith, count_by-le-length p xs, count_by-le-length p ys, few))
        ∙ sym (count_more p xs ys)

    delivered : raised_by (length (flat_map (delivered_by_pdu carried_by_pdu filter) xs)) (length (flat_map (delivered_by_pdu carried_by_pdu filter) ys))
        ≡ length (flat_map (delivered_by_pdu carried_by_pdu filter) (xs ++ ys))
    delivered =
        raised_by_below (length (flat_map (delivered_by_pdu carried_by_pdu filter) xs)) (length (flat_map (delivered_by_pdu carried_by_pdu filter) ys))
        (omega (arith, few_delivered filter xs, few_delivered filter ys, few))
        ∙ sym (ap (λ (t : List (List ℕ)). length t) (flat_map-append (delivered_by_pdu carried_by_pdu filter) xs ys)
        ∙ length-append (flat_map (delivered_by_pdu carried_by_pdu filter) xs) (flat_map (delivered_by_pdu carried_by_pdu filter) ys))
