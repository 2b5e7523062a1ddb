-- Where datagrams stand in the application data table.
use Rattle.std.proofs.Common.{◌≡◌, ◌⊎◌, inl, inr, ℕ, zero, suc, ◌+◌, ◌-◌, ◌*◌, ◌<◌, ◌≤◌, List, [], ◌∷◌, ◌++◌, length, get_or, drop, take, replicate, refl, ap, sym, ◌∙◌, arith, length-append, append_assoc}
use Rattle.std.proofs.lemmas.Bool.{cases_order}
use Rattle.std.proofs.lemmas.List.{take_all, length-replicate, get_or-drop, get_or_append_left, get_or-append_right, get_or-append-add, drop-append-le, drop_at}
use Rattle.wire_spec.specs.Lists.{joined}
use Rattle.wire_spec.specs.Datagram.{IsDatagram}
use Rattle.fec_frame_spec.specs.Frame.{FrameFields, data_table, table_of, datagram_start}
use Rattle.fec_frame_law.proofs.Lists.{drop_over, zero_at}

-- a datagram has bytes
pub datagram_long : (d : List ℕ) → IsDatagram d → 1 ≤ length d
datagram_long d (inl four) = omega (arith, four.header, four.holds_header, four.size)
datagram_long d (inr six) = omega (arith, six.size)

-- Starts.

pub start_zero : (ds : List (List ℕ)) → datagram_start ds 0 ≡ 0
unfolding datagram_start
start_zero ds = refl

-- the next one starts where the one before ends
pub start_next : (ds : List (List ℕ)) (n : ℕ) → n < length ds → datagram_start ds (suc n) ≡ datagram_start ds n + length (get_or ds n [])
unfolding datagram_start
start_next [] n within = absurd (omega arith)
start_next (d ∷ ds) zero within = omega (arith, length-append d [])
start_next (d ∷ ds) (suc n) within =
    omega (arith, length-append d (joined (take (suc n) ds)), length-append d (joined (take n ds)), start_next ds n (omega arith))

-- after the last one
pub start_all : (ds : List (List ℕ)) → datagram_start ds (length ds) ≡ length (joined ds)
unfolding datagram_start
start_all ds = ap (λ (l : List (List ℕ)). length (joined l)) (take_all (length ds) ds (omega arith))

pub start_most : (ds : List (List ℕ)) (n : ℕ) → datagram_start ds n ≤ length (joined ds)
unfolding datagram_start
start_most [] zero = omega arith
start_most [] (suc n) = omega arith
start_most (d ∷ ds) zero = omega arith
start_most (d ∷ ds) (suc n) = omega (arith, length-append d (joined (take n ds)), length-append d (joined ds), start_most ds n)

-- what stands from a start on
pub drop_start : (ds : List (List ℕ)) (n : ℕ) → n < length ds → drop (datagram_start ds n) (joined ds) ≡ get_or ds n [] ++ joined (drop (suc n) ds)
unfolding datagram_start
drop_start [] n within = absurd (omega arith)
drop_start (d ∷ ds) zero within = refl
drop_start (d ∷ ds) (suc n) within =
    ap (λ (k : ℕ). drop k (d ++ joined ds)) (length-append d (joined (take n ds)))
    ∙ drop_over d (joined ds) (length (joined (take n ds)))
    ∙ drop_start ds n (omega arith)

-- the bytes of a datagram
pub joined_at : (ds : List (List ℕ)) (n j : ℕ) → n < length ds → j < length (get_or ds n []) → get_or (joined ds) (datagram_start ds n + j) 0 ≡ get_or (get_or ds n []) j 0
joined_at ds n j within inside =
    sym (get_or-drop (datagram_start ds n) (joined ds) j 0)
    ∙ ap (λ (l : List ℕ). get_or l j 0) (drop_start ds n within)
    ∙ get_or_append_left (get_or ds n []) (joined (drop (suc n) ds)) 0 j inside

-- starts rise, where no datagram is empty
pub starts_apart : (ds : List (List ℕ)) → ((i : ℕ) → i < length ds → 1 ≤ length (get_or ds i [])) → (n k : ℕ) → n + k ≤ length ds
    → datagram_start ds n + k ≤ datagram_start ds (n + k)
starts_apart ds long n zero within = let e : n + 0 ≡ n = omega arith in omega (arith, ap (datagram_start ds) e)
starts_apart ds long n (suc k) within =
    let e : n + suc k ≡ suc (n + k) = omega arith in
    omega (arith, ap (datagram_start ds) e, start_next ds (n + k) (omega arith), long (n + k) (omega arith), starts_apart ds long n k (omega arith))

pub start_below : (ds : List (List ℕ)) → ((i : ℕ) → i < length ds → 1 ≤ length (get_or ds i [])) → (i j : ℕ) → i < j → j ≤ length ds
    → datagram_start ds i < datagram_start ds j
start_below ds long i j less within =
    let e : i + (j - i) ≡ j = omega arith in
    omega (arith, ap (datagram_start ds) e, starts_apart ds long i (j - i) (omega arith))

-- datagrams that start at one place are one
pub one_start : (ds : List (List ℕ)) → ((i : ℕ) → i < length ds → 1 ≤ length (get_or ds i [])) → (i j : ℕ) → i ≤ length ds → j ≤ length ds
    → datagram_start ds i ≡ datagram_start ds j → i ≡ j
one_start ds long i j within_i within_j same = by_order (cases_order i j)
  where
    by_order : (i ≡ j) ⊎ ((i < j) ⊎ (j < i)) → i ≡ j
    by_order (inl equal) = equal
    by_order (inr (inl less)) = absurd (omega (arith, same, start_below ds long i j less within_j))
    by_order (inr (inr more)) = absurd (omega (arith, same, start_below ds long j i more within_i))

-- The table.

pub data_long : (rows : ℕ) (ds : List (List ℕ)) → length (joined ds) ≤ 191 * rows → length (data_table rows ds) ≡ 191 * rows
unfolding data_table
data_long rows ds fits =
    omega (arith, length-append (joined ds) (replicate (191 * rows - length (joined ds)) 0), length-replicate {A = ℕ} (191 * rows - length (joined ds)) 0)

-- a byte of the datagrams, and zero after them
pub data_at : (rows : ℕ) (ds : List (List ℕ)) (place : ℕ) → place < length (joined ds) → get_or (data_table rows ds) place 0 ≡ get_or (joined ds) place 0
unfolding data_table
data_at rows ds place inside = get_or_append_left (joined ds) (replicate (191 * rows - length (joined ds)) 0) 0 place inside

pub data_zero : (rows : ℕ) (ds : List (List ℕ)) (place : ℕ) → length (joined ds) ≤ place → get_or (data_table rows ds) place 0 ≡ 0
unfolding data_table
data_zero rows ds place behind =
    get_or-append_right (joined ds) (replicate (191 * rows - length (joined ds)) 0) (length (joined ds)) place 0 refl behind
    ∙ zero_at (191 * rows - length (joined ds)) (place - length (joined ds))

-- what stands from a start on, and from the end on
pub drop_data : (rows : ℕ) (ds : List (List ℕ)) (n : ℕ) → n < length ds
    → drop (datagram_start ds n) (data_table rows ds) ≡ get_or ds n [] ++ (joined (drop (suc n) ds) ++ replicate (191 * rows - length (joined ds)) 0)
unfolding data_table
drop_data rows ds n within =
    drop-append-le (datagram_start ds n) (joined ds) (replicate (191 * rows - length (joined ds)) 0) (start_most ds n)
    ∙ ap (λ (l : List ℕ). l ++ replicate (191 * rows - length (joined ds)) 0) (drop_start ds n within)
    ∙ append_assoc (get_or ds n []) (joined (drop (suc n) ds)) (replicate (191 * rows - length (joined ds)) 0)

pub drop_all_data : (rows : ℕ) (ds : List (List ℕ)) → drop (length (joined ds)) (data_table rows ds) ≡ replicate (191 * rows - length (joined ds)) 0
unfolding data_table
drop_all_data rows ds = drop_at (joined ds) (replicate (191 * rows - length (joined ds)) 0) (length (joined ds)) refl

pub table_data : (rows : ℕ) (frame : FrameFields) (place : ℕ) → length (joined frame.datagrams) ≤ 191 * rows → place < 191 * rows
    → get_or (table_of rows frame) place 0 ≡ get_or (data_table rows frame.datagrams) place 0
unfolding table_of
table_data rows frame place fits inside =
    get_or_append_left (data_table rows frame.datagrams) frame.parity 0 place (omega (arith, data_long rows frame.datagrams fits))

pub table_parity : (rows : ℕ) (frame : FrameFields) (k : ℕ) → length (joined frame.datagrams) ≤ 191 * rows
    → get_or (table_of rows frame) (191 * rows + k) 0 ≡ get_or frame.parity k 0
unfolding table_of
table_parity rows frame k fits =
    ap (λ (n : ℕ). get_or (data_table rows frame.datagrams ++ frame.parity) (n + k) 0) (sym (data_long rows frame.datagrams fits))
    ∙ get_or-append-add (data_table rows frame.datagrams) frame.parity k 0
