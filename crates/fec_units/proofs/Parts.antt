-- Parts of a list of datagrams, and their bytes.
use Rattle.std.proofs.Common.{◌≡◌, inl, inr, ℕ, zero, suc, ◌+◌, ◌-◌, ◌<◌, ◌≤◌, List, [], ◌∷◌, ◌++◌, length, get_or, slice_get, Some, take, drop, refl, ap, sym, ◌∙◌, subst, arith}
use Rattle.std.proofs.lemmas.List.{append_assoc, length-append, length-drop, length-take-le, get_or-take, get_or-drop, take_more, drop_more, take-take}
use Rattle.wire_spec.specs.Lists.{joined}
use Rattle.section_spec.specs.Mpe.{IsRows}
use Rattle.fec_frame_spec.specs.Frame.{datagram_start}
use Rattle.fec_frame_law.proofs.Places.{datagram_long, start_most}
use Rattle.fec_units.specs.Parts.{part_of}
use Rattle.fec_sent_law.specs.Frames.{AreSendable, IsSendable}

pub joined-append : (xs ys : List (List ℕ)) → joined (xs ++ ys) ≡ joined xs ++ joined ys
joined-append [] ys = refl
joined-append (x ∷ xs) ys = ap (λ (t : List ℕ). x ++ t) (joined-append xs ys) ∙ sym (append_assoc x (joined xs) (joined ys))

-- the item that a place has
pub got : (list : List (List ℕ)) (n : ℕ) (item : List ℕ) → slice_get list n ≡ Some item → (n < length list) × (get_or list n [] ≡ item)
got [] zero item is = absurd (cc)
got [] (suc n) item is = absurd (cc)
got (x ∷ list) zero item is = (omega arith, cc)
got (x ∷ list) (suc n) item is = let later = got list n item is in (omega (arith, later.0), later.1)

pub part_none : (from : ℕ) (list : List (List ℕ)) → part_of from from list ≡ []
part_none from list = let e : from - from ≡ 0 = omega arith in ap (λ (n : ℕ). take n (drop from list)) e

-- one datagram more
pub part_more : (from end : ℕ) (list : List (List ℕ)) → from ≤ end → end < length list → part_of from (end + 1) list ≡ part_of from end list ++ get_or list end [] ∷ []
part_more from end list le within =
    let count : end + 1 - from ≡ end - from + 1 = omega arith in
    let place : from + (end - from) ≡ end = omega arith in
    ap (λ (n : ℕ). take n (drop from list)) count
    ∙ take_more (drop from list) (end - from) [] (omega (arith, length-drop from list))
    ∙ ap (λ (d : List ℕ). take (end - from) (drop from list) ++ d ∷ []) (get_or-drop from list (end - from) [] ∙ ap (λ (n : ℕ). get_or list n []) place)

-- the first datagram, and those after it
pub part_first : (from end : ℕ) (list : List (List ℕ)) → from < end → end ≤ length list → part_of from end list ≡ get_or list from [] ∷ part_of (from + 1) end list
part_first from end list less within =
    let count : end - from ≡ suc (end - (from + 1)) = omega arith in
    ap (λ (n : ℕ). take n (drop from list)) count ∙ ap (λ (l : List (List ℕ)). take (suc (end - (from + 1))) l) (drop_more list from [] (omega arith))

pub length-part : (from end : ℕ) (list : List (List ℕ)) → from ≤ end → end ≤ length list → length (part_of from end list) ≡ end - from
length-part from end list le within = length-take-le (end - from) (drop from list) (omega (arith, length-drop from list))

pub part_at : (from end : ℕ) (list : List (List ℕ)) (n : ℕ) → n < end - from → get_or (part_of from end list) n [] ≡ get_or list (from + n) []
part_at from end list n less = get_or-take (end - from) (drop from list) n [] less ∙ get_or-drop from list n []

-- the bytes of one more
pub part_bytes_more : (from end : ℕ) (list : List (List ℕ)) → from ≤ end → end < length list
    → length (joined (part_of from (end + 1) list)) ≡ length (joined (part_of from end list)) + length (get_or list end [])
part_bytes_more from end list le within =
    let d : List ℕ = get_or list end [] in
    let part : List (List ℕ) = part_of from end list in
    ap (λ (l : List (List ℕ)). length (joined l)) (part_more from end list le within)
    ∙ ap (λ (l : List ℕ). length l) (joined-append part (d ∷ []))
    ∙ omega (arith, length-append (joined part) (joined (d ∷ [])), length-append d [])

-- some datagrams of a part have no more bytes than all of them
pub part_grows : (from place end : ℕ) (list : List (List ℕ)) → place ≤ end → length (joined (part_of from place list)) ≤ length (joined (part_of from end list))
unfolding datagram_start
part_grows from place end list le =
    let fewer : place - from ≤ end - from = omega (arith, le) in
    subst (λ (l : List (List ℕ)). length (joined l) ≤ length (joined (part_of from end list))) (take-take (place - from) (end - from) (drop from list) fewer)
    (start_most (part_of from end list) (place - from))

-- a part with a datagram has a byte
pub part_some : (from end : ℕ) (list : List (List ℕ)) → AreSendable list → from < end → end ≤ length list → 1 ≤ length (joined (part_of from end list))
part_some from end list all less within =
    let first : List ℕ = get_or list from [] in
    let it : IsSendable first = all from [] (omega (arith, less, within)) in
    omega (
      arith,
      ap (λ (l : List (List ℕ)). length (joined l)) (part_first from end list less within),
      length-append first (joined (part_of (from + 1) end list)),
      datagram_long first it.is,
    )

pub rows_within : (rows : ℕ) → IsRows rows → (256 ≤ rows) × (rows ≤ 1024)
rows_within rows (inl is) = (omega (arith, is), omega (arith, is))
rows_within rows (inr (inl is)) = (omega (arith, is), omega (arith, is))
rows_within rows (inr (inr (inl is))) = (omega (arith, is), omega (arith, is))
rows_within rows (inr (inr (inr is))) = (omega (arith, is), omega (arith, is))

-- what is known of the item at a place
pub sendable_at : (list : List (List ℕ)) (n : ℕ) (item : List ℕ) → slice_get list n ≡ Some item → AreSendable list → IsSendable item
sendable_at list n item is all = let there = got list n item is in subst IsSendable there.1 (all n [] there.0)
