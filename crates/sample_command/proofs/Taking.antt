-- A sample's stream, packet by packet.
use Rattle.std.proofs.Common.{◌≡◌, ℕ, suc, ◌+◌, ◌*◌, ◌-◌, ◌<◌, ◌≤◌, true, false, List, [], ◌∷◌, ◌++◌, length, take, drop, refl, ap, ap₂, subst, sym, ◌∙◌, arith, append_assoc}
use Rattle.std.specs.Prelude.{get_or}
use Rattle.std.proofs.lemmas.List.{append-nil, length_push, length-append, map-append}
use Rattle.std.proofs.Math.Seq.{get_or-append-add, take-append_seam, drop-append_seam}
use Rattle.wire_spec.specs.Lists.{joined}
use Rattle.ts_spec.specs.Recording.{Record, records_of, stamped_record}
use Rattle.plan_spec.specs.Given.{sample_plan}
use Rattle.plan_spec.specs.Changes.{has_wrong_change, pids_in, pid_in}
use Rattle.reception_spec.specs.Delivered.{told_pairs}
use Rattle.sample_spec.specs.Draws.{state_after}
use Rattle.sample_spec.specs.Datagrams.{datagram_count}
use Rattle.sample_spec.specs.Summary.{is_dropped, kept_of}
use Rattle.demux_core.specs.Receiving.{ReceiverState, HasReceived}
use Rattle.sample_command.specs.Counting.{StandsFor}
use Rattle.sample_command.specs.Taking.{ArePieces, kept_records, HasTaken, IsTaking}
use Rattle.sample_command.specs.declared.outlet.Delivered.{Delivered}
use Rattle.sample_command.proofs.Kept.{dropped_yes, dropped_no, kept_yes, kept_no}

-- nothing was taken
pub none_taken : (number draws : ℕ) (receiver : ReceiverState) (delivered : Delivered) → draws ≡ state_after number (2 * datagram_count)
    → HasReceived false sample_plan [] receiver → StandsFor delivered [] → HasTaken number [] draws 0 receiver delivered
none_taken number draws receiver delivered drawn received told = record {
  drawn = drawn;
  dropped_is = refl;
  received = received;
  told = told;
}

-- one draw more
one_draw_more : (number now count : ℕ) (pieces : List (List ℕ)) (piece : List ℕ) → now ≡ state_after number (count + length pieces + 1)
    → now ≡ state_after number (count + length (pieces ++ piece ∷ []))
one_draw_more number now count pieces piece drawn =
    let e : count + length pieces + 1 ≡ count + length (pieces ++ piece ∷ []) = omega (arith, length_push pieces piece) in
    drawn ∙ ap (state_after number) e

-- a packet is dropped
pub one_dropped : (number draws now dropped : ℕ) (receiver : ReceiverState) (delivered : Delivered) (pieces : List (List ℕ)) (piece : List ℕ)
    → HasTaken number pieces draws dropped receiver delivered → is_dropped number (length pieces) ≡ true
    → now ≡ state_after number (2 * datagram_count + length pieces + 1) → HasTaken number (pieces ++ piece ∷ []) now (dropped + 1) receiver delivered
one_dropped number draws now dropped receiver delivered pieces piece taken lost drawn =
    let same : kept_records number pieces ≡ kept_records number (pieces ++ piece ∷ []) = sym (ap (λ (it : List (List ℕ)). records_of sample_plan.recording it) (kept_no number pieces piece lost)) in
    record {
      drawn = one_draw_more number now (2 * datagram_count) pieces piece drawn;
      dropped_is = ap (λ (n : ℕ). n + 1) taken.dropped_is ∙ sym (dropped_yes number pieces piece lost);
      received = subst (λ (records : List Record). HasReceived false sample_plan records receiver) same taken.received;
      told = subst (λ (records : List Record). StandsFor delivered (told_pairs sample_plan records)) same taken.told;
    }

-- a packet is received
pub one_received : (number draws now dropped : ℕ) (receiver now_receiver : ReceiverState) (delivered now_delivered : Delivered) (pieces : List (List ℕ)) (piece : List ℕ) (r : Record)
    → HasTaken number pieces draws dropped receiver delivered → is_dropped number (length pieces) ≡ false → r ≡ stamped_record piece
    → now ≡ state_after number (2 * datagram_count + length pieces + 1)
    → HasReceived false sample_plan (kept_records number pieces ++ r ∷ []) now_receiver → StandsFor now_delivered (told_pairs sample_plan (kept_records number pieces ++ r ∷ []))
    → HasTaken number (pieces ++ piece ∷ []) now dropped now_receiver now_delivered
one_received number draws now dropped receiver now_receiver delivered now_delivered pieces piece r taken kept is drawn received told =
    let more : kept_records number pieces ++ r ∷ [] ≡ kept_records number (pieces ++ piece ∷ []) =
    ap (λ (x : Record). kept_records number pieces ++ x ∷ []) is ∙ sym (map-append stamped_record (kept_of number pieces) (piece ∷ []))
    ∙ sym (ap (λ (it : List (List ℕ)). records_of sample_plan.recording it) (kept_yes number pieces piece kept)) in
    record {
      drawn = one_draw_more number now (2 * datagram_count) pieces piece drawn;
      dropped_is = taken.dropped_is ∙ sym (dropped_no number pieces piece kept);
      received = subst (λ (records : List Record). HasReceived false sample_plan records now_receiver) more received;
      told = subst (λ (records : List Record). StandsFor now_delivered (told_pairs sample_plan records)) more told;
    }

-- the bytes that are left begin with the next packet
pub next_taken : (number draws now dropped now_dropped : ℕ) (receiver now_receiver : ReceiverState) (delivered now_delivered : Delivered) (pieces : List (List ℕ)) (left : List ℕ)
    → ArePieces pieces → 196 ≤ length left → IsTaking number pieces left draws dropped receiver delivered
    → ((before : List (List ℕ)) → HasTaken number before draws dropped receiver delivered → HasTaken number (before ++ take 196 left ∷ []) now now_dropped now_receiver now_delivered)
    → IsTaking number pieces (drop 196 left) now now_dropped now_receiver now_delivered
next_taken number draws now dropped now_dropped receiver now_receiver delivered now_delivered pieces left each enough taking next =
    by_rest taking.after taking.parts taking.left_is
  where
    by_rest : (after : List (List ℕ)) → pieces ≡ taking.before ++ after → left ≡ joined after → IsTaking number pieces (drop 196 left) now now_dropped now_receiver now_delivered
    by_rest [] parts left_is = absurd (omega (arith, enough, ap length left_is))
    by_rest (piece ∷ after) parts left_is =
        let there : length taking.before + 0 < length pieces = omega (arith, ap length parts, length-append taking.before (piece ∷ after)) in
        let at : get_or pieces (length taking.before + 0) [] ≡ piece
        = ap (λ (xs : List (List ℕ)). get_or xs (length taking.before + 0) []) parts ∙ get_or-append-add taking.before (piece ∷ after) 0 [] in
        let size : length piece ≡ 196 = sym (ap length at) ∙ each (length taking.before + 0) [] there in
        let first : take 196 left ≡ piece = ap₂ (λ (n : ℕ) (xs : List ℕ). take n xs) (sym size) left_is ∙ take-append_seam piece (joined after) in
        let rest : drop 196 left ≡ joined after = ap₂ (λ (n : ℕ) (xs : List ℕ). drop n xs) (sym size) left_is ∙ drop-append_seam piece (joined after) in
        record {
          before = taking.before ++ piece ∷ [];
          after = after;
          parts = parts ∙ sym (append_assoc taking.before (piece ∷ []) after);
          left_is = rest;
          taken = subst (λ (x : List ℕ). HasTaken number (taking.before ++ x ∷ []) now now_dropped now_receiver now_delivered) first (next taking.before taking.taken);
        }

-- no packet is left
pub all_taken : (number draws dropped : ℕ) (receiver : ReceiverState) (delivered : Delivered) (pieces : List (List ℕ)) (left : List ℕ)
    → ArePieces pieces → length left < 196 → IsTaking number pieces left draws dropped receiver delivered → HasTaken number pieces draws dropped receiver delivered
all_taken number draws dropped receiver delivered pieces left each short taking = by_rest taking.after taking.parts taking.left_is
  where
    by_rest : (after : List (List ℕ)) → pieces ≡ taking.before ++ after → left ≡ joined after → HasTaken number pieces draws dropped receiver delivered
    by_rest [] parts left_is = subst (λ (xs : List (List ℕ)). HasTaken number xs draws dropped receiver delivered) (sym (parts ∙ append-nil taking.before)) taking.taken
    by_rest (piece ∷ after) parts left_is =
        let there : length taking.before + 0 < length pieces = omega (arith, ap length parts, length-append taking.before (piece ∷ after)) in
        let at : get_or pieces (length taking.before + 0) [] ≡ piece
        = ap (λ (xs : List (List ℕ)). get_or xs (length taking.before + 0) []) parts ∙ get_or-append-add taking.before (piece ∷ after) 0 [] in
        let size : length piece ≡ 196 = sym (ap length at) ∙ each (length taking.before + 0) [] there in
        absurd (omega (arith, short, ap length left_is, length-append piece (joined after), size))

-- the bytes of whole records
pub joined_size : (pieces : List (List ℕ)) → ArePieces pieces → length (joined pieces) ≡ 196 * length pieces
joined_size [] each = refl
joined_size (piece ∷ pieces) each =
    let first : length piece ≡ 196 = each 0 piece (omega arith) in
    let rest : length (joined pieces) ≡ 196 * length pieces = joined_size pieces (λ i d below. each (suc i) d (omega (arith, below))) in
    omega (arith, length-append piece (joined pieces), first, rest)

-- the plan of a sample does not change
pub no_wrong_change : has_wrong_change sample_plan ≡ false
unfolding pids_in pid_in
no_wrong_change = refl
