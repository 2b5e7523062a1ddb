use Rattle.std.proofs.Common.{ℕ, ◌≡◌, ◌+◌, ◌<◌, ◌∙◌, ap, sym, subst, List, length, get_or, arith, rules, drop}
use Rattle.std.proofs.lemmas.List.{get_or_append_left}
use Rattle.std.proofs.lemmas.List.Elements.{All-from_get_or, All-append, All-drop, All-set}
use Rattle.wire_spec.specs.Bytes.{AreBytes}
use Rattle.crc_unit.specs.FiveTerms.{left_at}
use Rattle.crc_unit.proofs.Window.{zeros_behind, four_bytes, quotient_more}
use Rattle.crc_unit.proofs.five_terms.divide.Goals as goal

pub loop-place-init : goal.loop-place-init
loop-place-init c =
    let own : List ℕ = c.copy_from_slice.new.self in
    let before : List ℕ = c.args.window.now in
    let same = c.copy_from_slice.ensures.after ∙ c.to_be_bytes.ensures in
    let long : length own ≡ 4 = ap (λ l. length l) same in
    let own_all : AreBytes own = subst (λ l. AreBytes l) (sym same) (four_bytes c.args.register) in
    record {
      long = search rules;
      bytes = All-append (λ x. x < 256) own (drop 4 before) own_all (All-drop (λ x. x < 256) 4 before (All-from_get_or (λ x. x < 256) before 0 (λ i within. omega (arith, c.requires.zeros i))));
      own = λ i below. get_or_append_left own _ 0 i (omega arith) ∙ ap (λ l. get_or l i 0) same;
      before = λ i least most. zeros_behind before own i c.requires.zeros long least;
      quotient = λ i below. absurd (omega arith);
      behind = λ i least. zeros_behind before own i c.requires.zeros long (omega arith);
    }

pub loop-place-preserved : goal.loop-place-preserved
loop-place-preserved c =
    let place : ℕ = c.loop-place.place in
    let window : List ℕ = c.loop-place.window in
    let bytes : List ℕ = c.args.bytes.now in
    let left : ℕ = c.byte_left-left.result in
    let left_is : left ≡ left_at window place (get_or bytes place 0) = c.byte_left-left.ensures in
    record {
      long = search rules;
      bytes = All-set (λ x. x < 256) window (place + 300) left (omega arith) c.loop-place.invariant.bytes;
      own = search rules;
      before = search rules;
      quotient = quotient_more bytes window place left (omega arith) left_is c.loop-place.invariant.quotient;
      behind = search rules;
    }
