use Rattle.std.proofs.Common.{arith, rules, ◌≡◌, ◌<◌, sym, subst, ℕ, List, length, get_or, slice_set, take, ◌+◌, true, false}
use Rattle.std.proofs.lemmas.List.Elements.{All-set}
use Rattle.fec_spec.specs.Row.{is_among}
use Rattle.rs_erasure.specs.Fill.{Fills}
use Rattle.rs_erasure.proofs.Filling.{among_at, known_step, found_step}
use Rattle.rs_erasure.proofs.weights.filled.Goals as goal

pub unknown_byte-requires-clause-among : goal.unknown_byte-requires-clause-among
unknown_byte-requires-clause-among c = let lt : c.loop-place.place-index < length c.args.unknown.now = omega arith in among_at c.args.unknown.now c.loop-place.place-index lt

pub loop-place-preserved : goal.loop-place-preserved
loop-place-preserved c =
    let n : ℕ = c.loop-place.place-index in
    let unknown : List ℕ = c.args.unknown.now in
    let row : List ℕ = c.loop-place.row in
    let lt : n < length unknown = omega arith in
    let low : get_or unknown n 0 < 255 = c.requires.all_low n 0 lt in
    let long : length row ≡ 255 = c.loop-place.invariant.long in
    record {
      known = λ i h. subst (λ p. is_among i (take (n + 1) unknown) ≡ false → get_or (slice_set row p c.unknown_byte.result) i 0 ≡ get_or c.args.clear.now i 0) (sym c.from.ensures)
          (known_step row c.args.clear.now unknown n i c.unknown_byte.result lt (c.loop-place.invariant.known i h));
      found = λ i h. subst (λ p. is_among i (take (n + 1) unknown) ≡ true → Fills (λ m. get_or c.args.syndromes.now m 0) unknown i (get_or (slice_set row p c.unknown_byte.result) i 0)) (sym c.from.ensures)
          (found_step row unknown (λ m. get_or c.args.syndromes.now m 0) n i c.unknown_byte.result lt (omega arith) c.unknown_byte.ensures (c.loop-place.invariant.found i h));
      long = search rules;
      bytes = let fits : c.unknown_byte.result < 256 = omega arith in search (rules, All-set);
    }
