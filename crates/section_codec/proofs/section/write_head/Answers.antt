-- Each piece is put after those before it.
use Rattle.std.proofs.Common.{◌≡◌, ℕ, ◌+◌, List, [], ◌∷◌, ◌++◌, length, drop, refl, ap, ◌∙◌, length-append, arith}
use Rattle.std.specs.Int.{w16, to_be_bytes}
use Rattle.byte_slices.proofs.Puts.{put_behind}
use Rattle.section_codec.proofs.section.write_head.Goals as goal

pub returns-clause-written : goal.returns-clause-written
returns-clause-written c =
    let into : List ℕ = c.args.into.now in
    let first : List ℕ = c.args.table_id ∷ [] in
    let number : List ℕ = c.to_be_bytes.result in
    let head : List ℕ = c.args.head.now in
    let two : length number ≡ 2 = ap length c.to_be_bytes.ensures in
    let three : length (first ++ number) ≡ 3 = length-append first number ∙ omega (arith, two) in
    let one : c.put.new.into ≡ first ++ drop 1 into = put_behind [] first into into c.put.new.into 0 1 refl refl refl c.put.ensures.put in
    let second : c.put-2.new.into ≡ first ++ number ++ drop 3 into =
    put_behind first number into c.put.new.into c.put-2.new.into 1 3 refl (omega (arith, two)) one c.put-2.ensures.put in
    let third : c.put-3.new.into ≡ first ++ number ++ head ++ drop (3 + length head) into =
    put_behind (first ++ number) head into c.put-2.new.into c.put-3.new.into 3 (3 + length head) three refl second c.put-3.ensures.put in
    third ∙ ap (λ (l : List ℕ). first ++ l ++ head ++ drop (3 + length head) into) (c.to_be_bytes.ensures ∙ ap (to_be_bytes w16) (omega (arith, c.from.ensures)))
