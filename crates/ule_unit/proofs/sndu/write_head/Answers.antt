-- Each piece is put after those before it.
use Rattle.std.proofs.Common.{◌≡◌, ℕ, ◌+◌, List, [], ◌++◌, length, drop, refl, ap, ◌∙◌, length-append, arith}
use Rattle.std.specs.Int.{w16, to_be_bytes}
use Rattle.byte_slices.proofs.Puts.{put_behind}
use Rattle.ule_unit.proofs.sndu.write_head.Goals as goal

-- the same pieces in a row
same_row : (a b c x y z rest : List ℕ) → a ≡ x → b ≡ y → c ≡ z → a ++ b ++ c ++ rest ≡ x ++ y ++ z ++ rest
same_row a b c x y z rest e f g = cc

pub returns-clause-written : goal.returns-clause-written
returns-clause-written c =
    let into : List ℕ = c.args.into.now in
    let head : List ℕ = c.to_be_bytes.result in
    let kind : List ℕ = c.to_be_bytes-2.result in
    let address : List ℕ = c.bytes_of-address.result.now in
    let two : length head ≡ 2 = ap length c.to_be_bytes.ensures in
    let four : length (head ++ kind) ≡ 4 = length-append head kind ∙ omega (arith, two, ap length c.to_be_bytes-2.ensures) in
    let first : c.put.new.into ≡ head ++ drop 2 into = put_behind [] head into into c.put.new.into 0 2 refl (omega arith) refl c.put.ensures.put in
    let second : c.put-2.new.into ≡ head ++ kind ++ drop 4 into =
    put_behind head kind into c.put.new.into c.put-2.new.into 2 4 two (omega (arith, ap length c.to_be_bytes-2.ensures)) first c.put-2.ensures.put in
    let third : c.put-3.new.into ≡ head ++ kind ++ address ++ drop (4 + length address) into =
    put_behind (head ++ kind) address into c.put-2.new.into c.put-3.new.into 4 (4 + length address) four refl second c.put-3.ensures.put in
    third
    ∙ same_row head kind address _ _ _ (drop (4 + length address) into)
    (c.to_be_bytes.ensures ∙ ap (to_be_bytes w16) c.first_number-head.ensures.head) c.to_be_bytes-2.ensures c.bytes_of-address.ensures.address
