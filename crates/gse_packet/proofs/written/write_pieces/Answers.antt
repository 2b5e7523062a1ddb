-- Each piece is put after those before it.
use Rattle.std.proofs.Common.{◌≡◌, ℕ, ◌+◌, ◌*◌, List, [], ◌++◌, length, drop, refl, ap, ◌∙◌, length-append, append_assoc, arith}
use Rattle.std.specs.Int.{w16, to_be_bytes}
use Rattle.byte_slices.proofs.Puts.{put_behind}
use Rattle.gse_packet.proofs.written.write_pieces.Goals as goal

-- the same pieces in a row
same_row : (a x front middle back rest : List ℕ) → a ≡ x → a ++ front ++ middle ++ back ++ rest ≡ x ++ (front ++ middle ++ back) ++ rest
same_row a x front middle back rest e =
    ap (λ (t : List ℕ). t ++ rest)
    (ap (λ (t : List ℕ). t ++ front ++ middle ++ back) e
    ∙ ap (λ (t : List ℕ). t ++ back) (append_assoc x front middle)
    ∙ append_assoc x (front ++ middle) back)

pub returns-clause-written : goal.returns-clause-written
returns-clause-written c =
    let into : List ℕ = c.args.into.now in
    let head : List ℕ = c.to_be_bytes.result in
    let front : List ℕ = c.args.front.now in
    let middle : List ℕ = c.args.middle.now in
    let back : List ℕ = c.args.back.now in
    let end : ℕ = 2 + (length front + length middle + length back) in
    let two : length head ≡ 2 = ap length c.to_be_bytes.ensures in
    let some : length (head ++ front) ≡ 2 + length front = omega (arith, length-append head front, two) in
    let more : length (head ++ front ++ middle) ≡ 2 + length front + length middle = omega (arith, length-append (head ++ front) middle, some) in
    let first : c.put.new.into ≡ head ++ drop 2 into = put_behind [] head into into c.put.new.into 0 2 refl (omega arith) refl c.put.ensures.put in
    let second : c.put-2.new.into ≡ head ++ front ++ drop (2 + length front) into =
    put_behind head front into c.put.new.into c.put-2.new.into 2 (2 + length front) two refl first c.put-2.ensures.put in
    let third : c.put-3.new.into ≡ head ++ front ++ middle ++ drop (2 + length front + length middle) into =
    put_behind (head ++ front) middle into c.put-2.new.into c.put-3.new.into (2 + length front) (2 + length front + length middle) some refl second c.put-3.ensures.put in
    let fourth : c.put-4.new.into ≡ head ++ front ++ middle ++ back ++ drop end into =
    put_behind (head ++ front ++ middle) back into c.put-3.new.into c.put-4.new.into (2 + length front + length middle) end more (omega arith) third c.put-4.ensures.put in
    let size : length front + length middle + length back ≡ length (front ++ middle ++ back) =
    omega (arith, length-append (front ++ middle) back, length-append front middle) in
    fourth
    ∙ same_row head _ front middle back (drop end into)
    (c.to_be_bytes.ensures ∙ ap (λ (n : ℕ). to_be_bytes w16 (c.args.marks * 16384 + c.args.label_type * 4096 + n)) size)
