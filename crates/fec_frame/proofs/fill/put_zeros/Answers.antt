use Rattle.std.proofs.Common.{rules, ◌≡◌, ◌-◌, ◌∙◌, ℕ, List, length, get_or, ap, replicate, arith}
use Rattle.std.proofs.lemmas.List.{get_or-replicate}
use Rattle.fec_frame.proofs.Filling.{part_put}
use Rattle.fec_frame.proofs.fill.put_zeros.Goals as goal

pub returns : goal.returns
returns c =
    let zeros : c.fill.new.self ≡ replicate (length c.fill.new.self) 0 = c.fill.ensures.after (λ y e. e) ∙ ap (λ n. replicate n 0) (search rules) in
    let long : length c.fill.new.self ≡ c.args.to - c.args.from = omega arith in
    record {
      put =
          part_put c.args.from c.args.to (c.args.to - c.args.from) (λ (place : ℕ). 0) c.args.bytes.now c.fill.new.self (omega arith) c.requires.within long
          (λ place order low. ap (λ (l : List ℕ). get_or l (place - c.args.from) 0) zeros ∙ get_or-replicate (length c.fill.new.self) (place - c.args.from) 0 0 (omega (arith, order, low, long)));
    }
