use Rattle.std.proofs.Common.{ℕ, ◌+◌, ◌-◌, List, [], ◌∷◌, ◌++◌, take, drop, length, replicate, ap, sym, ◌∙◌}
use Rattle.wire_spec.specs.Crc.{crc8_remainder}
use Rattle.gse_spec.specs.Frame.{frame_head}
use Rattle.bb_frame.proofs.Puts.{closed, length-field}
use Rattle.bb_frame.proofs.frame.seal.Goals as goal

pub returns : goal.returns
returns c =
    let old : List ℕ = c.args.frame.now in
    let field : List ℕ = take c.args.used (drop 10 old) in record {
      sealed =
          closed old c.put.new.into c.clear.new.into c.head_of-head.result c.args.used (ap length c.head_of-head.ensures.written) c.requires.room c.put.ensures.put c.clear.ensures.cleared
          ∙ ap (λ (t : List ℕ). t ++ (field ++ replicate (length old - (10 + c.args.used)) 0)) c.head_of-head.ensures.written
          ∙ ap (λ (n : ℕ). (frame_head c.args.isi n ++ crc8_remainder (frame_head c.args.isi n) ∷ []) ++ (field ++ replicate (length old - (10 + n)) 0))
          (sym (length-field old c.args.used c.requires.room));
    }
