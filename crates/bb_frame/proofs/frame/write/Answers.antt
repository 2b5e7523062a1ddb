use Rattle.std.proofs.Common.{ap₂, ◌∙◌}
use Rattle.gse_spec.specs.Frame.{frame_bytes}
use Rattle.bb_frame.proofs.Puts.{placed}
use Rattle.bb_frame.proofs.frame.write.Goals as goal

pub returns : goal.returns
returns c =
    let is = placed c.args.into.now c.put.new.into c.args.field.now c.requires.room c.put.ensures.put in record {
      written = c.seal.ensures.sealed ∙ ap₂ (frame_bytes c.args.isi) is.0 is.1;
    }
