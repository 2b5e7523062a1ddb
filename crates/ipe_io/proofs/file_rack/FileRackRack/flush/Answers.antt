use Rattle.std.proofs.Common.{ap}
use Rattle.wire_spec.specs.Content.{flushed_file}
use Rattle.ipe_io.proofs.Racks.{one_changed, none_changed}
use Rattle.ipe_io.proofs.file_rack.FileRackRack.flush.Goals as goal

pub returns-in-Ok-clause-told : goal.returns-in-Ok-clause-told
returns-in-Ok-clause-told g c =
    one_changed g.R.Creates.tells c.self.inside.files.items c.args.self.now.files c.args.at c.index_mut.result.now c.flush.new.self flushed_file
    (ap (λ s. s.files) c.self.view_is) c.requires c.index_mut.ensures.value c.in-Ok.ensures.flushed

pub returns-in-Err-clause-unchanged : goal.returns-in-Err-clause-unchanged
returns-in-Err-clause-unchanged g c =
    none_changed g.R.Creates.tells c.self.inside.files.items c.args.self.now.files c.args.at c.index_mut.result.now c.flush.new.self
    (ap (λ s. s.files) c.self.view_is) c.index_mut.ensures.value c.in-Err.ensures.unchanged
