use Rattle.std.proofs.Common.{◌<◌, length, ap, arith}
use Rattle.wire_spec.specs.Content.{flushed_file}
use Rattle.ipe_io.proofs.MemFiles.{one_changed, seen_is_stored}
use Rattle.ipe_io.proofs.mem_rack.MemRackRack.flush.Goals as goal

pub returns-clause-flushed : goal.returns-clause-flushed
returns-clause-flushed c =
    one_changed c.self.inside.files.items c.args.self.now.files c.self.inside.used c.args.at flushed_file
    c.index_mut.result.now c.flush.new.self (ap (λ s. s.files) c.self.view_is) c.requires c.index_mut.ensures.value c.flush.ensures.file

pub index_mut-requires : goal.index_mut-requires
index_mut-requires c =
    let within : c.args.at < length c.self.inside.files.items = seen_is_stored c.self.inside.files.items c.args.self.now.files c.self.inside.used c.args.at (ap (λ s. s.files) c.self.view_is) c.requires in
    omega arith
