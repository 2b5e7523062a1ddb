use Rattle.std.proofs.Common.{◌≡◌, ◌∙◌, ap, sym, take, length, ◌<◌, arith}
use Rattle.wire_spec.specs.Content.{File, grown}
use Rattle.ipe_io.specs.Memory.{fitting}
use Rattle.ipe_io.proofs.MemFiles.{one_changed, file_there, seen_is_stored, same_room}
use Rattle.ipe_io.proofs.mem_rack.MemRackRack.write.Goals as goal

pub returns-clause-written : goal.returns-clause-written
returns-clause-written c =
    one_changed c.self.inside.files.items c.args.self.now.files c.self.inside.used c.args.at (λ f. grown f (take c.append.result c.args.piece.now))
    c.index_mut.result.now c.append.new.self (ap (λ s. s.files) c.self.view_is) c.requires c.index_mut.ensures.value c.append.ensures.bytes

pub returns-clause-count : goal.returns-clause-count
returns-clause-count c =
    let there = c.index_mut.result.now in
    let within : c.args.at < length c.self.inside.files.items = seen_is_stored c.self.inside.files.items c.args.self.now.files c.self.inside.used c.args.at (ap (λ s. s.files) c.self.view_is) c.requires in
    let room_is : there.room ≡ c.args.self.now.room =
    ap (λ s. s.room) c.index_mut.ensures.value ∙ c.self.invariant.2 c.args.at there within ∙ ap (λ s. s.room) c.self.view_is in
    let file_is = file_there c.self.inside.files.items c.args.self.now.files c.self.inside.used c.args.at there (ap (λ s. s.files) c.self.view_is) c.requires c.index_mut.ensures.value in
    c.append.ensures.count
    ∙ ap (λ room. fitting room there.file.bytes c.args.piece.now) room_is
    ∙ ap (λ (f : File). fitting c.args.self.now.room f.bytes c.args.piece.now) (sym file_is)

pub index-requires : goal.index-requires
index-requires c =
    let within : c.args.at < length c.self.inside.files.items = seen_is_stored c.self.inside.files.items c.args.self.now.files c.self.inside.used c.args.at (ap (λ s. s.files) c.self.view_is) c.requires in
    omega arith

pub index_mut-requires : goal.index_mut-requires
index_mut-requires c =
    let within : c.args.at < length c.self.inside.files.items = seen_is_stored c.self.inside.files.items c.args.self.now.files c.self.inside.used c.args.at (ap (λ s. s.files) c.self.view_is) c.requires in
    omega arith

pub invariant_of-self-2 : goal.invariant_of-self-2
invariant_of-self-2 c =
    let there = c.index_mut.result.now in
    let within : c.args.at < length c.self.inside.files.items = seen_is_stored c.self.inside.files.items c.args.self.now.files c.self.inside.used c.args.at (ap (λ s. s.files) c.self.view_is) c.requires in
    same_room c.self.inside.files.items c.self.inside.used c.args.at c.self.inside.room c.append.new.self c.self.invariant.0 c.self.invariant.1 c.self.invariant.2
    (c.append.ensures.room ∙ ap (λ s. s.room) c.index_mut.ensures.value ∙ c.self.invariant.2 c.args.at there within)
