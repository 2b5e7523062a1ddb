use Rattle.std.proofs.Common.{sym, ◌∙◌, ap}
use Rattle.ipe_io.specs.Real.{bytes_in}
use Rattle.ipe_io.proofs.Loaded.{known_by, stays_by, others_by, same_name}
use Rattle.ipe_io.proofs.file_shelf.FileShelfShelf.load.Goals as goal

pub returns-in_default-2-clause-read : goal.returns-in_default-2-clause-read
returns-in_default-2-clause-read g c =
    known_by (λ bytes. bytes.items) c.args.self.now.loaded c.keep.new.self.loaded c.args.name.now c.keep.result (same_name c.args.name.now)
    (ap (λ s. bytes_in s.loaded c.args.name.now) (sym c.self.view_is) ∙ ap (λ files. bytes_in files c.args.name.now) (sym c.deref.ensures.value) ∙ c.in-None.ensures)
    c.keep.ensures.read

pub returns-in_default-2-clause-unchanged : goal.returns-in_default-2-clause-unchanged
returns-in_default-2-clause-unchanged g c = λ other.
    stays_by (λ bytes. bytes.items) c.args.self.now.loaded c.keep.new.self.loaded c.args.name.now c.keep.result other c.keep.ensures.read c.keep.ensures.unchanged

pub returns-in_default-2-clause-others : goal.returns-in_default-2-clause-others
returns-in_default-2-clause-others g c = λ other another.
    others_by (λ bytes. bytes.items) c.args.self.now.loaded c.keep.new.self.loaded c.args.name.now c.keep.result other another c.keep.ensures.read c.keep.ensures.unchanged
