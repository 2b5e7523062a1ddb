use Rattle.std.proofs.Common.{subst, sym}
use Rattle.ipe_io.specs.Real.{AreOpened}
use Rattle.ipe_io.proofs.Loaded.{opened_push}
use Rattle.ipe_io.proofs.file_shelf.FileShelf.keep.Goals as goal

pub invariant_of-self : goal.invariant_of-self
invariant_of-self g c = subst (AreOpened g.R.Opens.Opened) (sym c.reserve.ensures.items) c.self.invariant

pub invariant_of-self-in-Err : goal.invariant_of-self-in-Err
invariant_of-self-in-Err g c = subst (AreOpened g.R.Opens.Opened) (sym c.reserve.ensures.items) c.self.invariant

pub invariant_of-self-in_err-file : goal.invariant_of-self-in_err-file
invariant_of-self-in_err-file g c = subst (AreOpened g.R.Opens.Opened) (sym c.reserve.ensures.items) c.self.invariant

pub invariant_of-self-2 : goal.invariant_of-self-2
invariant_of-self-2 g c =
    opened_push g.R.Opens.Opened c.self.inside.loaded.items c.reserve.new.self.items c.push_reserved.new.self.items c.in_ok-file.file
    c.args.name.now c.deref.result.now c.in-Ok.bytes.items c.self.invariant c.reserve.ensures.items c.push_reserved.ensures.items
    c.in_ok-file.ensures c.deref.ensures.value c.in-Ok.ensures.opened
