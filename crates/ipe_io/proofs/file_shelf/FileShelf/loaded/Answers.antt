use Rattle.std.proofs.Common.{ap, subst}
use Rattle.ipe_io.specs.Real.{AreOpened}
use Rattle.ipe_io.proofs.Loaded.{opened_in}
use Rattle.ipe_io.proofs.file_shelf.FileShelf.loaded.Goals as goal

pub returns-clause-opened : goal.returns-clause-opened
returns-clause-opened g c = λ name. opened_in g.R.Opens.Opened c.args.self.now.loaded name (subst (AreOpened g.R.Opens.Opened) (ap (λ s. s.loaded) c.self.view_is) c.self.invariant)
