use Rattle.std.proofs.Common.{◌≡◌, rules, ap, subst, refl, length}
use Rattle.ipe_io.specs.Lending.{Lends}
use Rattle.bb_frame.specs.Reading.{stepped}
use Rattle.bb_frame.proofs.Lent.{lends_frame}
use Rattle.bb_frame.proofs.reader.lend_frame.Goals as goal

pub returns : goal.returns
returns g c =
    let lent = subst (Lends (g.S.Source.told c.args.source.now) (g.S.Source.told c.lend.follows.lender-at-none)) c.in_ok-frame.was c.lend.follows.holds-at-none in
    let size : length c.in_ok-frame.frame.now ≡ c.args.reader.now.size = search rules in (
      (
        refl,
        (λ _. tt),
        λ frames stands. lends_frame c.args.reader.now _ _ _ frames c.in_ok-frame.frame.now size (ap stepped c.reader.view_is) stands lent,
      ),
      search rules,
    )
