use Rattle.std.proofs.Common.{rules, ◌∙◌, subst, refl}
use Rattle.ipe_io.specs.Lending.{Lends}
use Rattle.ts_record.proofs.ReadLemmas.{lends_piece}
use Rattle.ts_record.proofs.lending.lend_record.Goals as goal

pub returns : goal.returns
returns g c =
    let lent = subst (Lends (g.S.Source.told c.args.source.now) (g.S.Source.told c.lend.follows.lender-at-none)) c.in_ok-piece.was c.lend.follows.holds-at-none in (
      (
        refl,
        (λ _. tt),
        λ pieces stands. lends_piece c.args.reader.now _ _ _ pieces c.in_ok-piece.piece.now c.in-Some.stamp.now c.in-Some.bytes.now c.step-moment.result
            (c.in_ok-piece.ensures.size ∙ c.record_size.ensures) c.in-Some.ensures.cases.0 c.in-Some.ensures.cases.1 c.step-moment.ensures.moment c.step-moment.ensures.stepped stands lent,
      ),
      record { few = search rules; unended = search rules; none = tt; after_borrow = tt },
    )
