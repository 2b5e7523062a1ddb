use Rattle.std.proofs.Common.{arith, ◌+◌, ◌∙◌, ap, sym}
use Rattle.fec_spec.specs.Field.{field_product}
use Rattle.fec_spec.specs.Row.{is_among}
use Rattle.fec_spec.specs.Table.{table_row}
use Rattle.erasure_law.proofs.Unique.{clash}
use Rattle.rs_erasure.specs.Columns.{cell}
use Rattle.rs_erasure.proofs.Filling.{among_at}
use Rattle.rs_erasure.proofs.Corrections.{behind_some, column_step, place_corrected, place_kept, roots_are}
use Rattle.rs_erasure.proofs.correction.correct_column.Goals as goal

pub inverse-scale-requires : goal.inverse-scale-requires
inverse-scale-requires c = λ e.
    behind_some c.args.unknown.now c.args.at c.requires.rising c.requires.places (omega (arith, c.requires.low))
    (sym (roots_are c.args.unknown.now c.args.roots.now c.args.at (c.args.at + 1) c.requires.powers (omega (arith, c.requires.low))) ∙ sym c.differences_of.ensures ∙ e)

pub returns-clause-corrected : goal.returns-clause-corrected
returns-clause-corrected c = λ r ge lt h.
    place_corrected c.args.unknown.now c.args.lowest c.args.at c.inverse-scale.result.0 (table_row 255 c.args.run.rows c.args.table.now r) (table_row 255 c.args.run.rows c.add_to_other.new.target r)
    (λ j. cell c.args.run.rows c.args.work.now j r) (λ j. cell c.args.run.rows c.spread.new.work j r) c.requires.low
    (column_step c.args.run.rows c.args.run.from c.args.run.to c.args.unknown.now c.args.roots.now c.args.table.now c.add_to_other.new.target c.args.work.now c.spread.new.work
    c.args.lowest c.args.at c.inverse-scale.result.0 c.from.result r c.add_to_other.ensures c.from.ensures c.requires.places (omega (arith, c.requires.low)) ge lt c.args.run.within c.requires.powers
    (ap (λ t. field_product t c.inverse-scale.result.0) (sym c.differences_of.ensures) ∙ c.inverse-scale.ensures)
    (λ i. omega (arith, c.type_inv.work i)) (c.spread.ensures.before r ge lt) (c.spread.ensures.kept r ge lt))
    h

pub returns-clause-zero : goal.returns-clause-zero
returns-clause-zero c = λ r ge lt h.
    place_kept c.args.unknown.now c.args.lowest c.args.at c.inverse-scale.result.0 (table_row 255 c.args.run.rows c.args.table.now r) (table_row 255 c.args.run.rows c.add_to_other.new.target r)
    (λ j. cell c.args.run.rows c.args.work.now j r) (λ j. cell c.args.run.rows c.spread.new.work j r) c.requires.low
    (column_step c.args.run.rows c.args.run.from c.args.run.to c.args.unknown.now c.args.roots.now c.args.table.now c.add_to_other.new.target c.args.work.now c.spread.new.work
    c.args.lowest c.args.at c.inverse-scale.result.0 c.from.result r c.add_to_other.ensures c.from.ensures c.requires.places (omega (arith, c.requires.low)) ge lt c.args.run.within c.requires.powers
    (ap (λ t. field_product t c.inverse-scale.result.0) (sym c.differences_of.ensures) ∙ c.inverse-scale.ensures)
    (λ i. omega (arith, c.type_inv.work i)) (c.spread.ensures.before r ge lt) (c.spread.ensures.kept r ge lt))
    h

pub returns-clause-known : goal.returns-clause-known
returns-clause-known c = λ j r low out.
    c.add_to_other.ensures.elsewhere j r low
    (λ e ge lt. clash (ap (λ x. is_among x c.args.unknown.now) (e ∙ c.from.ensures) ∙ among_at c.args.unknown.now c.args.at (omega (arith, c.requires.low))) out)
