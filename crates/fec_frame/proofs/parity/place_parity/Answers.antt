use Rattle.std.proofs.Common.{◌≡◌, true, false, refl, sym, ◌∙◌}
use Rattle.fec_frame_spec.specs.Sections.{parity_section}
use Rattle.fec_frame_law.proofs.Summary.{cut_by_summary}
use Rattle.fec_frame.specs.Stands.{column_of, summary_of}
use Rattle.fec_frame.proofs.Placing.{stands_more}
use Rattle.fec_frame.proofs.Told.{parity_told}
use Rattle.fec_frame.proofs.parity.place_parity.Goals as goal

both_tests : {X : Type 0} → true ≡ false → X
both_tests e = absurd (cc)

pub returns-then-cuts_parity-clause-new_frame : goal.returns-then-cuts_parity-clause-new_frame
returns-then-cuts_parity-clause-new_frame c = λ group delta address is_end stands. (
  (λ is.
      cut_by_summary c.args.rows group (summary_of c.args.state.now) stands.summary (parity_section (column_of delta address is_end c.args.numbers.number c.args.numbers.padding c.args.numbers.last c.args.ends c.args.column.now))
      ∙ sym (c.cuts_parity.ensures.cut delta address c.args.column.now is_end c.args.ends) ∙ c.if-cuts_parity.true),
  (λ cut. refl),
)

pub returns-clause-new_frame : goal.returns-clause-new_frame
returns-clause-new_frame c = λ group delta address is_end stands. (
  (λ is. absurd (cc)),
  (λ cut. both_tests
      (sym cut
      ∙ cut_by_summary c.args.rows group (summary_of c.args.state.now) stands.summary (parity_section (column_of delta address is_end c.args.numbers.number c.args.numbers.padding c.args.numbers.last c.args.ends c.args.column.now))
      ∙ sym (c.cuts_parity.ensures.cut delta address c.args.column.now is_end c.args.ends) ∙ c.if-cuts_parity.false)),
)

pub returns-clause-placed : goal.returns-clause-placed
returns-clause-placed c = λ group delta address is_end stands is.
    stands_more c.args.rows c.args.bytes.now c.args.marks.now c.fill_parity.new.bytes c.fill_parity.new.marks c.args.state.now c.with_parity.result group
    (parity_section (column_of delta address is_end c.args.numbers.number c.args.numbers.padding c.args.numbers.last c.args.ends c.args.column.now)) stands
    (sym (c.cuts_parity.ensures.cut delta address c.args.column.now is_end c.args.ends) ∙ c.if-cuts_parity.false)
    (c.fill_parity.ensures.taken delta address c.args.numbers.last is_end c.args.ends)
    (c.with_parity.ensures.summary delta address c.args.column.now is_end) c.with_parity.ensures.some

pub returns-clause-told : goal.returns-clause-told
returns-clause-told c =
    parity_told c.args.rows c.args.bytes.now c.args.marks.now c.fill_parity.new.bytes c.fill_parity.new.marks c.args.state.now c.with_parity.result c.requires.told
    (column_of 0 0 false c.args.numbers.number c.args.numbers.padding c.args.numbers.last c.args.ends c.args.column.now)
    (c.fill_parity.ensures.taken 0 0 c.args.numbers.last false c.args.ends)
    c.with_parity.ensures.known_to c.with_parity.ensures.zeros_most c.with_parity.ensures.zeros
