use Rattle.std.proofs.Common.{◌≡◌, ℕ, ◌+◌, List, ap, ap₂, sym, ◌∙◌, arith}
use Rattle.fec_units.specs.declared.packets.NextSection.{NextSection}
use Rattle.fec_units.specs.Packets.{after_section, after_sections, column_sizes, packets_before}
use Rattle.fec_units.proofs.Timed.{burst_size_is, column_after}
use Rattle.fec_units.proofs.bursts.packets_of_burst.Goals as goal

pub loop-number-preserved : goal.loop-number-preserved
loop-number-preserved c =
    let size : c.fec_size-size.result ≡ c.args.rows + 16 = c.fec_size-size.ensures.sum ∙ ap (λ (n : ℕ). n + 16) c.from.ensures in
    record {
      next = c.after-next.ensures.after ∙ ap₂ after_section c.loop-number.invariant.next size ∙ sym (column_after c.args.next c.args.rows c.loop-number.number);
      few = omega (arith, c.after-next.ensures.most, c.loop-number.invariant.few);
    }

pub returns : goal.returns
returns c = record {
  counted = λ (ds : List (List ℕ)) is.
      let all : c.loop-number.number ≡ c.args.columns = omega (arith, c.loop-number-test.false, c.loop-number.auto.number-end) in
      c.packets_before.ensures
      ∙ ap packets_before (c.loop-number.invariant.next ∙ ap₂ (λ (n : NextSection) (k : ℕ). after_sections n (column_sizes c.args.rows k)) is all)
      ∙ sym (burst_size_is c.args.rows c.args.columns ds c.requires.columns);
}
