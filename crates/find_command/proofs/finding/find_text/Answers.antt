use Rattle.std.proofs.Common.{◌≡◌, ℕ, refl, subst, ◌∙◌}
use Rattle.ts_spec.specs.Recording.{plain, record_size, records_of}
use Rattle.psi_tables.specs.Text.{IsFindText}
use Rattle.find_command.proofs.Ended.{text_failed, read_whole}
use Rattle.find_command.proofs.finding.find_text.Goals as goal

pub returns-in-Err : goal.returns-in-Err
returns-in-Err g c = record {
  finds = rw c.fault_of.ensures
      (text_failed c.args.pid (g.I.Source.told c.args.input.now) (g.I.Source.told c.read_to_end.new.input) c.in-Ok.finder c.read_to_end.new.taker
      c.new-pieces.result.reader.form (record_size c.new-pieces.result.reader.form) (c.read_to_end.new.input ≡ c.args.input.now) (λ text. text.items)
      c.new-pieces.ensures.form refl c.in-Ok.ensures.seen c.in-Err.fault c.in-Err.ensures.reads);
}

pub returns-in-Ok-text : goal.returns-in-Ok-text
returns-in-Ok-text g c =
    let whole = read_whole (g.I.Source.told c.args.input.now) (g.I.Source.told c.read_to_end.new.input) c.in-Ok.finder c.read_to_end.new.taker
    c.new-pieces.result.reader.form (record_size c.new-pieces.result.reader.form) c.in-Ok-read_to_end.field-0
    c.new-pieces.ensures.form refl c.in-Ok.ensures.seen c.in-Ok-read_to_end.ensures.reads in
    record {
      finds = record {
        ends = record {
          reads = whole.0;
          text_is = subst (λ (p : ℕ). IsFindText p (records_of plain whole.0.pieces) c.in-Ok-text.text.items) (whole.2 ∙ c.in-Ok.ensures.pid)
              (c.in-Ok-text.ensures.written (records_of plain whole.0.pieces) whole.1);
        };
        input_rose = λ other. absurd (cc);
        input_kept = λ _. whole.3;
      };
    }
