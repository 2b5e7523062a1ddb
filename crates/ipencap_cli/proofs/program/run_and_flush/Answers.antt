use Rattle.std.proofs.Common.{◌≡◌, ◌∙◌, map, string_bytes, sym, subst}
use Rattle.ipe_io.specs.Counts.{IsFlushed}
use Rattle.ipe_io.specs.Real.{unwritten}
use Rattle.ipencap_engine.specs.Jobs.{Asks}
use Rattle.ipencap_cli.proofs.Ended.{by_answer, by_count}
use Rattle.ipencap_cli.proofs.program.run_and_flush.Goals as goal

pub returns : goal.returns
returns g c = λ job asks.
    let ran = c.run-status.ensures job (subst (λ words. Asks (map (λ word. string_bytes word) words) job) (sym c.after_first.ensures) asks) in
    record {
      status = c.run-status.result;
      line = ran.0;
      put = c.run-status.new.output;
      added = c.run-status.new.rack;
      reported = ran.1;
      runs = ran.2;
      output_flushed = record {
        held = c.flush.ensures.kept;
        flushed = by_answer (IsFlushed (g.O.Sink.told c.flush.new.self).held (g.O.Sink.told c.flush.new.self).flushed) (g.O.Sink.told c.run-status.new.output).faults
            (g.O.Sink.told c.flush.new.self).faults c.flush.result c.flush.ensures.flushed c.flush.ensures.cause;
      };
      rack_flushed = record {
        files = c.flush_all.ensures.files;
        flushed = by_count (unwritten c.flush_all.new.self.files ≡ 0) c.run-status.new.rack.faults c.flush_all.new.self.faults c.flush_all.result c.flush_all.ensures.written
            c.flush_all.ensures.kept c.flush_all.ensures.failed;
      };
      number_is = c.from.ensures ∙ c.number_of.ensures;
    }
