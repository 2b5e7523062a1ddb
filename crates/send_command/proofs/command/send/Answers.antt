use Rattle.send_command.proofs.Taken.{gathered, under_plan, reads_written, reads_failed}
use Rattle.send_command.proofs.command.send.Goals as goal

pub write_stream-requires : goal.write_stream-requires
write_stream-requires g c = record {
  offered = under_plan _ c.read_capture.new.taker c.in-Ok-read_capture.found (g.I.Source.told c.args.input.now).left c.in-Ok-read_capture.ensures.intakes.taken;
}

pub returns-in-Ok-read_capture-clause-sent : goal.returns-in-Ok-read_capture-clause-sent
returns-in-Ok-read_capture-clause-sent g c = λ bytes is.
    c.write_stream.ensures.sent bytes
    (gathered _ c.read_capture.new.taker c.in-Ok-read_capture.found (g.I.Source.told c.args.input.now).left bytes c.in-Ok-read_capture.ensures.intakes.taken is)

pub returns-in-Ok-read_capture-clause-reads : goal.returns-in-Ok-read_capture-clause-reads
returns-in-Ok-read_capture-clause-reads g c =
    reads_written c.write_stream.result c.in-Ok-read_capture.found (g.I.Source.told c.args.input.now) (g.I.Source.told c.read_capture.new.input) c.in-Ok-read_capture.ensures.intakes.reads
    c.write_stream.ensures.fault c.write_stream.ensures.source

pub returns-in-Err-Source-clause-reads : goal.returns-in-Err-Source-clause-reads
returns-in-Err-Source-clause-reads g c =
    reads_failed (g.I.Source.told c.args.input.now) (g.I.Source.told c.read_capture.new.input) (rw c.in-Err-Source.field-0-is at c.in-Err-Source.ensures.intakes.reads)
