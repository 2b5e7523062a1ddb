use Rattle.std.proofs.Common.{List, ℕ, Result, Err, append-nil, ◌+◌, [], ◌∷◌, ◌++◌, Option, Some, None, Ok, ap, sym, ◌∙◌, subst}
use Rattle.std.proofs.lemmas.Result.{err_from_is_err_and}
use Rattle.std.proofs.KnownBytes.{Consumes-trans}
use Rattle.pcap_file.specs.Reader.{Takes, rest_of}
use Rattle.pcap_file.specs.declared.captured.LinkType.{LinkType}
use Rattle.capture_intake.specs.Taken.{HasTaken, Intakes}
use Rattle.capture_intake.specs.declared.faults.PlacedFault.{PlacedFault}
use Rattle.capture_intake.specs.declared.faults.CaptureReadFault.{CaptureReadFault}
use Rattle.capture_intake.specs.declared.reading.Next.{Next}
use Rattle.capture_intake.specs.declared.reading.Next.TheVariants as next
use Rattle.capture_intake.proofs.Steps.{nearer, taken_in}
use Rattle.capture_intake.proofs.Shown.{consumed_none, intakes_at_head, intakes_refused, intakes_stopped, reads_all, stops_at_fault, stops_in_error, taken_all}
use Rattle.capture_intake.proofs.reading.read_capture.Goals as goal

pub returns-in-Err-Capture : goal.returns-in-Err-Capture
returns-in-Err-Capture g c = record {
  intakes = intakes_at_head g.T.CaptureTaker.wants c.in-Err-Capture.fault (g.I.Source.told c.args.input.now) (g.I.Source.told c.open.new.source)
      (λ link records. g.T.CaptureTaker.Took c.args.taker.now c.args.taker.now link records)
      (rw c.in-Err-Capture.field-0-is at c.in-Err-Capture.ensures.read) (rw c.in-Err-Capture.field-0-is at c.in-Err-Capture.ensures.head)
      (rw c.in-Err-Capture.field-0-is at c.in-Err-Capture.ensures.cut) (rw c.in-Err-Capture.field-0-is at c.in-Err-Capture.ensures.cause) c.requires.fresh;
}

pub returns-then-not-wants : goal.returns-then-not-wants
returns-then-not-wants g c = record {
  intakes = intakes_refused g.T.CaptureTaker.wants c.in-Ok.reader (g.I.Source.told c.args.input.now) (g.I.Source.told c.open.new.source)
      (λ link records. g.T.CaptureTaker.Took c.args.taker.now c.args.taker.now link records)
      c.in-Ok.ensures.read (sym (c.wants.ensures.read ∙ ap g.T.CaptureTaker.wants c.link.ensures.read) ∙ c.if-not-wants.true) (c.in-Ok.ensures.cause.kept (λ e. cc)) c.requires.fresh;
}

pub records-init : goal.records-init
records-init g c =
    let read = c.in-Ok.ensures.read in
    let opened = c.in-Ok.ensures.opened in (
      read.head,
      [],
      record {
        consumed = consumed_none (g.I.Source.told c.args.input.now).left (g.I.Source.told c.open.new.source).left read.head c.in-Ok.reader.held read.takes.consumed opened.1;
        going = record { has_read = read.shows; is_open = opened.0; wanted = sym (c.wants.ensures.read ∙ ap g.T.CaptureTaker.wants c.link.ensures.read) ∙ c.if-not-wants.false; took = c.requires.fresh c.in-Ok.reader.link };
        taken = subst (λ (l : List ℕ). Takes (g.I.Source.told c.args.input.now) (g.I.Source.told c.open.new.source) l) (sym (ap (λ l. read.head ++ l) opened.1 ∙ append-nil read.head)) read.takes;
        same = c.in-Ok.ensures.cause.kept (λ e. cc);
        on = c.in-Ok.ensures.goes_on tt;
      },
    )

pub take_next-requires : goal.take_next-requires
take_next-requires g c = record {
  going = (c.args.taker.now, c.records.invariant.0, c.records.invariant.1, c.records.invariant.2.going);
}

pub records-smaller : goal.records-smaller
records-smaller g c =
    let more = c.in_ok-take_next.ensures.more c.args.taker.now c.records.invariant.0 c.records.invariant.1 c.records.invariant.2.going (ap (λ n. Ok n) c.in-Record.is) in
    nearer c.records.reader c.take_next.new.reader c.records.invariant.0 (c.records.invariant.0 ++ more.piece) c.records.invariant.1 more.bytes c.records.invariant.2.going.has_read more.going.has_read

pub records-preserved : goal.records-preserved
records-preserved g c =
    let more = c.in_ok-take_next.ensures.more c.args.taker.now c.records.invariant.0 c.records.invariant.1 c.records.invariant.2.going (ap (λ n. Ok n) c.in-Record.is) in (
      c.records.invariant.0 ++ more.piece,
      c.records.invariant.1 ++ more.bytes ∷ [],
      record {
        consumed = Consumes-trans (g.I.Source.told c.args.input.now).left (rest_of c.records.reader.held (g.I.Source.told c.records.input).left) (rest_of c.take_next.new.reader.held (g.I.Source.told c.take_next.new.input).left) c.records.invariant.0 more.piece
            c.records.invariant.2.consumed more.consumed;
        going = more.going;
        taken = taken_in c.records.invariant.0 c.records.reader.held more.more more.piece c.take_next.new.reader.held (g.I.Source.told c.args.input.now) (g.I.Source.told c.records.input) (g.I.Source.told c.take_next.new.input) c.records.invariant.2.taken more.takes more.moved;
        same = c.in_ok-take_next.ensures.cause.kept (λ e. cc) ∙ c.records.invariant.2.same;
        on = λ was. c.in_ok-take_next.ensures.on (ap (λ n. Ok n) c.in-Record.is) (c.records.invariant.2.on was);
      },
    )

pub returns-in-End : goal.returns-in-End
returns-in-End g c =
    let end = ap (λ n. Ok n) c.in-End.is in
    let r : Result (Option PlacedFault) CaptureReadFault = Ok None in
    let n : Result Next CaptureReadFault = Ok next.End in
    let Took = λ (link : LinkType) (records : List (List ℕ)). g.T.CaptureTaker.Took c.args.taker.now c.records.taker link records in
    let stop = rw c.in-End.is at (c.in_ok-take_next.ensures.reads c.records.invariant.0 c.records.invariant.1 c.records.invariant.2.going.has_read) in
    record {
      intakes = record {
        taken = subst (λ t. HasTaken g.T.CaptureTaker.wants None (g.I.Source.told c.args.input.now).left (λ link records. g.T.CaptureTaker.Took c.args.taker.now t link records)) (sym (c.in_ok-take_next.ensures.kept_end end))
            (taken_all g.T.CaptureTaker.wants c.records.reader Took c.records.invariant.0 c.records.invariant.1 (g.I.Source.told c.args.input.now).left (rest_of c.records.reader.held (g.I.Source.told c.records.input).left)
            None c.records.invariant.2.going c.records.invariant.2.consumed (c.in_ok-take_next.ensures.end c.records.invariant.0 c.records.invariant.1 c.records.invariant.2.going.has_read end) tt);
        reads = reads_all g.T.CaptureTaker.wants r n c.records.reader.held c.records.invariant.0 c.records.invariant.1 (g.I.Source.told c.args.input.now) (g.I.Source.told c.records.input) (g.I.Source.told c.take_next.new.input)
            c.records.invariant.2.taken stop (λ bytes shows behind e. tt);
        ended = λ e. c.in_ok-take_next.ensures.ended end;
        cut = tt;
        goes_on = λ e. absurd (cc);
        source = λ e. absurd (cc);
        kept = λ _. c.in_ok-take_next.ensures.cause.kept (λ e. cc) ∙ c.records.invariant.2.same;
      };
    }

pub returns-in-Fault : goal.returns-in-Fault
returns-in-Fault g c =
    let found = ap (λ n. Ok n) c.in-Fault.is in
    let placed : PlacedFault = record { fault = c.in-Fault.fault; place = c.records-place.result + 1 } in
    let r : Result (Option PlacedFault) CaptureReadFault = Ok (Some placed) in
    let n : Result Next CaptureReadFault = Ok (next.Fault c.in-Fault.fault) in
    let Took = λ (link : LinkType) (records : List (List ℕ)). g.T.CaptureTaker.Took c.args.taker.now c.records.taker link records in
    let stop = rw c.in-Fault.is at (c.in_ok-take_next.ensures.reads c.records.invariant.0 c.records.invariant.1 c.records.invariant.2.going.has_read) in
    let at = ap (λ n. n + 1) (c.records-place.ensures.read ∙ c.in_ok-take_next.ensures.records c.in-Fault.fault found ∙ c.records.invariant.2.going.has_read.count) in
    record {
      intakes = record {
        taken = subst (λ t. HasTaken g.T.CaptureTaker.wants (Some placed) (g.I.Source.told c.args.input.now).left (λ link records. g.T.CaptureTaker.Took c.args.taker.now t link records)) (sym (c.in_ok-take_next.ensures.kept_fault c.in-Fault.fault found))
            (taken_all g.T.CaptureTaker.wants c.records.reader Took c.records.invariant.0 c.records.invariant.1 (g.I.Source.told c.args.input.now).left (rest_of c.records.reader.held (g.I.Source.told c.records.input).left)
            (Some placed) c.records.invariant.2.going c.records.invariant.2.consumed (c.in_ok-take_next.ensures.fault c.records.invariant.0 c.records.invariant.1 c.in-Fault.fault c.records.invariant.2.going.has_read found) at);
        reads = reads_all g.T.CaptureTaker.wants r n c.records.reader.held c.records.invariant.0 c.records.invariant.1 (g.I.Source.told c.args.input.now) (g.I.Source.told c.records.input) (g.I.Source.told c.take_next.new.input)
            c.records.invariant.2.taken stop
            (λ bytes shows behind e. stops_at_fault g.T.CaptureTaker.wants c.records.reader Took c.records.invariant.0 bytes behind c.records.invariant.1 c.in-Fault.fault (c.records-place.result + 1) c.records.invariant.2.going e shows at);
        ended = λ e. cc;
        cut = λ is. c.in_ok-take_next.ensures.cut c.in-Fault.fault found is;
        goes_on = λ e. absurd (cc);
        source = λ e. absurd (cc);
        kept = λ _. c.in_ok-take_next.ensures.cause.kept (λ e. cc) ∙ c.records.invariant.2.same;
      };
    }

pub returns-in_err-take_next : goal.returns-in_err-take_next
returns-in_err-take_next g c =
    let fault : CaptureReadFault = c.in_err-take_next.field-0.0 in
    let r : Result (Option PlacedFault) CaptureReadFault = Err fault in
    let n : Result Next CaptureReadFault = Err fault in
    let Took = λ (link : LinkType) (records : List (List ℕ)). g.T.CaptureTaker.Took c.args.taker.now c.records.taker link records in
    let After = λ (link : LinkType) (records : List (List ℕ)). g.T.CaptureTaker.Took c.args.taker.now c.take_next.new.taker link records in
    let failed = err_from_is_err_and c.from_residual.result c.from_residual.ensures.1 in
    record {
      intakes = subst (λ (o : Result (Option PlacedFault) CaptureReadFault). Intakes g.T.CaptureTaker.wants o (g.I.Source.told c.args.input.now) (g.I.Source.told c.take_next.new.input) After)
          (sym (failed.1 ∙ ap (λ e. Err e) failed.2))
          (intakes_stopped g.T.CaptureTaker.wants fault (g.I.Source.told c.args.input.now) (g.I.Source.told c.records.input) (g.I.Source.told c.take_next.new.input) After
          (reads_all g.T.CaptureTaker.wants r n c.records.reader.held c.records.invariant.0 c.records.invariant.1 (g.I.Source.told c.args.input.now) (g.I.Source.told c.records.input) (g.I.Source.told c.take_next.new.input) c.records.invariant.2.taken
          (c.in_err-take_next.ensures.reads c.records.invariant.0 c.records.invariant.1 c.records.invariant.2.going.has_read)
          (λ bytes shows behind e. stops_in_error g.T.CaptureTaker.wants c.records.reader Took c.records.invariant.0 bytes behind c.records.invariant.1 fault c.records.invariant.2.going e shows))
          c.in_err-take_next.ensures.cause c.records.invariant.2.same c.in_err-take_next.ensures.goes_on c.records.invariant.2.on);
    }
