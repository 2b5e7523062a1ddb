use Rattle.std.proofs.Common.{◌≡◌, [], ◌∷◌, ◌++◌, Some, Ok, Err, IfSome, ap, sym, ◌∙◌, subst}
use Rattle.pcap_file.specs.Told.{Tells}
use Rattle.pcap_file.specs.Known.{ReaderState}
use Rattle.pcap_file.specs.Reader.{Leaves, rest_of, state_after}
use Rattle.pcap_file.specs.declared.captured.LinkType.{LinkType}
use Rattle.pcap_file.specs.declared.faults.CaptureFault.{CaptureFault}
use Rattle.capture_intake.proofs.Steps.{fault_of, going_few, takes_in, reads_record, reads_end, reads_fault, reads_failed}
use Rattle.capture_intake.specs.Steps.{ReadsNext}
use Rattle.capture_intake.specs.declared.reading.Next.TheVariants as next
use Rattle.capture_intake.specs.declared.faults.CaptureReadFault.TheVariants as read_fault
use Rattle.capture_intake.proofs.reading.take_next.Goals as goal

pub returns-in-Ok-clause-more : goal.returns-in-Ok-clause-more
returns-in-Ok-clause-more g c = λ start front captured going e.
    let before : ReaderState = c.args.reader.now in
    let after : ReaderState = c.next.follows.lender-at-none in
    let answer = c.in-Ok-Some.is ∙ ap (λ o. Ok o) c.in-Ok-Some.field-0-is in
    let state : after ≡ state_after before (Ok (Some c.in-Ok-Some.captured)) after.held = c.next.follows.holds-at-none.0 ∙ ap (λ r. state_after before r after.held) answer in
    let left : Leaves before (Ok (Some c.in-Ok-Some.captured)) after.held (g.I.Source.told c.args.input.now) (g.I.Source.told c.next.new.source) =
    subst (λ r. Leaves before r after.held (g.I.Source.told c.args.input.now) (g.I.Source.told c.next.new.source)) answer c.next.follows.holds-at-none.1 in
    let few = going_few g.T.CaptureTaker.wants before (λ link records. g.T.CaptureTaker.Took start c.args.taker.now link records) front captured c.in-Ok-Some.captured after.held
    (g.I.Source.told c.args.input.now) (g.I.Source.told c.next.new.source) going left in
    let took = subst (λ (l : LinkType). g.T.CaptureTaker.Took start c.args.taker.now l captured) (sym c.link-link.ensures.read) going.took in
    takes_in g.T.CaptureTaker.wants before after (λ link records. g.T.CaptureTaker.Took start c.args.taker.now link records) (λ link records. g.T.CaptureTaker.Took start c.take.new.self link records)
    front captured c.in-Ok-Some.captured (g.I.Source.told c.args.input.now) (g.I.Source.told c.next.new.source) going state left
    (subst (λ (l : LinkType). g.T.CaptureTaker.Took start c.take.new.self l (captured ++ c.in-Ok-Some.captured.now ∷ [])) c.link-link.ensures.read (c.in-Ok.ensures.took start captured took few))

pub returns-in-Ok-clause-reads : goal.returns-in-Ok-clause-reads
returns-in-Ok-clause-reads g c = λ front captured read.
    let before : ReaderState = c.args.reader.now in
    let after : ReaderState = c.next.follows.lender-at-none in
    let answer = c.in-Ok-Some.is ∙ ap (λ o. Ok o) c.in-Ok-Some.field-0-is in
    let state : after ≡ state_after before (Ok (Some c.in-Ok-Some.captured)) after.held = c.next.follows.holds-at-none.0 ∙ ap (λ r. state_after before r after.held) answer in
    let left : Leaves before (Ok (Some c.in-Ok-Some.captured)) after.held (g.I.Source.told c.args.input.now) (g.I.Source.told c.next.new.source) =
    subst (λ r. Leaves before r after.held (g.I.Source.told c.args.input.now) (g.I.Source.told c.next.new.source)) answer c.next.follows.holds-at-none.1 in
    reads_record before after front captured c.in-Ok-Some.captured (g.I.Source.told c.args.input.now) (g.I.Source.told c.next.new.source) (Ok next.Record) read state left (λ _. tt)

pub returns-in-Err-clause-reads : goal.returns-in-Err-clause-reads
returns-in-Err-clause-reads g c = λ front captured read.
    let before : ReaderState = c.args.reader.now in
    let after : ReaderState = c.next.follows.lender-at-none in
    let answer = c.in-Ok-Some.is ∙ ap (λ o. Ok o) c.in-Ok-Some.field-0-is in
    let state : after ≡ state_after before (Ok (Some c.in-Ok-Some.captured)) after.held = c.next.follows.holds-at-none.0 ∙ ap (λ r. state_after before r after.held) answer in
    let left : Leaves before (Ok (Some c.in-Ok-Some.captured)) after.held (g.I.Source.told c.args.input.now) (g.I.Source.told c.next.new.source) =
    subst (λ r. Leaves before r after.held (g.I.Source.told c.args.input.now) (g.I.Source.told c.next.new.source)) answer c.next.follows.holds-at-none.1 in
    reads_record before after front captured c.in-Ok-Some.captured (g.I.Source.told c.args.input.now) (g.I.Source.told c.next.new.source) (Err read_fault.OutOfMemory) read state left (λ _. tt)

pub returns-in-Ok-None-clause-reads : goal.returns-in-Ok-None-clause-reads
returns-in-Ok-None-clause-reads g c = λ front captured read.
    let before : ReaderState = c.args.reader.now in
    let after : ReaderState = c.next.follows.lender-at-none in
    let answer = c.in-Ok-None.is ∙ ap (λ o. Ok o) c.in-Ok-None.field-0-is in
    reads_end before after.held front captured (g.I.Source.told c.args.input.now) (g.I.Source.told c.next.new.source) read
    (subst (λ r. Leaves before r after.held (g.I.Source.told c.args.input.now) (g.I.Source.told c.next.new.source)) answer c.next.follows.holds-at-none.1)

pub returns-in-Err-Capture-clause-reads : goal.returns-in-Err-Capture-clause-reads
returns-in-Err-Capture-clause-reads g c = λ front captured read.
    let before : ReaderState = c.args.reader.now in
    let after : ReaderState = c.next.follows.lender-at-none in
    let answer = c.in-Err-Capture.is ∙ ap (λ e. Err e) c.in-Err-Capture.field-0-is in
    subst (λ (f : CaptureFault). ReadsNext before.held front captured (Ok (next.Fault f)) (g.I.Source.told c.args.input.now) (g.I.Source.told c.next.new.source)) (sym c.in-Err-Capture.fault-is)
    (reads_fault before after.held front captured c.in-Err-Capture.fault (g.I.Source.told c.args.input.now) (g.I.Source.told c.next.new.source) read
    (subst (λ r. Leaves before r after.held (g.I.Source.told c.args.input.now) (g.I.Source.told c.next.new.source)) answer c.next.follows.holds-at-none.1))

pub returns-in-Err-Failed-clause-reads : goal.returns-in-Err-Failed-clause-reads
returns-in-Err-Failed-clause-reads g c = λ front captured read.
    let before : ReaderState = c.args.reader.now in
    let after : ReaderState = c.next.follows.lender-at-none in
    let answer = c.in-Err-Failed.is ∙ ap (λ e. Err e) c.in-Err-Failed.field-0-is in
    reads_failed before after.held front captured (g.I.Source.told c.args.input.now) (g.I.Source.told c.next.new.source) read
    (subst (λ r. Leaves before r after.held (g.I.Source.told c.args.input.now) (g.I.Source.told c.next.new.source)) answer c.next.follows.holds-at-none.1)

pub returns-in-Ok-None-clause-end : goal.returns-in-Ok-None-clause-end
returns-in-Ok-None-clause-end g c = λ front captured read e.
    let end = rw c.in-Ok-None.field-0-is at (c.in-Ok-None.ensures.end front captured read) in
    end.1

pub returns-in-Err-Capture-clause-fault : goal.returns-in-Err-Capture-clause-fault
returns-in-Err-Capture-clause-fault g c = λ front captured fault read e.
    let found = rw c.in-Err-Capture.field-0-is at (c.in-Err-Capture.ensures.refused front captured read) in
    subst (λ (f : CaptureFault). IfSome (rest_of c.args.reader.now.held (g.I.Source.told c.args.input.now).left) (λ rest. Tells (front ++ rest) captured (Some f))) (sym c.in-Err-Capture.fault-is ∙ ap fault_of e) found
