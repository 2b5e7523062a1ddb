use Rattle.std.proofs.Common.{◌+◌, ◌*◌, ◌%◌, ℕ, nat_lt, length, ap, sym, ◌∙◌}
use Rattle.std.proofs.lemmas.Bool.{lt-ltb, le-ltb}
use Rattle.ts_record.specs.Reading.{lent_seen}
use Rattle.sample_spec.specs.Datagrams.{datagram_count}
use Rattle.sample_command.specs.Taking.{kept_records}
use Rattle.sample_command.proofs.Taking.{one_dropped, one_received}
use Rattle.sample_command.proofs.losses.take_packet.Goals as goal

pub returns-then-next-lt-DROPPING-clause-taken : goal.returns-then-next-lt-DROPPING-clause-taken
returns-then-next-lt-DROPPING-clause-taken c = λ number dropped pieces taken.
    let drawn = c.next.ensures.drawn number (2 * datagram_count + length pieces) taken.drawn in
    one_dropped number c.args.draws.now c.next.new.self dropped c.args.receiver.now c.args.delivered.now pieces c.args.bytes.now taken
    (ap (λ (n : ℕ). nat_lt (n % 100) 3) (sym drawn) ∙ lt-ltb (c.next.result % 100) 3 c.if-next-lt-DROPPING.true) (c.next.ensures.state number (2 * datagram_count + length pieces) taken.drawn)

pub returns-clause-taken : goal.returns-clause-taken
returns-clause-taken c = λ number dropped pieces taken.
    let drawn = c.next.ensures.drawn number (2 * datagram_count + length pieces) taken.drawn in
    one_received number c.args.draws.now c.next.new.self dropped c.args.receiver.now c.receive_record.new.receiver c.args.delivered.now c.receive_record.new.delivered pieces c.args.bytes.now
    (lent_seen c.record_in.result) taken
    (ap (λ (n : ℕ). nat_lt (n % 100) 3) (sym drawn) ∙ le-ltb (c.next.result % 100) 3 c.if-next-lt-DROPPING.false) c.record_in.ensures.read (c.next.ensures.state number (2 * datagram_count + length pieces) taken.drawn)
    (c.receive_record.ensures.received (kept_records number pieces) taken.received) (c.receive_record.ensures.told (kept_records number pieces) taken.received taken.told)
