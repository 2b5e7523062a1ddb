use Rattle.std.proofs.Common.{◌≡◌, ◌+◌, ◌^◌, ◌<◌, ◌∙◌, refl, ap, sym, subst, arith, Ok, Err, is_ok}
use Rattle.std.proofs.lemmas.Bool.{false≢true}
use Rattle.ts_spec.specs.Recording.{record_size, records_of}
use Rattle.ts_record.specs.Reading.{ReaderState, lent_seen, record_seen}
use Rattle.recording_reader.proofs.Next.{lent_one, packets_on, steps_still, reads_still, packet_next, packet_stopped, has_still, packets_end, packets_fail, packets_most, one_more}
use Rattle.recording_reader.proofs.packets.PacketPiecesPieces.give.Goals as goal

pub returns-in-Ok : goal.returns-in-Ok
returns-in-Ok g c =
    let asked = c.requires.asked in
    let lent = lent_one _ _ _ _ asked.0 c.lend_record.result c.in-Some.field-0 c.in-Some.is (c.lend_record.follows.holds-at-none asked.0 asked.1.stands) in
    let counted : c.lend_record.new.reader.count ≡ c.args.self.now.reader.count + 1 = one_more _ _ asked.0 lent.0.piece asked.1.stands.count lent.0.stands.count in
    record {
      steps = λ start begun before pieces has_read given.
          let lent = lent_one _ _ _ _ pieces c.lend_record.result c.in-Some.field-0 c.in-Some.is (c.lend_record.follows.holds-at-none pieces has_read.stands) in
          packet_next c.args.self.now.reader c.lend_record.new.reader before (g.I.Source.told c.args.input.now) (g.I.Source.told c.lend_record.follows.lender-at-none)
          (λ records. g.T.Taker.Took start begun c.args.taker.now c.args.into.now records) pieces has_read given _ (lent_seen c.in-Some.field-0)
          lent.0 (λ going. lent.1 ∙ going) lent.2 (c.in-Ok.ensures.took start begun (records_of c.args.self.now.reader.form pieces) given.took);
      few = c.in-Some.ensures.few;
      counted = λ _. counted;
      room = omega (arith, counted, c.in-Ok.ensures.room, c.requires.room);
      ready = c.in-Ok.ensures.ready 188 c.requires.ready;
      same = (lent.0.form, ap record_size lent.0.form, refl);
    }

pub returns-in-Err : goal.returns-in-Err
returns-in-Err g c = record {
  steps = λ start begun before pieces has_read given.
      let lent = lent_one _ _ _ _ pieces c.lend_record.result c.in-Some.field-0 c.in-Some.is (c.lend_record.follows.holds-at-none pieces has_read.stands) in
      packet_stopped c.args.self.now.reader c.lend_record.new.reader before (g.I.Source.told c.args.input.now) (g.I.Source.told c.lend_record.follows.lender-at-none)
      (λ records. g.T.Taker.Took start begun c.args.taker.now c.args.into.now records) pieces has_read given _ _ (lent_seen c.in-Some.field-0) c.in-Some.ensures.few
      lent.0 lent.2 (c.in-Err.ensures.stopped start begun (records_of c.args.self.now.reader.form pieces) given.took);
  few = tt;
  counted = λ e. (cc);
  room = tt;
  ready = tt;
  same = tt;
}

pub returns-in-Ok-false : goal.returns-in-Ok-false
returns-in-Ok-false g c =
    let asked = c.requires.asked in
    let ended = ap (λ m. Ok m) c.in-Ok-false.field-0-test in
    let still = c.in_default.ensures.none in
    let had = has_still c.args.self.now.reader c.lend_record.new.reader asked.0 still asked.1 in
    let end = c.in-Ok-false.ensures.end asked.0 had.stands had.unended ended in
    let form = end.form ∙ ap (λ (r : ReaderState). r.form) still in
    record {
      steps = λ start begun before pieces has_read given.
          let on = packets_on c.args.self.now.reader c.lend_record.new.reader before (g.I.Source.told c.args.input.now) (g.I.Source.told c.lend_record.follows.lender-at-none)
          (λ records. g.T.Taker.Took start begun c.args.taker.now c.args.into.now records) pieces c.lend_record.result c.in_default.is (c.lend_record.follows.holds-at-none pieces has_read.stands) has_read given in
          reads_still c.args.self.now.reader c.lend_record.new.reader _ before (g.I.Source.told c.next_into.new.source) _ _ on.0
          (packets_end c.lend_record.new.reader c.next_into.new.self before (g.I.Source.told c.lend_record.follows.lender-at-none) (g.I.Source.told c.next_into.new.source)
          (λ records. g.T.Taker.Took start begun c.args.taker.now c.args.into.now records) pieces on.1 on.2 _ c.in-Ok-false.ensures.few
          (c.in-Ok-false.ensures.end pieces on.1.stands on.1.unended ended) (c.in-Ok-false.ensures.ended on.1.unended ended) (c.in-Ok-false.ensures.kept (λ e. false≢true (sym (ap is_ok e)))));
      few = subst (λ (r : ReaderState). r.count < 2 ^ 32) still c.in-Ok-false.ensures.few;
      counted = λ e. (cc);
      room = omega (arith, end.stands.count, asked.1.stands.count, c.requires.room);
      ready = c.requires.ready;
      same = (form, ap record_size form, refl);
    }

pub returns-in-Err-Failed : goal.returns-in-Err-Failed
returns-in-Err-Failed g c = record {
  steps = λ start begun before pieces has_read given.
      let on = packets_on c.args.self.now.reader c.lend_record.new.reader before (g.I.Source.told c.args.input.now) (g.I.Source.told c.lend_record.follows.lender-at-none)
      (λ records. g.T.Taker.Took start begun c.args.taker.now c.args.into.now records) pieces c.lend_record.result c.in_default.is (c.lend_record.follows.holds-at-none pieces has_read.stands) has_read given in
      let failed = ap (λ f. Err f) c.in-Err-Failed.field-0-is in
      let some = c.in-Err-Failed.ensures.failed failed in
      reads_still c.args.self.now.reader c.lend_record.new.reader _ before (g.I.Source.told c.next_into.new.source) _ _ on.0
      (packets_fail c.lend_record.new.reader c.next_into.new.self before (g.I.Source.told c.lend_record.follows.lender-at-none) (g.I.Source.told c.next_into.new.source)
      (λ records. g.T.Taker.Took start begun c.args.taker.now c.args.into.now records) pieces on.1 on.2 _ some.0 (c.in-Err-Failed.ensures.soon failed)
      some.1 some.2 (c.in-Err-Failed.ensures.goes_on failed) (c.in-Err-Failed.ensures.cause failed));
  few = tt;
  counted = λ e. (cc);
  room = tt;
  ready = tt;
  same = tt;
}

pub returns-in-Err-TooLong : goal.returns-in-Err-TooLong
returns-in-Err-TooLong g c = record {
  steps = λ start begun before pieces has_read given.
      let on = packets_on c.args.self.now.reader c.lend_record.new.reader before (g.I.Source.told c.args.input.now) (g.I.Source.told c.lend_record.follows.lender-at-none)
      (λ records. g.T.Taker.Took start begun c.args.taker.now c.args.into.now records) pieces c.lend_record.result c.in_default.is (c.lend_record.follows.holds-at-none pieces has_read.stands) has_read given in
      let full = ap (λ f. Err f) c.in-Err-TooLong.field-0-is in
      reads_still c.args.self.now.reader c.lend_record.new.reader _ before (g.I.Source.told c.next_into.new.source) _ _ on.0
      (packets_most c.lend_record.new.reader c.next_into.new.self before (g.I.Source.told c.lend_record.follows.lender-at-none) (g.I.Source.told c.next_into.new.source)
      (λ records. g.T.Taker.Took start begun c.args.taker.now c.args.into.now records) pieces on.1 on.2 _ (c.in-Err-TooLong.ensures.too_long.0 full)
      (ap (λ source. g.I.Source.told source) (c.in-Err-TooLong.ensures.unchanged full)));
  few = tt;
  counted = λ e. (cc);
  room = tt;
  ready = tt;
  same = tt;
}

pub returns-in-Ok-take : goal.returns-in-Ok-take
returns-in-Ok-take g c =
    let asked = c.requires.asked in
    let more = ap (λ m. Ok m) c.in-Ok-true.field-0-test in
    let still = c.in_default.ensures.none in
    let had = has_still c.args.self.now.reader c.lend_record.new.reader asked.0 still asked.1 in
    let read = c.in-Ok-true.ensures.read asked.0 had.stands more in
    let form = read.form ∙ ap (λ (r : ReaderState). r.form) still in
    let counted : c.next_into.new.self.count ≡ c.args.self.now.reader.count + 1 = one_more _ _ asked.0 read.piece asked.1.stands.count read.stands.count in
    record {
      steps = λ start begun before pieces has_read given.
          let on = packets_on c.args.self.now.reader c.lend_record.new.reader before (g.I.Source.told c.args.input.now) (g.I.Source.told c.lend_record.follows.lender-at-none)
          (λ records. g.T.Taker.Took start begun c.args.taker.now c.args.into.now records) pieces c.lend_record.result c.in_default.is (c.lend_record.follows.holds-at-none pieces has_read.stands) has_read given in
          steps_still c.args.self.now.reader c.lend_record.new.reader before (g.I.Source.told c.next_into.new.source) _ _ pieces on.0
          (packet_next c.lend_record.new.reader c.next_into.new.self before (g.I.Source.told c.lend_record.follows.lender-at-none) (g.I.Source.told c.next_into.new.source)
          (λ records. g.T.Taker.Took start begun c.args.taker.now c.args.into.now records) pieces on.1 on.2 _ (record_seen c.next_into.new.into)
          (c.in-Ok-true.ensures.read pieces on.1.stands more) (c.in-Ok-true.ensures.unended more) (c.in-Ok-true.ensures.kept (λ e. false≢true (sym (ap is_ok e))))
          (c.in-Ok-take.ensures.took start begun (records_of c.lend_record.new.reader.form pieces) on.2.took));
      few = subst (λ (r : ReaderState). r.count < 2 ^ 32) still c.in-Ok-true.ensures.few;
      counted = λ _. counted;
      room = omega (arith, counted, c.in-Ok-take.ensures.room, c.requires.room);
      ready = c.in-Ok-take.ensures.ready 188 c.requires.ready;
      same = (form, ap record_size form, refl);
    }

pub returns-in-Err-take : goal.returns-in-Err-take
returns-in-Err-take g c = record {
  steps = λ start begun before pieces has_read given.
      let on = packets_on c.args.self.now.reader c.lend_record.new.reader before (g.I.Source.told c.args.input.now) (g.I.Source.told c.lend_record.follows.lender-at-none)
      (λ records. g.T.Taker.Took start begun c.args.taker.now c.args.into.now records) pieces c.lend_record.result c.in_default.is (c.lend_record.follows.holds-at-none pieces has_read.stands) has_read given in
      let more = ap (λ m. Ok m) c.in-Ok-true.field-0-test in
      reads_still c.args.self.now.reader c.lend_record.new.reader _ before (g.I.Source.told c.next_into.new.source) _ _ on.0
      (packet_stopped c.lend_record.new.reader c.next_into.new.self before (g.I.Source.told c.lend_record.follows.lender-at-none) (g.I.Source.told c.next_into.new.source)
      (λ records. g.T.Taker.Took start begun c.args.taker.now c.args.into.now records) pieces on.1 on.2 _ _ (record_seen c.next_into.new.into) c.in-Ok-true.ensures.few
      (c.in-Ok-true.ensures.read pieces on.1.stands more) (c.in-Ok-true.ensures.kept (λ e. false≢true (sym (ap is_ok e))))
      (c.in-Err-take.ensures.stopped start begun (records_of c.lend_record.new.reader.form pieces) on.2.took));
  few = tt;
  counted = λ e. (cc);
  room = tt;
  ready = tt;
  same = tt;
}
