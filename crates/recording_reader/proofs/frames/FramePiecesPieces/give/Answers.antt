use Rattle.std.proofs.Common.{◌≡◌, ◌+◌, ◌^◌, ◌<◌, ◌∙◌, refl, ap, sym, subst, arith, Ok, Err, is_ok}
use Rattle.std.proofs.lemmas.Bool.{false≢true}
use Rattle.ts_spec.specs.Recording.{plain, records_of}
use Rattle.bb_frame.specs.Reading.{ReaderState}
use Rattle.recording_reader.proofs.Next.{lent_frame, frames_on, frame_steps_still, frame_reads_still, frame_next, frame_stopped, has_frames_still, frames_end, frames_fail, frames_most, one_more}
use Rattle.recording_reader.proofs.frames.FramePiecesPieces.give.Goals as goal

pub returns-in-Ok : goal.returns-in-Ok
returns-in-Ok g c =
    let asked = c.requires.asked in
    let lent = lent_frame _ _ _ _ asked.0 c.lend_frame.result c.in-Some.frame c.in-Some.is (c.lend_frame.follows.holds-at-none asked.0 asked.1.stands) in
    let counted : c.lend_frame.new.reader.count ≡ c.args.self.now.reader.count + 1 = one_more _ _ asked.0 c.in-Some.frame.now asked.1.stands.count lent.0.stands.count in
    record {
      steps = λ start begun before frames has_read given.
          let lent = lent_frame _ _ _ _ frames c.lend_frame.result c.in-Some.frame c.in-Some.is (c.lend_frame.follows.holds-at-none frames has_read.stands) in
          frame_next c.args.self.now.reader c.lend_frame.new.reader before (g.I.Source.told c.args.input.now) (g.I.Source.told c.lend_frame.follows.lender-at-none)
          (λ records. g.T.Taker.Took start begun c.args.taker.now c.args.into.now records) frames has_read given _ c.in-Some.frame.now
          lent.0 (λ going. lent.1 ∙ going) lent.2 (c.in-Ok.ensures.took start begun (records_of plain frames) given.took);
      few = c.in-Some.ensures.few;
      counted = λ _. counted;
      room = omega (arith, counted, c.in-Ok.ensures.room, c.requires.room);
      ready = c.in-Ok.ensures.ready _ c.requires.ready;
      same = (refl, c.lend_frame.ensures.same, c.lend_frame.ensures.same);
    }

pub returns-in-Err : goal.returns-in-Err
returns-in-Err g c = record {
  steps = λ start begun before frames has_read given.
      let lent = lent_frame _ _ _ _ frames c.lend_frame.result c.in-Some.frame c.in-Some.is (c.lend_frame.follows.holds-at-none frames has_read.stands) in
      frame_stopped c.args.self.now.reader c.lend_frame.new.reader before (g.I.Source.told c.args.input.now) (g.I.Source.told c.lend_frame.follows.lender-at-none)
      (λ records. g.T.Taker.Took start begun c.args.taker.now c.args.into.now records) frames has_read given _ _ c.in-Some.frame.now c.in-Some.ensures.few
      lent.0 lent.2 (c.in-Err.ensures.stopped start begun (records_of plain frames) given.took);
  few = tt;
  counted = λ e. (cc);
  room = tt;
  ready = tt;
  same = tt;
}

pub returns-in-Ok-false : goal.returns-in-Ok-false
returns-in-Ok-false g c =
    let asked = c.requires.asked in
    let ended = ap (λ m. Ok m) c.in-Ok-false.field-0-test in
    let still = c.in_default.ensures.none in
    let size = c.next.ensures.size ∙ c.lend_frame.ensures.same in
    let had = has_frames_still c.args.self.now.reader c.lend_frame.new.reader asked.0 still asked.1 in
    let end = c.in-Ok-false.ensures.end asked.0 had.stands had.unended ended in
    record {
      steps = λ start begun before frames has_read given.
          let on = frames_on c.args.self.now.reader c.lend_frame.new.reader before (g.I.Source.told c.args.input.now) (g.I.Source.told c.lend_frame.follows.lender-at-none)
          (λ records. g.T.Taker.Took start begun c.args.taker.now c.args.into.now records) frames c.lend_frame.result c.in_default.is (c.lend_frame.follows.holds-at-none frames has_read.stands) has_read given in
          frame_reads_still c.args.self.now.reader c.lend_frame.new.reader _ before (g.I.Source.told c.next.new.source) _ _ on.0
          (frames_end c.lend_frame.new.reader c.next.new.self before (g.I.Source.told c.lend_frame.follows.lender-at-none) (g.I.Source.told c.next.new.source)
          (λ records. g.T.Taker.Took start begun c.args.taker.now c.args.into.now records) frames on.1 on.2 _ c.in-Ok-false.ensures.few
          (c.in-Ok-false.ensures.end frames on.1.stands on.1.unended ended) (c.in-Ok-false.ensures.ended on.1.unended ended) (c.in-Ok-false.ensures.kept (λ e. false≢true (sym (ap is_ok e)))));
      few = subst (λ (r : ReaderState). r.count < 2 ^ 32) still c.in-Ok-false.ensures.few;
      counted = λ e. (cc);
      room = omega (arith, end.stands.count, asked.1.stands.count, c.requires.room);
      ready = c.requires.ready;
      same = (refl, size, size);
    }

pub returns-in-Err-Failed : goal.returns-in-Err-Failed
returns-in-Err-Failed g c = record {
  steps = λ start begun before frames has_read given.
      let on = frames_on c.args.self.now.reader c.lend_frame.new.reader before (g.I.Source.told c.args.input.now) (g.I.Source.told c.lend_frame.follows.lender-at-none)
      (λ records. g.T.Taker.Took start begun c.args.taker.now c.args.into.now records) frames c.lend_frame.result c.in_default.is (c.lend_frame.follows.holds-at-none frames has_read.stands) has_read given in
      let failed = ap (λ f. Err f) c.in-Err-Failed.field-0-is in
      let some = c.in-Err-Failed.ensures.failed failed in
      frame_reads_still c.args.self.now.reader c.lend_frame.new.reader _ before (g.I.Source.told c.next.new.source) _ _ on.0
      (frames_fail c.lend_frame.new.reader c.next.new.self before (g.I.Source.told c.lend_frame.follows.lender-at-none) (g.I.Source.told c.next.new.source)
      (λ records. g.T.Taker.Took start begun c.args.taker.now c.args.into.now records) frames on.1 on.2 _ some.0 (c.in-Err-Failed.ensures.soon failed)
      some.1 some.2 (c.in-Err-Failed.ensures.goes_on failed) (c.in-Err-Failed.ensures.cause failed));
  few = tt;
  counted = λ e. (cc);
  room = tt;
  ready = tt;
  same = tt;
}

pub returns-in-Err-TooLong : goal.returns-in-Err-TooLong
returns-in-Err-TooLong g c = record {
  steps = λ start begun before frames has_read given.
      let on = frames_on c.args.self.now.reader c.lend_frame.new.reader before (g.I.Source.told c.args.input.now) (g.I.Source.told c.lend_frame.follows.lender-at-none)
      (λ records. g.T.Taker.Took start begun c.args.taker.now c.args.into.now records) frames c.lend_frame.result c.in_default.is (c.lend_frame.follows.holds-at-none frames has_read.stands) has_read given in
      let full = ap (λ f. Err f) c.in-Err-TooLong.field-0-is in
      frame_reads_still c.args.self.now.reader c.lend_frame.new.reader _ before (g.I.Source.told c.next.new.source) _ _ on.0
      (frames_most c.lend_frame.new.reader c.next.new.self before (g.I.Source.told c.lend_frame.follows.lender-at-none) (g.I.Source.told c.next.new.source)
      (λ records. g.T.Taker.Took start begun c.args.taker.now c.args.into.now records) frames on.1 on.2 _ (c.in-Err-TooLong.ensures.too_long.0 full)
      (ap (λ source. g.I.Source.told source) (c.in-Err-TooLong.ensures.unchanged full)));
  few = tt;
  counted = λ e. (cc);
  room = tt;
  ready = tt;
  same = tt;
}

pub returns-in-Ok-take : goal.returns-in-Ok-take
returns-in-Ok-take g c =
    let asked = c.requires.asked in
    let more = ap (λ m. Ok m) c.in-Ok-true.field-0-test in
    let still = c.in_default.ensures.none in
    let size = c.next.ensures.size ∙ c.lend_frame.ensures.same in
    let had = has_frames_still c.args.self.now.reader c.lend_frame.new.reader asked.0 still asked.1 in
    let counted : c.next.new.self.count ≡ c.args.self.now.reader.count + 1 =
    one_more _ _ asked.0 c.next.new.into asked.1.stands.count (c.in-Ok-true.ensures.read asked.0 had.stands more).stands.count in
    record {
      steps = λ start begun before frames has_read given.
          let on = frames_on c.args.self.now.reader c.lend_frame.new.reader before (g.I.Source.told c.args.input.now) (g.I.Source.told c.lend_frame.follows.lender-at-none)
          (λ records. g.T.Taker.Took start begun c.args.taker.now c.args.into.now records) frames c.lend_frame.result c.in_default.is (c.lend_frame.follows.holds-at-none frames has_read.stands) has_read given in
          frame_steps_still c.args.self.now.reader c.lend_frame.new.reader before (g.I.Source.told c.next.new.source) _ _ frames on.0
          (frame_next c.lend_frame.new.reader c.next.new.self before (g.I.Source.told c.lend_frame.follows.lender-at-none) (g.I.Source.told c.next.new.source)
          (λ records. g.T.Taker.Took start begun c.args.taker.now c.args.into.now records) frames on.1 on.2 _ c.next.new.into
          (c.in-Ok-true.ensures.read frames on.1.stands more) (c.in-Ok-true.ensures.unended more) (c.in-Ok-true.ensures.kept (λ e. false≢true (sym (ap is_ok e))))
          (c.in-Ok-take.ensures.took start begun (records_of plain frames) on.2.took));
      few = subst (λ (r : ReaderState). r.count < 2 ^ 32) still c.in-Ok-true.ensures.few;
      counted = λ _. counted;
      room = omega (arith, counted, c.in-Ok-take.ensures.room, c.requires.room);
      ready = c.in-Ok-take.ensures.ready _ c.requires.ready;
      same = (refl, size, size);
    }

pub returns-in-Err-take : goal.returns-in-Err-take
returns-in-Err-take g c = record {
  steps = λ start begun before frames has_read given.
      let on = frames_on c.args.self.now.reader c.lend_frame.new.reader before (g.I.Source.told c.args.input.now) (g.I.Source.told c.lend_frame.follows.lender-at-none)
      (λ records. g.T.Taker.Took start begun c.args.taker.now c.args.into.now records) frames c.lend_frame.result c.in_default.is (c.lend_frame.follows.holds-at-none frames has_read.stands) has_read given in
      let more = ap (λ m. Ok m) c.in-Ok-true.field-0-test in
      frame_reads_still c.args.self.now.reader c.lend_frame.new.reader _ before (g.I.Source.told c.next.new.source) _ _ on.0
      (frame_stopped c.lend_frame.new.reader c.next.new.self before (g.I.Source.told c.lend_frame.follows.lender-at-none) (g.I.Source.told c.next.new.source)
      (λ records. g.T.Taker.Took start begun c.args.taker.now c.args.into.now records) frames on.1 on.2 _ _ c.next.new.into c.in-Ok-true.ensures.few
      (c.in-Ok-true.ensures.read frames on.1.stands more) (c.in-Ok-true.ensures.kept (λ e. false≢true (sym (ap is_ok e))))
      (c.in-Err-take.ensures.stopped start begun (records_of plain frames) on.2.took));
  few = tt;
  counted = λ e. (cc);
  room = tt;
  ready = tt;
  same = tt;
}
