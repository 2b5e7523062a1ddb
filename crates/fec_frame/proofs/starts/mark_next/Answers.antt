use Rattle.std.proofs.Common.{◌≡◌, ◌+◌, ℕ, ap, sym, ◌∙◌, refl, arith}
use Rattle.ip_datagram.specs.Hint.{hint_of}
use Rattle.ip_datagram.specs.declared.hint.Hint.TheVariants.{Length}
use Rattle.fec_frame.specs.Marking.{IsEndTold}
use Rattle.fec_frame.proofs.KnownRuns.{marked_run_is}
use Rattle.fec_frame.proofs.Marking.{run_same, IsRun-same, marked_more, nothing_told, known_set}
use Rattle.fec_frame.proofs.starts.mark_next.Goals as goal

pub returns-then-size-limit-clause-more : goal.returns-then-size-limit-clause-more
returns-then-size-limit-clause-more c = λ old up.
    let told : IsEndTold c.args.bytes.now old c.args.limit c.args.place (c.args.place + c.in-Length.size) = record {
      size = c.in-Length.size;
      told =
          ap hint_of
          (run_same c.args.bytes.now old c.args.marks.now c.args.limit (λ q. sym (up.known q)) c.args.place
          ∙ marked_run_is c.args.bytes.now c.args.marks.now c.args.limit c.args.place c.args.end c.requires.bytes_long (omega arith) c.requires.run)
          ∙ sym c.length_hint.ensures.read ∙ c.in-Length.is;
      end = refl;
    } in
    marked_more c.args.bytes.now old c.args.marks.now c.args.limit c.args.place up (c.args.place + c.in-Length.size) (omega arith) c.requires.marks_long
    c.with_start.result c.with_start.ensures.start c.with_start.ensures.known c.requires.start told

pub returns-then-size-limit-clause-run : goal.returns-then-size-limit-clause-run
returns-then-size-limit-clause-run c =
    IsRun-same c.args.marks.now _ c.args.limit c.args.place c.args.end
    (known_set c.args.marks.now (c.args.place + c.in-Length.size) c.with_start.result (omega arith) c.with_start.ensures.known) c.requires.run

same_length : (a b : ℕ) → Length a ≡ Length b → a ≡ b
same_length a b e = cc

pub returns-else-size-limit-clause-more : goal.returns-else-size-limit-clause-more
returns-else-size-limit-clause-more c = λ old up.
    nothing_told c.args.bytes.now old c.args.marks.now c.args.limit c.args.place c.args.end c.requires.bytes_long c.requires.below c.requires.run up
    (λ n told low.
    let same : n ≡ c.in-Length.size = same_length n c.in-Length.size (sym told ∙ sym c.length_hint.ensures.read ∙ c.in-Length.is) in
    omega (arith, same, low))

pub returns-in_default : goal.returns-in_default
returns-in_default c = record {
  more = λ old up.
      nothing_told c.args.bytes.now old c.args.marks.now c.args.limit c.args.place c.args.end c.requires.bytes_long c.requires.below c.requires.run up
      (λ n told low. c.in_default.not-Length n (c.length_hint.ensures.read ∙ told));
  run = c.requires.run;
}
