use Rattle.std.proofs.Common.{rules, ◌≡◌, ◌+◌, ◌∙◌, sym, ap, refl, length, arith, Bool, true, false, Result, Ok, Err, is_ok}
use Rattle.std.proofs.lemmas.Bool.{false≢true}
use Rattle.ts_spec.specs.Recording.{stamp_size}
use Rattle.ts_record.specs.Reading.{ReaderState}
use Rattle.ts_record.proofs.ReadLemmas.{reads_record}
use Rattle.ts_record.proofs.reader.RecordReader.next_into.Goals as goal

-- an answer is one of the three
no_err : {A E P : Type 0} {x : A} {f : E} → Ok x ≡ Err f → P
no_err e = absurd (false≢true (sym (ap is_ok e)))

no_ok : {A E P : Type 0} {x : A} {f : E} → Err f ≡ Ok x → P
no_ok e = absurd (false≢true (ap is_ok e))

no_more : {E P : Type 0} {r : Result Bool E} → r ≡ Ok true → r ≡ Ok false → P
no_more gives ends = (cc)

pub returns-clause-read : goal.returns-clause-read
returns-clause-read g c =
    let of_stamp : length c.fill_both.new.stamp ≡ c.stamp_size.result = search rules in
    let form : stamp_size c.args.self.now.form ≡ c.stamp_size.result = ap (λ (r : ReaderState). stamp_size r.form) (sym c.self.view_is) ∙ sym c.stamp_size.ensures.size in
    let of_count : c.in-Ok.count ≡ length c.fill_both.new.stamp + 188 = omega (arith, of_stamp, c.in-Ok.ensures.bound) in
    (λ pieces stands e. reads_record c.args.self.now _ _ _ _ _ c.in-Ok.count pieces c.fill_both.new.stamp c.fill_both.new.packet c.step-into.result
    (of_stamp ∙ sym form) c.fill_both.ensures.size of_count c.in-Ok.ensures.read c.in-Ok.ensures.taken c.step-into.ensures.moment c.step-into.ensures.stepped stands)

pub returns-then-self-clause-read : goal.returns-then-self-clause-read
returns-then-self-clause-read g c = λ pieces stands e. no_more e refl

pub returns-then-self-clause-unended : goal.returns-then-self-clause-unended
returns-then-self-clause-unended g c = λ e. no_more e refl

pub returns-then-self-clause-unchanged : goal.returns-then-self-clause-unchanged
returns-then-self-clause-unchanged g c = λ e. no_err e

pub returns-then-self-clause-failed : goal.returns-then-self-clause-failed
returns-then-self-clause-failed g c = λ e. no_err e

pub returns-then-self-clause-cause : goal.returns-then-self-clause-cause
returns-then-self-clause-cause g c = λ e. no_err e

pub returns-then-self-clause-soon : goal.returns-then-self-clause-soon
returns-then-self-clause-soon g c = λ e. no_err e

pub returns-then-self-clause-goes_on : goal.returns-then-self-clause-goes_on
returns-then-self-clause-goes_on g c = λ e. no_err e

pub returns-then-self-clause-closed : goal.returns-then-self-clause-closed
returns-then-self-clause-closed g c = tt

pub returns-in_default-clause-read : goal.returns-in_default-clause-read
returns-in_default-clause-read g c = λ pieces stands e. no_ok e

pub returns-in_default-clause-end : goal.returns-in_default-clause-end
returns-in_default-clause-end g c = λ pieces stands going e. no_ok e

pub returns-in_default-clause-ended : goal.returns-in_default-clause-ended
returns-in_default-clause-ended g c = λ going e. no_ok e

pub returns-in_default-clause-unended : goal.returns-in_default-clause-unended
returns-in_default-clause-unended g c = λ e. no_ok e

pub returns-in_default-clause-few : goal.returns-in_default-clause-few
returns-in_default-clause-few g c = tt

pub returns-in_default-clause-unchanged : goal.returns-in_default-clause-unchanged
returns-in_default-clause-unchanged g c = λ e. (cc)

pub returns-then-count-stamp-clause-read : goal.returns-then-count-stamp-clause-read
returns-then-count-stamp-clause-read g c = λ pieces stands e. no_more e refl

pub returns-then-count-stamp-clause-unended : goal.returns-then-count-stamp-clause-unended
returns-then-count-stamp-clause-unended g c = λ e. no_more e refl

pub returns-then-count-stamp-clause-unchanged : goal.returns-then-count-stamp-clause-unchanged
returns-then-count-stamp-clause-unchanged g c = λ e. no_err e

pub returns-then-count-stamp-clause-failed : goal.returns-then-count-stamp-clause-failed
returns-then-count-stamp-clause-failed g c = λ e. no_err e

pub returns-then-count-stamp-clause-cause : goal.returns-then-count-stamp-clause-cause
returns-then-count-stamp-clause-cause g c = λ e. no_err e

pub returns-then-count-stamp-clause-soon : goal.returns-then-count-stamp-clause-soon
returns-then-count-stamp-clause-soon g c = λ e. no_err e

pub returns-then-count-stamp-clause-goes_on : goal.returns-then-count-stamp-clause-goes_on
returns-then-count-stamp-clause-goes_on g c = λ e. no_err e

pub returns-then-count-stamp-clause-closed : goal.returns-then-count-stamp-clause-closed
returns-then-count-stamp-clause-closed g c = tt

pub returns-clause-end : goal.returns-clause-end
returns-clause-end g c = λ pieces stands going e. no_more refl e

pub returns-clause-ended : goal.returns-clause-ended
returns-clause-ended g c = λ going e. no_more refl e

pub returns-clause-unchanged : goal.returns-clause-unchanged
returns-clause-unchanged g c = λ e. no_err e

pub returns-clause-failed : goal.returns-clause-failed
returns-clause-failed g c = λ e. no_err e

pub returns-clause-cause : goal.returns-clause-cause
returns-clause-cause g c = λ e. no_err e

pub returns-clause-soon : goal.returns-clause-soon
returns-clause-soon g c = λ e. no_err e

pub returns-clause-goes_on : goal.returns-clause-goes_on
returns-clause-goes_on g c = λ e. no_err e

pub returns-clause-closed : goal.returns-clause-closed
returns-clause-closed g c = tt
