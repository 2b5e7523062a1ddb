use Rattle.std.proofs.Common.{List, ℕ, sym, subst}
use Rattle.bb_stream_spec.specs.Stream.{IsBasebandStream}
use Rattle.end_to_end_law.specs.Sent.{offered_by}
use Rattle.end_to_end_law.proofs.BbServices.{in_one_version}
use Rattle.end_to_end_law.proofs.bb_settings.each_capture_is_sent_in_frames.Goals as goal

pub returns : goal.returns
returns c = record {
  is = λ settings plan accepted baseband capture bytes.
      let told = c.each_capture_tells_records.ensures.tells capture in
      let whole = c.accepted_settings_give_a_plan.ensures.whole settings plan accepted in
      let found = c.there_is_one_baseband_stream.ensures.is plan (offered_by plan capture told.0) whole baseband in (
        told.0,
        found.0,
        record {
          accepted = whole;
          of_bytes = λ version within. c.accepted_settings_give_bytes.ensures.versions settings plan version accepted;
          told_bytes = c.a_capture_of_bytes_has_records_of_bytes.ensures.bytes capture told.0 told.1 bytes told.2;
          fault = told.1;
          tells = told.2;
          stream = found.1;
        },
      );
  one = λ plan capture told others a b is_a is_b.
      let same = c.a_capture_tells_one_thing.ensures.records capture told others is_a.fault is_b.fault is_a.tells is_b.tells in (
        same,
        c.there_is_one_baseband_stream.ensures.one plan (offered_by plan capture told) a b is_a.stream
            (subst (λ (t : List (List ℕ)). IsBasebandStream plan (offered_by plan capture t) b) (sym same) is_b.stream),
      );
  all = in_one_version;
}
