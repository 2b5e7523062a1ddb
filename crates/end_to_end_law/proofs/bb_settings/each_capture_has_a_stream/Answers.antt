use Rattle.end_to_end_law.specs.Sent.{offered_by}
use Rattle.end_to_end_law.proofs.bb_settings.each_capture_has_a_stream.Goals as goal

pub returns : goal.returns
returns c = record {
  is = λ settings plan accepted capture.
      let told = c.each_capture_tells_records.ensures.tells capture in (
        told.0,
        told.1,
        told.2,
        c.there_is_one_sent_stream.ensures.is plan (offered_by plan capture told.0) (c.accepted_settings_give_a_plan.ensures.whole settings plan accepted),
      );
}
