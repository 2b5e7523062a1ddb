use Rattle.reception_law.proofs.ServiceSpans.{span_more, span_heard, span_blank}
use Rattle.reception_law.proofs.spans.a_span_grows_record_by_record.Goals as goal

pub returns : goal.returns
returns c = record { more = span_more; heard = span_heard; blank = span_blank }
