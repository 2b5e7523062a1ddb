use Rattle.std.proofs.Common.{◌≡◌, length, ap, ◌∙◌, arith}
use Rattle.plan_spec.specs.Given.{sample_plan}
use Rattle.sample_spec.specs.Datagrams.{sample_records, sample_datagrams}
use Rattle.sample_spec.specs.Summary.{IsSummary}
use Rattle.sample_command.specs.Numbers.{summary_text}
use Rattle.sample_command.specs.declared.summary.Summary.{Summary}
use Rattle.sample_command.proofs.Taking.{joined_size}
use Rattle.sample_command.proofs.Summed.{text_same, so_of_ok}
use Rattle.sample_command.proofs.command.text_of_sample.Goals as goal

pub send_sample-requires-clause-offered : goal.send_sample-requires-clause-offered
send_sample-requires-clause-offered c = record {
  records = sample_records c.args.number;
  stands = c.in_ok-offered.ensures.offered c.args.number c.new-draws.ensures;
  datagrams = c.a_sample_offers_datagrams.ensures.datagrams c.args.number c.ranges.number.fits;
  few = c.a_sample_offers_datagrams.ensures.few c.args.number;
}

pub count_offered-requires-clause-offered : goal.count_offered-requires-clause-offered
count_offered-requires-clause-offered c = record {
  records = sample_records c.args.number;
  stands = c.in_ok-offered.ensures.offered c.args.number c.new-draws.ensures;
  datagrams = c.a_sample_offers_datagrams.ensures.datagrams c.args.number c.ranges.number.fits;
  few = c.a_sample_offers_datagrams.ensures.few c.args.number;
}

pub count_offered-requires-2-clause-offered : goal.count_offered-requires-2-clause-offered
count_offered-requires-2-clause-offered c = record {
  records = sample_records c.args.number;
  stands = c.in_ok-offered.ensures.offered c.args.number c.new-draws.ensures;
  datagrams = c.a_sample_offers_datagrams.ensures.datagrams c.args.number c.ranges.number.fits;
  few = c.a_sample_offers_datagrams.ensures.few c.args.number;
}

pub receive_rest-requires-clause-few : goal.receive_rest-requires-clause-few
receive_rest-requires-clause-few c =
    let sent = c.in_ok-sent.ensures.sent (sample_records c.args.number) (c.in_ok-offered.ensures.offered c.args.number c.new-draws.ensures) in
    let cut = c.a_stream_is_cut_into_its_records.ensures.cut sample_plan (sample_datagrams c.args.number) sent.stream sent.is_stream in
    omega (arith, ap length c.bytes.ensures, ap length sent.bytes, joined_size sent.stream cut.each, sent.few)

pub returns : goal.returns
returns c = record {
  summary =
      let stands = c.in_ok-offered.ensures.offered c.args.number c.new-draws.ensures in
      let sent = c.in_ok-sent.ensures.sent (sample_records c.args.number) stands in
      let cut = c.a_stream_is_cut_into_its_records.ensures.cut sample_plan (sample_datagrams c.args.number) sent.stream sent.is_stream in
      let rest = c.in_ok-rest.ensures.received c.args.number sent.stream cut.each (c.bytes.ensures ∙ sent.bytes) (c.in_ok-offered.ensures.drawn c.args.number c.new-draws.ensures) in
      let numbers : Summary = record {
        packets = c.in_ok-sent.sent.packets;
        dropped = c.in_ok-rest.rest.dropped;
        lecture = record { sent = c.count_offered.result; delivered = c.in_ok-rest.rest.delivered.lecture };
        files = record { sent = c.count_offered-2.result; delivered = c.in_ok-rest.rest.delivered.files };
      } in
      so_of_ok c.summary_text.result (λ text. text.items ≡ summary_text numbers) (λ text. IsSummary c.args.number text.items) c.summary_text.ensures.written (λ text written. record {
        stream = sent.stream;
        is_stream = sent.is_stream;
        text_is = written ∙ text_same c.args.number sent.stream numbers sent.packets rest.dropped (c.count_offered.ensures.read (sample_records c.args.number) stands) rest.lecture
            (c.count_offered-2.ensures.read (sample_records c.args.number) stands) rest.files;
      });
}
