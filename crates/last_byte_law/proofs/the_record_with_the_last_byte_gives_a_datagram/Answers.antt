use Rattle.std.proofs.Common.{sym, subst}
use Rattle.reception_spec.specs.Spans.{span_of}
use Rattle.ts_spec.specs.Received.{no_arrival}
use Rattle.reception_law.proofs.Fronts.{kind_lawful}
use Rattle.reception_spec.specs.Delivered.{service_on}
use Rattle.last_byte_law.specs.Ends.{GivesEnding}
use Rattle.last_byte_law.proofs.Records.{gives_ending}
use Rattle.last_byte_law.proofs.the_record_with_the_last_byte_gives_a_datagram.Goals as goal

pub returns : goal.returns
returns c = record {
  gives = λ plan k pid records r right single on.
      subst (GivesEnding (service_on plan k pid) (span_of plan k pid records) r) (sym (c.a_record_tells_datagrams_on_the_pid_in_force.ensures.given plan k pid records r right on))
      (gives_ending
      (λ kind ps q. c.a_unit_ends_in_the_packet_that_gives_it.ensures.units _ ps q (kind_lawful kind))
      (λ kind ps. (c.one_packet_more.ensures _ ps no_arrival (kind_lawful kind)).units)
      c.one_record_more.ensures c.units_are_those_of_events.ensures.units
      c.a_service_without_frames_tells_what_its_units_give.ensures.told c.one_record_more_adds_datagrams.ensures.added
      c.a_service_without_frames_tells_what_its_units_give.ensures.closed plan k pid records r single);
}
