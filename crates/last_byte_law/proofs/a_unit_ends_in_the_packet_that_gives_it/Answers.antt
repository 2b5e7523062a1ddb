use Rattle.last_byte_law.proofs.Ends.{adds_units}
use Rattle.last_byte_law.proofs.a_unit_ends_in_the_packet_that_gives_it.Goals as goal

pub returns : goal.returns
returns c = record {
  units = λ form packets next lawful.
      adds_units form lawful (λ ps q. c.one_packet_more.ensures form ps q lawful) (λ ps. c.units_under_way_fit.ensures form ps lawful) packets next;
}
