use Rattle.class_law.proofs.Small.{rest_goes_before, eighth_begins, fragment_between}
use Rattle.class_law.proofs.examples.other_orders_do_not_yield.Goals as goal

pub returns : goal.returns
returns c = record { last_urgent = rest_goes_before; nine_frames = eighth_begins; mixed = fragment_between }
