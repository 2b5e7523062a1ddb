use Rattle.reception_law.proofs.WhatIsTold.{to_come_blank, to_come_blank_next, moved_blank, first_blank}
use Rattle.reception_law.proofs.spans.a_span_to_come_is_blank.Goals as goal

pub returns : goal.returns
returns c = record { blank = to_come_blank; next = to_come_blank_next; moved = moved_blank; first = first_blank }
