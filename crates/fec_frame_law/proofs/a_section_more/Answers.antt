use Rattle.fec_frame_law.proofs.Known.{known_more}
use Rattle.fec_frame_law.proofs.Summary.{cut_by_summary, summary_none, summary_next}
use Rattle.fec_frame_law.proofs.a_section_more.Goals as goal

pub returns : goal.returns
returns c = record { cut = cut_by_summary; none = summary_none; more = summary_next; known = known_more }
