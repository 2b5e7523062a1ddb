use Rattle.channel_law.proofs.Member.{member_contains, contains_member}
use Rattle.fec_frame_law.proofs.Datagrams.{recoverable_more}
use Rattle.fec_frame_law.proofs.more_sections_recover_more.Goals as goal

pub returns : goal.returns
returns c = record {
  recoverable = λ rows group more among. recoverable_more rows group more (λ s there. member_contains more s (among s (contains_member group s there)));
}
