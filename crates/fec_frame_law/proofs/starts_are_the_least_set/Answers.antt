use Rattle.channel_law.proofs.Member.{member_contains, contains_member}
use Rattle.fec_frame_law.proofs.Least.{first_start, edge_start, next_start, in_each}
use Rattle.fec_frame_law.proofs.Starts.{starts_are, start_in, starts_rise}
use Rattle.fec_frame_spec.specs.Starts.{starts_below}
use Rattle.fec_frame_law.proofs.starts_are_the_least_set.Goals as goal

pub returns : goal.returns
returns c = record {
  first = first_start;
  edge = edge_start;
  next = next_start;
  least = in_each;
  rising = starts_rise;
  are = λ rows bytes sections n place. (
    (λ there. starts_are rows bytes sections n place (member_contains (starts_below rows bytes sections n) place there)),
    (λ is. contains_member (starts_below rows bytes sections n) place (start_in rows bytes sections n place is.0 is.1)),
  );
}
