use Rattle.std.proofs.Common.{Bool, ◌&&◌, length, ap, sym, ◌∙◌}
use Rattle.std.specs.Prelude.{nat_le}
use Rattle.gse_pack.proofs.Matches.{urgent_by}
use Rattle.gse_pack.proofs.urgent.is_urgent.Goals as goal

pub returns-then-has_match : goal.returns-then-has_match
returns-then-has_match c = record {
  read = sym (urgent_by c.args.urgent.now c.args.datagram.now c.destination.result c.has_match.result c.destination.ensures.read c.has_match.ensures.read
      ∙ ap (λ (b : Bool). b && nat_le (length c.args.datagram.now) 1500) c.if-has_match.true);
}

pub returns-else-has_match : goal.returns-else-has_match
returns-else-has_match c = record {
  read = c.if-has_match.false
      ∙ sym (urgent_by c.args.urgent.now c.args.datagram.now c.destination.result c.has_match.result c.destination.ensures.read c.has_match.ensures.read
      ∙ ap (λ (b : Bool). b && nat_le (length c.args.datagram.now) 1500) c.if-has_match.false);
}
