-- What is written of what was offered, flushed or not.
use Rattle.std.proofs.Common.{◌≡◌, ℕ, List, length, Option, Ok, Err, sym, subst, arith}
use Rattle.std.specs.Io.KnownBytes.{Appends, Keeps}
use Rattle.std.proofs.KnownBytes.{Appends-kept}
use Rattle.std.proofs.lemmas.List.{take_all}
use Rattle.wire_spec.specs.Lists.{joined}
use Rattle.plan_spec.specs.Plan.{PlanFields}
use Rattle.plan_spec.specs.Offered.{Records, offered_in}
use Rattle.datagram_routing.specs.Offering.{IsOffered}
use Rattle.datagram_routing.specs.declared.offered.Offered.{Offered}
use Rattle.mux_core.specs.Sending.{WritesStream}
use Rattle.datagram_routing.specs.Offering.{datagram_count}
use Rattle.datagram_routing.specs.declared.sent.Sent.{Sent}
use Rattle.datagram_routing.specs.declared.faults.MuxFault.{MuxFault}
use Rattle.send_command.specs.Writing.{WritesAll, WritesFront}
use Rattle.send_command.specs.declared.ends.Tally.{Tally}
use Rattle.send_command.proofs.Counts.{tally_is}

pub writes_all : (plan : PlanFields) (gives : Records) (offer : Offered) (sent : Sent) (tally : Tally) (a b c : Option (List ℕ)) → IsOffered plan gives offer
    → WritesStream plan (offered_in plan gives) (Ok sent) a b → Keeps b c
    → tally.offered ≡ datagram_count offer.lists → tally.not_ip ≡ offer.not_ip → tally.unrouted ≡ offer.unrouted → tally.too_long ≡ offer.too_long → WritesAll plan gives tally a c
writes_all plan gives offer sent tally a b c stands wrote kept offered_is not_ip unrouted too_long = record {
  stream = wrote.pieces;
  stream_is = wrote.stream;
  written = Appends-kept a b c (joined wrote.pieces) wrote.written kept;
  numbers = tally_is plan gives offer tally stands offered_is not_ip unrouted too_long;
}

pub writes_unflushed : (plan : PlanFields) (gives : Records) (sent : Sent) (a b c : Option (List ℕ)) → WritesStream plan (offered_in plan gives) (Ok sent) a b → Keeps b c
    → WritesFront plan gives a c
writes_unflushed plan gives sent a b c wrote kept =
    let n : ℕ = length (joined wrote.pieces) in
    record {
      stream = wrote.pieces;
      stream_is = wrote.stream;
      count = n;
      written = subst (λ (t : List ℕ). Appends a c t) (sym (take_all n (joined wrote.pieces) (omega arith))) (Appends-kept a b c (joined wrote.pieces) wrote.written kept);
    }

pub writes_front : (plan : PlanFields) (gives : Records) (fault : MuxFault) (a b : Option (List ℕ)) → WritesStream plan (offered_in plan gives) (Err fault) a b
    → WritesFront plan gives a b
writes_front plan gives fault a b wrote = record { stream = wrote.pieces; stream_is = wrote.stream; count = wrote.written.0; written = wrote.written.1 }
