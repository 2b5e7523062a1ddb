use Rattle.std.proofs.Common.{ℕ, List, None, sym, ap, ◌∙◌}
use Rattle.ip_datagram.specs.declared.address.IpAddress.{IpAddress}
use Rattle.addr_rules.specs.Macs.{mac_of_address}
use Rattle.section_spec.specs.Mpe.{mpe_bytes, mpe_to_write}
use Rattle.plan.specs.Parts.{kind_seen}
use Rattle.plan.specs.declared.service.Kind.{Kind}
use Rattle.stream_spec.specs.Units.{unit_of}
use Rattle.ts_mux.proofs.units.write_around.Goals as goal

pub returns-in-Mpe-clause-written : goal.returns-in-Mpe-clause-written
returns-in-Mpe-clause-written c =
    ap (λ (k : Kind). unit_of (kind_seen k) c.args.service.now.unicast c.args.datagram.now) c.in-Mpe.is
    ∙ sym
    (ap (λ (mac : List ℕ). mpe_bytes (mpe_to_write mac None c.args.datagram.now)) (c.mac_of-mac.ensures.written ∙ ap (λ (a : IpAddress). mac_of_address a c.args.service.now.unicast) c.destination.ensures.read))
    ∙ c.write_mpe_around.ensures.written
