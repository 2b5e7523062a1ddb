use Rattle.std.proofs.Common.{◌∙◌, ℕ, List, length, ltb, ap, arith}
use Rattle.plan.specs.Parts.{kind_seen}
use Rattle.ts_mux.specs.Coming.{Coming}
use Rattle.ts_mux.specs.Units.{unit_bytes}
use Rattle.ts_mux.proofs.Reading.{last_end}
use Rattle.ts_mux.proofs.service_packets.DatagramPackets.has_next.Goals as goal

pub returns : goal.returns
returns g c =
    let bytes : List ℕ = unit_bytes (kind_seen c.self.inside.service.now.kind) c.self.inside.service.now.unicast c.self.inside.datagrams.now in
    record {
      read =
          c.has_next.ensures.next bytes
          (omega (arith, last_end (kind_seen c.self.inside.service.now.kind) c.self.inside.service.now.unicast c.self.inside.datagrams.now c.self.inside.ends.now c.self.invariant.ends_are))
          ∙ ap (λ (it : Coming). ltb 0 (length it.packets)) c.self.view_is;
    }
