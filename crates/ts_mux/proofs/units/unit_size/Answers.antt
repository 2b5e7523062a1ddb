use Rattle.std.proofs.Common.{◌≡◌, ℕ, cond, List, length, None, Some, Option, refl, sym, ap, ◌∙◌}
use Rattle.plan.specs.Parts.{kind_seen}
use Rattle.plan.specs.declared.service.Kind.{Kind}
use Rattle.wire_spec.specs.Datagram.{ether_type_of}
use Rattle.stream_spec.specs.Units.{mac_for, unit_of}
use Rattle.ts_mux.proofs.Reading.{npa_is}
use Rattle.ts_mux.proofs.units.unit_size.Goals as goal

pub returns-in-Ule-clause-size : goal.returns-in-Ule-clause-size
returns-in-Ule-clause-size c =
    let unicast : List ℕ = c.args.service.now.unicast in
    let datagram : List ℕ = c.args.datagram.now in
    let npa : Option (List ℕ) = cond c.in-Ule.address (Some (mac_for unicast datagram)) None in
    let six : length unicast ≡ 6 = ap (λ (bytes : List ℕ). length bytes) (sym c.array_bytes.ensures.same) ∙ c.array_bytes.ensures.size in
    let is = npa_is c.in-Ule.address unicast datagram six in
    c.size.ensures.size npa (ether_type_of datagram) datagram is.0 is.1 refl ∙ sym (ap (λ (k : Kind). length (unit_of (kind_seen k) unicast datagram)) c.in-Ule.is)

pub returns-in-Mpe-clause-size : goal.returns-in-Mpe-clause-size
returns-in-Mpe-clause-size c =
    let unicast : List ℕ = c.args.service.now.unicast in
    let datagram : List ℕ = c.args.datagram.now in
    c.mpe_size.ensures.size (mac_for unicast datagram) None datagram refl ∙ sym (ap (λ (k : Kind). length (unit_of (kind_seen k) unicast datagram)) c.in-Mpe.is)
