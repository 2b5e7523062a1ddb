use Rattle.std.proofs.Common.{◌≡◌, ℕ, ◌+◌, ◌*◌, ◌<◌, ◌≤◌, [], length, drop, sym, ap, subst, ◌∙◌, arith}
use Rattle.std.specs.Prelude.{slice_index}
use Rattle.std.proofs.lemmas.List.{take_at}
use Rattle.wire_spec.specs.Lists.{joined}
use Rattle.unit_stream.specs.Packers.{end_of}
use Rattle.fec_units.specs.Parts.{part_of}
use Rattle.fec_units.specs.Bursts.{HoldsUnits, units_by_packet}
use Rattle.burst_packets.specs.Bursts.{Bursts, delta_in}
use Rattle.burst_packets.proofs.Sent.{own, from_end, end_within, own_fits, made_so, way_goes_on, size_opens, sizes_open, packets_open, behind_opens, none_over, sizes_over}
use Rattle.burst_packets.proofs.bursts.BurstPackets.open.Goals as goal

less_so : (a b c d : ℕ) → a ≡ c → b ≡ d → c < d → a < b
less_so a b c d e e2 less = omega (arith, e, e2, less)

pub make-requires-clause-from : goal.make-requires-clause-from
make-requires-clause-from c =
    less_so c.place_after-from.result c.place_after-end.result _ _ c.place_after-from.ensures c.place_after-end.ensures
    (from_end c.self.inside.burst c.self.inside.unicast c.self.inside.timing c.self.inside.datagrams.now c.self.inside.ends.now c.self.inside.opened c.self.inside.packer
    c.self.invariant.0 c.if-opened-self.true)

pub make-requires-clause-end : goal.make-requires-clause-end
make-requires-clause-end c =
    subst (λ (n : ℕ). n ≤ length c.self.inside.datagrams.now) (sym c.place_after-end.ensures)
    (end_within c.self.inside.burst c.self.inside.unicast c.self.inside.timing c.self.inside.datagrams.now c.self.inside.ends.now c.self.inside.opened c.self.inside.packer
    c.self.invariant.0 c.if-opened-self.true)

pub make-requires-clause-fits : goal.make-requires-clause-fits
make-requires-clause-fits c =
    subst (λ (n : ℕ). length (joined (part_of c.place_after-from.result n c.self.inside.datagrams.now)) ≤ 191 * c.self.inside.burst.rows) (sym c.place_after-end.ensures)
    (subst (λ (n : ℕ). length (joined (part_of n (end_of c.self.inside.ends.now (c.self.inside.opened + 1)) c.self.inside.datagrams.now)) ≤ 191 * c.self.inside.burst.rows) (sym c.place_after-from.ensures)
    (own_fits c.self.inside.burst c.self.inside.unicast c.self.inside.timing c.self.inside.datagrams.now c.self.inside.ends.now c.self.inside.opened c.self.inside.packer
    c.self.invariant.0 c.if-opened-self.true))

-- the units that were made
made : (c : goal.After-self-then-opened-self-1) → HoldsUnits c.make.new.self
    (units_by_packet c.self.inside.burst.rows c.self.inside.burst.columns c.self.inside.unicast (delta_in c.self.inside.timing c.is_last-last.result c.self.inside.opened)
    (own c.self.inside.burst c.self.inside.unicast c.self.inside.timing c.self.inside.datagrams.now c.self.inside.ends.now c.self.inside.opened c.self.inside.packer
    c.self.invariant.0 c.if-opened-self.true))
made c =
    made_so c.self.inside.burst c.self.inside.unicast c.self.inside.timing c.self.inside.datagrams.now c.self.inside.ends.now c.self.inside.opened c.self.inside.packer
    c.self.invariant.0 c.if-opened-self.true
    c.make.new.self c.is_last-last.result c.place_after-from.result c.place_after-end.result c.put_deltas.new.deltas c.deref.result.now
    c.place_after-from.ensures c.place_after-end.ensures
    (c.deref.ensures.value
    ∙ take_at c.put_deltas.new.deltas (drop (length c.put_deltas.new.deltas) c.self.inside.deltas.items) c.self.inside.deltas.len
    (c.put_deltas.ensures.size ∙ c.deref_mut.ensures.len))
    (length c.deref_mut.result.now) (c.deref_mut.ensures.len ∙ c.self.invariant.1) c.put_deltas.ensures.written c.make.ensures.made

pub invariant_of-self : goal.invariant_of-self
invariant_of-self c = (
  way_goes_on c.self.inside.burst c.self.inside.unicast c.self.inside.timing c.self.inside.datagrams.now c.self.inside.ends.now c.self.inside.opened c.self.inside.packer
      c.self.invariant.0 c.if-opened-self.true
      c.make.new.self c.again.new.self c.is_last-last.result c.make.ensures.rows c.make.ensures.columns
      c.again.ensures.kept.0 c.again.ensures.kept.1 c.again.ensures.kept.2
      (ap (λ (b : Bursts). b.under_way) c.self.view_is ∙ c.requires.out) c.is_last-last.ensures (made c)
      (c.again.ensures.begins c.make.new.self.bytes c.make.new.self.ends) (c.again.ensures.on_way c.make.new.self.ends),
  c.self.invariant.1,
)

pub returns-then-opened-self-clause-size : goal.returns-then-opened-self-clause-size
returns-then-opened-self-clause-size c =
    size_opens c.self.inside.burst c.self.inside.unicast c.self.inside.timing c.self.inside.datagrams.now c.self.inside.ends.now c.self.inside.opened c.self.inside.packer
    c.self.invariant.0 c.if-opened-self.true
    c.make.new.self c.again.new.self c.is_last-last.result c.make.ensures.rows c.make.ensures.columns
    c.again.ensures.kept.0 c.again.ensures.kept.1 c.again.ensures.kept.2
    (ap (λ (b : Bursts). b.under_way) c.self.view_is ∙ c.requires.out) c.is_last-last.ensures (made c)
    (c.again.ensures.begins c.make.new.self.bytes c.make.new.self.ends) (c.again.ensures.on_way c.make.new.self.ends)
    ∙ ap (λ (b : Bursts). slice_index b.sizes 0) c.self.view_is

pub returns-then-opened-self-clause-sizes : goal.returns-then-opened-self-clause-sizes
returns-then-opened-self-clause-sizes c =
    sizes_open c.self.inside.burst c.self.inside.unicast c.self.inside.timing c.self.inside.datagrams.now c.self.inside.ends.now c.self.inside.opened c.self.inside.packer
    c.self.invariant.0 c.if-opened-self.true
    c.make.new.self c.again.new.self c.is_last-last.result c.make.ensures.rows c.make.ensures.columns
    c.again.ensures.kept.0 c.again.ensures.kept.1 c.again.ensures.kept.2
    (ap (λ (b : Bursts). b.under_way) c.self.view_is ∙ c.requires.out) c.is_last-last.ensures (made c)
    (c.again.ensures.begins c.make.new.self.bytes c.make.new.self.ends) (c.again.ensures.on_way c.make.new.self.ends)
    ∙ ap (λ (b : Bursts). drop 1 b.sizes) c.self.view_is

pub returns-then-opened-self-clause-packets : goal.returns-then-opened-self-clause-packets
returns-then-opened-self-clause-packets c =
    packets_open c.self.inside.burst c.self.inside.unicast c.self.inside.timing c.self.inside.datagrams.now c.self.inside.ends.now c.self.inside.opened c.self.inside.packer
    c.self.invariant.0 c.if-opened-self.true
    c.make.new.self c.again.new.self c.is_last-last.result c.make.ensures.rows c.make.ensures.columns
    c.again.ensures.kept.0 c.again.ensures.kept.1 c.again.ensures.kept.2
    (ap (λ (b : Bursts). b.under_way) c.self.view_is ∙ c.requires.out) c.is_last-last.ensures (made c)
    (c.again.ensures.begins c.make.new.self.bytes c.make.new.self.ends) (c.again.ensures.on_way c.make.new.self.ends)
    ∙ ap (λ (b : Bursts). b.packets) c.self.view_is

pub returns-then-opened-self-clause-behind : goal.returns-then-opened-self-clause-behind
returns-then-opened-self-clause-behind c =
    behind_opens c.self.inside.burst c.self.inside.unicast c.self.inside.timing c.self.inside.datagrams.now c.self.inside.ends.now c.self.inside.opened c.self.inside.packer
    c.self.invariant.0 c.if-opened-self.true
    c.make.new.self c.again.new.self c.is_last-last.result c.make.ensures.rows c.make.ensures.columns
    c.again.ensures.kept.0 c.again.ensures.kept.1 c.again.ensures.kept.2
    (ap (λ (b : Bursts). b.under_way) c.self.view_is ∙ c.requires.out) c.is_last-last.ensures (made c)
    (c.again.ensures.begins c.make.new.self.bytes c.make.new.self.ends) (c.again.ensures.on_way c.make.new.self.ends)
    ∙ ap (λ (b : Bursts). b.behind) c.self.view_is

pub returns-else-opened-self-clause-size : goal.returns-else-opened-self-clause-size
returns-else-opened-self-clause-size c =
    c.requires.out
    ∙ sym (sym (ap (λ (b : Bursts). slice_index b.sizes 0) c.self.view_is)
    ∙ sizes_over c.self.inside.burst c.self.inside.timing c.self.inside.datagrams.now c.self.inside.ends.now c.self.inside.opened c.self.inside.packer
    c.self.invariant.0 c.if-opened-self.false 0)

pub returns-else-opened-self-clause-sizes : goal.returns-else-opened-self-clause-sizes
returns-else-opened-self-clause-sizes c =
    let none : c.args.self.now.sizes ≡ []
    = sym (ap (λ (b : Bursts). b.sizes) c.self.view_is)
    ∙ none_over c.self.inside.burst c.self.inside.timing c.self.inside.datagrams.now c.self.inside.ends.now c.self.inside.opened c.self.inside.packer
    c.self.invariant.0 c.if-opened-self.false in
    none ∙ sym (ap (drop 1) none)
