use Rattle.std.proofs.Common.{◌≡◌, ℕ, ◌≤◌, [], sym, ap, subst, ◌∙◌}
use Rattle.section_spec.specs.Mpe.{IsRows}
use Rattle.burst_packets.specs.Bursts.{Bursts}
use Rattle.burst_packets.proofs.Sent.{way_begins, begins}
use Rattle.burst_packets.proofs.bursts.BurstPackets.restart.Goals as goal

pub invariant_of-self : goal.invariant_of-self
invariant_of-self c =
    let rows_is : c.self.inside.burst.rows ≡ c.args.shape.rows = ap (λ (b : Bursts). b.rows) c.self.view_is ∙ sym c.requires.kept.0 in
    let columns_is : c.self.inside.burst.columns ≡ c.args.shape.columns = ap (λ (b : Bursts). b.columns) c.self.view_is ∙ sym c.requires.kept.1 in (
      way_begins c.self.inside.burst c.args.shape c.args.timing c.args.datagrams.now c.args.ends.now c.args.pid c.args.counter c.with_counter-self-inside.result
          rows_is columns_is (subst IsRows rows_is c.self.invariant.0.rows_are)
          (subst (λ (n : ℕ). 1 ≤ n) columns_is c.self.invariant.0.columns_least) (subst (λ (n : ℕ). n ≤ 64) columns_is c.self.invariant.0.columns_most)
          c.requires.sliceable c.requires.datagrams c.requires.ends
          c.requires.few c.requires.counter (c.with_counter-self-inside.ensures.begins c.self.inside.burst.bytes []) (c.with_counter-self-inside.ensures.on_way [])
          c.with_counter-self-inside.ensures.kept,
      c.self.invariant.1,
    )

pub returns : goal.returns
returns c =
    let rows_is : c.self.inside.burst.rows ≡ c.args.shape.rows = ap (λ (b : Bursts). b.rows) c.self.view_is ∙ sym c.requires.kept.0 in
    let columns_is : c.self.inside.burst.columns ≡ c.args.shape.columns = ap (λ (b : Bursts). b.columns) c.self.view_is ∙ sym c.requires.kept.1 in
    record {
      begun = begins c.self.inside.burst c.args.shape c.args.timing c.args.datagrams.now c.args.ends.now c.args.pid c.args.counter c.with_counter-self-inside.result
          rows_is columns_is (subst IsRows rows_is c.self.invariant.0.rows_are)
          (subst (λ (n : ℕ). 1 ≤ n) columns_is c.self.invariant.0.columns_least) (subst (λ (n : ℕ). n ≤ 64) columns_is c.self.invariant.0.columns_most)
          c.requires.sliceable c.requires.datagrams c.requires.ends
          c.requires.few c.requires.counter (c.with_counter-self-inside.ensures.begins c.self.inside.burst.bytes []) (c.with_counter-self-inside.ensures.on_way [])
          c.with_counter-self-inside.ensures.kept;
    }
