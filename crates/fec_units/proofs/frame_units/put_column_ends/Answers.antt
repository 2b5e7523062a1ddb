use Rattle.std.proofs.Common.{◌≡◌, ℕ, ◌+◌, ap, ◌∙◌, arith}
use Rattle.fec_units.specs.Packets.{column_sizes}
use Rattle.fec_units.proofs.Ends.{after_more, column_more, put_more}
use Rattle.fec_units.proofs.Parts.{rows_within}
use Rattle.fec_units.proofs.frame_units.put_column_ends.Goals as goal

pub loop-number-preserved : goal.loop-number-preserved
loop-number-preserved c =
    let inv = c.loop-number.invariant in
    let rows : ℕ = c.args.rows in
    let n : ℕ = c.loop-number.number in
    let at : ℕ = c.loop-number.at in
    let end : ℕ = at + c.fec_size-size.result in
    let size : c.fec_size-size.result ≡ rows + 16 = c.fec_size-size.ensures.sum ∙ ap (λ (k : ℕ). k + 16) c.from.ensures in
    let end_is : end ≡ at + (rows + 16) = ap (λ (k : ℕ). at + k) size in
    record {
      put = put_more c.args.ends.now.items c.loop-number.ends.items c.push_reserved.new.self.items c.args.start at end (column_sizes rows n) (column_sizes rows (n + 1)) (rows + 16)
          (column_more rows n) inv.after end_is inv.put c.push_reserved.ensures.items;
      after = after_more c.args.ends.now.items c.loop-number.ends.items c.push_reserved.new.self.items c.args.start at end (column_sizes rows n) (column_sizes rows (n + 1)) (rows + 16)
          (column_more rows n) inv.after end_is;
      most = omega (arith, size, inv.most, (rows_within rows c.requires.rows).1);
      size = omega (arith, inv.size, c.push_reserved.ensures.len);
      room = c.push_reserved.ensures.capacity ∙ inv.room;
    }
