use Rattle.std.proofs.Common.{◌≡◌, ℕ, List, ◌%◌, length, ap, arith}
use Rattle.burst_packets.proofs.FramesLeft.{begins_left}
use Rattle.burst_packets.proofs.frame_bytes.FrameBytes.new.Goals as goal

pub returns-clause-reading : goal.returns-clause-reading
returns-clause-reading c =
    let number : c.args.first % c.from.result ≡ c.args.first % 4096 = ap (λ (n : ℕ). c.args.first % n) c.from.ensures in
    record {
      rows_are = c.requires.rows;
      columns_least = c.requires.columns.0;
      columns_most = c.requires.columns.1;
      same_rows = c.in_ok-frame.ensures.rows;
      same_columns = c.in_ok-frame.ensures.columns;
      sendable = c.requires.datagrams;
      within = omega arith;
      out_most = omega (arith, ap (λ (l : List ℕ). length l) c.bytes-out.ensures.read);
      number_below = omega (arith, number);
      deltas_size = c.in_ok-deltas.ensures.len;
    }

pub returns-clause-left : goal.returns-clause-left
returns-clause-left c =
    begins_left c.args.shape c.in_ok-frame.frame.bytes (length c.bytes-out.result.now) (c.args.first % c.from.result) c.args.first c.args.datagrams.now
    (ap (λ (l : List ℕ). length l) c.bytes-out.ensures.read) (ap (λ (n : ℕ). c.args.first % n) c.from.ensures)
