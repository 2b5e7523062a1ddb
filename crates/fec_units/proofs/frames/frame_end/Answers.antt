use Rattle.std.proofs.Common.{ℕ, ◌+◌, ◌*◌, ◌≤◌, List, length, ap, arith, le-leb}
use Rattle.std.proofs.lemmas.Bool.{lt-leb}
use Rattle.fec_frame_spec.specs.Sender.{fits_table}
use Rattle.wire_spec.specs.Lists.{joined}
use Rattle.fec_units.specs.Parts.{part_of}
use Rattle.fec_sent_law.specs.Frames.{IsSendable}
use Rattle.fec_units.proofs.Going.{going_first, going_on, going_over}
use Rattle.fec_units.proofs.Parts.{got, part_bytes_more, part_none, rows_within, sendable_at}
use Rattle.fec_units.proofs.frames.frame_end.Goals as goal

pub loop-end-init : goal.loop-end-init
loop-end-init c =
    let list : List (List ℕ) = c.args.list.now in
    let from : ℕ = c.args.from in
    let is = got list from c.at-used.result.now c.at-used.ensures.read in
    let it : IsSendable c.at-used.result.now = sendable_at list from c.at-used.result.now c.at-used.ensures.read c.requires.datagrams in
    record {
      used = omega (
        arith,
        part_bytes_more from from list (omega arith) is.0,
        ap (λ (l : List (List ℕ)). length (joined l)) (part_none from list),
        ap (λ (l : List ℕ). length l) is.1,
      );
      fits = omega (arith, it.size, (rows_within c.args.rows c.requires.rows).0);
      going = going_first (fits_table c.args.rows) list from is.0;
    }

pub returns-then-used-room-clause-frame : goal.returns-then-used-room-clause-frame
returns-then-used-room-clause-frame c =
    let list : List (List ℕ) = c.args.list.now in
    let from : ℕ = c.args.from in
    let end : ℕ = c.loop-end.end in
    let is = got list end c.at.result.now c.at.ensures.read in
    let order : from ≤ end = omega (arith, c.loop-end.auto.end) in
    going_over (fits_table c.args.rows) list from end order is.0 c.loop-end.invariant.going
    (lt-leb (length (joined (part_of from (end + 1) list))) (191 * c.args.rows) (omega (
      arith,
      c.if-used-room.true,
      c.from-room.ensures,
      c.loop-end.invariant.used,
      part_bytes_more from end list order is.0,
      ap (λ (l : List ℕ). length l) is.1,
    )))

pub loop-end-preserved : goal.loop-end-preserved
loop-end-preserved c =
    let list : List (List ℕ) = c.args.list.now in
    let from : ℕ = c.args.from in
    let end : ℕ = c.loop-end.end in
    let is = got list end c.at.result.now c.at.ensures.read in
    let order : from ≤ end = omega (arith, c.loop-end.auto.end) in
    let more = part_bytes_more from end list order is.0 in
    let size = ap (λ (l : List ℕ). length l) is.1 in
    let fits : length (joined (part_of from (end + 1) list)) ≤ 191 * c.args.rows =
    omega (arith, c.if-used-room.false, c.from-room.ensures, c.loop-end.invariant.used, more, size) in
    record {
      used = omega (arith, c.loop-end.invariant.used, more, size);
      fits = omega (arith, c.if-used-room.false, c.from-room.ensures);
      going = going_on (fits_table c.args.rows) list from end order is.0 c.loop-end.invariant.going
          (le-leb (length (joined (part_of from (end + 1) list))) (191 * c.args.rows) fits);
    }
