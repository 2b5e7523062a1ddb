use Rattle.std.proofs.Common.{◌≡◌, ℕ, ◌+◌, ◌-◌, ◌≤◌, List, length, take, drop, ap, ◌∙◌, length-drop, arith}
use Rattle.std.proofs.lemmas.List.{length-take-le}
use Rattle.ts_mux.specs.Units.{unit_with}
use Rattle.ts_mux.proofs.Reading.{at_head, at_datagram, at_crc}
use Rattle.ts_mux.proofs.unit_bytes.piece_at.Goals as goal

-- so many bytes of a unit at a place, which are those of a piece
counted : (unit piece : List ℕ) (at from n : ℕ) → from + n ≤ length piece → take n (drop at unit) ≡ take n (drop from piece)
    → take (length (take n (drop from piece))) (drop at unit) ≡ take n (drop from piece)
counted unit piece at from n within same =
    ap (λ (m : ℕ). take m (drop at unit)) (length-take-le n (drop from piece) (omega (arith, length-drop from piece, within))) ∙ same

pub returns-then-at-head-clause-read : goal.returns-then-at-head-clause-read
returns-then-at-head-clause-read c =
    counted (unit_with c.args.head c.args.around.now c.args.datagram.now) c.args.around.now c.args.at c.args.at (c.args.head - c.args.at) (omega (arith, c.requires.head, c.if-at-head.true))
    (at_head c.args.around.now c.args.datagram.now c.args.head c.args.at c.requires.head c.if-at-head.true)

pub returns-then-at-end-clause-read : goal.returns-then-at-end-clause-read
returns-then-at-end-clause-read c =
    counted (unit_with c.args.head c.args.around.now c.args.datagram.now) c.args.datagram.now c.args.at (c.args.at - c.args.head) (length c.args.datagram.now - (c.args.at - c.args.head))
    (omega (arith, c.if-at-head.false, c.if-at-end.true))
    (at_datagram c.args.around.now c.args.datagram.now c.args.head c.args.at c.requires.head c.if-at-head.false c.if-at-end.true)

pub returns-else-at-end-clause-read : goal.returns-else-at-end-clause-read
returns-else-at-end-clause-read c =
    counted (unit_with c.args.head c.args.around.now c.args.datagram.now) c.args.around.now c.args.at (c.args.at - length c.args.datagram.now)
    (c.args.head + 4 - (c.args.at - length c.args.datagram.now)) (omega (arith, c.requires.head, c.requires.at, c.if-at-end.false))
    (at_crc c.args.around.now c.args.datagram.now c.args.head c.args.at c.requires.head c.if-at-end.false c.requires.at)
