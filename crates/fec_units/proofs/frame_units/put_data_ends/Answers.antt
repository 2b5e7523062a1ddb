use Rattle.std.proofs.Common.{◌≡◌, ℕ, ◌+◌, ◌≤◌, List, [], length, get_or, ap, ◌∙◌, arith}
use Rattle.fec_sent_law.specs.Frames.{IsSendable}
use Rattle.fec_units.specs.Packets.{data_sizes}
use Rattle.fec_units.specs.Parts.{part_of}
use Rattle.fec_units.proofs.Ends.{after_more, data_more, put_more}
use Rattle.fec_units.proofs.Parts.{got, part_more, sendable_at}
use Rattle.fec_units.proofs.frame_units.put_data_ends.Goals as goal

pub loop-place-preserved : goal.loop-place-preserved
loop-place-preserved c =
    let inv = c.loop-place.invariant in
    let list : List (List ℕ) = c.args.list.now in
    let from : ℕ = c.args.from in
    let place : ℕ = c.loop-place.place in
    let at : ℕ = c.loop-place.at in
    let end : ℕ = at + c.mpe_size-at.result in
    let is = got list place c.at.result.now c.at.ensures.read in
    let it : IsSendable c.at.result.now = sendable_at list place c.at.result.now c.at.ensures.read c.requires.datagrams in
    let order : from ≤ place = omega (arith, c.loop-place.auto.place) in
    let d : List ℕ = get_or list place [] in
    let more : data_sizes (part_of from (place + 1) list) ≡ _ = data_more from place list d (part_more from place list order is.0) in
    let end_is : end ≡ at + (length d + 16) = omega (arith, c.mpe_size-at.ensures.sum, ap (λ (l : List ℕ). length l) is.1) in
    record {
      put = put_more c.args.ends.now.items c.loop-place.ends.items c.push_reserved.new.self.items c.args.start at end (data_sizes (part_of from place list)) (data_sizes (part_of from (place + 1) list))
          (length d + 16) more inv.after end_is inv.put c.push_reserved.ensures.items;
      after = after_more c.args.ends.now.items c.loop-place.ends.items c.push_reserved.new.self.items c.args.start at end (data_sizes (part_of from place list)) (data_sizes (part_of from (place + 1) list))
          (length d + 16) more inv.after end_is;
      most = omega (arith, c.mpe_size-at.ensures.sum, it.size, inv.most, order);
      size = omega (arith, inv.size, c.push_reserved.ensures.len, order);
      room = c.push_reserved.ensures.capacity ∙ inv.room;
    }
