use Rattle.std.proofs.Common.{◌≡◌, ◌+◌, ◌-◌, ◌++◌, length, take, ap, sym, ◌∙◌, rules}
use borrow.Rule.Slice.PartMut.{put_mid, same_len_mid}
use Rattle.std.proofs.lemmas.List.{with_items_is}
use Rattle.std.proofs.lemmas.Slice.{take-put_mid}
use Rattle.std.proofs.KnownBytes.{append_known-grown, Keeps-refl}
use Rattle.ipe_io.proofs.write_behind.WriteBehind.hold.Goals as goal

pub returns-clause-written : goal.returns-clause-written
returns-clause-written g c =
    let at = c.self.inside.fill in
    let all = c.deref_mut.result.now in
    let new = c.copy_from_slice.new.self in
    let n = length c.args.piece.now in
    let k = at + n - at in
    let long : length (put_mid at k all new) ≡ c.self.inside.buffer.len = same_len_mid at k all new c.copy_from_slice.ensures.len ∙ search rules in
    rw (← c.self.view_is) (append_known-grown _ _ _ _ _ (Keeps-refl _)
    (ap (take (at + n)) (with_items_is c.self.inside.buffer (put_mid at k all new) long)
    ∙ take-put_mid at k all new (at + n) (ap (λ l. at + length l) (sym c.copy_from_slice.ensures.after)) (search rules)
    ∙ (λ i. take at (c.deref_mut.ensures.value i) ++ c.copy_from_slice.ensures.after i)))
