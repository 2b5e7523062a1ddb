use Rattle.std.proofs.Common.{◌≡◌, ◌-◌, ◌++◌, take, drop, ap, sym, ◌∙◌, rules, take-append-drop}
use Rattle.std.proofs.KnownBytes.{append_known-moved}
use Rattle.ipe_io.proofs.Behind.{moved_down}
use Rattle.ipe_io.proofs.write_behind.WriteBehind.write_held.Goals as goal

pub returns-clause-kept : goal.returns-clause-kept
returns-clause-kept g c =
    let fill = c.self.inside.fill in
    let items = c.self.inside.buffer.items in
    let n = c.write_front-written.result in
    let held = take fill c.deref.result.now in
    let rest : take (fill - n) c.copy_within.new.self.items ≡ drop n held =
    ap (take (fill - n)) c.copy_within.ensures.items ∙ moved_down items n fill (search rules) (search rules) ∙ ap (λ xs. drop n (take fill xs)) (sym c.deref.ensures.value) in
    rw (← c.self.view_is) (append_known-moved _ _ (take n held) _ _ c.write_front-written.ensures.written
    (ap (take fill) (sym c.deref.ensures.value) ∙ sym (take-append-drop n held) ∙ ap (λ l. take n held ++ l) (sym rest)))
