use Rattle.std.proofs.Common.{◌≡◌, ℕ, ◌≤◌, List, length, drop, min, ◌-◌, ◌++◌, ap, sym, ◌∙◌, arith, refl, length-append, length-drop}
use Rattle.std.proofs.lemmas.List.{length-take}
use Rattle.ipe_io.proofs.Buffers.{read_from_memory, read_at_end}
use Rattle.ipe_io.proofs.mem_source.MemSourceSource.read.Goals as goal

pub returns-clause-read : goal.returns-clause-read
returns-clause-read c =
    let all : List ℕ = c.self.inside.bytes.items in
    let n : ℕ = c.min-count.result in
    let min_is : n ≡ min c.self.inside.chunk (min (length c.args.into.now) (length all - c.self.inside.at)) = c.min-count.ensures ∙ ap (min c.self.inside.chunk) (c.min.ensures ∙ ap (λ k. min (length c.args.into.now) (k - c.self.inside.at)) (c.len.ensures ∙ sym c.deref.ensures.len ∙ ap length c.deref.ensures.value)) in
    let roomy : length (c.copy_from_slice.new.self ++ drop n c.args.into.now) ≤ length c.args.into.now = omega (arith, length-append c.copy_from_slice.new.self (drop n c.args.into.now), length-drop n c.args.into.now, c.copy_from_slice.ensures.len, length-take n c.args.into.now) in (
      read_from_memory c.args.self.now.left all c.deref.result.now c.copy_from_slice.new.self (drop n c.args.into.now) c.self.inside.at n (ap (λ s. s.left) c.self.view_is) c.deref.ensures.value c.copy_from_slice.ensures.after (omega (arith, min_is, c.self.invariant.0)),
      λ z. λ p. read_at_end all c.self.inside.at n c.self.inside.chunk (length c.args.into.now) (length all) z min_is refl c.self.invariant.1 (omega (arith, roomy, p)),
    )
