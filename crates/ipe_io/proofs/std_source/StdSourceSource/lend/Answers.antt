use Rattle.std.proofs.Common.{rules, refl, ap, drop}
use Rattle.std.specs.Io.Buffered.{reader_buffer, reader_capacity, reader_inner}
use Rattle.ipe_io.proofs.Lent.{lent_taken}
use Rattle.ipe_io.proofs.std_source.StdSourceSource.lend.Goals as goal

pub returns : goal.returns
returns g c =
    let before = c.self.inside.inner in
    let now = c.consume.new.self in
    let next = lent_taken g.R.Read.remaining c.args.self.now.left (reader_inner before) (reader_inner now) (reader_capacity before) (reader_capacity now)
    (drop c.self.inside.lent (reader_buffer before)) (reader_buffer now) c.buffer-2.result.now c.args.size
    (ap (λ s. s.left) c.self.view_is) c.consume.ensures.inner c.consume.ensures.capacity c.consume.ensures.buffer c.buffer-2.ensures in
    ((refl, (λ _. tt), record { read = next; taken = search rules; ended = search rules; faults = search rules }), record { size = search rules; after_borrow = tt })
