use Rattle.std.proofs.Common.{ℕ, ◌+◌, ◌%◌, replicate, refl, ap, ◌∙◌}
use Rattle.fec_units.specs.Bursts.{HoldsUnits, units_by_packet}
use Rattle.fec_units.specs.Parts.{part_of}
use Rattle.burst_packets.proofs.FramesLeft.{made_left, made_some, made_so}
use Rattle.burst_packets.proofs.frame_bytes.FrameBytes.make.Goals as goal

pub returns-clause-some : goal.returns-clause-some
returns-clause-some c =
    let made : HoldsUnits c.make.new.self
    (units_by_packet c.args.self.now.shape.rows c.args.self.now.shape.columns c.args.self.now.shape.unicast (λ (n : ℕ). c.args.self.now.number)
    (part_of c.args.self.now.from c.frame_end-end.result c.args.datagrams.now))
    = made_so c.args.self.now.shape c.args.self.now.from c.frame_end-end.result c.args.self.now.number c.args.datagrams.now c.make.new.self
    c.requires.reading.rows_are c.requires.reading.columns_most c.requires.reading.sendable c.frame_end-end.ensures.some c.frame_end-end.ensures.within
    c.requires.reading.number_below c.frame_end-end.ensures.fits c.frame_end-end.ensures.frame
    c.args.self.now.frame.rows c.args.self.now.frame.columns c.deref.result.now c.requires.reading.same_rows c.requires.reading.same_columns
    (c.deref.ensures.value ∙ c.fill.ensures.items (λ y same. same) ∙ ap (λ (k : ℕ). replicate k c.args.self.now.number) c.requires.reading.deltas_size)
    c.make.ensures.made in
    made_some c.args.self.now.shape c.args.self.now.from c.frame_end-end.result c.args.self.now.number c.args.datagrams.now c.make.new.self
    c.requires.reading.rows_are c.requires.reading.columns_most c.requires.reading.sendable c.frame_end-end.ensures.some c.frame_end-end.ensures.within
    c.requires.reading.number_below c.frame_end-end.ensures.fits c.frame_end-end.ensures.frame made

pub returns-clause-left : goal.returns-clause-left
returns-clause-left c =
    let made : HoldsUnits c.make.new.self
    (units_by_packet c.args.self.now.shape.rows c.args.self.now.shape.columns c.args.self.now.shape.unicast (λ (n : ℕ). c.args.self.now.number)
    (part_of c.args.self.now.from c.frame_end-end.result c.args.datagrams.now))
    = made_so c.args.self.now.shape c.args.self.now.from c.frame_end-end.result c.args.self.now.number c.args.datagrams.now c.make.new.self
    c.requires.reading.rows_are c.requires.reading.columns_most c.requires.reading.sendable c.frame_end-end.ensures.some c.frame_end-end.ensures.within
    c.requires.reading.number_below c.frame_end-end.ensures.fits c.frame_end-end.ensures.frame
    c.args.self.now.frame.rows c.args.self.now.frame.columns c.deref.result.now c.requires.reading.same_rows c.requires.reading.same_columns
    (c.deref.ensures.value ∙ c.fill.ensures.items (λ y same. same) ∙ ap (λ (k : ℕ). replicate k c.args.self.now.number) c.requires.reading.deltas_size)
    c.make.ensures.made in
    made_left c.args.self.now.shape c.args.self.now.from c.frame_end-end.result c.args.self.now.number c.args.datagrams.now c.make.new.self
    c.requires.reading.rows_are c.requires.reading.columns_most c.requires.reading.sendable c.frame_end-end.ensures.some c.frame_end-end.ensures.within
    c.requires.reading.number_below c.frame_end-end.ensures.fits c.frame_end-end.ensures.frame made
    c.args.self.now.frame.bytes c.args.self.now.out ((c.args.self.now.number + 1) % 4096) c.requires.out refl
