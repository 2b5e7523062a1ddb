use Rattle.std.proofs.Common.{refl, ap, ap₂, ◌∙◌, arith}
use Rattle.unit_stream.specs.Packers.{PackerState, between}
use Rattle.unit_stream.proofs.Between.{length-between}
use Rattle.unit_stream.proofs.Buffers.{put_is}
use Rattle.unit_stream.proofs.packer.Packer.next.Goals as goal

pub returns : goal.returns
returns g c =
    let old = c.args.self.now in
    let new = c.next_around.new.self in
    let written = c.in-Some.ensures.writes c.args.bytes.now c.requires.ends.within in
    let room = c.in-Some.ensures.room in
    let copied = c.copy_from_slice.ensures.after
    ∙ ap₂ (between c.args.bytes.now) (ap (λ (s : PackerState). s.at) c.self.view_is) (ap (λ (s : PackerState). s.at) c.self-2.view_is) in
    let size = length-between c.args.bytes.now old.at new.at (omega (arith, c.next_around.ensures.within, c.requires.ends.within)) in
    record {
      writes = (
        written.0,
        written.1,
        put_is c.next_around.new.into c.copy_from_slice.new.self (between c.args.bytes.now old.at new.at) c.in-Some.room.from _ copied (size ∙ omega (arith, room.1)) ∙ written.2,
      );
      on_way = c.next_around.ensures.on_way;
      kept = c.next_around.ensures.kept;
      counter = λ _. c.in-Some.ensures.counter;
      unchanged = λ never. absurd (let h = never in cc);
    }

pub returns-in_default : goal.returns-in_default
returns-in_default g c = record {
  writes = c.in_default.ensures.writes c.args.bytes.now c.requires.ends.within;
  on_way = c.next_around.ensures.on_way;
  kept = c.next_around.ensures.kept;
  counter = λ never. absurd (let h = never in cc);
  unchanged = λ _. c.in_default.ensures.unchanged refl;
}
