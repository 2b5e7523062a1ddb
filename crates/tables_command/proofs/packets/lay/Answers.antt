use Rattle.std.proofs.Common.{ap, ◌++◌, ◌∙◌, map, refl, length, ◌∷◌, []}
use Rattle.wire_spec.specs.Lists.{joined}
use Rattle.unit_stream.specs.Packers.{written}
use Rattle.tables_command.proofs.Laid.{laid_as_one}
use Rattle.tables_command.proofs.packets.lay.Goals as goal

pub loop-ends-init : goal.loop-ends-init
loop-ends-init c = (
  ap (λ packets. c.args.packets.now.items ++ joined (map written packets)) (c.new-packer.ensures.begins c.args.section.now (length c.args.section.now ∷ []))
      ∙ ap (λ packets. c.args.packets.now.items ++ joined packets) (laid_as_one c.args.pid c.args.section.now),
  c.new-packer.ensures.on_way (length c.args.section.now ∷ []),
  refl,
)
