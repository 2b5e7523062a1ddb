use Rattle.std.proofs.Common.{ℕ, ap, subst, sym}
use Rattle.unit_stream.specs.Packers.{AreRising, PackerState}
use Rattle.unit_stream.proofs.Coming.{unit_comes, rest_comes}
use Rattle.unit_stream.proofs.packer.Packer.has_next.Goals as goal

pub returns-then-self-ends : goal.returns-then-self-ends
returns-then-self-ends g c = record {
  next = λ bytes within.
      unit_comes g.F.UnitForm.form c.args.self.now bytes c.args.ends.now g.met.F.UnitForm.lawful.start_least
      (subst (λ (n : ℕ). AreRising n 0 c.args.ends.now) (sym g.met.F.UnitForm.start_is) c.requires.rising) c.requires.on_way within
      c.self.inside.begun (ap (λ (s : PackerState). s.begun) c.self.view_is) c.if-self-ends.true;
}

pub returns-else-self-ends : goal.returns-else-self-ends
returns-else-self-ends g c = record {
  next = λ bytes within.
      rest_comes g.F.UnitForm.form c.args.self.now bytes c.args.ends.now g.met.F.UnitForm.lawful.start_least
      (subst (λ (n : ℕ). AreRising n 0 c.args.ends.now) (sym g.met.F.UnitForm.start_is) c.requires.rising) c.requires.on_way within
      c.self.inside.begun c.self.inside.at c.end_of_unit.result (ap (λ (s : PackerState). s.begun) c.self.view_is) (ap (λ (s : PackerState). s.at) c.self.view_is) c.end_of_unit.ensures c.if-self-ends.false;
}
