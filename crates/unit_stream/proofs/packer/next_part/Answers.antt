use Rattle.std.proofs.Common.{◌≡◌, ◌⊎◌, inl, inr, ℕ, ◌+◌, ◌-◌, ◌≤◌, false, ◌&&◌, ◌||◌, leb, eqb, length, min, ap, sym, ◌∙◌, subst, arith, Some}
use Rattle.unit_stream.specs.Packers.{AreRising, end_of}
use Rattle.unit_stream.specs.Parts.{NextPart, Fills}
use Rattle.unit_stream.proofs.Parts.{next_middle, next_begin}
use Rattle.unit_stream.proofs.packer.next_part.Goals as goal
use Rattle.unit_stream.proofs.packer.next_part.Goals.{else-begun-ends-via-then-begun-ends+else-has_room, else-begun-ends-via-else-begun-ends}

pub returns-then-has_room-clause-next : goal.returns-then-has_room-clause-next
returns-then-has_room-clause-next g c = λ bytes within.
    let rising : AreRising g.F.UnitForm.form.start 0 c.args.ends.now = subst (λ (n : ℕ). AreRising n 0 c.args.ends.now) (sym g.met.F.UnitForm.start_is) c.requires.rising in
    next_begin g.F.UnitForm.form.start c.args.packing g.met.F.UnitForm.lawful.start_least g.met.F.UnitForm.lawful.start_most c.args.ends.now rising
    c.args.begun c.args.at c.requires.begun c.requires.at c.if-begun-ends.true
    (ap (λ (end : ℕ). eqb (end - c.args.at) 0 || (c.args.packing && leb (end - c.args.at + g.F.UnitForm.form.start) 183)) (sym c.end_of_unit.ensures)
    ∙ sym c.has_room.ensures ∙ c.if-has_room.true)
    c.fill.result c.fill.ensures.starts
    (subst (λ (end : ℕ). Fills g.F.UnitForm.form.start c.args.packing (183 - (end - c.args.at)) c.args.ends.now c.args.begun c.fill.result) c.end_of_unit.ensures c.fill.ensures.fills)
    bytes within

pub returns-clause-next : goal.returns-clause-next
returns-clause-next g c = λ bytes within.
    let rising : AreRising g.F.UnitForm.form.start 0 c.args.ends.now = subst (λ (n : ℕ). AreRising n 0 c.args.ends.now) (sym g.met.F.UnitForm.start_is) c.requires.rising in
    let none : (length c.args.ends.now ≤ c.args.begun)
    ⊎ ((eqb (end_of c.args.ends.now c.args.begun - c.args.at) 0 || (c.args.packing && leb (end_of c.args.ends.now c.args.begun - c.args.at + g.F.UnitForm.form.start) 183)) ≡ false) =
    elim c.else-begun-ends.branch [
      | else-begun-ends-via-then-begun-ends+else-has_room w ↦
          inr (ap (λ (end : ℕ). eqb (end - c.args.at) 0 || (c.args.packing && leb (end - c.args.at + g.F.UnitForm.form.start) 183)) (sym c.end_of_unit.ensures)
          ∙ sym w.has_room.ensures ∙ w.if-has_room.false)
      | else-begun-ends-via-else-begun-ends w ↦ inl w.if-begun-ends.false
    ] in
    let some : 1 ≤ end_of c.args.ends.now c.args.begun - c.args.at = omega (arith, c.if-left-eq0.false, c.end_of_unit.ensures) in
    let taken : c.min.result ≡ min (end_of c.args.ends.now c.args.begun - c.args.at) 184 =
    c.min.ensures ∙ ap (λ (end : ℕ). min (end - c.args.at) 184) c.end_of_unit.ensures in
    subst (λ (n : ℕ). NextPart g.F.UnitForm.form.start c.args.packing bytes c.args.ends.now c.args.begun c.args.at (Some (record { starts = false; begun = c.args.begun; at = c.args.at + n }))) (sym taken)
    (next_middle g.F.UnitForm.form.start c.args.packing g.met.F.UnitForm.lawful.start_least g.met.F.UnitForm.lawful.start_most c.args.ends.now rising
    c.args.begun c.args.at c.requires.begun c.requires.at none some bytes within)
