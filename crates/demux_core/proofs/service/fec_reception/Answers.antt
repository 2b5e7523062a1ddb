use Rattle.std.proofs.Common.{ℕ, [], ap, sym, ◌∙◌, subst}
use Rattle.slice_spec.specs.Sections.{Timing}
use Rattle.time_slice.specs.Views.{timing_of}
use Rattle.plan.specs.Parts.{form_of}
use Rattle.fec_frame_spec.specs.Groups.{timing_in}
use Rattle.fec_reception.specs.Reception as framed
use Rattle.demux_core.proofs.KindWords.{fresh_kind}
use Rattle.demux_core.proofs.service.fec_reception.Goals as goal

pub returns : goal.returns
returns c = record {
  received = λ it pid parity window is sliced.
      let timing = ap (timing_of c.args.sliced) (c.from-ten.ensures ∙ c.ten_milliseconds.ensures.read) ∙ ap (timing_in (form_of c.args.recording)) (sym sliced) in
      fresh_kind (form_of c.args.recording) it pid c.args.rows parity window _ is
      (subst (λ (timing : Timing). framed.HasTaken timing c.args.rows pid c.over.result []) timing
      (subst (λ (rows : ℕ). framed.HasTaken (timing_of c.args.sliced c.from-ten.result) rows pid c.over.result []) c.over-table.ensures.rows (c.over.ensures.received pid)));
}
