use Rattle.fec_frame_spec.specs.Sections.{data_section}
use Rattle.fec_frame_spec.specs.Groups.{is_cut_by_table}
use Rattle.mpe_section.specs.Views.{mpe_in}
use Rattle.fec_reception.proofs.Answered.{placed_or_cut, is_within}
use Rattle.fec_reception.proofs.placing.place_data.Goals as goal

pub returns-clause-cut : goal.returns-clause-cut
returns-clause-cut g c = λ sections stands.
    let within = is_within c.args.table.now.rows c.args.mpe.now c.data-answer.result c.requires.fits c.data-answer.ensures.out_of_table in
    placed_or_cut c.is_placed.result c.data-answer.result (is_cut_by_table c.args.table.now.rows sections (data_section (mpe_in c.args.mpe.now)))
    c.is_placed.ensures.placed c.is_placed.ensures.none within
    (c.data-answer.ensures.new_frame sections c.args.mpe.now.mac c.args.mpe.now.real_time.delta stands within)
