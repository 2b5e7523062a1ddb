use Rattle.std.proofs.Common.{◌≡◌, List, ℕ, true, ap, sym, subst}
use Rattle.fec_frame_spec.specs.Sections.{data_section}
use Rattle.fec_frame_spec.specs.Groups.{is_cut_by_table}
use Rattle.fec_frame.specs.Stands.{TableState, IsOf, Stands, data_fields}
use Rattle.fec_frame.specs.declared.place.TableAnswer.TheVariants.{NewFrame}
use Rattle.fec_frame.proofs.table.Table.data.Goals as goal

pub returns-clause-new_frame : goal.returns-clause-new_frame
returns-clause-new_frame g c = λ sections mac delta stands placed.
    let own : IsOf c.self.inside.rows c.self.inside.bytes.items c.self.inside.marks.items c.self.inside.state sections = subst (λ (t : TableState). Stands t sections) (sym c.self.view_is) stands in
    let at_marks : IsOf c.self.inside.rows c.self.inside.bytes.items c.as_mut_slice-2.result.now c.self.inside.state sections =
    subst (λ (l : List ℕ). IsOf c.self.inside.rows c.self.inside.bytes.items l c.self.inside.state sections) (sym c.as_mut_slice-2.ensures.value) own in
    let at_slices : IsOf c.self.inside.rows c.as_mut_slice.result.now c.as_mut_slice-2.result.now c.self.inside.state sections =
    subst (λ (l : List ℕ). IsOf c.self.inside.rows l c.as_mut_slice-2.result.now c.self.inside.state sections) (sym c.as_mut_slice.ensures.value) at_marks in
    subst
    (λ (n : ℕ).
    (c.place_data.result ≡ NewFrame → is_cut_by_table n sections (data_section (data_fields mac delta c.args.address c.args.table_boundary c.args.frame_boundary c.args.datagram.now)) ≡ true)
    × (is_cut_by_table n sections (data_section (data_fields mac delta c.args.address c.args.table_boundary c.args.frame_boundary c.args.datagram.now)) ≡ true → c.place_data.result ≡ NewFrame))
    (ap (λ (t : TableState). t.rows) c.self.view_is) (c.place_data.ensures.new_frame sections mac delta at_slices placed)
